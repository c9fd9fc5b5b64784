-- The rules of movement: strengths, the decision equations, and whom each equation mentions. A unit is named by its province.
use Rattle.std.specs.Prelude.{◌≡◌, ℕ, ◌+◌, ◌==◌, nat_lt, Bool, true, false, not, ◌&&◌, ◌||◌, List, length, Option, None, Some, if◌then◌else◌, suc, zero}
use Rattle.std.specs.List.{list_all, list_any, count_by}
use Rattle.dip_map.specs.Charts.{are_provs_single}
pub use Rattle.dip_decide_table.specs.Situations.{Situation, is_at, goes, has_move, head_to_head, is_support, is_listed}
use Rattle.dip_decide_rules.specs.declared.decisions.Decision.{Decision}
use Rattle.dip_decide_rules.specs.declared.decisions.Decision.TheVariants.{Move, Path, Support}
use Rattle.dip_decide_rules.specs.Deciding.{Assignment, Equation, Known, Mentions}

-- the move of p goes by land, or its path is given
abbrev pub has_path : Situation → Assignment → ℕ → Bool
has_path s a p = not (s.convoyed p) || a (Path p)

-- how many given supports the unit in p has; each counts 1
abbrev pub support : Situation → Assignment → ℕ → ℕ
support s a p = count_by (λ h. s.supports h p && a (Support h)) s.places

-- how many of them are of other powers than the unit in q
abbrev pub support_against : Situation → Assignment → ℕ → ℕ → ℕ
support_against s a p q = count_by (λ h. (s.supports h p && a (Support h)) && not (s.same_power h q)) s.places

-- attack: the strength of the move from p to q
abbrev pub attack : Situation → Assignment → ℕ → ℕ → ℕ
attack s a p q =
    if not (has_path s a p) then 0
    else if not (s.is_occupied q) || (a (Move q) && not (head_to_head s p q)) then 1 + support s a p
    else if s.same_power p q then 0
    else 1 + support_against s a p q

-- hold: the strength of what is in q against moves into it
abbrev pub hold : Situation → Assignment → ℕ → ℕ
hold s a q =
    if not (s.is_occupied q) || a (Move q) then 0
    else if has_move s q then 1
    else 1 + support s a q

-- defend: the strength of the move of p against a move head to head with it
abbrev pub defend : Situation → Assignment → ℕ → ℕ
defend s a p = 1 + support s a p

-- prevent: the strength of the move from p to q against other moves there; the loser of a head-to-head fight prevents nobody
abbrev pub prevent : Situation → Assignment → ℕ → ℕ → ℕ
prevent s a p q = if not (has_path s a p) || (head_to_head s p q && a (Move q)) then 0 else 1 + support s a p

-- what the destination sets against the move from p to q
abbrev pub opposition : Situation → Assignment → ℕ → ℕ → ℕ
opposition s a p q = if head_to_head s p q then defend s a q else hold s a q

-- the move from p to q has more than the unit in w has to prevent it, if that one goes there too
abbrev pub beats : Situation → Assignment → ℕ → ℕ → ℕ → Bool
beats s a p q w = (w == p || not (goes s w q)) || nat_lt (prevent s a w q) (attack s a p q)

-- the move from p to q succeeds: its attack exceeds what each other move there has to prevent it, and what the destination sets against it
abbrev pub succeeds : Situation → Assignment → ℕ → ℕ → Bool
succeeds s a p q = list_all (beats s a p q) s.places && nat_lt (opposition s a p q) (attack s a p q)

-- the equation of the move of p, which goes there
abbrev pub move_rule : Situation → Assignment → ℕ → Option ℕ → Bool
move_rule s a p None = false
move_rule s a p (Some q) = succeeds s a p q

-- the move of x cuts the support of h: it is of another power and has a path; from where h supports a move to, only if it succeeds
abbrev pub cuts : Situation → Assignment → ℕ → ℕ → Bool
cuts s a h x = (goes s x h && not (s.same_power x h)) && (if is_at (s.aim h) x then a (Move x) else has_path s a x)

-- a move into x succeeds
abbrev pub is_entered : Situation → Assignment → ℕ → Bool
is_entered s a x = list_any (λ m. goes s m x && a (Move m)) s.places

-- the fleet in x convoys the move of p
abbrev pub serves : Situation → Assignment → ℕ → ℕ → Bool
serves s a p x = s.convoys x p && not (is_entered s a x)

-- a chain of at most n of the places that pass leads from p to q; `chains_are_found` says that a longer one needs no more than all places
abbrev pub joins : (ℕ → Bool) → (ℕ → ℕ → Bool) → List ℕ → ℕ → ℕ → ℕ → Bool
joins test next places q zero p = false
joins test next places q (suc n) p = list_any (λ x. (test x && next p x) && (next x q || joins test next places q n x)) places

-- the equation of the path of p, which goes there
abbrev pub path_rule : Situation → Assignment → ℕ → Option ℕ → Bool
path_rule s a p None = false
path_rule s a p (Some q) = joins (serves s a p) s.next s.places q (suc (length s.places)) p

-- the decision equations
abbrev pub rule : Situation → Equation
rule s (Move p) a = move_rule s a p (s.target p)
rule s (Path p) a = s.convoyed p && path_rule s a p (s.target p)
rule s (Support h) a = is_support s h && list_all (λ x. not (cuts s a h x)) s.places

-- what is decided
abbrev pub is_decided : Situation → Decision → Bool
is_decided s (Move p) = has_move s p
is_decided s (Path p) = s.convoyed p
is_decided s (Support h) = is_support s h

-- nothing is known of it, and of all else that it is false
abbrev pub at_first : Situation → Known
at_first s d = if is_decided s d then None else Some false

-- the values are those of the decision equations, but false for each broken path
abbrev pub Satisfies : Situation → (Decision → Bool) → Assignment → Type 0
Satisfies s broken a = (d : Decision) → a d ≡ (not (broken d) && rule s d a)

-- what the rule of the move from p names
abbrev pub move_mentions : Situation → ℕ → Option ℕ → Decision → Bool
move_mentions s p None e = false
move_mentions s p (Some q) (Move r) = r == q
move_mentions s p (Some q) (Path w) = goes s w q && s.convoyed w
move_mentions s p (Some q) (Support h) = list_any (λ w. s.supports h w && goes s w q) s.places || (s.supports h q && (not (has_move s q) || head_to_head s p q))

-- the rule of the first decision names the second
abbrev pub mentions : Situation → Mentions
mentions s (Move p) e = move_mentions s p (s.target p) e
mentions s (Support h) (Path x) = (goes s x h && not (s.same_power x h)) && (s.convoyed x && not (is_at (s.aim h) x))
mentions s (Support h) (Move x) = (goes s x h && not (s.same_power x h)) && is_at (s.aim h) x
mentions s (Path p) (Move m) = list_any (λ x. s.convoys x p && goes s m x) s.places
mentions s _ _ = false

-- what holds of the situation of a board with orders
pub record IsSituation (s : Situation) : Type 0 where
  -- one unit stands in a province
  pub distinct : are_provs_single s.places ≡ true
  -- a unit moves elsewhere
  pub elsewhere : (p : ℕ) → goes s p p ≡ false
  -- who has an order stands somewhere
  pub listed : (p q : ℕ) → goes s p q ≡ true → is_listed s.places p ≡ true
  pub helper_listed : (h p : ℕ) → s.supports h p ≡ true → is_listed s.places h ≡ true
  pub carrier_listed : (x p : ℕ) → s.convoys x p ≡ true → is_listed s.places x ≡ true
  -- only a move goes by convoy
  pub sailor_moves : (p : ℕ) → s.convoyed p ≡ true → has_move s p ≡ true
  -- a unit that supports or convoys has no move
  pub helper_stays : (h p : ℕ) → s.supports h p ≡ true → s.target h ≡ None
  pub carrier_stays : (x p : ℕ) → s.convoys x p ≡ true → s.target x ≡ None
  -- a fleet convoys one unit, and supports none
  pub one_carried : (x p q : ℕ) → s.convoys x p ≡ true → s.convoys x q ≡ true → p ≡ q
  pub carrier_helps_none : (x p q : ℕ) → s.convoys x p ≡ true → s.supports x q ≡ true → ⊥
  -- a support is for one unit, and its aim is where that one goes
  pub one_helped : (h p q : ℕ) → s.supports h p ≡ true → s.supports h q ≡ true → p ≡ q
  pub aims : (h p : ℕ) → s.supports h p ≡ true → s.aim h ≡ s.target p

-- the moves of p and w into one province don't both succeed, of different units
abbrev pub OneEnters : Situation → Assignment → Type 0
OneEnters s a = (p w q : ℕ) → goes s p q ≡ true → goes s w q ≡ true → a (Move p) ≡ true → a (Move w) ≡ true → p ≡ w

-- a move that succeeds goes to no unit of its power that stays
abbrev pub NoneDislodgesItsOwn : Situation → Assignment → Type 0
NoneDislodgesItsOwn s a = (p q : ℕ) → goes s p q ≡ true → a (Move p) ≡ true → s.is_occupied q ≡ true → a (Move q) ≡ false → s.same_power p q ≡ false

-- of two that are head to head one fails
abbrev pub NoneSwaps : Situation → Assignment → Type 0
NoneSwaps s a = (p q : ℕ) → head_to_head s p q ≡ true → a (Move p) ≡ true → a (Move q) ≡ false
