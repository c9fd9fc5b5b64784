-- What the laws of explained movements speak of: the units that a text names, the decisions that lines tell, and what a line rests on.
use Rattle.std.specs.Prelude.{◌≡◌, ℕ, ◌<◌, ◌≤◌, ◌⊎◌, ◌||◌, ◌++◌, if◌then◌else◌, Bool, true, false, not, List, [], ◌∷◌, Some, None, codes, flat_map}
use Rattle.std.specs.Fmt.{decimal}
use Rattle.dip_map.specs.Charts.{Chart}
use Rattle.dip_orders_placed.specs.declared.placed.PlacedOrder.{PlacedOrder}
use Rattle.dip_decide_rules.specs.declared.decisions.Decision.{Decision}
use Rattle.dip_decide_rules.specs.declared.decisions.Decision.TheVariants.{Move, Path, Support}
use Rattle.dip_decide_rules.specs.declared.decisions.Step.{Step}
use Rattle.dip_decide_rules.specs.declared.decisions.Step.TheVariants.{Forced, Circle, Knot}
use Rattle.dip_decide_rules.specs.Deciding.{Assignment, IsCompletion, Known}
use Rattle.dip_decide_rules.specs.Laws.{IsChain}
use Rattle.dip_decide_rules.specs.Movement.{Situation, at_first, attack, goes, has_move, has_path, head_to_head, is_at, is_decided, is_listed, opposition, prevent, rule}
use Rattle.dip_decide_rules.specs.Results.{AreExplained}
use Rattle.dip_decide_rules.specs.Steps.{moves_of, paths_of, steps_of}
use Rattle.dip_explain_strengths.specs.Matters.{Matter, here, joined, order_in, others, unit_in}
use Rattle.dip_explain_strengths.specs.Strengths.{is_free, left_out, left_out_against}
use Rattle.dip_explain_strengths.specs.StrengthTexts.{attackers_text, backer_text, lack_against_text, lack_text, opponents_text, opposition_text, own_power_text, prevent_text, preventers_text}
use Rattle.dip_explain_lines.specs.Lines.{coming_text, comparison_text, cutting_text, enterers, fleet_text, rivals, servers, sparing_text, unbeaten}
use Rattle.dip_explain.specs.Movement.{known_after}

-- units named in a line: the first, those that support it, and who is left out, with the reason
abbrev pub named_text : Matter → List ℕ → List ℕ → (ℕ → List ℕ) → List ℕ
named_text c [] left reason = []
named_text c (p ∷ hs) left reason =
    codes " (" ++ unit_in c p ++ others (backer_text c) hs ++ flat_map (λ h. codes "; without " ++ unit_in c h ++ reason h) left ++ codes ")"

-- who is left out of the attack from p to q: where it meets the unit in q, also supporters of that unit's power
abbrev pub missing_attackers : Matter → ℕ → ℕ → List ℕ
missing_attackers c p q =
    if is_free c.situation (here c) p q then left_out c.situation (here c) p else left_out_against c.situation (here c) p q

-- why a supporter is left out of the attack from p to q
abbrev pub attack_lack : Matter → ℕ → ℕ → ℕ → List ℕ
attack_lack c p q h = if is_free c.situation (here c) p q then lack_text c h else lack_against_text c q h

-- who is left out of what is in q: nobody where a unit is on its way and doesn't meet the move from p
abbrev pub missing_opponents : Matter → ℕ → ℕ → List ℕ
missing_opponents c p q =
    if head_to_head c.situation p q || not (has_move c.situation q) then left_out c.situation (here c) q else []

-- why nobody attacks q with p, as the line tells: the move has no route, or goes to a unit of its own power that comes the other way, or
-- that stays there
pub data AttackedByNone (c : Matter) (a : Assignment) (p q : ℕ) : Type 0 where
  stranded :
      has_path c.situation a p ≡ false → attackers_text c p q ≡ codes ", since it has no route" → AttackedByNone c a p q
  met :
      c.situation.same_power p q ≡ true → head_to_head c.situation p q ≡ true
      → attackers_text c p q ≡ codes ", since " ++ unit_in c q ++ codes ", of its own power, comes the other way" → AttackedByNone c a p q
  stopped :
      c.situation.same_power p q ≡ true → a (Move q) ≡ false
      → attackers_text c p q ≡ codes ", since " ++ unit_in c q ++ codes ", of its own power, stays there" → AttackedByNone c a p q

-- why nobody sets itself against the move from p in q: nobody is there, or the unit there leaves
pub data OpposedByNone (c : Matter) (a : Assignment) (p q : ℕ) : Type 0 where
  empty : c.situation.is_occupied q ≡ false → opponents_text c p q ≡ [] → OpposedByNone c a p q
  left : a (Move q) ≡ true → opponents_text c p q ≡ codes " (" ++ unit_in c q ++ codes " leaves)" → OpposedByNone c a p q

-- why nobody prevents other moves to q with w: its move has no route, or lost to the unit there, head to head
pub data PreventedByNone (c : Matter) (a : Assignment) (q w : ℕ) : Type 0 where
  stranded :
      has_path c.situation a w ≡ false → preventers_text c q w ≡ codes " (" ++ unit_in c w ++ codes " has no route)"
      → PreventedByNone c a q w
  lost :
      head_to_head c.situation w q ≡ true → a (Move q) ≡ true
      → preventers_text c q w ≡ codes " (" ++ unit_in c w ++ codes " lost to " ++ unit_in c q ++ codes " head to head)"
      → PreventedByNone c a q w

-- the decisions that the line of a step tells
abbrev pub told : Step → List Decision
told (Forced d) = d ∷ []
told (Circle ps) = moves_of ps.items
told (Knot ps) = paths_of ps.items

-- the decisions that the lines of these steps tell, line by line
abbrev pub told_in : List Step → List Decision
told_in [] = []
told_in (step ∷ steps) = told step ++ told_in steps

-- what is known after the lines of these steps
abbrev pub known_along : Known → List Step → Assignment → Known
known_along k [] a = k
known_along k (step ∷ steps) a = known_along (known_after k step a) steps a

-- the step has a line of the explanation, and k is known from the lines above it
pub record IsLine (s : Situation) (steps : List Step) (a : Assignment) (k : Known) (step : Step) : Type 0 where
  pub above : List Step
  pub below : List Step
  pub placed : steps ≡ above ++ step ∷ below
  pub known : k ≡ known_along (at_first s) above a

-- what the line of a decision is about, where the decision came out so
abbrev pub matter_at : Chart → List PlacedOrder → Situation → Known → Decision → Bool → Matter
matter_at m orders s k d value = record { map = m; orders = orders; situation = s; known = k; of = d; high = not value }

-- a line of an explained movement tells of this matter
pub record IsTold (steps : List Step) (a : Assignment) (c : Matter) : Type 0 where
  pub explained : AreExplained c.situation (steps_of steps) a
  pub line : IsLine c.situation steps a c.known (Forced c.of)
  pub high : c.high ≡ not (a c.of)

-- the line is about the move from p to q
pub record IsOfMove (c : Matter) (p q : ℕ) : Type 0 where
  pub move : c.of ≡ Move p
  pub goes : c.situation.target p ≡ Some q

-- the line is about whether the move from p to q has a route by convoy
pub record IsOfPath (c : Matter) (p q : ℕ) : Type 0 where
  pub path : c.of ≡ Path p
  pub goes : c.situation.target p ≡ Some q

-- nothing above the line tells the decision; its rule gives this value at the completion at which the line is told, and at any other
pub record IsVerdict (c : Matter) (value : Bool) : Type 0 where
  pub is_new : c.known c.of ≡ None
  pub decided : is_decided c.situation c.of ≡ true
  pub told_value : rule c.situation c.of (here c) ≡ value
  pub always : (f : Assignment) → IsCompletion c.known f → rule c.situation c.of f ≡ value

-- the order of a unit, and what is said of it
abbrev pub ordered : Matter → (ℕ → List ℕ) → ℕ → List ℕ
ordered c said x = order_in c.map c.orders x ++ said x

-- a unit, and what is said of it
abbrev pub named : Matter → (ℕ → List ℕ) → ℕ → List ℕ
named c said x = unit_in c x ++ said x

-- a move succeeds as its line shows: its attack exceeds what is in q, and each other move there, and the line names them all
pub record Exceeds (c : Matter) (p q : ℕ) : Type 0 where
  pub destination : opposition c.situation (here c) p q < attack c.situation (here c) p q
  pub each_rival : (w : ℕ) → is_listed (rivals c.situation p q) w ≡ true → prevent c.situation (here c) w q < attack c.situation (here c) p q
  pub shown : comparison_text c p q ≡ codes " against " ++ opposition_text c p q ++ others (prevent_text c q) (rivals c.situation p q)

-- a move fails as its line shows: it has no attack; or no more than what is in q has; or no more than some other moves there
pub data FallsShort (c : Matter) (p q : ℕ) : Type 0 where
  powerless : attack c.situation (here c) p q ≡ 0 → comparison_text c p q ≡ [] → FallsShort c p q
  held :
      1 ≤ attack c.situation (here c) p q → attack c.situation (here c) p q ≤ opposition c.situation (here c) p q
      → comparison_text c p q ≡ codes " against " ++ opposition_text c p q → FallsShort c p q
  prevented :
      1 ≤ attack c.situation (here c) p q → (w : ℕ) → is_listed (unbeaten c.situation (here c) p q) w ≡ true
      → comparison_text c p q ≡ codes " against " ++ joined (prevent_text c q) (unbeaten c.situation (here c) p q) → FallsShort c p q

-- the move of x spares the support of h as the line shows: it is of its own power; or it comes from where the support goes, and fails; or
-- it has no route
pub data Spares (c : Matter) (a : Assignment) (h x : ℕ) : Type 0 where
  own : c.situation.same_power x h ≡ true → sparing_text c h x ≡ codes " is of its own power" → Spares c a h x
  beaten :
      is_at (c.situation.aim h) x ≡ true → a (Move x) ≡ false
      → sparing_text c h x ≡ coming_text c.map x (codes "fails") → Spares c a h x
  stranded : has_path c.situation a x ≡ false → sparing_text c h x ≡ codes " has no route" → Spares c a h x

-- the move of x cuts the support of h as the line shows: it attacks the supporter, or comes from where the support goes, and succeeds
pub data Cuts (c : Matter) (a : Assignment) (h x : ℕ) : Type 0 where
  attacks :
      is_at (c.situation.aim h) x ≡ false → has_path c.situation a x ≡ true → cutting_text c h x ≡ codes " attacks it"
      → Cuts c a h x
  dislodges :
      is_at (c.situation.aim h) x ≡ true → a (Move x) ≡ true
      → cutting_text c h x ≡ coming_text c.map x (codes "succeeds") → Cuts c a h x

-- what the line shows of a fleet that is to carry a move without a route: that moves came to it and dislodged it, or that it completes no
-- chain
pub data IsFleetSaid (c : Matter) (a : Assignment) (x : ℕ) : Type 0 where
  dislodged :
      (n : ℕ) → is_listed (enterers c.situation (here c) x) n ≡ true
      → ((m : ℕ) → is_listed (enterers c.situation (here c) x) m ≡ true → (goes c.situation m x ≡ true) × (a (Move m) ≡ true))
      → fleet_text c x ≡ codes " is dislodged" ++ flat_map (λ m. codes " by " ++ order_in c.map c.orders m) (enterers c.situation (here c) x)
      → IsFleetSaid c a x
  idle : fleet_text c x ≡ codes " completes no chain" → IsFleetSaid c a x

-- some of the fleets that carry the move of p make a chain to q
abbrev pub HasRoute : Situation → Assignment → ℕ → ℕ → Type 0
HasRoute s a p q = (fleets : List ℕ) × IsChain (is_listed (servers s a p)) s.next q p fleets

-- a strength is as the text says: just n, at least n, or at most n
pub data IsSaid (text : List ℕ) (n strength : ℕ) : Type 0 where
  just : text ≡ decimal n → strength ≡ n → IsSaid text n strength
  at_least : text ≡ codes "at least " ++ decimal n → n ≤ strength → IsSaid text n strength
  at_most : text ≡ codes "at most " ++ decimal n → strength ≤ n → IsSaid text n strength

-- what is said of a supporter that counts: it gave its support, or it gives it if it isn't cut
pub data IsCounted (c : Matter) (a : Assignment) (h : ℕ) : Type 0 where
  given : backer_text c h ≡ unit_in c h → a (Support h) ≡ true → IsCounted c a h
  uncertain : backer_text c h ≡ unit_in c h ++ codes " if uncut" → c.known (Support h) ≡ None → IsCounted c a h

-- what is said of one that doesn't: its support was cut, or may be
pub data IsLeftOut (c : Matter) (a : Assignment) (h : ℕ) (reason : List ℕ) : Type 0 where
  cut : reason ≡ codes ", cut" → a (Support h) ≡ false → IsLeftOut c a h reason
  uncertain : reason ≡ codes ", which may be cut" → c.known (Support h) ≡ None → IsLeftOut c a h reason

-- against the unit in q: that, or it is of that unit's power
abbrev pub IsLeftOutAgainst : Matter → Assignment → ℕ → ℕ → List ℕ → Type 0
IsLeftOutAgainst c a q h reason =
    IsLeftOut c a h reason ⊎ ((reason ≡ own_power_text c.map q) × (c.situation.same_power h q ≡ true))
