-- A column that is opened, unit by unit, where something is decided.
use Rattle.std.proofs.Common.{◌≡◌, ℕ, ◌+◌, ◌<◌, ◌≤◌, List, [], ◌∷◌, length, take, get_or, replicate, zero, suc, arith, refl, ap, sym, ◌∙◌, inl, inr}
use Rattle.std.specs.Prelude.{◌==◌, ◌&&◌, ◌||◌, Bool, true, false, Option, None, Some, is_some}
use Rattle.std.specs.List.{list_any, slice_index_or, slice_set}
use Rattle.std.proofs.lemmas.List.{get_or-set_other, length-replicate, length-set, take_all}
use Rattle.std.proofs.lemmas.List.Folds.{list_any_more}
use Rattle.std.proofs.lemmas.Grind.{get_or-set_at}
use Rattle.std.proofs.lemmas.Bool.{both_ways, cases_Bool, cases_lt, eq-eqb, eqb-true}
use Rattle.std.proofs.Math.Path.{fun_ext}
use mathlib.Core.Logic.{◌⊎◌}
use Rattle.dip_orders_placed.specs.declared.placed.PlacedOrder.{PlacedOrder}
use Rattle.dip_decide_rules.specs.declared.decisions.Decision.{Decision}
use Rattle.dip_decide_rules.specs.declared.decisions.Decision.TheVariants.{Move, Path, Support}
use Rattle.dip_decide_rules.specs.declared.placed.Table.{Table}
use Rattle.dip_decide_rules.specs.declared.values.Values.{Values}
use Rattle.dip_decide_rules.specs.Given.{at_start, known_of, situation_of, IsOpened}
use Rattle.dip_decide_rules.specs.Matching.{is_convoyed, supports_in, target_of}
use Rattle.dip_decide_rules.specs.Movement.{at_first, is_decided, is_listed}
use Rattle.dip_decide_rules.specs.Placed.{entry}

all_false : (k q : ℕ) → slice_index_or (replicate k (Some false)) q (Some false) ≡ Some false
all_false zero q = refl
all_false (suc k) zero = refl
all_false (suc k) (suc q) = all_false k q

behind : (column : List (Option Bool)) (q : ℕ) → length column ≤ q → slice_index_or column q (Some false) ≡ Some false
behind [] q h = refl
behind (x ∷ column) zero h = absurd (omega (arith, h))
behind (x ∷ column) (suc q) h = behind column q (omega (arith, h))

none : (b : Bool) → Some false ≡ at_start (b && false)
none true = refl
none false = refl

module _ (size : ℕ) (decided : ℕ → Bool) where
  pub none_opened : (column : List (Option Bool)) → column ≡ replicate size (Some false) → IsOpened size decided [] column
  none_opened column e = record {
    sized = ap length e ∙ length-replicate size (Some false);
    at = λ q. ap (λ (c : List (Option Bool)). slice_index_or c q (Some false)) e ∙ all_false size q ∙ none (decided q);
  }

  -- one more unit
  module _ (quiet : (p : ℕ) → size ≤ p → decided p ≡ false) (ps : List ℕ) (i p : ℕ) (column : List (Option Bool)) (h : i < length ps) (is : p ≡ get_or ps i p) (o : IsOpened size decided (take i ps) column) where
    listed : (q : ℕ) → is_listed (take (i + 1) ps) q ≡ (is_listed (take i ps) q || (p == q))
    listed q = list_any_more (λ x. x == q) ps i p h ∙ ap (λ (x : ℕ). is_listed (take i ps) q || (x == q)) (sym is)

    long : length (slice_set column p (at_start (decided p))) ≡ size
    long = length-set column p (at_start (decided p)) ∙ o.sized

    own : (p < size) ⊎ (size ≤ p) → slice_index_or (slice_set column p (at_start (decided p))) p (Some false) ≡ at_start (decided p)
    own (inl l) = let s = o.sized in get_or-set_at column p p (at_start (decided p)) (Some false) refl (omega (arith, l, s))
    own (inr l) = let s = long in behind (slice_set column p (at_start (decided p))) p (omega (arith, l, s)) ∙ ap at_start (sym (quiet p l))

    now : (q : ℕ) → ((p == q) ≡ true) ⊎ ((p == q) ≡ false) → slice_index_or (slice_set column p (at_start (decided p))) q (Some false) ≡ at_start (decided q && is_listed (take (i + 1) ps) q)
    now q (inl e) =
        rw (← eqb-true p q e) (own (cases_lt p size) ∙ rw (listed p, eq-eqb p p refl) (ap at_start (whole (decided p) (is_listed (take i ps) p))))
      where
        whole : (a b : Bool) → a ≡ (a && (b || true))
        whole true true = refl
        whole true false = refl
        whole false b = refl
    now q (inr e) =
        get_or-set_other column p q (at_start (decided p)) (Some false) (λ s. both_ways _ e (eq-eqb p q (sym s))) ∙ o.at q ∙ rw (listed q, e) (ap (λ (b : Bool). at_start (decided q && b)) (right (is_listed (take i ps) q)))
      where
        right : (b : Bool) → b ≡ (b || false)
        right true = refl
        right false = refl

    pub opened_more : IsOpened size decided (take (i + 1) ps) (slice_set column p (at_start (decided p)))
    opened_more = record {
      sized = long;
      at = λ q. now q (cases_Bool (p == q));
    }

  pub opened_all : (ps : List ℕ) (i : ℕ) (column : List (Option Bool)) → length ps ≤ i → IsOpened size decided (take i ps) column → ((q : ℕ) → decided q ≡ true → is_listed ps q ≡ true)
      → (q : ℕ) → slice_index_or column q (Some false) ≡ at_start (decided q)
  opened_all ps i column h o listed q = o.at q ∙ ap (λ (xs : List ℕ). at_start (decided q && is_listed xs q)) (take_all i ps h) ∙ ap at_start (both (decided q) refl)
    where
      both : (b : Bool) → decided q ≡ b → (b && is_listed ps q) ≡ b
      both false e = refl
      both true e = listed q e

row_behind : (rows : List (Option PlacedOrder)) (p : ℕ) → length rows ≤ p → entry rows p ≡ None
row_behind [] p h = refl
row_behind (r ∷ rows) zero h = absurd (omega (arith, h))
row_behind (r ∷ rows) (suc p) h = row_behind rows p (omega (arith, h))

-- what is decided by the order of a unit is decided of units alone
module _ (t : Table) (f : Option PlacedOrder → Bool) (nobody : f None ≡ false) where
  quiet_row : (p : ℕ) → length t.rows.items ≤ p → f (entry t.rows.items p) ≡ false
  quiet_row p h = ap f (row_behind t.rows.items p h) ∙ nobody

  listed_row : (p : ℕ) → f (entry t.rows.items p) ≡ true → is_listed t.places.items p ≡ true
  listed_row p h = go (entry t.rows.items p) refl
    where
      go : (row : Option PlacedOrder) → entry t.rows.items p ≡ row → is_listed t.places.items p ≡ true
      go None e = absurd (both_ways _ nobody (ap f (sym e) ∙ h))
      go (Some o) e = t.standing p (ap is_some e)

  pub row_more : (i p : ℕ) (column : List (Option Bool)) → i < length t.places.items → p ≡ get_or t.places.items i p
      → IsOpened (length t.rows.items) (λ q. f (entry t.rows.items q)) (take i t.places.items) column
      → IsOpened (length t.rows.items) (λ q. f (entry t.rows.items q)) (take (i + 1) t.places.items) (slice_set column p (at_start (f (entry t.rows.items p))))
  row_more i p column h is o = opened_more (length t.rows.items) (λ q. f (entry t.rows.items q)) quiet_row t.places.items i p column h is o

  pub row_all : (i : ℕ) (column : List (Option Bool)) → length t.places.items ≤ i → IsOpened (length t.rows.items) (λ q. f (entry t.rows.items q)) (take i t.places.items) column
      → (q : ℕ) → slice_index_or column q (Some false) ≡ at_start (f (entry t.rows.items q))
  row_all i column h o = opened_all (length t.rows.items) (λ q. f (entry t.rows.items q)) t.places.items i column h o listed_row

abbrev pub has_target : Option PlacedOrder → Bool
has_target row = is_some (target_of row)

abbrev pub sails : Table → Option PlacedOrder → Bool
sails t row = is_convoyed t.map.now row

abbrev pub helps : Table → Option PlacedOrder → Bool
helps t row = list_any (λ p. supports_in (entry t.rows.items) row p) t.places.items

none_any : (ps : List ℕ) → list_any (λ p. false) ps ≡ false
none_any [] = refl
none_any (p ∷ ps) = none_any ps

pub no_help : (t : Table) → helps t None ≡ false
no_help t = none_any t.places.items

-- the three columns say what is known at first
pub opens : (t : Table) (v : Values) (i : ℕ) → length t.places.items ≤ i
    → IsOpened (length t.rows.items) (λ q. is_decided (situation_of t) (Move q)) (take i t.places.items) v.moves.items
    → IsOpened (length t.rows.items) (λ q. is_decided (situation_of t) (Path q)) (take i t.places.items) v.paths.items
    → IsOpened (length t.rows.items) (λ q. is_decided (situation_of t) (Support q)) (take i t.places.items) v.supports.items
    → known_of v ≡ at_first (situation_of t)
opens t v i h m p s = fun_ext go
  where
    go : (d : Decision) → known_of v d ≡ at_first (situation_of t) d
    go (Move q) = row_all t has_target refl i v.moves.items h m q
    go (Path q) = row_all t (sails t) refl i v.paths.items h p q
    go (Support q) = row_all t (helps t) (no_help t) i v.supports.items h s q
