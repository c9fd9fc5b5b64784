-- What holds of one of the units of a table, by one look where the definition asks all of them.
use Rattle.std.proofs.Common.{◌≡◌, ℕ, List, [], ◌∷◌, refl, ap, sym, ◌∙◌, inl, inr}
use Rattle.std.specs.Prelude.{◌==◌, Bool, true, false, ◌||◌, ◌&&◌, Option, None, Some, is_some}
use Rattle.std.specs.List.{list_any}
use Rattle.std.proofs.lemmas.Bool.{cases_Bool, both_ways, eqb-true}
use Rattle.std.proofs.Math.Path.{fun_ext}
use mathlib.Core.Logic.{◌⊎◌}
use Rattle.dip_orders_placed.specs.declared.placed.PlacedOrder.{PlacedOrder}
use Rattle.dip_decide_table.specs.declared.placed.Table.{Table}
use Rattle.dip_decide_table.specs.Matching.{supports_in}
use Rattle.dip_decide_table.specs.Placed.{backed_of, entry}
use Rattle.dip_decide_table.specs.Situations.{is_at, is_listed}
use Rattle.dip_decide_table.proofs.Backing.{backs}
use Rattle.dip_decide_table.proofs.Plain.{at_is, flip_eq}
use Rattle.dip_decide_table.proofs.Standing.{supported_listed}

-- one of which something holds is there where it is listed and it holds of it
pub any_at : (f : ℕ → Bool) (q : ℕ) (ps : List ℕ) → (f q && is_listed ps q) ≡ list_any (λ x. f x && q == x) ps
any_at f q [] = none (f q)
  where
    none : (a : Bool) → (a && false) ≡ false
    none true = refl
    none false = refl
any_at f q (x ∷ ps) = go (cases_Bool (x == q)) (any_at f q ps)
  where
    twice : (a l : Bool) → (a && true) ≡ ((a && true) || (a && l))
    twice true l = refl
    twice false l = refl

    skip : (a b : Bool) → b ≡ ((a && false) || b)
    skip true b = refl
    skip false b = refl

    other : (x == q) ≡ false → (q == x) ≡ false
    other e = which (cases_Bool (q == x))
      where
        which : ((q == x) ≡ true) ⊎ ((q == x) ≡ false) → (q == x) ≡ false
        which (inr f) = f
        which (inl f) = absurd (both_ways _ e (flip_eq q x f))

    go : ((x == q) ≡ true) ⊎ ((x == q) ≡ false) → (f q && is_listed ps q) ≡ list_any (λ y. f y && q == y) ps → (f q && is_listed (x ∷ ps) q) ≡ list_any (λ y. f y && q == y) (x ∷ ps)
    go (inl e) r = rw (← r, e, flip_eq x q e, ap f (eqb-true x q e)) (twice (f q) (is_listed ps q))
    go (inr e) r = rw (← r, e, other e) (skip (f x) (f q && is_listed ps q))

pub none_at : (f : ℕ → Bool) (ps : List ℕ) → false ≡ list_any (λ x. f x && false) ps
none_at f [] = refl
none_at f (x ∷ ps) = go (f x) (none_at f ps)
  where
    go : (a : Bool) → false ≡ list_any (λ y. f y && false) ps → false ≡ ((a && false) || list_any (λ y. f y && false) ps)
    go true r = r
    go false r = r

some_listed : (o : Option ℕ) (ps : List ℕ) → ((q : ℕ) → o ≡ Some q → is_listed ps q ≡ true) → is_some o ≡ list_any (is_at o) ps
some_listed None ps h = none_at (λ x. true) ps
some_listed (Some q) ps h = sym (h q refl) ∙ any_at (λ x. true) q ps

-- an order is a support that matches of a unit of these, where it supports one
pub backs_some : (t : Table) (row : Option PlacedOrder) → is_some (backed_of (entry t.rows.items) row) ≡ list_any (λ p. supports_in (entry t.rows.items) row p) t.places.items
backs_some t row =
    some_listed (backed_of (entry t.rows.items) row) t.places.items (λ q e. supported_listed t row q (sym (backs (entry t.rows.items) row q) ∙ at_is _ q e))
    ∙ ap (λ (f : ℕ → Bool). list_any f t.places.items) (fun_ext (backs (entry t.rows.items) row))
