-- A winner is one: no two powers own more than half of all centres each.
use Rattle.std.proofs.Common.{◌≡◌, ◌≢◌, ◌⊎◌, inl, inr, ℕ, ◌≤◌, ◌+◌, ◌==◌, Bool, true, cond, suc, List, [], ◌∷◌, get_or, Option, Some, None, is_some, count_by, sym, ap, ◌∙◌, arith}
use Rattle.std.proofs.lemmas.Bool.{cases_Bool, eqb-true, eqb-false, false≢true, ltb-true}
use Rattle.dip_map.specs.Charts.{Chart, Province, no_province, is_centre}
use Rattle.dip_map.specs.Boards.{Position, is_power, owner}
use Rattle.dip_orders_placed.proofs.KeptLaws.{count_cons}
use Rattle.dip_turn_phases.specs.Centres.{has_won}
use Rattle.dip_turn.specs.Laws.{IsTaken, OnlyCentresAreOwned, WinnersAreOne}
use Rattle.dip_turn.proofs.CentreLaws.{played_centres}

-- an owner is one of two powers at most
one_owner : (r s : ℕ) → r ≢ s → (o : Option ℕ) → cond (is_power r o) 1 0 + cond (is_power s o) 1 0 ≤ cond (is_some o) 1 0
one_owner r s apart None = omega arith
one_owner r s apart (Some q) =
    elim (cases_Bool (q == r)) [
      | inl first ↦
          elim (cases_Bool (q == s)) [
            | inl second ↦ absurd (apart (sym (eqb-true q r first) ∙ eqb-true q s second))
            | inr other ↦ rw (first, other) (omega arith)
          ]
      | inr none ↦
          elim (cases_Bool (q == s)) [
            | inl second ↦ rw (none, second) (omega arith)
            | inr other ↦ rw (none, other) (omega arith)
          ]
    ]

-- what two powers own together is owned
shared : (r s : ℕ) → r ≢ s → (os : List (Option ℕ)) → count_by (λ o. is_power r o) os + count_by (λ o. is_power s o) os ≤ count_by (λ o. is_some o) os
shared r s apart [] = omega arith
shared r s apart (o ∷ os) =
    omega (arith, count_cons (λ x. is_power r x) o os, count_cons (λ x. is_power s x) o os, count_cons (λ (x : Option ℕ). is_some x) o os, one_owner r s apart o, shared r s apart os)

-- where only centres are owned, no more are owned than there are
owned_centres : (os : List (Option ℕ)) (ps : List Province) → ((k : ℕ) → is_some (get_or os k None) ≡ true → (get_or ps k no_province).centre ≡ true)
    → count_by (λ o. is_some o) os ≤ count_by (λ p. p.centre) ps
owned_centres [] ps all = omega arith
owned_centres (o ∷ os) [] all =
    elim (cases_Bool (is_some o)) [
      | inl some ↦ absurd (false≢true (all 0 some))
      | inr none ↦ omega (arith, count_cons (λ (x : Option ℕ). is_some x) o os, ap {B = ℕ} (λ (b : Bool). cond b 1 0) none, owned_centres os [] (λ k h. absurd (false≢true (all (suc k) h))))
    ]
owned_centres (o ∷ os) (p ∷ ps) all =
    let rest = owned_centres os ps (λ k h. all (suc k) h) in
    elim (cases_Bool (is_some o)) [
      | inl some ↦ omega (arith, count_cons (λ (x : Option ℕ). is_some x) o os, count_cons (λ (x : Province). x.centre) p ps, ap {B = ℕ} (λ (b : Bool). cond b 1 0) some, ap {B = ℕ} (λ (b : Bool). cond b 1 0) (all 0 some), rest)
      | inr none ↦ omega (arith, count_cons (λ (x : Option ℕ). is_some x) o os, count_cons (λ (x : Province). x.centre) p ps, ap {B = ℕ} (λ (b : Bool). cond b 1 0) none, rest)
    ]

one_winner : (m : Chart) (b : Position) (r s : ℕ) → ((p : ℕ) → is_some (owner b p) ≡ true → is_centre m p ≡ true) → has_won m b r ≡ true → has_won m b s ≡ true → r ≡ s
one_winner m b r s all won also =
    elim (cases_Bool (r == s)) [
      | inl same ↦ eqb-true r s same
      | inr other ↦
          absurd (omega (arith, ltb-true _ _ won, ltb-true _ _ also, shared r s (eqb-false r s other) b.owners, owned_centres b.owners m.provinces all))
    ]

pub only_centres_are_owned : OnlyCentresAreOwned
only_centres_are_owned m b pending new report on played p h = centre ((played_centres m b pending new report played).owners p)
  where
    centre : (owner new p ≡ owner b p) ⊎ IsTaken m new.units p (owner new p) → is_centre m p ≡ true
    centre (inl same) = on.owners_centres p (sym (ap (λ (o : Option ℕ). is_some o) same) ∙ h)
    centre (inr taken) = taken.0

pub winners_are_one : WinnersAreOne
winners_are_one m b pending new report power another on played won also =
    one_winner m new power another (only_centres_are_owned m b pending new report on played) won also
