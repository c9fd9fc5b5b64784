-- Steps without a knot break no path.
use Rattle.std.proofs.Common.{◌≡◌, ℕ, List, [], ◌∷◌, filter, refl}
use Rattle.std.specs.Prelude.{true, false}
use Rattle.std.specs.List.{list_any}
use Rattle.std.proofs.lemmas.Bool.{both_ways}
use Rattle.dip_decide_rules.specs.declared.decisions.Step as Written
use Rattle.dip_decide_rules.specs.declared.decisions.Step.TheVariants.{Forced, Circle, Knot}
use Rattle.dip_decide_rules.specs.Results.{breaks, is_knot}

unbroken : (steps : List Written.Step) (p : ℕ) → list_any is_knot steps ≡ false → list_any (λ s. breaks s p) steps ≡ false
unbroken [] p h = refl
unbroken (Forced d ∷ steps) p h = unbroken steps p h
unbroken (Circle ps ∷ steps) p h = unbroken steps p h
unbroken (Knot ps ∷ steps) p h = absurd (both_ways true h refl)

pub none_broken : (steps : List Written.Step) (ps : List ℕ) → list_any is_knot steps ≡ false → filter (λ p. list_any (λ s. breaks s p) steps) ps ≡ []
none_broken steps [] h = refl
none_broken steps (p ∷ ps) h = rw (unbroken steps p h) (none_broken steps ps h)
