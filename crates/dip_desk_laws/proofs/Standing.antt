-- Orders that stand already, and others.
use Rattle.std.proofs.Common.{◌≡◌, ℕ, Bool, true, false, cond, List, [], ◌∷◌, refl, ap, ◌∙◌, bytes_eq}
use Rattle.std.specs.Prelude.{◌==◌}
use Rattle.std.proofs.lemmas.Bool.{and_parts, eqb-true, false≢true}
use Rattle.std.proofs.lemmas.Slice.Eq.{bytes_eq-Decides}
use Rattle.dip_desk_machine.specs.Machine.{orders_effect}
use Rattle.dip_desk_machine.specs.Ordering.{same_standing, same_standings}
use Rattle.dip_desk_state.specs.Records.{Own, Standing}
use Rattle.dip_desk_state.specs.State.{Nothing, Pending, own_effect}

same_one : (one other : Standing) → same_standing one other ≡ true → one ≡ other
same_one one other is =
    let both = and_parts (one.province == other.province) (bytes_eq one.line other.line) is in
    ap (λ (p : ℕ). record { province = p; line = one.line }) (eqb-true one.province other.province both.0)
    ∙ ap (λ (l : List ℕ). record { province = other.province; line = l }) ((bytes_eq-Decides one.line other.line).0 both.1)

-- two lists that are the same, one for one, are one
same_all : (these those : List Standing) → same_standings these those ≡ true → these ≡ those
same_all [] [] is = refl
same_all [] (other ∷ others) is = absurd (false≢true is)
same_all (one ∷ more) [] is = absurd (false≢true is)
same_all (one ∷ more) (other ∷ others) is =
    let both = and_parts (same_standing one other) (same_standings more others) is in
    ap (λ (s : Standing). s ∷ more) (same_one one other both.0) ∙ ap (λ (ss : List Standing). other ∷ ss) (same_all more others both.1)

pub orders_stand : (o : Own) (orders : List Standing) → own_effect (orders_effect o.pending orders) o ≡ record o { pending = orders }
orders_stand o orders = go (same_standings o.pending orders) refl
  where
    go : (same : Bool) → same_standings o.pending orders ≡ same → own_effect (cond same Nothing (Pending orders)) o ≡ record o { pending = orders }
    go true is = ap (λ (ss : List Standing). record o { pending = ss }) (same_all o.pending orders is)
    go false is = refl
