-- Whom a decision mentions, by one look where the definition asks all units.
use Rattle.std.proofs.Common.{◌≡◌, ℕ, refl, sym, ◌∙◌}
use Rattle.std.specs.Prelude.{Bool, true, false, ◌&&◌, Option, None, Some}
use Rattle.std.specs.List.{list_any}
use Rattle.std.proofs.lemmas.Bool.{both_ways, and_parts, and_from}
use Rattle.dip_decide_table.specs.declared.placed.Table.{Table}
use Rattle.dip_decide_rules.specs.Given.{situation_of}
use Rattle.dip_decide_rules.specs.Movement.{IsSituation, goes}
use Rattle.dip_decide_table.specs.Placed.{backed_of, entry}
use Rattle.dip_decide_table.proofs.Backing.{backs}
use Rattle.dip_decide_table.proofs.Plain.{alike, at_is, is_at_is}
use Rattle.dip_decide_rules.proofs.Progress.{Found, find}
use Rattle.dip_decide_rules.proofs.Rises.{any_listed}

-- the one that a unit supports goes to q
abbrev pub backs_into : Table → ℕ → Option ℕ → Bool
backs_into t q None = false
backs_into t q (Some w) = goes (situation_of t) w q

-- who supports one that goes to a province supports the one that the column tells
pub one_into : (t : Table) → IsSituation (situation_of t) → (h q : ℕ) (o : Option ℕ) → backed_of (entry t.rows.items) (entry t.rows.items h) ≡ o → backs_into t q o ≡ list_any (λ w. (situation_of t).supports h w && goes (situation_of t) w q) t.places.items
one_into t i h q o e = alike _ _ (there o e) (λ a. back (find (λ w. (situation_of t).supports h w && goes (situation_of t) w q) t.places.items a))
  where
    there : (o : Option ℕ) → backed_of (entry t.rows.items) (entry t.rows.items h) ≡ o → backs_into t q o ≡ true → list_any (λ w. (situation_of t).supports h w && goes (situation_of t) w q) t.places.items ≡ true
    there None _ a = absurd (both_ways false refl a)
    there (Some w) e a = any_listed (λ x. (situation_of t).supports h x && goes (situation_of t) x q) t.places.items w (i.listed w q a) (and_from _ _ (sym (backs (entry t.rows.items) (entry t.rows.items h) w) ∙ at_is _ w e) a)

    back : Found (λ w. (situation_of t).supports h w && goes (situation_of t) w q) → backs_into t q o ≡ true
    back f = let n : o ≡ Some f.one = sym e ∙ is_at_is _ f.one (backs (entry t.rows.items) (entry t.rows.items h) f.one ∙ (and_parts _ _ f.passes).0) in rw n (and_parts _ _ f.passes).1
