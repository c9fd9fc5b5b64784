-- The codes and names of a map are texts, and so is what is written of them.
use Rattle.std.proofs.Common.{◌≡◌, ℕ, ◌<◌, true, List, [], ◌∷◌, ◌++◌, length, codes, Option, None, Some, refl, arith, nat_lt}
use Rattle.std.specs.List.{AllByRecursion}
use Rattle.std.proofs.lemmas.Bool.{and_parts}
use Rattle.std.proofs.lemmas.Bool.Decides.{nat_tests}
use Rattle.dip_map.specs.Boards.{is_prov_if_any}
use Rattle.dip_store_tables.specs.Boards.{code, origin_text, power_name, standoff_text}
use Rattle.dip_map.specs.Charts.{Chart, IsMap, is_code, is_power_name}
use Rattle.dip_desk_state.specs.Writable.{IsStatusOf}
use Rattle.dip_desk_state.specs.Records.{Status, Running, Paused, Closed, Ended, Won, Drawn}
use Rattle.dip_desk_state.specs.Texts.{status_text}
use Rattle.dip_store_tables.specs.Legible.{IsText}
use Rattle.dip_store_tables.proofs.Spelled.{both, each, letters, none, plain}

power_letters : (w : List ℕ) → is_power_name w ≡ true → IsText w
power_letters w named = letters w (and_parts _ _ (and_parts _ _ (and_parts _ _ named).1).1).0

code_letters : (w : List ℕ) → is_code w ≡ true → IsText w
code_letters w coded = letters w (and_parts _ _ coded).1

module _ (m : Chart) (ok : IsMap m) where
  pub power_text : (p : ℕ) → p < length m.realms → IsText (power_name m p)
  power_text p low = power_letters (power_name m p) (and_parts _ _ (ok.realms p low)).0

  pub code_text : (p : ℕ) → p < length m.provinces → IsText (code m p)
  code_text p low = code_letters (code m p) (and_parts _ _ (ok.provinces p low)).0

  pub origin_is_text : (o : Option ℕ) → is_prov_if_any m o ≡ true → IsText (origin_text m o)
  origin_is_text None is = none
  origin_is_text (Some p) is = code_text p (below p is)
    where
      below : (p : ℕ) → nat_lt p (length m.provinces) ≡ true → p < length m.provinces
      below p low = grind (arith, nat_tests)

  pub standoff_is_text : (ps : List ℕ) → AllByRecursion (λ p. p < length m.provinces) ps → IsText (standoff_text m ps)
  standoff_is_text [] all = none
  standoff_is_text (p ∷ []) all = code_text p all.0
  standoff_is_text (p ∷ q ∷ ps) all = both (code_text p all.0) (both (plain (codes " ") refl) (standoff_is_text (q ∷ ps) all.1))

  pub status_is_text : (s : Status) → IsStatusOf m s → IsText (status_text m s)
  unfolding status_text
  status_is_text Running is = plain (codes "running") refl
  status_is_text Paused is = plain (codes "paused") refl
  status_is_text Closed is = plain (codes "closed") refl
  status_is_text Ended is = plain (codes "ended") refl
  status_is_text (Won power) is = both (plain (codes "won by ") refl) (power_text power is)
  status_is_text (Drawn powers) is =
      both (plain (codes "drawn by") refl)
      (each (λ p. p < length m.realms) (λ p. codes " " ++ power_name m p) (λ p low. both (plain (codes " ") refl) (power_text p low)) powers is)
