-- What holds of each record, told of what the records say.
use Rattle.std.proofs.Common.{◌≡◌, ◌↔◌, List, map, subst}
use Rattle.std.specs.List.{AllByRecursion}
use Rattle.sqlite_keyed.proofs.ListLemmas.{all_map, all_unmap}

-- a test of each record tells that it holds of what they say
pub each_told : {A B : Type 0} (T : Type 0) (P : B → Type 0) (f : A → B) (xs ys : List A) → xs ≡ ys → (T ↔ AllByRecursion (λ x. P (f x)) xs) → T ↔ AllByRecursion P (map f ys)
each_told T P f xs ys same told =
    subst (λ zs. T ↔ AllByRecursion P (map f zs)) same (λ t. all_map P f xs (told.0 t), λ all. told.1 (all_unmap P f xs all))
