-- Lists.
use Rattle.std.proofs.Common.{◌≡◌, ℕ, map, get_or, ◌+◌, ◌<◌, List, [], ◌∷◌, ◌++◌, drop, length, ap, ◌∙◌, append_assoc}
use Rattle.std.proofs.lemmas.List.{drop_more}

-- an entry that gives one more
pub map_step : {A B : Type 0} (f : A → B) (xs : List A) (front all : List B) (i : ℕ) (x : A) (b : B) → i < length xs → x ≡ get_or xs i x → b ≡ f x
    → front ++ map f (drop i xs) ≡ all → (front ++ b ∷ []) ++ map f (drop (i + 1) xs) ≡ all
map_step f xs front all i x b h at is before =
    let cut = drop_more xs i x h in
    append_assoc front (b ∷ []) (map f (drop (i + 1) xs)) ∙ ap (λ y. front ++ (y ∷ map f (drop (i + 1) xs))) (is ∙ ap f at) ∙ rw cut at before
