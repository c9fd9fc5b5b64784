-- The target of a request, and its path.
use Rattle.std.specs.Prelude.{ℕ, List, [], ◌∷◌, Bool, false, ◌&&◌, ◌==◌, nat_lt, if◌then◌else◌}
use Rattle.std.specs.List.{list_all}

-- the target begins with `/` and has no byte past `~`
abbrev pub is_target : List ℕ → Bool
is_target [] = false
is_target (b ∷ bs) = (b == 47) && list_all (λ c. nat_lt c 127) (b ∷ bs)

-- what stands before the first `?`
abbrev pub before_query : List ℕ → List ℕ
before_query [] = []
before_query (b ∷ bs) = if b == 63 then [] else b ∷ before_query bs
