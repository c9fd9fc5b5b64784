-- A search level by level.
use Rattle.std.specs.Prelude.{ℕ, ◌+◌, ◌==◌, ◌&&◌, not, Bool, true, List, [], ◌∷◌, if◌then◌else◌}
use Rattle.std.specs.List.{list_any}
use Rattle.dip_map_chart.specs.Walk.{at}

-- a vertex of this distance and these neighbours is reached next
abbrev pub is_reached : List ℕ → ℕ → ℕ → List ℕ → Bool
is_reached dist level d row = (d == 1000) && list_any (λ c. at dist c == level) row

-- the distances after one more level, from vertex i on
abbrev pub sweep_from : List ℕ → ℕ → ℕ → List (List ℕ) → List ℕ
sweep_from dist level i [] = []
sweep_from dist level i (r ∷ rs) = (if is_reached dist level (at dist i) r then level + 1 else at dist i) ∷ sweep_from dist level (i + 1) rs

-- no vertex from i on is reached next
abbrev pub is_quiet : List ℕ → ℕ → ℕ → List (List ℕ) → Bool
is_quiet dist level i [] = true
is_quiet dist level i (r ∷ rs) = not (is_reached dist level (at dist i) r) && is_quiet dist level (i + 1) rs

-- the distances of the homes alone
abbrev pub levels_at_start : List Bool → List ℕ
levels_at_start [] = []
levels_at_start (h ∷ hs) = (if h then 0 else 1000) ∷ levels_at_start hs
