-- Walks in a graph, and the least distances to a set of vertices.
use Rattle.std.specs.Prelude.{◌≡◌, ℕ, ◌<◌, ◌≤◌, ◌==◌, Bool, true, false, List, [], map, zero, suc, slice_index_or, Vec}
use Rattle.std.specs.declared.alloc.Global.{Global}
use Rattle.std.specs.List.{list_any}

-- the lists of neighbours
abbrev pub rows_of : List (Vec ℕ Global) → List (List ℕ)
rows_of graph = map (λ r. r.items) graph

-- b is a neighbour of a
abbrev pub has_edge : List (List ℕ) → ℕ → ℕ → Bool
has_edge rows a b = list_any (λ x. x == b) (slice_index_or rows a [])

-- a walk of n steps leads from a to a home
abbrev pub Walk : List (List ℕ) → List Bool → ℕ → ℕ → Type 0
Walk rows homes a zero = slice_index_or homes a false ≡ true
Walk rows homes a (suc n) = (b : ℕ) × (has_edge rows a b ≡ true) × Walk rows homes b n

-- the distance of a
abbrev pub at : List ℕ → ℕ → ℕ
at dist a = slice_index_or dist a 1000

-- each distance is that of a walk, and the least one; 1,000 stands where there is no walk
pub record AreLeast (rows : List (List ℕ)) (homes : List Bool) (dist : List ℕ) : Type 0 where
  pub walk : (a : ℕ) → at dist a < 1000 → Walk rows homes a (at dist a)
  pub least : (a m : ℕ) → Walk rows homes a m → at dist a ≤ m
  pub none : (a m : ℕ) → Walk rows homes a m → at dist a < 1000
  pub capped : (a : ℕ) → at dist a ≤ 1000
