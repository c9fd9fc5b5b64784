-- A search for a chain that visits each fleet once.
use Rattle.std.specs.Prelude.{◌≡◌, ℕ, ◌≤◌, Bool, true, false, List, ◌++◌, take, length}
use Rattle.dip_map.specs.Charts.{are_provs_single}
use Rattle.dip_decide_rules.specs.Movement.{is_listed}
use Rattle.dip_decide_rules.specs.Laws.{AreJoined, IsChain}

-- a chain that passes was found, or there is none
abbrev pub IsSought : (ℕ → Bool) → (ℕ → ℕ → Bool) → ℕ → ℕ → Bool → Type 0
IsSought test next q p true = (xs : List ℕ) × IsChain test next q p xs
IsSought test next q p false = (xs : List ℕ) → IsChain test next q p xs → ⊥

-- those of these that are next to p came after the ones that were reached, each once
pub record IsSpread (next : ℕ → ℕ → Bool) (fleets : List ℕ) (p : ℕ) (old new : List ℕ) : Type 0 where
  pub more : List ℕ
  pub behind : new ≡ old ++ more
  pub all : (x : ℕ) → is_listed fleets x ≡ true → next p x ≡ true → is_listed new x ≡ true
  pub only : (x : ℕ) → is_listed more x ≡ true → (is_listed fleets x ≡ true) × (next p x ≡ true)
  pub single : are_provs_single old ≡ true → are_provs_single new ≡ true

-- the first so many of those that were reached were visited, and p
pub record IsSeeking (next : ℕ → ℕ → Bool) (fleets : List ℕ) (q p : ℕ) (reached : List ℕ) (visited : ℕ) : Type 0 where
  pub single : are_provs_single reached ≡ true
  pub inside : (x : ℕ) → is_listed reached x ≡ true → is_listed fleets x ≡ true
  pub joined : (x : ℕ) → is_listed reached x ≡ true → (xs : List ℕ) × AreJoined (is_listed fleets) next x p xs
  pub start : (x : ℕ) → is_listed fleets x ≡ true → next p x ≡ true → is_listed reached x ≡ true
  pub closed : (y x : ℕ) → is_listed (take visited reached) y ≡ true → is_listed fleets x ≡ true → next y x ≡ true → is_listed reached x ≡ true
  pub short : (y : ℕ) → is_listed (take visited reached) y ≡ true → next y q ≡ false
  pub within : visited ≤ length reached
