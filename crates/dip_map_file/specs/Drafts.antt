-- What a map's file writes: provinces and powers, by their codes and names.
use Rattle.std.specs.Prelude.{ℕ, Bool, List}
use Rattle.dip_names.specs.declared.names.Terrain.{Terrain}
use Rattle.dip_names.specs.declared.names.Kind.{Kind}

-- a place as it is written: a code, and the name of a coast, which is empty where none is written
pub record Site : Type 0 where
  pub code : List ℕ
  pub coast : List ℕ

-- a coast, and where a fleet goes from it; the one of a province that has no coasts of its own has no name
pub record ShoreDraft : Type 0 where
  pub name : List ℕ
  pub next : List Site

-- a province as a file writes it: its neighbours are still codes
pub record ProvinceDraft : Type 0 where
  pub code : List ℕ
  pub name : List ℕ
  pub terrain : Terrain
  pub centre : Bool
  pub army : List (List ℕ)
  pub shores : List ShoreDraft

-- a unit of the opening
pub record UnitDraft : Type 0 where
  pub kind : Kind
  pub site : Site

-- a power as a file writes it: its home centres and its units are still codes
pub record PowerDraft : Type 0 where
  pub name : List ℕ
  pub home : List (List ℕ)
  pub units : List UnitDraft

-- all that a file writes
pub record Draft : Type 0 where
  pub name : List ℕ
  pub powers : List PowerDraft
  pub provinces : List ProvinceDraft
