-- What the records say, as plain data.
use Rattle.std.specs.Prelude.{ℕ, Bool, List, Option}
use Rattle.dip_map.specs.Boards.{Position}
use Rattle.dip_desk_state.specs.declared.records.Outcome.{Outcome}

-- how a game stands: it goes on, it waits, the master closed it, its years are over, a power won it, or powers share it
pub data Status : Type 0 where
  Running : Status
  Paused : Status
  Closed : Status
  Ended : Status
  Won : (power : ℕ) → Status
  Drawn : (powers : List ℕ) → Status

-- what everybody may know of a game
pub record Public : Type 0 where
  pub game : List ℕ
  pub board : Position
  pub status : Status
  pub due : ℕ
  pub period : ℕ
  pub grey : Bool
  pub papers : ℕ

-- the last letter of an author that was recorded, and its reply
pub record Kept : Type 0 where
  pub number : ℕ
  pub sum : List ℕ
  pub reply : List ℕ

-- a standing order: the province of its unit, and its canonical line
pub record Standing : Type 0 where
  pub province : ℕ
  pub line : List ℕ

-- what a seat votes for: no draw, one between all who survive at the tick, or one between exactly these powers, which ascend
pub data Vote : Type 0 where
  No : Vote
  Yes : Vote
  For : (powers : List ℕ) → Vote

-- press as its reader is shown it: white with its writer and its addressees as they were named; grey with whether all have it, and
-- with nobody's name
pub data Item : Type 0 where
  White : (writer : List ℕ) → (addressees : List (List ℕ)) → (text : List (List ℕ)) → Item
  Grey : (to_all : Bool) → (text : List (List ℕ)) → Item

-- what a seat may know beside the public part, but for the items of its inbox
pub record Own : Type 0 where
  pub power : ℕ
  pub digest : List ℕ
  pub vote : Vote
  pub pending : List Standing
  pub kept : Option Kept
  pub sent : ℕ
  pub items : ℕ

-- a game with the own parts of all its seats
pub record Whole : Type 0 where
  pub public : Public
  pub seats : List Own

-- whose letter a reply answers
pub record Head : Type 0 where
  pub game : List ℕ
  pub sender : List ℕ
  pub number : ℕ

-- an answer to a letter
pub record Reply : Type 0 where
  pub outcome : Outcome
  pub head : Option Head
  pub text : List ℕ
