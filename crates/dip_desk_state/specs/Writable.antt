-- What a store can write: words and lines that stand in one text, and what is of the map.
use Rattle.std.specs.Prelude.{◌≡◌, ◌<◌, ◌≤◌, ◌==◌, ℕ, false, true, List, [], ◌∷◌, length}
use Rattle.std.specs.List.{AllByRecursion}
use Rattle.dip_map.specs.Boards.{IsOf, are_ascending}
use Rattle.dip_map.specs.Charts.{Chart}
use Rattle.dip_desk_state.specs.Records.{Item, White, Grey, Public, Status, Running, Paused, Closed, Ended, Won, Drawn, Vote, No, Yes, For}
use Rattle.dip_desk_state.specs.State.{Author, Nobody, TheMaster, Seat}

-- there is no such byte in it
abbrev pub Lacks : ℕ → List ℕ → Type 0
Lacks b w = AllByRecursion (λ x. (x == b) ≡ false) w

-- no byte, and no word: it is none of these
abbrev pub IsWord : ℕ → List ℕ → Type 0
IsWord b [] = ⊥
IsWord b (x ∷ xs) = Lacks b (x ∷ xs)

-- addressees are words without a space, and lines are without an end of line
abbrev pub IsPlainItem : Item → Type 0
IsPlainItem (White writer addressees text) = AllByRecursion (IsWord 32) addressees × AllByRecursion (Lacks 10) text
IsPlainItem (Grey to_all text) = AllByRecursion (Lacks 10) text

-- the powers that a status names are of the map
abbrev pub IsStatusOf : Chart → Status → Type 0
IsStatusOf m Running = Unit {0}
IsStatusOf m Paused = Unit {0}
IsStatusOf m Closed = Unit {0}
IsStatusOf m Ended = Unit {0}
IsStatusOf m (Won power) = power < length m.realms
IsStatusOf m (Drawn powers) = AllByRecursion (λ p. p < length m.realms) powers

-- the powers that a vote names are of the map, ascend, and there is one at least
abbrev pub IsVoteOf : Chart → Vote → Type 0
IsVoteOf m No = Unit {0}
IsVoteOf m Yes = Unit {0}
IsVoteOf m (For powers) =
    AllByRecursion (λ p. p < length m.realms) powers × (are_ascending powers ≡ true) × (0 < length powers)

-- the seat's power is one of the map
abbrev pub IsAuthorOf : Chart → Author → Type 0
IsAuthorOf m Nobody = Unit {0}
IsAuthorOf m TheMaster = Unit {0}
IsAuthorOf m (Seat power) = power < length m.realms

-- the public part of a game by the map: its board is one of the map, and so are the powers that its status names; its due tick and its
-- period are such as letters give, the due tick at most a tick of the grammar and a period
pub record IsPublicOf (m : Chart) (p : Public) : Type 0 where
  pub board : IsOf m p.board
  pub status : IsStatusOf m p.status
  pub due : p.due ≤ 1000000999998
  pub period : p.period ≤ 999999
