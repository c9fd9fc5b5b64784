-- Draws in a player's words.
use Rattle.std.specs.Prelude.{◌≡◌, ◌<◌, ◌↔◌, ℕ, Bool, true, false, List, length}
use Rattle.std.specs.List.{AllByRecursion}
use Rattle.dip_map.specs.Charts.{Chart}
use Rattle.dip_desk_games.specs.Drawing.{survives, survivors, vote_of}
use Rattle.dip_desk_machine.specs.Machine.{Ticks, Verdict, NotKnown, Again, OutOfTurn, Taken}
use Rattle.dip_desk_state.specs.Records.{Drawn, Vote, No, Yes, For, Whole}
use Rattle.dip_desk_state.specs.State.{Nothing, Pending, Votes, Delivers, Opens, Publishes, Seats}

-- a survivor of a game
abbrev pub IsSurvivor : Chart → Whole → ℕ → Type 0
IsSurvivor m w power = (power < length m.realms) × (survives m w.public.board power ≡ true)

-- a vote asks for a draw between exactly these powers: it names them, or it is YES and they are all survivors
abbrev pub AsksFor : Chart → Whole → List ℕ → Vote → Type 0
AsksFor m w powers No = ⊥
AsksFor m w powers Yes = powers ≡ survivors m w.public.board
AsksFor m w powers (For named) = powers ≡ named

-- somebody survives, each survivor asks for a draw between exactly these powers, and each of them survives
pub record IsAgreedOn (m : Chart) (w : Whole) (powers : List ℕ) : Type 0 where
  pub survivor : (power : ℕ) × IsSurvivor m w power
  pub asked : (power : ℕ) → IsSurvivor m w power → AsksFor m w powers (vote_of w.seats power)
  pub survive : AllByRecursion (IsSurvivor m w) powers

-- what is published tells of a draw between these powers
abbrev pub Draws : List ℕ → Verdict → Type 0
Draws powers NotKnown = ⊥
Draws powers (Again text) = ⊥
Draws powers (OutOfTurn text) = ⊥
Draws powers (Taken text Nothing) = ⊥
Draws powers (Taken text (Pending orders)) = ⊥
Draws powers (Taken text (Votes vote)) = ⊥
Draws powers (Taken text (Delivers readers item)) = ⊥
Draws powers (Taken text (Opens public paper seats)) = ⊥
Draws powers (Taken text (Publishes public paper played)) = public.status ≡ Drawn powers
Draws powers (Taken text (Seats seat)) = ⊥

-- a tick draws a game between powers exactly where it is due, isn't over, and all survivors agree on them
abbrev pub DrawsAreAgreed : Chart → Type 0
DrawsAreAgreed m = (tick : ℕ) (w : Whole) (over due : Bool) (v : Verdict) (powers : List ℕ) → Ticks m tick w over due v
    → Draws powers v ↔ ((over ≡ false) × (due ≡ true) × IsAgreedOn m w powers)
