-- What is seen of a state for a letter, and what is decided by it.
use Rattle.std.specs.Prelude.{◌≡◌, ℕ, Bool, true, false, Option, None, Some, Result, bytes_eq, codes, option_map, unwrap_or}
use Rattle.dip_map.specs.Charts.{Chart}
use Rattle.dip_desk_keeper.specs.Keeping.{Book, Looks}
use Rattle.dip_desk.specs.declared.looking.SeatSight.{SeatSight}
use Rattle.dip_desk_machine.specs.Machine.{DecidedBy, IsDamagedSight, OfMaster, OfNobody, OfSeat, Sight, Verdict, author_of, digest, master_sees}
use Rattle.dip_desk_machine.specs.Mail.{Mail}
use Rattle.dip_desk_state.specs.Records.{Kept}
use Rattle.dip_desk_state.specs.Rows as rows
use Rattle.dip_desk_state.specs.State.{Author, State, digest_at, game_at}
use Rattle.dip_desk_state.specs.declared.faults.KeepFault.{KeepFault}

-- the master's sight, by what is kept of its last letter
abbrev pub master_seen : Chart → Mail → Option Kept → State → Sight
master_seen m n kept s = OfMaster kept (master_sees m n.note.command (game_at n.note.game s))

-- a seat's, where the letter is its own
abbrev pub seat_seen : ℕ → Option SeatSight → Sight
seat_seen power None = OfNobody
seat_seen power (Some x) = OfSeat power (rows.public x.public.value) (rows.own x.own) (rows.items x.page.items)

-- who wrote the letter, and what is decided of it, by a sight alone
abbrev pub DecidedFor : Chart → Mail → Sight → Author → Verdict → Type 0
DecidedFor m n sight who v = (who ≡ author_of sight) × DecidedBy m n sight v

-- a look at a sight, and what is decided by that alone
abbrev pub DecidesBy : {K X : Type 0} → Chart → Book K → (old new : K) → Mail → (sight : Sight) → (Sight → X → Type 0) → Result X KeepFault → Type 0
DecidesBy m b old new n sight Decided result = Looks m b old new (Decided sight) (IsDamagedSight m n sight) result

-- whether a letter is that of a power's seat: its secret has the seat's digest
abbrev pub is_of_seat : Mail → ℕ → State → Bool
is_of_seat n power s =
    unwrap_or (option_map (bytes_eq (digest n.note.game n.note.sender n.note.secret)) (digest_at n.note.game power s)) false

-- whether it is the master's
abbrev pub is_of_master : Mail → State → Bool
is_of_master n s = bytes_eq (digest (codes "desk") (codes "master") n.note.secret) s.desk.digest

-- a keeper that came to this was of a state before in which the letter is its author's
pub record IsOpened {K : Type 0} (m : Chart) (b : Book K) (is_of_author : State → Bool) (k : K) : Type 0 where
  pub before : K
  pub is : b.sound m before → b.shows k → is_of_author (b.content m before) ≡ true
