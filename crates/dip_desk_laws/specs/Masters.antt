-- What the master is told of seats: nothing of what they ordered, voted and wrote.
use Rattle.std.specs.Prelude.{◌≡◌, List, ℕ, Option, None, Some, bytes_eq, codes, true}
use Rattle.dip_map.specs.Charts.{Chart}
use Rattle.dip_desk_machine.specs.Machine.{Step, has_seat}
use Rattle.dip_desk_machine.specs.Mail.{Mail}
use Rattle.dip_desk_state.specs.Records.{Reply}
use Rattle.dip_desk_state.specs.State.{Game, State, game_at}

-- two games with one public part and seats for the same powers: orders, votes, press and inboxes may differ
pub record DifferInside (m : Chart) (g h : Game) : Type 0 where
  pub public : g.public ≡ h.public
  pub seated : (name : List ℕ) → has_seat m name g ≡ has_seat m name h

-- two such games, or none
abbrev pub LookAlike : Chart → Option Game → Option Game → Type 0
LookAlike m None None = Unit {0}
LookAlike m None (Some h) = ⊥
LookAlike m (Some g) None = ⊥
LookAlike m (Some g) (Some h) = DifferInside m g h

-- two states with one master, who wrote the same letter last, and such games under each name
pub record LookAlikeToMaster (m : Chart) (s t : State) : Type 0 where
  pub desk : s.desk ≡ t.desk
  pub games : (name : List ℕ) → LookAlike m (game_at name s) (game_at name t)

-- whatever is sent in the master's name, the reply is the same in both, whether a tick draws a game or plays its phase
abbrev pub AreMastersRepliesAlike : Chart → Type 0
AreMastersRepliesAlike m = (s t : State) (n : Mail) (q r : Reply) (after_s after_t : State)
    → bytes_eq n.note.sender (codes "master") ≡ true → LookAlikeToMaster m s t
    → Step m s n q after_s → Step m t n r after_t → q ≡ r
