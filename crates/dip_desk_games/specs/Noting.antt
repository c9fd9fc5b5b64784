-- What a notice of the master changes of a game.
use Rattle.std.specs.Prelude.{ℕ, Bool, true, false, ◌<◌, ◌+◌}
use Rattle.dip_map.specs.Boards.{IsOf}
use Rattle.dip_map.specs.Charts.{Chart}
use Rattle.dip_letters.specs.Notes.{NoticeRequest}
use Rattle.dip_letters.specs.Notes.NoticeRequest.{Pause, Resume, Period, Announce, Close}
use Rattle.dip_desk_state.specs.Bounds.{most_papers}
use Rattle.dip_desk_state.specs.Records.{Public, Status, Running, Paused, Closed}

-- an announcement alone may come in a game that is over
abbrev pub is_announcement : NoticeRequest → Bool
is_announcement Pause = false
is_announcement Resume = false
is_announcement (Period period) = false
is_announcement (Announce text) = true
is_announcement Close = false

-- how a game stands after a notice
abbrev pub status_noted : NoticeRequest → Status → Status
status_noted Pause s = Paused
status_noted Resume s = Running
status_noted (Period period) s = s
status_noted (Announce text) s = s
status_noted Close s = Closed

-- the ticks from one due tick to the next after it
abbrev pub period_noted : NoticeRequest → ℕ → ℕ
period_noted Pause old = old
period_noted Resume old = old
period_noted (Period period) old = period
period_noted (Announce text) old = old
period_noted Close old = old

-- the public part after it: board and due tick stay
abbrev pub public_noted : NoticeRequest → Public → Public
public_noted notice p = record p { status = status_noted notice p.status; period = period_noted notice p.period; papers = p.papers + 1 }

-- a game that can publish: its board is one of the map, and there is room for one more in the count of its papers
pub record CanPublish (m : Chart) (p : Public) : Type 0 where
  pub board : IsOf m p.board
  pub papers : p.papers < most_papers
