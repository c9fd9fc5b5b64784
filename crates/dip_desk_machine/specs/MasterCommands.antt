-- What each command of the master comes to, in a game that is there or with no game of its name.
use Rattle.std.specs.Prelude.{true, false, ℕ, ◌≡◌, ◌&&◌, not, Bool, List, [], ◌∷◌, Option, None, Some, option_map, if◌then◌else◌}
use Rattle.sha2.specs.Sha256.{sha256}
use Rattle.dip_letters.specs.Digests.{seat_text}
use Rattle.dip_letters.specs.Notes.{NoticeRequest, SeatNote}
use Rattle.dip_map.specs.Charts.{Chart, power_of}
use Rattle.dip_map.specs.Boards.{Position}
use Rattle.dip_desk_games.specs.Drawing.{drawn_between, public_drawn}
use Rattle.dip_desk_games.specs.Noting.{is_announcement, public_noted}
use Rattle.dip_desk_games.specs.Ticking.{is_over, orders_of, public_played}
use Rattle.dip_desk_state.specs.Fitting.{are_complete}
use Rattle.dip_desk_state.specs.State.{Game, Opens, Publishes, Seats, NewSeat}
use Rattle.dip_turn_papers.specs.Papers.{paper_text}
use Rattle.dip_turn.specs.Reports.{IsPlayed}
use Rattle.dip_turn_phases.specs.declared.report.Report.{Report}
use Rattle.dip_reports.specs.Texts.{draw_paper, notice_paper, opening_paper, paper_line, replaced_line}
use Rattle.dip_desk_state.specs.Records.{Public, Whole}
use Rattle.dip_reports.specs.declared.refusals.Refusal.TheVariants.{Malformed, GameOver, NotDue, NameTaken}
pub use Rattle.dip_desk_games.specs.Decided.{Verdict, Taken, refusal_verdict, unless}
pub use Rattle.dip_desk_games.specs.Opening.{opening_public}

-- the digest of a secret
unfoldable pub digest : List ℕ → List ℕ → List ℕ → List ℕ
digest game sender secret = sha256 (seat_text game sender secret)

-- a seat of a new game, where its power is one of the map
abbrev pub new_seat : Chart → List ℕ → SeatNote → Option NewSeat
new_seat m game s = option_map (λ p. record { power = p; digest = digest game s.power s.secret }) (power_of m s.power)

abbrev pub with_more : Option NewSeat → Option (List NewSeat) → Option (List NewSeat)
with_more (Some s) (Some more) = Some (s ∷ more)
with_more (Some s) None = None
with_more None more = None

abbrev pub new_seats : Chart → List ℕ → List SeatNote → Option (List NewSeat)
new_seats m game [] = Some []
new_seats m game (s ∷ ss) = with_more (new_seat m game s) (new_seats m game ss)

-- a new game, where its name is free
abbrev pub open_game : Chart → Public → List NewSeat → Option Game → Verdict
open_game m p seats None = Taken (paper_line 1) (Opens p (opening_paper m p) seats)
open_game m p seats (Some g) = refusal_verdict NameTaken

-- what CREATE comes to: the seats have to be the map's powers, each once
abbrev pub creation : Chart → Public → Option (List NewSeat) → Option Game → Verdict
creation m p None game = refusal_verdict Malformed
creation m p (Some seats) game = if are_complete m seats then open_game m p seats game else refusal_verdict Malformed

-- the paper of a phase is published, with the public part after it
abbrev pub paper_verdict : Chart → Report → Public → Verdict
paper_verdict m report public = Taken (paper_line public.papers) (Publishes public (paper_text m report public) true)

-- the phase of a game is adjudicated with the orders that stand, all of them: the board after it and a report, by which its paper is
-- published
pub record IsPublished (m : Chart) (tick : ℕ) (w : Whole) (v : Verdict) : Type 0 where
  pub board : Position
  pub report : Report
  pub played : IsPlayed m w.public.board (orders_of m w) board report
  pub verdict : v ≡ paper_verdict m report (public_played tick w.public board report.course)

-- a game that powers share: the draw is published, and no phase is played
abbrev pub draw_verdict : Chart → Public → Verdict
draw_verdict m public = Taken (paper_line public.papers) (Publishes public (draw_paper m public) false)

-- what a due tick may come to: a draw where all survivors ask for the same, or else the phase is adjudicated
abbrev pub OnTime : Chart → ℕ → Whole → (drawn : Option (List ℕ)) → Verdict → Type 0
OnTime m tick w (Some powers) v = v ≡ draw_verdict m (public_drawn powers w.public)
OnTime m tick w None v = IsPublished m tick w v

-- what TICK may come to: nothing is played in a game that is over, nor before its time
abbrev pub Ticks : Chart → ℕ → Whole → (over due : Bool) → Verdict → Type 0
Ticks m tick w true due v = v ≡ refusal_verdict GameOver
Ticks m tick w false false v = v ≡ refusal_verdict NotDue
Ticks m tick w false true v = OnTime m tick w (drawn_between m w) v

-- a notice is published, with the public part after it
abbrev pub notified : Chart → NoticeRequest → Public → Verdict
notified m notice public = Taken (paper_line public.papers) (Publishes public (notice_paper m notice public) false)

-- what a notice comes to: only an announcement comes in a game that is over
abbrev pub notice_verdict : Chart → NoticeRequest → Public → Verdict
notice_verdict m notice p = unless (is_over p.status && not (is_announcement notice)) GameOver (notified m notice (public_noted notice p))

abbrev pub replaced : SeatNote → Option NewSeat → Verdict
replaced seat None = refusal_verdict Malformed
replaced seat (Some s) = Taken (replaced_line seat.power) (Seats s)

-- what REPLACE comes to: another digest for a seat that is there
abbrev pub replacement : Chart → List ℕ → SeatNote → Bool → Verdict
replacement m game seat true = replaced seat (new_seat m game seat)
replacement m game seat false = refusal_verdict Malformed
