-- What is said of a text that is to come next in a game.
use Rattle.std.specs.Prelude.{◌≡◌, ◌≢◌, ◌≤◌, ◌-◌, ◌⊎◌, ℕ, List, [], Some, length, take, false, true}
use Rattle.std.specs.List.{AllByRecursion}
use Rattle.dip_letters.specs.Letters.{FitsNotice, FitsText}
use Rattle.dip_letters.specs.Notes.{NoticeRequest}
use Rattle.dip_letters.specs.Notes.NoticeRequest.{Announce}
use Rattle.dip_map.specs.Boards.{IsOf, Position}
use Rattle.dip_map.specs.Charts.{Chart}
use Rattle.dip_desk_games.specs.Drawing.{survives}
use Rattle.dip_desk_games.specs.ByPlace.{are_by_place}
use Rattle.dip_desk_games.specs.Ticking.{public_played}
use Rattle.dip_desk_games.specs.Noting.{is_announcement, public_noted}
use Rattle.dip_reports.specs.Texts.{notice_paper}
use Rattle.dip_desk_state.specs.Records.{For, Public}
use Rattle.dip_orders.specs.Given.{AreGiven}
use Rattle.dip_orders_placed.specs.declared.placed.PlacedOrder.{PlacedOrder}
use Rattle.dip_turn.specs.Reports.{IsPlayed}
use Rattle.dip_turn_phases.specs.declared.report.Report.{Report}
use Rattle.dip_turn_papers.specs.Papers.{paper_text}
use Rattle.dip_desk_state.specs.Rows as rows
use Rattle.dip_desk_state.specs.Writable.{IsVoteOf}
use Rattle.dip_check_papers.specs.Games.{IsNext, IsOpening, IsTick}
use Rattle.dip_check_papers.specs.Differing.{first_other}
use Rattle.dip_check_papers.specs.Printed.{orders_printed_at}
use Rattle.dip_check_papers.specs.declared.verdict.Fault.{Fault}
use Rattle.dip_check_papers.specs.declared.verdict.Papers.{Papers}
use Rattle.dip_check_papers.specs.declared.verdict.Papers.TheVariants.{None as NoPapers, Right as RightPapers, Wrong as WrongPaper}
use Rattle.dip_check_papers.specs.declared.verdict.Verdict.{Verdict}
use Rattle.dip_check_papers.specs.declared.verdict.Verdict.TheVariants.{Right, Wrong}

-- the paper of a phase that was played at this tick, and brought this
abbrev pub paper_at : Chart → Public → ℕ → Position → Report → List ℕ
paper_at m p tick board report = paper_text m report (public_played tick p board report.course)

-- a fault is told of a text beside all papers that orders may have in a phase, at ticks from the due one on: the text is none of them,
-- each differs from it in the line told or before it, and the one of some tick first in that line
pub record IsToldOf (m : Chart) (p : Public) (orders : List PlacedOrder) (text : List ℕ) (fault : Fault) : Type 0 where
  pub none : (tick : ℕ) (board : Position) (report : Report) → IsTick p tick → IsPlayed m p.board orders board report
      → text ≢ paper_at m p tick board report
  pub furthest : (tick : ℕ) (board : Position) (report : Report) → IsTick p tick → IsPlayed m p.board orders board report
      → first_other text (paper_at m p tick board report) ≤ fault.line
  pub first : (tick : ℕ) × IsTick p tick × ((board : Position) (report : Report) → IsPlayed m p.board orders board report
      → fault.line ≡ first_other text (paper_at m p tick board report))

-- where a text prints orders that can be given in the phase, the fault is told beside their papers
abbrev pub IsToldOfPhase : Chart → Public → List ℕ → Fault → Type 0
IsToldOfPhase m p text fault = (orders : List PlacedOrder) → orders_printed_at m p.board text p.board.phase.season ≡ Some orders
    → AreGiven m p.board orders → are_by_place orders ≡ true → IsToldOf m p orders text fault

-- what is told of a wrong text of a phase
abbrev pub IsToldWrong : Chart → Public → List ℕ → Verdict → Type 0
IsToldWrong m p text (Right new) = Unit {0}
IsToldWrong m p text (Wrong fault) = IsToldOfPhase m p text fault

-- a text is right where it is the wanted one, and leaves the game so; else it is wrong where it first differs from it
abbrev pub IsCompared : (text wanted : List ℕ) → Public → Verdict → Type 0
IsCompared text wanted after (Right new) = (text ≡ wanted) × (rows.public new ≡ after)
IsCompared text wanted after (Wrong fault) = (text ≢ wanted) × (fault.line ≡ first_other text wanted)

-- a text is right only where it may come next, and leaves the game so, with a board of the map; it is wrong only where there is no
-- paper of these with that text
abbrev pub IsJudgedNext : Chart → Public → List ℕ → (Public → Type 0) → Verdict → Type 0
IsJudgedNext m p text IsPaper (Right new) = IsNext m p text (rows.public new) × IsOf m new.board.value
IsJudgedNext m p text IsPaper (Wrong fault) = (new : Public) → IsPaper new → ⊥

-- a text is right only where it may come next, and leaves the game so, with a board of the map; it is wrong only where nothing that may
-- come next has that text
abbrev pub IsJudgedPaper : Chart → Public → List ℕ → Verdict → Type 0
IsJudgedPaper m p text v = IsJudgedNext m p text (IsNext m p text) v

-- a text is right only where it may come first, and the game stands so, with a board of the map; it is wrong only where it is no opening,
-- and each opening differs from it in the line told or before it
abbrev pub IsJudgedFirst : Chart → List ℕ → Verdict → Type 0
IsJudgedFirst m text (Right new) = IsOpening m text (rows.public new) × IsOf m new.board.value
IsJudgedFirst m text (Wrong fault) = ((new : Public) → IsOpening m text new → ⊥)
    × ((paper : List ℕ) (new : Public) → IsOpening m paper new → first_other text paper ≤ fault.line)

-- powers may share a game with this board: they can be named by a vote, and all survive
pub record MayShare (m : Chart) (b : Position) (powers : List ℕ) : Type 0 where
  pub named : IsVoteOf m (For powers)
  pub survive : AllByRecursion (λ r. survives m b r ≡ true) powers

-- a text is the paper of this notice, which leaves the game so
pub record IsNoted (m : Chart) (p : Public) (notice : NoticeRequest) (text : List ℕ) (new : Public) : Type 0 where
  pub after : new ≡ public_noted notice p
  pub told : text ≡ notice_paper m notice new

-- a text is the paper of an announcement of these lines that a letter may ask for
abbrev pub IsAnnounced : Chart → Public → List (List ℕ) → List ℕ → Public → Type 0
IsAnnounced m p lines text new = FitsText lines × IsNoted m p (Announce lines) text new

-- a notice that a letter may ask for, and no announcement
pub record IsCommand (notice : NoticeRequest) : Type 0 where
  pub fits : FitsNotice notice
  pub kind : is_announcement notice ≡ false

-- the paper of this number, counted from 1, is the first wrong one of these texts: it is the first of all, or those before it are right;
-- and with it they no longer are
pub record IsFirstWrong (Are : List (List ℕ) → Public → Type 0) (texts : List (List ℕ)) (number : ℕ) : Type 0 where
  pub least : 1 ≤ number
  pub there : number ≤ length texts
  pub before : (number ≡ 1) ⊎ ((old : Public) × Are (take (number - 1) texts) old)
  pub none : (new : Public) → Are (take number texts) new → ⊥

-- texts are right only where they are the papers meant, and leave the game so; else they are no such papers, and the first wrong one is told
abbrev pub AreJudged : (List (List ℕ) → Public → Type 0) → List (List ℕ) → Papers → Type 0
AreJudged Are texts (RightPapers new) = Are texts (rows.public new)
AreJudged Are texts (WrongPaper number fault) = ((new : Public) → Are texts new → ⊥) × IsFirstWrong Are texts number
AreJudged Are texts NoPapers = (texts ≡ []) × ((new : Public) → Are texts new → ⊥)
