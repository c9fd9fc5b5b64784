-- What is said of a text that is to be the paper of a phase.
use Rattle.std.specs.Prelude.{◌≡◌, ◌≢◌, ℕ, List}
use Rattle.dip_map.specs.Boards.{IsOf}
use Rattle.dip_map.specs.Charts.{Chart}
use Rattle.dip_desk_state.specs.Records.{Public}
use Rattle.dip_desk_state.specs.Rows as rows
use Rattle.dip_desk_state.specs.declared.records.Public.{Public as Row}
use Rattle.dip_orders_placed.specs.declared.placed.PlacedOrder.{PlacedOrder}
use Rattle.dip_turn_phases.specs.declared.report.Report.{Report}
use Rattle.dip_check_papers.specs.Checks.{IsToldOf, IsToldOfPhase}
use Rattle.dip_check_papers.specs.Differing.{first_other}
use Rattle.dip_check_papers.specs.Games.{IsNext, IsPhase, IsPhaseOf}
use Rattle.dip_check.specs.declared.phases.Judged.{Judged}
use Rattle.dip_check.specs.declared.phases.Judged.TheVariants.{Right as RightPhase, Wrong as WrongPhase}

-- a phase's text is right only where the phase brings this report, and leaves the game so, with a board of the map; and where it is wrong,
-- no paper of the phase has that text, and the fault is told beside the papers of the orders that it prints
abbrev pub IsJudged : Chart → Public → List ℕ → Judged → Type 0
IsJudged m p text (RightPhase report new) = IsNext m p text (rows.public new) × IsPhaseOf m p text report (rows.public new) × IsOf m new.board.value
IsJudged m p text (WrongPhase fault) = ((new : Public) → IsPhase m p text new → ⊥) × IsToldOfPhase m p text fault

-- a phase's text is right only where the phase brings this report; where it is wrong, its fault is told beside the papers of these orders
abbrev pub IsJudgedBy : Chart → Public → List PlacedOrder → List ℕ → Judged → Type 0
IsJudgedBy m p orders text (RightPhase report new) = IsNext m p text (rows.public new) × IsPhaseOf m p text report (rows.public new) × IsOf m new.board.value
IsJudgedBy m p orders text (WrongPhase fault) = IsToldOf m p orders text fault

-- a phase's text is right where it is the wanted one, of this report and this public part, and else wrong where it first differs from it
abbrev pub IsComparedPhase : (text wanted : List ℕ) → Report → Row → Judged → Type 0
IsComparedPhase text wanted report after (RightPhase told new) = (text ≡ wanted) × (told ≡ report) × (new ≡ after)
IsComparedPhase text wanted report after (WrongPhase fault) = (text ≢ wanted) × (fault.line ≡ first_other text wanted)
