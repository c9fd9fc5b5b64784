-- What is right by what its text was compared with.
use Rattle.std.proofs.Common.{◌≡◌, ◌≢◌, ◌<◌, ◌∙◌, inl, ℕ, List, Some, sym, subst}
use Rattle.dip_map.specs.Boards.{IsOf}
use Rattle.dip_map.specs.Charts.{Chart}
use Rattle.dip_desk_state.specs.Bounds.{most_papers}
use Rattle.dip_desk_state.specs.Records.{Public}
use Rattle.dip_desk_state.specs.Rows as rows
use Rattle.dip_desk_state.specs.declared.records.Public.{Public as Row}
use Rattle.dip_orders_placed.specs.declared.placed.PlacedOrder.{PlacedOrder}
use Rattle.dip_turn_phases.specs.declared.report.Report.{Report}
use Rattle.dip_check.specs.Phases.{IsComparedPhase, IsJudged, IsJudgedBy}
use Rattle.dip_check_papers.specs.Checks.{IsToldOf}
use Rattle.dip_check_papers.specs.Games.{IsPhase, IsPhaseOf}
use Rattle.dip_check_papers.specs.Differing.{first_other}
use Rattle.dip_check_papers.specs.Printed.{orders_printed_at}
use Rattle.dip_check_papers.specs.declared.verdict.Fault.{Fault}
use Rattle.dip_check.specs.declared.phases.Judged.{Judged}
use Rattle.dip_check.specs.declared.phases.Judged.TheVariants.{Right as RightPhase, Wrong as WrongPhase}

-- a phase's text where it is the wanted one of these orders
pub judged_by_wanted : (m : Chart) (p : Public) (orders : List PlacedOrder) (text wanted : List ℕ) (report : Report) (after : Row) (j : Judged) → IsComparedPhase text wanted report after j
    → p.papers < most_papers → (text ≡ wanted → IsPhaseOf m p text report (rows.public after)) → IsOf m after.board.value
    → ((fault : Fault) → text ≢ wanted → fault.line ≡ first_other text wanted → IsToldOf m p orders text fault) → IsJudgedBy m p orders text j
judged_by_wanted m p orders text wanted report after (RightPhase told new) c room phase of wrong =
    let here : IsPhaseOf m p text told (rows.public new) =
    subst (λ (r : Report). IsPhaseOf m p text r (rows.public new)) (sym c.1) (subst (λ (q : Row). IsPhaseOf m p text report (rows.public q)) (sym c.2) (phase c.0)) in
    (record { room = room; kind = inl (record { report = told; brought = here }) }, here, subst (λ (q : Row). IsOf m q.board.value) (sym c.2) of)
judged_by_wanted m p orders text wanted report after (WrongPhase fault) c room phase of wrong = wrong fault c.0 c.1

-- what is said of these orders is said of the phase, where none others could have the text
pub judged_weaker : (m : Chart) (p : Public) (orders : List PlacedOrder) (text : List ℕ) (j : Judged) → IsJudgedBy m p orders text j
    → orders_printed_at m p.board text p.board.phase.season ≡ Some orders → ((fault : Fault) → IsToldOf m p orders text fault → (new : Public) → IsPhase m p text new → ⊥) → IsJudged m p text j
judged_weaker m p orders text (RightPhase told new) h is none = h
judged_weaker m p orders text (WrongPhase fault) h is none = (
  none fault h,
  λ qs read given placed.
      let some : Some orders ≡ Some qs = sym is ∙ read in
      let same : orders ≡ qs = cc in
      subst (λ (os : List PlacedOrder). IsToldOf m p os text fault) same h,
)
