-- The paper of a phase that was adjudicated: a function of what is told of the phase and of the public part after it.
use Rattle.std.specs.Prelude.{ℕ, Bool, ◌&&◌, ◌==◌, List, [], ◌++◌, codes, if◌then◌else◌, map, filter, flat_map}
use Rattle.std.specs.Fmt.{decimal}
use Rattle.dip_names.specs.declared.names.Unit.{Unit as AUnit}
use Rattle.dip_map.specs.Charts.{Chart, powers, province, provs, realm}
use Rattle.dip_map.specs.declared.boards.Phase.{Phase}
use Rattle.dip_orders.specs.Texts.{order_text}
use Rattle.dip_orders_placed.specs.declared.placed.Order.{Order}
use Rattle.dip_orders_placed.specs.declared.placed.Order.TheVariants.{Build, Remove}
use Rattle.dip_turn_phases.specs.declared.lines.Fate.{Fate}
use Rattle.dip_turn_phases.specs.declared.lines.Fate.TheVariants.{Stands, Dislodged, Destroyed}
use Rattle.dip_turn_phases.specs.declared.lines.MovementLine.{MovementLine}
use Rattle.dip_turn_phases.specs.declared.lines.Outcome.{Outcome}
use Rattle.dip_turn_phases.specs.declared.lines.Outcome.TheVariants.{Holds, Moves, Bounced, NoRoute, Given, Cut, Void, Convoys}
use Rattle.dip_turn_phases.specs.declared.report.Account.{Account}
use Rattle.dip_turn_phases.specs.declared.report.Account.TheVariants.{Movement as OfMovement, Retreats as OfRetreats, Adjustment as OfAdjustment}
use Rattle.dip_turn_phases.specs.declared.report.Adjustment.{Adjustment}
use Rattle.dip_turn_phases.specs.declared.lines.CentreLine.{CentreLine}
use Rattle.dip_turn_phases.specs.declared.report.Report.{Report}
use Rattle.dip_turn_phases.specs.declared.lines.RetreatLine.{RetreatLine}
use Rattle.dip_turn_phases.specs.declared.lines.Waiver.{Waiver}
use Rattle.dip_desk_state.specs.Records.{Public}
use Rattle.dip_reports.specs.Texts.{board_lines, game_line, phase_text}
use Rattle.dip_turn_papers.specs.declared.lines.PaperLine.{PaperLine}
use Rattle.dip_turn_papers.specs.declared.lines.Told.{Told}
use Rattle.dip_turn_papers.specs.declared.lines.Told.TheVariants.{Moved, Retreats, Disbands, Built, Removed, RemovedInDisorder}

-- what became of an order in a movement
abbrev pub outcome_text : Outcome → List ℕ
outcome_text Holds = codes "holds"
outcome_text Moves = codes "moves"
outcome_text Bounced = codes "bounced"
outcome_text NoRoute = codes "no route"
outcome_text Given = codes "given"
outcome_text Cut = codes "cut"
outcome_text Void = codes "void"
outcome_text Convoys = codes "convoys"

-- what became of its unit
abbrev pub fate_text : Fate → List ℕ
fate_text Stands = []
fate_text Dislodged = codes ", dislodged"
fate_text Destroyed = codes ", destroyed"

-- what is told of an order
abbrev pub told_text : Told → List ℕ
told_text (Moved outcome fate) = outcome_text outcome ++ fate_text fate
told_text Retreats = codes "retreats"
told_text Disbands = codes "disbands"
told_text Built = codes "built"
told_text Removed = codes "removed"
told_text RemovedInDisorder = codes "removed in disorder"

-- `power order: outcome`
unfoldable pub line_text : Chart → PaperLine → List ℕ
line_text m l = (realm m l.placed.unit.power).name ++ codes " " ++ order_text m l.placed ++ codes ": " ++ told_text l.told ++ codes "\n"

-- the line is of that power
abbrev pub is_by : ℕ → PaperLine → Bool
is_by power l = l.placed.unit.power == power

-- the line is of that power's unit in that province
abbrev pub is_in : ℕ → ℕ → PaperLine → Bool
is_in power p l = l.placed.unit.power == power && l.placed.unit.place.prov == p

-- the lines of a power, by province
abbrev pub by_province : Chart → List PaperLine → ℕ → List ℕ
by_province m ls power = flat_map (λ p. flat_map (line_text m) (filter (is_in power p) ls)) (provs m)

-- the lines of a power, in the order in which they come
abbrev pub power_lines : Chart → List PaperLine → ℕ → List ℕ
power_lines m ls power = flat_map (line_text m) (filter (is_by power) ls)

-- all lines, by power and province
abbrev pub lines_by_power : Chart → List PaperLine → List ℕ
lines_by_power m ls = flat_map (by_province m ls) (powers m)

-- what is told of a movement
abbrev pub moved_lines : List MovementLine → List PaperLine
moved_lines ls = map (λ l. record { placed = l.placed; told = Moved l.outcome l.fate }) ls

-- what is told of retreats
abbrev pub retreated_lines : List RetreatLine → List PaperLine
retreated_lines ls = map (λ l. record { placed = l.placed; told = if l.is_made then Retreats else Disbands }) ls

-- what is told of a unit in Winter
abbrev pub unit_line : Order → Told → AUnit → PaperLine
unit_line order told u = record { placed = record { unit = u; order = order }; told = told }

-- builds, and removals that were given
abbrev pub adjusted_lines : Adjustment → List PaperLine
adjusted_lines t = map (unit_line Build Built) t.builds.items ++ map (unit_line Remove Removed) t.removals.items

-- removals in disorder, in the order in which they were made
abbrev pub disorder_lines : Adjustment → List PaperLine
disorder_lines t = map (unit_line Remove RemovedInDisorder) t.disorder.items

-- builds that a power might have made and didn't
abbrev pub waiver_line : Chart → Waiver → List ℕ
waiver_line m w = (realm m w.power).name ++ codes " waives " ++ decimal w.builds ++ codes "\n"

-- what a Winter brought a power: builds and given removals by province, those in disorder as they were made, waived builds
abbrev pub adjusted_power : Chart → List PaperLine → List PaperLine → List Waiver → ℕ → List ℕ
adjusted_power m orders disorder waivers power =
    by_province m orders power ++ power_lines m disorder power ++ flat_map (waiver_line m) (filter (λ w. w.power == power) waivers)

abbrev pub adjusted_with : Chart → List PaperLine → List PaperLine → List Waiver → List ℕ
adjusted_with m orders disorder waivers = flat_map (adjusted_power m orders disorder waivers) (powers m)

-- what a Winter brought, by power
abbrev pub adjusted_text : Chart → Adjustment → List ℕ
adjusted_text m t = adjusted_with m (adjusted_lines t) (disorder_lines t) t.waivers.items

-- what became of the orders of a phase
abbrev pub account_text : Chart → Account → List ℕ
account_text m (OfMovement t) = lines_by_power m (moved_lines t.lines.items)
account_text m (OfRetreats ls) = lines_by_power m (retreated_lines ls.items)
account_text m (OfAdjustment t) = adjusted_text m t

-- a centre that changed hands, with its new owner
abbrev pub centre_line : Chart → CentreLine → List ℕ
centre_line m c = codes "centre " ++ (province m c.prov).code ++ codes ": " ++ (realm m c.power).name ++ codes "\n"

-- the paper's number, and the phase that was adjudicated
abbrev pub title : ℕ → Phase → List ℕ
title number phase = codes "PAPER " ++ decimal number ++ codes " " ++ phase_text phase ++ codes "\n"

-- the paper of a phase, whose number is that of all papers with it
unfoldable pub paper_text : Chart → Report → Public → List ℕ
paper_text m r p = title p.papers r.phase
    ++ account_text m r.account
    ++ flat_map (centre_line m) r.centres.items
    ++ game_line m p ++ board_lines m p.board ++ codes "END\n"
