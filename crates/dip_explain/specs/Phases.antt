-- The explanation of a phase.
use Rattle.std.specs.Prelude.{◌≡◌, ◌==◌, List, ℕ, codes, if◌then◌else◌, length}
use Rattle.dip_map.specs.Boards.{Position}
use Rattle.dip_map.specs.Charts.{Chart}
use Rattle.dip_orders_placed.specs.Standing.{units_of}
use Rattle.dip_turn_phases.specs.declared.report.Account.{Account}
use Rattle.dip_turn_phases.specs.declared.report.Account.TheVariants.{Movement as OfMovement, Retreats as OfRetreats, Adjustment as OfAdjustment}
use Rattle.dip_turn_phases.specs.declared.report.Report.{Report}
use Rattle.dip_explain.specs.Movement.{explanation}
use Rattle.dip_explain_lines.specs.Retreats.{retreats_explained}
use Rattle.dip_explain_lines.specs.Winter.{winter_explained}

-- the lines that explain what is told of a phase
abbrev pub lines_of : Chart → Position → Account → List ℕ
lines_of m b (OfMovement t) = explanation m b t.orders t.resolution
lines_of m b (OfRetreats lines) = retreats_explained m b lines.items
lines_of m b (OfAdjustment t) = winter_explained m b t

-- where there are none, that is said
abbrev pub or_nothing : List ℕ → List ℕ
or_nothing lines = if length lines == 0 then codes "nothing was to be decided\n" else lines

-- the explanation of a phase of a board
abbrev pub phase_explained : Chart → Position → Report → List ℕ
phase_explained m b report = or_nothing (lines_of m b report.account)

-- what is told of a movement has an order for each unit of the board
abbrev pub HasOrders : Position → Account → Type 0
HasOrders b (OfMovement t) = units_of t.orders ≡ b.units
HasOrders b account = Unit {0}
