-- The orders that a paper prints, as they are read: those of a movement and of retreats unit by unit, those of a Winter line by line.
use Rattle.std.specs.Prelude.{◌≡◌, ℕ, Bool, false, true, List, [], ◌∷◌, ◌++◌, codes, Option, Some, None, is_some, unwrap_or, if◌then◌else◌, map, nat_lt}
use Rattle.std.specs.List.{list_all}
use Rattle.std.specs.Result.{result_ok}
use Rattle.std.specs.Str.{bytes_eq}
use Rattle.dip_names.specs.Options.{◌>>=◌}
use Rattle.dip_names.specs.declared.names.Unit.{Unit as AUnit}
use Rattle.dip_letters.specs.Lines.{cut_at, line_at, split_lines, word_at}
use Rattle.dip_letters.specs.Reading.{after_name}
use Rattle.dip_map.specs.Boards.{Position}
use Rattle.dip_map.specs.Charts.{Chart, power_of, realm}
use Rattle.std.specs.Fmt.{decimal}
use Rattle.dip_reports.specs.Texts.{phase_text}
use Rattle.dip_map.specs.declared.boards.Phase.{Phase}
use Rattle.dip_map.specs.declared.boards.Season.{Season}
use Rattle.dip_map.specs.declared.boards.Season.TheVariants.{SpringMoves, SpringRetreats, FallMoves, FallRetreats, Winter}
use Rattle.dip_orders.specs.Given.{AreGiven, orders_of_power}
use Rattle.dip_orders.specs.Reading.{order_of}
use Rattle.dip_orders_placed.specs.Standing.{is_same_unit}
use Rattle.dip_orders_placed.specs.declared.placed.PlacedOrder.{PlacedOrder}
use Rattle.dip_turn.specs.Reports.{IsPlayed}
use Rattle.dip_turn_phases.specs.declared.report.Report.{Report}
use Rattle.dip_desk_games.specs.ByPlace.{are_by_place}
use Rattle.dip_check_papers.specs.Placing.{units_by_place}
use Rattle.dip_check_papers.specs.declared.printed.Printed.{Printed}
use Rattle.dip_check_papers.specs.declared.printed.Printed.TheVariants.{Orders, NoOrder}

-- the first line, or all where no line ends, and what is after it
abbrev pub first_line_of : List ℕ → List ℕ × List ℕ
first_line_of text = unwrap_or (line_at text) (text, [])

-- the first line of a phase's paper
abbrev pub title_words : ℕ → Phase → List ℕ
title_words number phase = codes "PAPER " ++ decimal number ++ codes " " ++ phase_text phase

-- what a line says of a power, after its name and a space
unfoldable pub words_at : Chart → ℕ → List ℕ → Option (List ℕ)
words_at m power line = do
  rest ← after_name (realm m power).name line
  after_name (codes " ") rest

-- the words of an order in a line that tells of the power: what is before the colon
unfoldable pub order_words_at : Chart → ℕ → List ℕ → Option (List ℕ)
order_words_at m power line = do
  words ← words_at m power line
  parts ← cut_at 58 words
  Some parts.0

-- the order of a unit that a line tells
unfoldable pub unit_order_at : Chart → Position → AUnit → List ℕ → Option PlacedOrder
unit_order_at m b u line = do
  words ← order_words_at m u.power line
  placed ← result_ok (order_of m b u.power [] words)
  if is_same_unit placed.unit u then Some placed else None

-- the orders of these units, a line each
abbrev pub unit_orders_at : Chart → Position → List AUnit → List ℕ → Option (List PlacedOrder)
unit_orders_at m b [] text = Some []
unit_orders_at m b (u ∷ us) text = do
  first ← unit_order_at m b u (first_line_of text).0
  others ← unit_orders_at m b us (first_line_of text).1
  Some (first ∷ others)

-- an order stands after these of its power: they come before it by province
abbrev pub may_follow : List PlacedOrder → PlacedOrder → Bool
may_follow beside o = list_all (λ x. nat_lt x.unit.place.prov o.unit.place.prov) beside

-- the orders with one more, that a Winter's line gives beside those of its power above it
unfoldable pub build_line_at : Chart → Position → List PlacedOrder → ℕ → List ℕ → Option (List PlacedOrder)
build_line_at m b given power words = do
  placed ← result_ok (order_of m b power (orders_of_power power given) words)
  if may_follow (orders_of_power power given) placed then Some (given ++ placed ∷ []) else None

-- the orders after what a line says of a power's unit: what was removed in disorder was no order
unfoldable pub told_line_at : Chart → Position → List PlacedOrder → ℕ → List ℕ → Option (List PlacedOrder)
told_line_at m b given power words = do
  parts ← cut_at 58 words
  if bytes_eq parts.1 (codes " removed in disorder") then Some given else build_line_at m b given power parts.0

-- the orders after what a line says of a power: waived builds are no order
unfoldable pub power_line_at : Chart → Position → List PlacedOrder → ℕ → List ℕ → Option (List PlacedOrder)
power_line_at m b given power words = if is_some (after_name (codes "waives ") words) then Some given else told_line_at m b given power words

-- the orders after a Winter's line
unfoldable pub winter_line_at : Chart → Position → List PlacedOrder → List ℕ → Option (List PlacedOrder)
winter_line_at m b given line = do
  parts ← word_at line
  power ← power_of m parts.0
  power_line_at m b given power parts.1

-- the orders of a Winter, up to the game line
abbrev pub winter_orders_at : Chart → Position → List (List ℕ) → List PlacedOrder → Option (List PlacedOrder)
winter_orders_at m b [] given = Some given
winter_orders_at m b (line ∷ lines) given =
    if is_some (after_name (codes "GAME ") line) then Some given else (winter_line_at m b given line >>= winter_orders_at m b lines)

-- a line was taken, and these are the orders after it; or none was
abbrev pub Takes : Option (List PlacedOrder) → Bool → List PlacedOrder → Type 0
Takes None took new = took ≡ false
Takes (Some orders) took new = (took ≡ true) × (new ≡ orders)

-- the orders that the paper of a phase of that season prints
abbrev pub orders_printed_at : Chart → Position → List ℕ → Season → Option (List PlacedOrder)
orders_printed_at m b text SpringMoves = unit_orders_at m b (units_by_place m b.units) (first_line_of text).1
orders_printed_at m b text SpringRetreats = unit_orders_at m b (units_by_place m (map (λ d. d.unit) b.dislodged)) (first_line_of text).1
orders_printed_at m b text FallMoves = unit_orders_at m b (units_by_place m b.units) (first_line_of text).1
orders_printed_at m b text FallRetreats = unit_orders_at m b (units_by_place m (map (λ d. d.unit) b.dislodged)) (first_line_of text).1
orders_printed_at m b text Winter = winter_orders_at m b (split_lines (first_line_of text).1) []

-- what the code read is what there is to read
abbrev pub IsPrinted : Option (List PlacedOrder) → Printed → Type 0
IsPrinted read (Orders orders) = read ≡ Some orders.items
IsPrinted read (NoOrder fault) = read ≡ None

-- orders that were read stand for those that were given: they can be given, come by place, and are adjudicated like them
pub record StandFor (m : Chart) (b : Position) (orders read : List PlacedOrder) : Type 0 where
  pub given : AreGiven m b read
  pub by_place : are_by_place read ≡ true
  pub alike : (new : Position) (report : Report) → IsPlayed m b orders new report → IsPlayed m b read new report
