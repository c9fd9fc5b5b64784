-- The next phase, and whether the game goes on, as functions of the board that a phase left.
use Rattle.std.specs.Prelude.{ℕ, ◌+◌, ◌==◌, nat_lt, nat_le, not, ◌&&◌, Bool, length, Option, None, Some, if◌then◌else◌}
use Rattle.std.specs.List.{list_any}
use Rattle.dip_map.specs.Charts.{Chart, powers}
use Rattle.dip_map.specs.declared.boards.Season.{Season}
use Rattle.dip_map.specs.declared.boards.Season.TheVariants.{SpringMoves, SpringRetreats, FallMoves, FallRetreats, Winter}
use Rattle.dip_map.specs.Boards.{Position}
use Rattle.dip_orders_placed.specs.Allowances.{builds_due, removals_due}
use Rattle.dip_turn_phases.specs.Centres.{with_owners, winner}
use Rattle.dip_turn_phases.specs.declared.lines.Course.{Course}
use Rattle.dip_turn_phases.specs.declared.lines.Course.TheVariants.{GoesOn, Won, Ended}

-- the last year of a game
abbrev pub last_year : ℕ
last_year = 2900

-- a power has to build or remove: its allowance isn't 0
abbrev pub is_uneven : Chart → Position → ℕ → Bool
is_uneven m b power = not ((builds_due m b power == 0) && (removals_due b power == 0))

-- some power's allowance isn't 0
abbrev pub needs_adjustment : Chart → Position → Bool
needs_adjustment m b = list_any (is_uneven m b) (powers m)

-- a board, and whether its game goes on
pub record Sequel : Type 0 where
  pub board : Position
  pub course : Course

abbrev pub sequel : Position → Course → Sequel
sequel b c = record { board = b; course = c }

-- the board with everything as it stands, in another phase
abbrev pub in_phase : Position → ℕ → Season → Position
in_phase b year season = record b { phase = record { year = year; season = season } }

-- the game goes on in another season of the year
abbrev pub goes_on : Position → Season → Sequel
goes_on b season = sequel (in_phase b b.phase.year season) GoesOn

-- after the last phase of a year comes the next year's Spring; the last year's ends the game, which keeps its phase
abbrev pub new_year : Position → Sequel
new_year b = if nat_le last_year b.phase.year then sequel b Ended else sequel (in_phase b (b.phase.year + 1) SpringMoves) GoesOn

-- after the centres changed hands: a game that is won keeps its phase; Winter is skipped where every allowance is 0
abbrev pub after_count : Chart → Position → Option ℕ → Sequel
after_count m b (Some power) = sequel b (Won power)
after_count m b None = if needs_adjustment m b then goes_on b Winter else new_year b

-- after Fall and its retreats the centres change hands
abbrev pub year_end : Chart → Position → Sequel
year_end m b = after_count m (with_owners m b) (winner m (with_owners m b))

-- somebody is dislodged
abbrev pub has_dislodged : Position → Bool
has_dislodged b = nat_lt 0 (length b.dislodged)

-- what follows a phase, on the board that it left; retreats are skipped where nobody is dislodged any more
abbrev pub follow : Chart → Season → Position → Sequel
follow m SpringMoves b = if has_dislodged b then goes_on b SpringRetreats else goes_on b FallMoves
follow m SpringRetreats b = goes_on b FallMoves
follow m FallMoves b = if has_dislodged b then goes_on b FallRetreats else year_end m b
follow m FallRetreats b = year_end m b
follow m Winter b = new_year b
