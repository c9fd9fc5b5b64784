use Rattle.std.proofs.Common.{◌≡◌, ◌+◌, length}
use Rattle.dip_letters.specs.Views.{lines_in}
use Rattle.dip_desk_games.specs.Ordering.{after_lines}
use Rattle.dip_desk_machine.specs.OrderingRows.{so_far}
use Rattle.dip_desk_machine.proofs.ordering.take_lines.Given as goal

abbrev pub invariant-loop-line : goal.invariant-loop-line
invariant-loop-line l =
    (goal.iterator-loop-line).can_next l.line-iterator × (goal.iterator-loop-line).is_finite l.line-iterator
    × (l.number + length (lines_in l.line-iterator) ≡ length (lines_in l.fn.lines))
    × (after_lines l.map l.board l.power (l.number + 1) (lines_in l.line-iterator) (so_far l.ordered) ≡ after_lines l.map l.board l.power 1 (lines_in l.fn.lines) (so_far l.initial.ordered))
