use Rattle.std.proofs.Common.{◌≡◌, List, ap, ◌∙◌}
use Rattle.dip_map.specs.Boards.{Position}
use Rattle.dip_orders_placed.specs.declared.placed.PlacedOrder.{PlacedOrder}
use Rattle.dip_decide.specs.Meaning.{meant_on}
use Rattle.dip_decide.specs.Results.{values_in}
use Rattle.dip_turn_phases.specs.Moving.{moved_board, without_destroyed}
use Rattle.dip_turn_phases.specs.Outcomes.{lines_on}
use Rattle.dip_turn.proofs.playing.move_units.Goals as goal

pub returns : goal.returns
returns c =
    let m = c.args.map.now in
    let a = values_in c.in_ok-resolution.resolution in
    let orders = c.in_ok-orders.orders in
    let meant : c.in_ok-meant.meant.items ≡ meant_on m c.args.board.now orders =
    c.in_ok-meant.ensures ∙ ap (meant_on m c.args.board.now) c.as_slice.ensures in
    let moved : c.in_ok-moved.moved ≡ moved_board m c.args.board.now a (meant_on m c.args.board.now orders) =
    c.in_ok-moved.ensures ∙ ap (λ (os : List PlacedOrder). moved_board m c.args.board.now a os) (c.as_slice-2.ensures.value ∙ meant) in
    record {
      orders = c.in_ok-orders.ensures.value;
      equations = c.in_ok-resolution.ensures.equations;
      explained = c.in_ok-resolution.ensures.explained;
      only = c.in_ok-resolution.ensures.only;
      broken = c.in_ok-resolution.ensures.broken;
      few = c.in_ok-resolution.ensures.few;
      ordered = c.in_ok-resolution.ensures.ordered;
      counted = c.in_ok-resolution.ensures.counted;
      tested = c.in_ok-resolution.ensures.tested;
      board = c.in_ok-left.ensures ∙ ap (without_destroyed m) moved;
      lines =
          c.in_ok-lines.ensures
          ∙ ap (λ (os : List PlacedOrder). lines_on m c.in_ok-moved.moved a os c.as_slice-4.result.now) (c.as_slice-3.ensures.value ∙ meant)
          ∙ ap (lines_on m c.in_ok-moved.moved a (meant_on m c.args.board.now orders)) c.as_slice-4.ensures
          ∙ ap (λ (b : Position). lines_on m b a (meant_on m c.args.board.now orders) orders) moved;
    }
