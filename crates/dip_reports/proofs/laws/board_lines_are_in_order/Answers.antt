use Rattle.dip_reports.proofs.OrderLaws.{in_order}
use Rattle.dip_reports.proofs.laws.board_lines_are_in_order.Goals as goal

pub returns : goal.returns
returns c = in_order
