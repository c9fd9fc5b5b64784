use Rattle.std.proofs.Common.{◌≤◌, arith, length}
use Rattle.dip_check_runs.proofs.InputLemmas.{fewer_to_read}
use Rattle.dip_check_runs.proofs.input.front_size.Goals as goal

pub pieces-smaller : goal.pieces-smaller
pieces-smaller g c =
    let few : length c.pieces.ahead.bytes.items ≤ 1048576 = omega (arith, c.if-len-gt-MOST_PAPER.false, c.len-in-pieces.ensures) in
    fewer_to_read _ _ _ _ c.if-ahead.false few c.in_ok-read_piece.ensures.nearer
