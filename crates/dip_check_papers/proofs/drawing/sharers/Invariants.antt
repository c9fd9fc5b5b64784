use Rattle.std.proofs.Common.{◌≡◌, ◌++◌, filter, map}
use Rattle.dip_check_papers.specs.Shared.{is_sharer, sharers}
use Rattle.dip_check_papers.proofs.drawing.sharers.Given as goal

abbrev pub invariant-loop-power : goal.invariant-loop-power
invariant-loop-power l =
    l.powers.items ++ filter (is_sharer l.map l.board (map (λ x. x.now) l.words)) l.power-iterator ≡ sharers l.map l.board (map (λ x. x.now) l.words)
