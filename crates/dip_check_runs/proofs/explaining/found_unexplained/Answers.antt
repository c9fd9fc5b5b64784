use Rattle.std.proofs.Common.{ap, ◌∙◌}
use Rattle.dip_check_runs.proofs.RunLemmas.{unexplained_idle, unexplained_wrong}
use Rattle.dip_check_runs.proofs.explaining.found_unexplained.Goals.{in-Right+in_ok-text-in-Right, in_default+in_ok-text-in_default}
use Rattle.dip_check_runs.proofs.explaining.found_unexplained.Goals as goal

pub returns : goal.returns
returns c = elim c.match-said.branch [
  | in-Right+in_ok-text-in-Right w ↦
      unexplained_idle c.args.map.now c.args.game.now c.args.paper.now c.in_ok-said.said _ c.match-said.text.items c.in_ok-said.ensures w.in-Right.is
      (ap (λ v. v.items) w.text-is ∙ w.in_ok-text-in-Right.ensures)
  | in_default+in_ok-text-in_default w ↦
      unexplained_wrong c.args.map.now c.args.game.now c.args.paper.now c.in_ok-said.said c.match-said.text.items c.in_ok-said.ensures w.in_default.not-Right
      (ap (λ v. v.items) w.text-is ∙ w.in_ok-text-in_default.ensures)
]
