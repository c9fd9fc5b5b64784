use Rattle.dip_decide_laws.proofs.PlayLemmas as play
use Rattle.dip_decide_laws.proofs.laws.losers_prevent_nobody.Goals as goal

pub returns : goal.returns
returns c m b orders a loser winner w d there here one faced won goes apart way rivals = play.let_in m b orders a d loser winner w there here one faced won goes apart way rivals
