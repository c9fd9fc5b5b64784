use Rattle.dip_decide_laws.proofs.PlayLemmas as play
use Rattle.dip_decide_laws.proofs.laws.strongest_enter.Goals as goal

pub returns-clause-open : goal.returns-clause-open
returns-clause-open c m b orders a w q d there goes way left others = play.enters m b orders a d w q there goes way left others

pub returns-clause-held : goal.returns-clause-held
returns-clause-held c m b orders a o w d there here stays goes way more others = play.thrown_out m b orders a d o w there here stays goes way more others
