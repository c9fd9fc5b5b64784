use Rattle.std.proofs.Common.{◌∙◌, ap}
use Rattle.dip_decide_table.specs.Matching.{situation}
use Rattle.dip_decide_table.proofs.Meanings.{meant_within}
use Rattle.dip_decide_table.proofs.Plain.{if_ok_more}
use Rattle.dip_decide_table.proofs.meaning.table_on.Goals as goal

pub table_of-requires : goal.table_of-requires
table_of-requires c = record { within = rw (c.as_slice.ensures.value) (rw (c.in_ok-meant.ensures) (meant_within c.args.map.now c.args.board.now c.args.orders.now c.requires.within)) }

pub returns : goal.returns
returns c = if_ok_more _ _ c.table_of.result (λ t h. h ∙ ap (situation c.args.map.now) (c.as_slice.ensures.value ∙ c.in_ok-meant.ensures)) c.table_of.ensures
