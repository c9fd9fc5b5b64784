use Rattle.dip_orders_lines.proofs.TokenLaws.{word_run}
use Rattle.dip_orders_lines.proofs.words.word_front.Goals as goal

pub returns : goal.returns
returns c = rw (c.split_at-parts.ensures.front, c.split_at-parts.ensures.back, c.word_len.ensures.value) (word_run c.args.text.now c.requires (rw c.word_len.ensures.value at c.word_len.ensures.bound))
