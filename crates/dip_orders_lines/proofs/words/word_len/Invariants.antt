use Rattle.std.proofs.Common.{◌≡◌, ◌+◌, drop}
use Rattle.dip_orders_lines.specs.Scan.{word_length}
use Rattle.dip_orders_lines.proofs.words.word_len.Given as goal

abbrev pub invariant-loop-b : goal.invariant-loop-b
invariant-loop-b l = (l.length ≡ l.b-index) × (l.length + word_length (drop l.b-index l.text) ≡ word_length l.text)
