use Rattle.dip_orders_lines.proofs.SpellingLaws.{tokens_law}
use Rattle.dip_orders_lines.proofs.words.tokens.Goals as goal

pub returns : goal.returns
returns c =
    let value = rw c.as_bytes.ensures.value at c.scan.ensures in
    let law = tokens_law c.args.line.now c.scan.result value in
    record { value = value; found = law.0; none = law.1 }
