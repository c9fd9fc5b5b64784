use Rattle.dip_orders_lines.proofs.ReadingLaws.{says_read, read_says}
use Rattle.dip_orders_lines.proofs.TextLaws.{canonical_says}
use Rattle.dip_orders_lines.proofs.laws.forms_are_read.Goals as goal

pub returns : goal.returns
returns c = record { said = says_read; read = read_says; again = canonical_says }
