use Rattle.dip_store_tables.proofs.Told.{change_texts}
use Rattle.dip_store_tables.proofs.legible_texts.has_texts.Goals as goal

pub returns : goal.returns
returns c = change_texts c.args.change.now
