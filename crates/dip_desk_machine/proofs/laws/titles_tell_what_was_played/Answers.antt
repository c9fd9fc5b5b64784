use Rattle.dip_desk_machine.proofs.Titled.{titles_tell}
use Rattle.dip_desk_machine.proofs.laws.titles_tell_what_was_played.Goals as goal

pub returns : goal.returns
returns c = titles_tell
