use Rattle.std.proofs.Common.{rules}
use Rattle.dip_http.proofs.ServingLemmas.{met_nobody}
use Rattle.dip_http.proofs.serving.serve_next.Goals as goal

pub returns-in_default : goal.returns-in_default
returns-in_default g c = record {
  ends = λ it honest. met_nobody c.args.map.now g.K.Keeper.book c.args.keeper.now it;
  lawful = search rules;
  never = search rules;
  failed = search rules;
  shut = search rules;
  count = search rules;
  told = search rules;
  fair = search rules;
  same_map = search rules;
  shown = search rules;
}
