use Rattle.std.proofs.Common.{rules, ◌==◌}
use Rattle.std.specs.List.{list_any}
use Rattle.std.proofs.lemmas.Fn.{filter_same}
use Rattle.dip_store_counts.proofs.readers.readers_among.Goals as goal

pub returns : goal.returns
returns c = filter_same _ (λ r. list_any (λ p. p == r.power) c.args.powers.now) _ (λ x b f t. search rules) _ _ c.retain.ensures.filtered
