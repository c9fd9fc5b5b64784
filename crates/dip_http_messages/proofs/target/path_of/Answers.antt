use Rattle.std.proofs.Common.{rules, sym, subst, List, ℕ, ◌≡◌}
use Rattle.std.specs.Str.{IsAscii, IsUtf8}
use Rattle.std.proofs.lemmas.Str.{IsUtf8-from_ascii}
use Rattle.dip_http_messages.specs.Targets.{before_query}
use Rattle.dip_http_messages.proofs.TargetLemmas.{path_ascii}
use Rattle.dip_http_messages.proofs.target.path_of.Goals as goal

pub unwrap-requires : goal.unwrap-requires
unwrap-requires c =
    let text : IsUtf8 c.before_query.result.now = subst (λ (t : List ℕ). IsUtf8 t) (sym c.before_query.ensures) (IsUtf8-from_ascii _ (path_ascii c.args.target.now c.requires)) in
    search rules

pub returns-clause-ascii : goal.returns-clause-ascii
returns-clause-ascii c =
    let path : c.unwrap.result.now ≡ before_query c.args.target.now = search rules in
    subst (λ (t : List ℕ). IsAscii t) (sym path) (path_ascii c.args.target.now c.requires)
