use Rattle.std.proofs.Common.{None, ap, map, refl, ◌∙◌}
use Rattle.std.specs.Str.Iter.{lines_rest}
use Rattle.std.proofs.lemmas.Iterator.Consumers.{YieldsList-end}
use Rattle.std.proofs.lemmas.Iterator.Splits.{YieldsList-from_lines}
use Rattle.serde_json.specs.Data.{string}
use Rattle.serde_json.specs.View.{items_of}
use Rattle.dip_http_messages.proofs.TextLemmas.{map_fused}
use Rattle.dip_http_messages.proofs.state.strings_of.Goals as goal

pub returns : goal.returns
returns c =
    let rest = ap lines_rest c.into_iter-line-iterator.ensures.into_iter_gives ∙ c.lines-line-items.ensures.rest in
    let all = (YieldsList-end (YieldsList-from_lines c.args.text.now rest) c.lines.yielded c.lines.line-iterator c.lines.yielded_by None c.next.new.self refl c.in-None.ensures.steps).0 in
    ap items_of (c.lines.invariant ∙ (map_fused (λ t. string t) (λ x. x.now) c.lines.yielded ∙ ap (map (λ t. string t)) all))
