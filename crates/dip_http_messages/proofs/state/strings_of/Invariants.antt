use Rattle.std.proofs.Common.{◌≡◌, map}
use Rattle.serde_json.specs.Data.{string}
use Rattle.serde_json.specs.View.{view}
use Rattle.dip_http_messages.proofs.state.strings_of.Given as goal

abbrev pub invariant-lines : goal.invariant-lines
invariant-lines l = map view l.values.items ≡ map (λ x. string x.now) l.yielded
