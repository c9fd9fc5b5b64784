use Rattle.std.proofs.Common.{◌≡◌, filter, rules}
use Rattle.std.proofs.lemmas.Fn.{filter_same}
use Rattle.dip_orders_placed.specs.Retreats.{is_open}
use Rattle.dip_orders_placed.proofs.RetreatLaws.{retreats_exact, retreats_single}
use Rattle.dip_orders_placed.proofs.retreating.retreats.Goals as goal

pub returns-clause-value : goal.returns-clause-value
returns-clause-value c =
    let kept : c.retain.new.self.items ≡ filter (λ a. is_open c.args.board.now c.args.unit.now.origin a.prov) c.in_ok-places.places.items =
    filter_same _ (λ a. is_open c.args.board.now c.args.unit.now.origin a.prov) _ (λ x b f t. search rules) _ _ c.retain.ensures.filtered in
    rw c.in_ok-places.ensures at kept

pub returns-clause-exact : goal.returns-clause-exact
returns-clause-exact c a = rw (returns-clause-value c) (retreats_exact c.args.map.now c.args.board.now c.args.unit.now a)

pub returns-clause-single : goal.returns-clause-single
returns-clause-single c = rw (returns-clause-value c) (retreats_single c.args.map.now c.args.board.now c.args.unit.now c.facts.ensures.army_single c.facts.ensures.fleet_single)
