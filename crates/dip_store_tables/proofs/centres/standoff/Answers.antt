use Rattle.std.proofs.Common.{rules, ◌≡◌, ◌≤◌, ◌++◌, [], ◌∷◌, length, take, Some}
use Rattle.dip_map.specs.Charts.{prov_of}
use Rattle.dip_store_tables.proofs.Listed.{turn}
use Rattle.dip_store_tables.proofs.centres.standoff.Goals as goal

pub loop-rest-preserved : goal.loop-rest-preserved
loop-rest-preserved c =
    let found : prov_of c.args.map.now (take 3 c.loop-rest.rest.now) ≡ Some c.in-Some.prov = search rules in
    let low : 4 ≤ length c.loop-rest.rest.now = search rules in
    let pushed : c.push.new.self.items ≡ c.loop-rest.provs.items ++ c.in-Some.prov ∷ [] = search rules in
    rw (pushed, c.after_code-rest.ensures)
    (turn c.args.map.now c.facts.ensures c.args.text.now c.loop-rest.rest.now c.loop-rest.provs.items c.in-Some.prov found low c.loop-rest.invariant)
