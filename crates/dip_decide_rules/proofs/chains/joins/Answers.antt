use Rattle.std.proofs.Common.{◌<◌, ◌≤◌, length, sym, ◌∙◌, arith}
use Rattle.dip_decide_rules.specs.Given.{situation_of}
use Rattle.dip_decide_rules.proofs.Giving.{listed_at}
use Rattle.dip_decide_rules.proofs.Searches.{seek_first, seek_found, seek_on, seek_none, seek_short}
use Rattle.dip_decide_rules.proofs.chains.joins.Goals as goal

pub loop-visited-init : goal.loop-visited-init
loop-visited-init c = seek_first (situation_of c.args.table.now).next c.args.fleets.now c.args.to c.args.from _ (rw c.clear.ensures.items at c.in_ok-spread.ensures)

pub returns-then-is_next : goal.returns-then-is_next
returns-then-is_next c =
    let k = c.loop-visited.reached.ok.0 in
    let l : c.loop-visited.visited < length c.loop-visited.reached.items = omega (arith, c.loop-visited-test.true, c.len.ensures, k) in
    let m = listed_at c.loop-visited.reached.items c.loop-visited.visited c.index-fleet.result.now l c.index-fleet.ensures in
    seek_found (situation_of c.args.table.now).next c.args.fleets.now c.args.to c.args.from c.loop-visited.reached.items c.loop-visited.visited c.index-fleet.result.now c.loop-visited.invariant m (sym c.is_next.ensures ∙ c.if-is_next.true)

pub loop-visited-smaller : goal.loop-visited-smaller
loop-visited-smaller c =
    let s = seek_short (situation_of c.args.table.now).next c.args.fleets.now c.args.to c.args.from c.loop-visited.reached.items c.loop-visited.visited c.loop-visited.invariant in
    let k = c.loop-visited.reached.ok.0 in
    let l : c.loop-visited.visited < length c.loop-visited.reached.items = omega (arith, c.loop-visited-test.true, c.len.ensures, k) in
    omega arith

pub loop-visited-preserved : goal.loop-visited-preserved
loop-visited-preserved c =
    let k = c.loop-visited.reached.ok.0 in
    let l : c.loop-visited.visited < length c.loop-visited.reached.items = omega (arith, c.loop-visited-test.true, c.len.ensures, k) in
    let m = listed_at c.loop-visited.reached.items c.loop-visited.visited c.index-fleet.result.now l c.index-fleet.ensures in
    seek_on (situation_of c.args.table.now).next c.args.fleets.now c.args.to c.args.from c.loop-visited.reached.items c.spread-in-loop-visited.new.reached.items c.loop-visited.visited c.index-fleet.result.now c.loop-visited.invariant l c.index-fleet.ensures m (sym c.is_next.ensures ∙ c.if-is_next.false) c.in_ok-spread-2.ensures

pub returns : goal.returns
returns c =
    let k = c.loop-visited.reached.ok.0 in
    let l : length c.loop-visited.reached.items ≤ c.loop-visited.visited = omega (arith, c.loop-visited-test.false, c.len.ensures, k) in
    seek_none (situation_of c.args.table.now).next c.args.fleets.now c.args.to c.args.from c.loop-visited.reached.items c.loop-visited.visited c.loop-visited.invariant l
