use Rattle.std.proofs.Common.{◌≡◌, ◌<◌, ◌∙◌, sym, length, false}
use Rattle.std.proofs.lemmas.List.{length-map}
use Rattle.dip_map_chart.specs.Walk.{rows_of}
use Rattle.dip_map_chart.specs.Levels.{is_quiet, sweep_from}
use Rattle.dip_map_chart.proofs.Reach.{level_start, level_step, level_end, unmarked}
use Rattle.dip_map_chart.proofs.search.least_distances.Goals as goal

pub levels-init : goal.levels-init
levels-init c =
    let few : length (rows_of c.args.graph.now) < 999 = rw length-map c.requires.few in
    let same : length c.args.homes.now ≡ length (rows_of c.args.graph.now) = rw length-map c.requires.same in
    rw c.in_ok-distances.ensures (level_start _ _ same few)

pub levels-smaller : goal.levels-smaller
levels-smaller c =
    let goes_on : is_quiet c.levels.distances.items c.levels.level 0 (rows_of c.args.graph.now) ≡ false = rw (← c.as_slice.ensures.value) (sym c.is_quiet.ensures ∙ c.levels-test.true) in
    let made : c.in_ok-distances-2.distances.items ≡ sweep_from c.levels.distances.items c.levels.level 0 (rows_of c.args.graph.now) = rw (← c.as_slice-in-levels.ensures.value) c.in_ok-distances-2.ensures in
    let less : unmarked c.in_ok-distances-2.distances.items < unmarked c.levels.distances.items = rw made (level_step _ c.args.homes.now _ _ c.levels.invariant goes_on).1 in
    less

pub levels-preserved : goal.levels-preserved
levels-preserved c =
    let goes_on : is_quiet c.levels.distances.items c.levels.level 0 (rows_of c.args.graph.now) ≡ false = rw (← c.as_slice.ensures.value) (sym c.is_quiet.ensures ∙ c.levels-test.true) in
    let made : c.in_ok-distances-2.distances.items ≡ sweep_from c.levels.distances.items c.levels.level 0 (rows_of c.args.graph.now) = rw (← c.as_slice-in-levels.ensures.value) c.in_ok-distances-2.ensures in
    rw made (level_step _ c.args.homes.now _ _ c.levels.invariant goes_on).0

pub returns : goal.returns
returns c = level_end _ _ _ _ c.levels.invariant (rw (← c.as_slice.ensures.value) (sym c.is_quiet.ensures ∙ c.levels-test.false))
