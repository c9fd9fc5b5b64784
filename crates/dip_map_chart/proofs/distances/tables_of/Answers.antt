use Rattle.std.proofs.Common.{ℕ, List, ap, ◌∙◌}
use Rattle.std.specs.Prelude.{Vec}
use Rattle.std.specs.declared.alloc.Global.{Global}
use Rattle.dip_map_chart.specs.Walk.{rows_of}
use Rattle.dip_map_chart.proofs.DistanceLaws.{few_rows, tables_more}
use Rattle.dip_map_chart.proofs.distances.tables_of.Goals as goal

pub least_distances-requires-clause-few : goal.least_distances-requires-clause-few
least_distances-requires-clause-few c =
    let same = ap (λ (g : List (Vec ℕ Global)). rows_of g) c.as_slice.ensures.value ∙ c.in_ok-graph.ensures in
    few_rows c.args.parts.now c.args.kind _ c.requires.provinces_most same

pub loop-number-preserved : goal.loop-number-preserved
loop-number-preserved c =
    let same_graph = ap (λ (g : List (Vec ℕ Global)). rows_of g) c.as_slice.ensures.value ∙ c.in_ok-graph.ensures in
    let same_homes = c.as_slice-in-loop-number.ensures.value ∙ c.in_ok-homes.ensures in
    rw c.in_ok-push.ensures.items
    (tables_more c.args.parts.now c.args.kind c.loop-number.number _ _ _ _ _ c.loop-number.invariant same_graph same_homes c.new.ensures c.in_ok-table.ensures)
