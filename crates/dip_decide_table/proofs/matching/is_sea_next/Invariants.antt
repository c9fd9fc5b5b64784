use Rattle.std.proofs.Common.{◌≡◌, ◌==◌, drop}
use Rattle.std.specs.List.{list_any}
use Rattle.dip_map.specs.Charts.{province}
use Rattle.dip_decide_table.proofs.matching.is_sea_next.Given as goal

abbrev pub invariant-loop-index : goal.invariant-loop-index
invariant-loop-index l = list_any (λ s. list_any (λ b. b.prov == l.q) s.next) (drop l.index (province l.map l.p).shores) ≡ list_any (λ s. list_any (λ b. b.prov == l.q) s.next) (province l.map l.p).shores
