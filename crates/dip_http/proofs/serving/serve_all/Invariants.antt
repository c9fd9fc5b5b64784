use Rattle.std.proofs.Common.{◌≡◌, ◌≤◌, ◌-◌}
use Rattle.dip_desk_keeper.specs.Keeping.{IsOpen}
use Rattle.dip_http.proofs.ServingLemmas.{HasMet}
use Rattle.dip_http.specs.Serving.{MeetsTo}
use Rattle.dip_http.proofs.serving.serve_all.Given as goal

abbrev pub invariant-clients : goal.invariant-clients
invariant-clients g l = let b = g.K.Keeper.book in record {
  most : l.served ≤ l.fn.count;
  count : b.faults l.keeper ≡ b.faults l.fn.keeper;
  fair : b.honest l.keeper → b.honest l.fn.keeper;
  same_map : b.map_sum l.keeper ≡ b.map_sum l.fn.keeper;
  told : b.told l.fn.keeper ≤ b.told l.keeper;
  ends : IsOpen l.fn.map b l.fn.keeper → b.honest l.keeper → MeetsTo l.fn.map b l.served l.fn.keeper l.keeper;
  met : IsOpen l.fn.map b l.fn.keeper → b.honest l.keeper → b.shows l.keeper → HasMet l.fn.map b l.served l.fn.keeper l.keeper;
}

abbrev pub decreases-clients : goal.decreases-clients
decreases-clients g l = l.fn.count - l.served
