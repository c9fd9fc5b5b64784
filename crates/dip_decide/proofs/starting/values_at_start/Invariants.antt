use Rattle.std.proofs.Common.{length, take}
use Rattle.dip_decide_rules.specs.declared.decisions.Decision.TheVariants.{Move, Path, Support}
use Rattle.dip_decide_rules.specs.Given.{situation_of, IsOpened}
use Rattle.dip_decide_rules.specs.Movement.{is_decided}
use Rattle.dip_decide.proofs.starting.values_at_start.Given as goal

abbrev pub invariant-loop-p : goal.invariant-loop-p
invariant-loop-p l = record {
  moves : IsOpened (length l.table.rows.items) (λ q. is_decided (situation_of l.table) (Move q)) (take l.p-index l.table.places.items) l.values.moves.items;
  paths : IsOpened (length l.table.rows.items) (λ q. is_decided (situation_of l.table) (Path q)) (take l.p-index l.table.places.items) l.values.paths.items;
  supports : IsOpened (length l.table.rows.items) (λ q. is_decided (situation_of l.table) (Support q)) (take l.p-index l.table.places.items) l.values.supports.items;
}
