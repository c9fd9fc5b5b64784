use Rattle.std.proofs.Common.{arith, length, refl}
use Rattle.dip_decide_rules.specs.declared.decisions.Decision.TheVariants.{Move, Path, Support}
use Rattle.dip_decide_rules.specs.Given.{situation_of}
use Rattle.dip_decide_rules.specs.Movement.{is_decided}
use Rattle.dip_decide.proofs.Opened.{has_target, helps, no_help, none_opened, opens, row_more, sails}
use Rattle.dip_decide.proofs.starting.values_at_start.Goals as goal

pub loop-p-init : goal.loop-p-init
loop-p-init c =
    let t = c.args.table.now in
    let size = length t.rows.items in
    record {
      moves = none_opened size (λ q. is_decided (situation_of t) (Move q)) c.in_ok-values.values.moves.items (rw c.as_slice.ensures.value at c.in_ok-values.ensures.moves);
      paths = none_opened size (λ q. is_decided (situation_of t) (Path q)) c.in_ok-values.values.paths.items (rw c.as_slice.ensures.value at c.in_ok-values.ensures.paths);
      supports = none_opened size (λ q. is_decided (situation_of t) (Support q)) c.in_ok-values.values.supports.items (rw c.as_slice.ensures.value at c.in_ok-values.ensures.supports);
    }

pub loop-p-preserved : goal.loop-p-preserved
loop-p-preserved c =
    let t = c.args.table.now in
    let p = c.p-item.result in
    let within = rw c.deref-p-items.ensures.value at c.loop-p-test.true in
    let is = rw c.deref-p-items.ensures.value at c.p-item.is in
    record {
      moves = rw c.put_unit.ensures.moves (row_more t has_target refl c.loop-p.p-index p c.loop-p.values.moves.items within is c.loop-p.invariant.moves);
      paths = rw c.put_unit.ensures.paths (row_more t (sails t) refl c.loop-p.p-index p c.loop-p.values.paths.items within is c.loop-p.invariant.paths);
      supports = rw c.put_unit.ensures.supports (row_more t (helps t) (no_help t) c.loop-p.p-index p c.loop-p.values.supports.items within is c.loop-p.invariant.supports);
    }

pub returns : goal.returns
returns c = let e = rw c.deref-p-items.ensures.value at c.loop-p-test.false in opens c.args.table.now c.loop-p.values c.loop-p.p-index (omega (arith, e)) c.loop-p.invariant.moves c.loop-p.invariant.paths c.loop-p.invariant.supports
