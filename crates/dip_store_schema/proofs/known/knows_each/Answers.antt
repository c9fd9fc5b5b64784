use Rattle.std.proofs.Common.{Bool, Bor, List, [], ℕ, arith, slice_index_or, subst, true}
use Rattle.sqlite.specs.Held.{state}
use Rattle.sqlite.specs.State.{HasCleanDisk}
use Rattle.sqlite.specs.Effect.{Database}
use Rattle.sqlite.specs.declared.error.Error.{Error}
use Rattle.dip_store_schema.specs.Known.{IsKnown}
use Rattle.dip_store_sql.proofs.Parts.{went}
use Rattle.dip_store_schema.proofs.Alone.{alone_as, alone_then}
use Rattle.dip_store_schema.proofs.Listed.{one_more}
use Rattle.dip_store_schema.proofs.known.knows_each.Goals as goal

pub loop-text-preserved : goal.loop-text-preserved
loop-text-preserved g c =
    let loop = c.loop-text in
    let call = c.in_ok-is_known.ensures in
    record {
      alone = alone_as g.S.Store c.args.conn.now c.is_known.new.conn c.in_ok-is_known.field-0 true
          (alone_then g.S.Store c.args.conn.now loop.conn c.is_known.new.conn true (went Bool Error c.in_ok-is_known.field-0) loop.invariant.alone call.alone);
      open_so = λ clean how. call.shown clean;
      known = λ clean.
          let before : HasCleanDisk (state g.S.Store loop.conn) = omega (arith, clean, call.alone.survives.clean) in
          let up = (call.alone.same clean (call.shown clean)).0.was_open in
          let same = (loop.invariant.alone.same before up).0.now_is in
          let d : Bor (List ℕ) = record { ref_ptr = (0, 0); now = [] } in
          one_more (λ t. IsKnown c.args.conn.now.schema t.now) c.args.texts.now loop.text-index d (loop.invariant.known before) c.loop-text-test.true
          (subst (λ (s : Database). IsKnown s.schema (slice_index_or c.args.texts.now loop.text-index d).now) same ((call.answer clean).0 c.if-not-branch.false));
    }
