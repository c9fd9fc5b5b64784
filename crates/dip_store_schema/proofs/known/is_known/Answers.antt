use Rattle.std.proofs.Common.{Bool, false, sym, ◌∙◌}
use Rattle.sqlite.specs.Held.{state}
use Rattle.dip_store_sql.proofs.Missing.{missing}
use Rattle.dip_store_schema.proofs.Prepared.{alone_err, alone_ok, of_text, told_caused}
use Rattle.dip_store_schema.proofs.known.is_known.Goals as goal

pub returns-then-is_of_text : goal.returns-then-is_of_text
returns-then-is_of_text g c =
    let old = c.args.conn.now in
    let new = c.prepare.new.self in
    let wrong = of_text c.in-Err.error (sym c.is_of_text.ensures ∙ c.if-is_of_text.true) in
    record {
      answer = λ clean. (λ yes. absurd (let e = yes in cc), λ known. absurd ((missing c.args.text.now (state g.S.Store old) (state g.S.Store new) c.in-Err.error (c.in-Err.ensures.err clean) wrong).0 known.0 known.1));
      alone = alone_ok g.S.Store old new c.prepare.ensures.survives c.prepare.ensures.mode false
          (λ clean. (missing c.args.text.now (state g.S.Store old) (state g.S.Store new) c.in-Err.error (c.in-Err.ensures.err clean) wrong).1);
      shown = λ clean. (missing c.args.text.now (state g.S.Store old) (state g.S.Store new) c.in-Err.error (c.in-Err.ensures.err clean) wrong).1.0.is_open;
      outside = λ clean up whole. tt;
    }

pub returns-else-is_of_text : goal.returns-else-is_of_text
returns-else-is_of_text g c = record {
  answer = λ clean. tt;
  shown = λ clean. tt;
  alone = alone_err g.S.Store c.args.conn.now c.prepare.new.self c.prepare.ensures.survives c.prepare.ensures.mode Bool c.args.text.now c.in-Err.error c.in-Err.ensures.err;
  outside = λ clean up whole. told_caused c.args.text.now (state g.S.Store c.args.conn.now) (state g.S.Store c.prepare.new.self) c.in-Err.error (c.in-Err.ensures.err clean) up whole (sym c.is_of_text.ensures ∙ c.if-is_of_text.false);
}
