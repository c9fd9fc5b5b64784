use Rattle.std.proofs.Common.{arith, rules, List, ℕ, subst, ◌∙◌}
use Rattle.std.proofs.lemmas.List.{take_all}
use Rattle.dip_store_tables.specs.Tables.{BoxRow}
use Rattle.sqlite.specs.declared.error.Error.{Error}
use Rattle.sqlite.specs.Held.{state}
use Rattle.dip_store_sql.proofs.Joining.{does_and, does_fail, does_more, does_ok}
use Rattle.dip_store_sql.specs.Keys.{ItemsDiffer}
use Rattle.dip_store_changes.specs.Items.{boxed}
use Rattle.dip_store_changes.specs.Delivering.{delivering_rows}
use Rattle.dip_store_changes.proofs.Handing.{reader_apart, reader_more}
use Rattle.dip_store_sql.proofs.Parts.{went}
use Rattle.dip_store_sql.specs.Transactions.{Does, always}
use Rattle.dip_store_changes.proofs.delivering.put_all.Goals as goal

pub loop-reader-preserved : goal.loop-reader-preserved
loop-reader-preserved g c =
    let d = c.reader-item.result in
    let row : List ℕ → ℕ → BoxRow = λ power n. boxed c.args.game.now power n c.args.item.now in
    let step = rw c.reader-item.is at c.in_ok-put_to.ensures.does in
    record {
      same_reference = c.in_ok-put_to.ensures.same_reference ∙ c.loop-reader.invariant.same_reference;
      does = does_more _ tt c.loop-reader.invariant.does step (reader_more c.args.map.now c.args.game.now row c.args.readers.now c.loop-reader.reader-index d (omega arith));
    }

pub returns-clause-does : goal.returns-clause-does
returns-clause-does g c =
    let row : List ℕ → ℕ → BoxRow = λ power n. boxed c.args.game.now power n c.args.item.now in
    let all = subst (λ rs. Does (delivering_rows c.args.map.now c.args.game.now row rs) always (state g.S.Store c.args.tx.now.conn.now) (state g.S.Store c.loop-reader.tx.conn.now) (went (Unit {0}) Error tt))
    (take_all c.loop-reader.reader-index c.args.readers.now (omega arith)) c.loop-reader.invariant.does in
    does_ok _ tt all

pub returns-in_err-put_to-clause-does : goal.returns-in_err-put_to-clause-does
returns-in_err-put_to-clause-does g c =
    let d = c.reader-item.result in
    let row : List ℕ → ℕ → BoxRow = λ power n. boxed c.args.game.now power n c.args.item.now in
    let step = rw c.reader-item.is at c.in_err-put_to.ensures.does in
    let broken = does_fail (Unit {0}) (delivering_rows c.args.map.now c.args.game.now row c.args.readers.now) ItemsDiffer (does_and c.loop-reader.invariant.does step) (λ t apart. reader_apart c.args.map.now c.args.game.now row c.args.readers.now c.loop-reader.reader-index d (omega arith) t apart) in
    search (rules, broken)
