use Rattle.std.proofs.Common.{IfErr, arith, ◌≡◌, rules, subst}
use Rattle.sqlite.specs.Held.{Held, state}
use Rattle.sqlite.specs.declared.error.Error.{Error}
use Rattle.dip_desk_state.specs.ChangeRows as machine
use Rattle.dip_store_sql.specs.Calls.{is_honest}
use Rattle.dip_store_sql.proofs.Parts.{fails, went}
use Rattle.dip_store_sql.specs.Keys.{AreKeyed}
use Rattle.dip_store_sql.specs.Transactions.{Does}
use Rattle.dip_store_sql.proofs.Blamed.{blamed_weaker}
use Rattle.dip_store_sql.proofs.Told.{want_weaker}
use Rattle.dip_store_sql.specs.Causes.{has_faulted}
use Rattle.dip_store_sql.proofs.Caused.{faulted_early}
use Rattle.dip_store_sql.specs.Refusals.{IsWant}
use Rattle.dip_store_changes.specs.Parts.{changing_row}
use Rattle.dip_store.specs.Making.{Makes}
use Rattle.dip_store.proofs.Transaction.{makes_committed}
use Rattle.dip_store.proofs.Wanting.{commit_wants, parts_blame, parts_want, want_blames}
use Rattle.dip_store.proofs.whole.make_with.Goals as goal

pub returns : goal.returns
returns g c =
    let f = changing_row c.args.row c.args.unordered c.args.readers.now c.args.map.now (machine.change c.args.change.now) in
    let old = c.args.conn.now in
    let last = c.make_parts.new.tx.conn.now in
    let end = c.commit.new.self.0 in
    let parts = subst (λ (h : Held _). Does f AreKeyed (state g.S.Store h) (state g.S.Store last) (went (Unit {0}) Error c.in_ok-make_parts.field-0)) c.transaction-tx.ensures.begun c.in_ok-make_parts.ensures.does in
    let whole = makes_committed g.S.Store f old last end (Unit {0}) (Unit {0}) c.in_ok-make_parts.field-0 c.commit.result g.met.S.Store.settled parts.writes c.commit.ensures.survives c.commit.ensures.ended c.commit.ensures.ok c.commit.ensures.err in
    let made : (h : Held _) → end ≡ h → Makes g.S.Store f old h c.commit.result = λ h same. subst (λ (h : Held _). Makes g.S.Store f old h c.commit.result) same whole in
    let told : (h : Held _) → end ≡ h → IfErr c.commit.result (IsWant (has_faulted g.S.Store old end)) → IfErr c.commit.result (IsWant (has_faulted g.S.Store old h)) =
    λ h same want. subst (λ (h : Held _). IfErr c.commit.result (IsWant (has_faulted g.S.Store old h))) same want in
    record {
      makes = made _ (search rules);
      wants = λ kept shows clean may.
          let honest : is_honest g.S.Store end = search (rules, clean) in
          told c.conn-2-1.given.0 (search rules) (commit_wants g.S.Store f AreKeyed old last end kept shows (Unit {0}) (Unit {0}) c.in_ok-make_parts.field-0 c.commit.result _ parts c.commit.ensures.survives c.commit.ensures.err honest);
      blames = λ kept shows clean.
          let honest : is_honest g.S.Store end = search (rules, clean) in
          want_blames (has_faulted g.S.Store old c.conn-2-1.given.0) c.commit.result
          (told c.conn-2-1.given.0 (search rules) (commit_wants g.S.Store f AreKeyed old last end kept shows (Unit {0}) (Unit {0}) c.in_ok-make_parts.field-0 c.commit.result _ parts c.commit.ensures.survives c.commit.ensures.err honest));
    }

pub returns-in_err-make_parts-clause-wants : goal.returns-in_err-make_parts-clause-wants
returns-in_err-make_parts-clause-wants g c kept shows clean may =
    let f = changing_row c.args.row c.args.unordered c.args.readers.now c.args.map.now (machine.change c.args.change.now) in
    let old = c.args.conn.now in
    let last = c.make_parts.new.tx.conn.now in
    let e = c.in_err-make_parts.field-0.0 in
    let parts = subst (λ (h : Held _). Does f AreKeyed (state g.S.Store h) (state g.S.Store last) (fails (Unit {0}) Error e)) c.transaction-tx.ensures.begun c.in_err-make_parts.ensures.does in
    let honest : is_honest g.S.Store c.drop-tx.new.self.0 = search (rules, clean) in
    let want = parts_want g.S.Store f AreKeyed old last last kept shows (Unit {0}) e parts (omega (arith, honest, c.drop-tx.ensures.survives.clean)) may in
    let late = want_weaker _ _ e (faulted_early (state g.S.Store old) (state g.S.Store last) (state g.S.Store c.drop-tx.new.self.0) c.drop-tx.ensures.survives.counts) want in
    search (rules, late)

pub returns-in_err-make_parts-clause-blames : goal.returns-in_err-make_parts-clause-blames
returns-in_err-make_parts-clause-blames g c kept shows clean =
    let f = changing_row c.args.row c.args.unordered c.args.readers.now c.args.map.now (machine.change c.args.change.now) in
    let old = c.args.conn.now in
    let last = c.make_parts.new.tx.conn.now in
    let e = c.in_err-make_parts.field-0.0 in
    let parts = subst (λ (h : Held _). Does f AreKeyed (state g.S.Store h) (state g.S.Store last) (fails (Unit {0}) Error e)) c.transaction-tx.ensures.begun c.in_err-make_parts.ensures.does in
    let honest : is_honest g.S.Store c.drop-tx.new.self.0 = search (rules, clean) in
    let blame = parts_blame g.S.Store f AreKeyed old last last kept shows (Unit {0}) e parts (omega (arith, honest, c.drop-tx.ensures.survives.clean)) in
    let late = blamed_weaker _ _ e (faulted_early (state g.S.Store old) (state g.S.Store last) (state g.S.Store c.drop-tx.new.self.0) c.drop-tx.ensures.survives.counts) blame in
    search (rules, late)
