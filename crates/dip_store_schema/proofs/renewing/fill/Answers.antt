use Rattle.std.proofs.Common.{◌≡◌, arith, refl, rules, subst}
use Rattle.sqlite.specs.Held.{Held, state}
use Rattle.sqlite.specs.State.{Survives}
use Rattle.sqlite.specs.declared.error.Error.{Error}
use Rattle.sqlite.specs.Effect.{Database}
use Rattle.sqlite.proofs.Callers.{survives_begin}
use Rattle.sqlite.proofs.StateLemmas.{survives_then}
use Rattle.dip_desk_state.specs.Rows.{lines}
use Rattle.dip_store_sql.specs.Calls.{is_honest, old_tables_in}
use Rattle.dip_store_sql.specs.Causes.{IsCaused, has_faulted}
use Rattle.dip_store_sql.proofs.Caused.{caused_weaker, faulted_early}
use Rattle.dip_store_sql.proofs.Parts.{fails}
use Rattle.dip_store_schema.specs.Making.{HasTables}
use Rattle.dip_store_schema.specs.Renewing.{Fills, filled}
use Rattle.dip_store_schema.proofs.Refilling.{begun_old}
use Rattle.dip_store_schema.proofs.Trying.{commit_caused, parts_caused}
use Rattle.dip_store_schema.proofs.renewing.fill.Goals as goal

pub returns : goal.returns
returns g c = record {
  laid = search rules;
  ok = search rules;
  shown = search rules;
  idle = search rules;
  base = search rules;
  err = search rules;
  fails = search rules;
  crash =
      let old = c.args.conn.now in
      let last = c.renew_tables.new.tx.conn.now in
      let end = c.commit.new.self.0 in
      let same : end ≡ c.conn-2-1.given.0 = search rules in
      let P = Fills (lines c.args.games.now) c.args.ballots.now (state g.S.Store old) in
      let part = rw c.transaction-tx.ensures.begun at c.in_ok-renew_tables.ensures.leads in
      let whole = survives_then (state g.S.Store old) (state g.S.Store last) (state g.S.Store end) _ _ P (λ _ db none. absurd none)
      (λ late db is. (_, λ good. (part.runs (omega (arith, late, c.commit.ensures.survives.clean))).now (good, refl), is))
      (survives_begin g.S.Store old (state g.S.Store last) _ part.survives) c.commit.ensures.survives in
      subst (λ (h : Held _). Survives (state g.S.Store old) (state g.S.Store h) P) same whole;
}

pub returns-in_err-commit : goal.returns-in_err-commit
returns-in_err-commit g c = record {
  laid = search rules;
  ok = search rules;
  shown = search rules;
  idle = search rules;
  base = search rules;
  err = search rules;
  fails = λ kept shows clean read room.
      let old = c.args.conn.now in
      let last = c.renew_tables.new.tx.conn.now in
      let end = c.commit.new.self.0 in
      let same : end ≡ c.conn-2-1.given.0 = search rules in
      let honest : is_honest g.S.Store end = search (rules, clean) in
      let P = λ (db : Database). db ≡ (state g.S.Store old).now in
      let So = HasTables (filled (lines c.args.games.now) c.args.ballots.now (old_tables_in g.S.Store old)) in
      let part = rw c.transaction-tx.ensures.begun at c.in_ok-renew_tables.ensures.tries in
      let tries = part (state g.S.Store old).now kept.good read room in
      let error = c.in_err-commit.field-0.0 in
      let cause : IsCaused (has_faulted g.S.Store old end) error =
      commit_caused g.S.Store P So old last end (begun_old g.S.Store old kept shows) (Unit {0}) (Unit {0}) c.in_ok-renew_tables.field-0 (fails (Unit {0}) Error error) _ tries c.commit.ensures.survives c.in_err-commit.ensures.err honest in
      let there = subst (λ (h : Held _). IsCaused (has_faulted g.S.Store old h) error) same cause in
      search (rules, there);
  crash =
      let old = c.args.conn.now in
      let last = c.renew_tables.new.tx.conn.now in
      let end = c.commit.new.self.0 in
      let same : end ≡ c.conn-2-1.given.0 = search rules in
      let P = Fills (lines c.args.games.now) c.args.ballots.now (state g.S.Store old) in
      let part = rw c.transaction-tx.ensures.begun at c.in_ok-renew_tables.ensures.leads in
      let whole = survives_then (state g.S.Store old) (state g.S.Store last) (state g.S.Store end) _ _ P (λ _ db none. absurd none)
      (λ late db is. (_, λ good. (part.runs (omega (arith, late, c.commit.ensures.survives.clean))).now (good, refl), is))
      (survives_begin g.S.Store old (state g.S.Store last) _ part.survives) c.commit.ensures.survives in
      subst (λ (h : Held _). Survives (state g.S.Store old) (state g.S.Store h) P) same whole;
}

pub returns-in_err-renew_tables : goal.returns-in_err-renew_tables
returns-in_err-renew_tables g c = record {
  laid = search rules;
  ok = search rules;
  shown = search rules;
  idle = search rules;
  base = search rules;
  err = search rules;
  fails = λ kept shows clean read room.
      let old = c.args.conn.now in
      let last = c.renew_tables.new.tx.conn.now in
      let honest : is_honest g.S.Store c.drop-tx.new.self.0 = search (rules, clean) in
      let P = λ (db : Database). db ≡ (state g.S.Store old).now in
      let So = HasTables (filled (lines c.args.games.now) c.args.ballots.now (old_tables_in g.S.Store old)) in
      let part = rw c.transaction-tx.ensures.begun at c.in_err-renew_tables.ensures.tries in
      let tries = part (state g.S.Store old).now kept.good read room in
      let cause = parts_caused g.S.Store P So old last last (begun_old g.S.Store old kept shows) (Unit {0}) c.in_err-renew_tables.field-0.0 tries (omega (arith, honest, c.drop-tx.ensures.survives.clean)) in
      let late = caused_weaker _ _ c.in_err-renew_tables.field-0.0 (faulted_early (state g.S.Store old) (state g.S.Store last) (state g.S.Store c.drop-tx.new.self.0) c.drop-tx.ensures.survives.counts) cause in
      search (rules, late);
  crash = search rules;
}
