use Rattle.std.proofs.Common.{◌≡◌, ℕ, rules, subst}
use Rattle.sqlite.specs.declared.error.Error.{Error}
use Rattle.sqlite.specs.Held.{state}
use Rattle.dip_store_tables.specs.Tables.{BallotRow}
use Rattle.dip_store_sql.proofs.Parts.{fails, went}
use Rattle.dip_store_schema.proofs.Refilling.{BallotIs, ballot_tries}
use Rattle.dip_store_schema.proofs.Trying.{tries_fails, tries_ok}
use Rattle.dip_store_schema.proofs.renewing.add_new_ballot.Goals as goal

pub returns-clause-tries : goal.returns-clause-tries
returns-clause-tries g c =
    let b : BallotRow = record { game = c.as_str.result.now; power = c.as_str-2.result.now; names = c.if-ballot.names.now } in
    let is : b ≡ c.args.ballot.now = search rules in
    let one = ballot_tries b _ _ (went ℕ Error c.in_ok-add_ballot.field-0) c.in_ok-add_ballot.ensures.does c.in_ok-add_ballot.ensures.stores in
    subst (λ b. BallotIs b (state g.S.Store c.args.tx.now.conn.now) (state g.S.Store c.add_ballot.new.tx.conn.now) (went (Unit {0}) Error tt)) is
    (λ old t n apart fits. tries_ok _ _ _ _ c.in_ok-add_ballot.field-0 tt (one old t n apart fits))

pub returns-in_err-add_ballot-clause-tries : goal.returns-in_err-add_ballot-clause-tries
returns-in_err-add_ballot-clause-tries g c old t n =
    let b : BallotRow = record { game = c.as_str.result.now; power = c.as_str-2.result.now; names = c.if-ballot.names.now } in
    let e = c.in_err-add_ballot.field-0.0 in
    let is : b ≡ c.args.ballot.now = search rules in
    let one = ballot_tries b _ _ (fails ℕ Error e) c.in_err-add_ballot.ensures.does c.in_err-add_ballot.ensures.stores in
    let all = subst (λ b. BallotIs b (state g.S.Store c.args.tx.now.conn.now) (state g.S.Store c.add_ballot.new.tx.conn.now) (fails (Unit {0}) Error e)) is
    (λ old t n apart fits. tries_fails {X = ℕ} {Y = Unit {0}} _ _ _ _ _ e (one old t n apart fits)) in
    λ apart fits. let it = all old t n apart fits in search (rules, it)
