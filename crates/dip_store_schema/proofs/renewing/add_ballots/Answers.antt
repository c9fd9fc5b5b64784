use Rattle.std.proofs.Common.{arith, rules, [], ◌∷◌, subst, ◌∙◌}
use Rattle.sqlite.specs.declared.error.Error.{Error}
use Rattle.sqlite.specs.Held.{state}
use Rattle.dip_store_sql.specs.Calls.{Writes}
use Rattle.dip_store_sql.proofs.Parts.{fails, take_more, went, writes_more}
use Rattle.dip_store_sql.specs.TablesAfter.{more_ballots}
use Rattle.dip_store_schema.proofs.Filling.{ballots_on}
use Rattle.dip_store_schema.proofs.Refilling.{BallotIs, ballots_next}
use Rattle.dip_store_schema.specs.Rewriting.{Stands}
use Rattle.dip_store_schema.proofs.Trying.{tries_fails}
use Rattle.dip_store_schema.proofs.renewing.add_ballots.Goals as goal

pub loop-ballot-preserved : goal.loop-ballot-preserved
loop-ballot-preserved g c =
    let d = c.ballot-item.result in
    let step = subst (λ b. Writes (more_ballots (b ∷ [])) (state g.S.Store c.loop-ballot.tx.conn.now) (state g.S.Store c.add_new_ballot.new.tx.conn.now) (went (Unit {0}) Error tt)) c.ballot-item.is c.in_ok-add_new_ballot.ensures.writes in
    record {
      same_reference = c.in_ok-add_new_ballot.ensures.same_reference ∙ c.loop-ballot.invariant.same_reference;
      writes = writes_more _ _ _ _ _ _ _ _ _ tt tt tt
          (ballots_on _ _ _ (take_more c.args.ballots.now c.loop-ballot.ballot-index d (omega arith)))
          c.loop-ballot.invariant.writes step;
      tries = ballots_next c.args.ballots.now c.loop-ballot.ballot-index d (omega arith) _ _ _ tt (went (Unit {0}) Error tt) c.loop-ballot.invariant.tries
          (subst (λ b. BallotIs b (state g.S.Store c.loop-ballot.tx.conn.now) (state g.S.Store c.add_new_ballot.new.tx.conn.now) (went (Unit {0}) Error tt)) c.ballot-item.is c.in_ok-add_new_ballot.ensures.tries);
    }

pub returns-in_err-add_new_ballot-clause-tries : goal.returns-in_err-add_new_ballot-clause-tries
returns-in_err-add_new_ballot-clause-tries g c old t =
    let d = c.ballot-item.result in
    let e = c.in_err-add_new_ballot.field-0.0 in
    let step = subst (λ b. BallotIs b (state g.S.Store c.loop-ballot.tx.conn.now) (state g.S.Store c.add_new_ballot.new.tx.conn.now) (fails (Unit {0}) Error e)) c.ballot-item.is c.in_err-add_new_ballot.ensures.tries in
    let all = ballots_next c.args.ballots.now c.loop-ballot.ballot-index d (omega arith) _ _ _ tt (fails (Unit {0}) Error e) c.loop-ballot.invariant.tries step in
    λ apart fits.
    let it = tries_fails {X = Unit {0}} {Y = Unit {0}} _ _ (Stands old (more_ballots c.args.ballots.now t)) _ _ e (all old t apart fits) in
    search (rules, it)
