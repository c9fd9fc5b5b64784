use Rattle.std.proofs.Common.{arith, rules, map, ◌∙◌}
use Rattle.dip_desk_state.specs.ChangeRows as machine
use Rattle.dip_store_tables.specs.Writing.{ballot_row}
use Rattle.dip_store_sql.proofs.Joining.{does_and, does_fail, does_more}
use Rattle.dip_store_sql.specs.Keys.{BallotsDiffer, same_ballot}
use Rattle.dip_store_sql.specs.TablesAfter.{more_ballots}
use Rattle.dip_store_sql.proofs.Leading.{both_apart}
use Rattle.dip_store_changes.proofs.SeatsMore.{ballots_more}
use Rattle.dip_store_sql.proofs.Parts.{taken_both}
use Rattle.dip_store_changes.proofs.ballots.add_ballots.Goals as goal

pub loop-seat-preserved : goal.loop-seat-preserved
loop-seat-preserved g c =
    let d = c.seat-item.result in
    let row = ballot_row c.args.map.now c.args.game.now in
    let step = rw c.seat-item.is at c.in_ok-add_new_ballot.ensures.does in
    record {
      same_reference = c.in_ok-add_new_ballot.ensures.same_reference ∙ c.loop-seat.invariant.same_reference;
      does = does_more _ tt c.loop-seat.invariant.does step (ballots_more _ _ _ (taken_both row machine.new_seat c.args.seats.now c.loop-seat.seat-index d (omega arith)));
    }

pub returns-in_err-add_new_ballot-clause-does : goal.returns-in_err-add_new_ballot-clause-does
returns-in_err-add_new_ballot-clause-does g c =
    let d = c.seat-item.result in
    let row = ballot_row c.args.map.now c.args.game.now in
    let step = rw c.seat-item.is at c.in_err-add_new_ballot.ensures.does in
    let broken = does_fail (Unit {0}) (more_ballots (map row (map machine.new_seat c.args.seats.now))) BallotsDiffer (does_and c.loop-seat.invariant.does step) (λ t apart. both_apart same_ballot row machine.new_seat c.args.seats.now c.loop-seat.seat-index d (omega arith) t.ballots apart) in
    search (rules, broken)
