use Rattle.std.proofs.Common.{◌≡◌, ℕ, map, refl, rules}
use Rattle.sqlite.specs.Effect.{Database}
use Rattle.sqlite.specs.declared.error.Error.{Error}
use Rattle.dip_desk_state.specs.Rows.{lines}
use Rattle.dip_store_sql.specs.Calls.{old_tables_in}
use Rattle.dip_store_sql.specs.Old.{HasOld, old_tables_of}
use Rattle.dip_store_sql.specs.TablesAfter.{more_ballots, on_desk, on_seats}
use Rattle.dip_store_tables.specs.Renewing.{old_choice, second, voteless}
use Rattle.dip_store_sql.proofs.Parts.{fails, went, writes_and, writes_as}
use Rattle.dip_store_schema.specs.Making.{HasTables}
use Rattle.dip_store_schema.specs.Renewing.{filled, more_choices}
use Rattle.dip_store_schema.specs.Rewriting.{HasDeskOf, Stands}
use Rattle.dip_store_schema.proofs.Leading.{leads_fails, leads_ok, leads_then, writes_leads}
use Rattle.dip_store_schema.proofs.Refilling.{ballots_put, ballots_room, choices_put, choices_room, tries_version, tries_votes}
use Rattle.dip_store_schema.proofs.Trying.{tries_fails, tries_ok, tries_then}
use Rattle.dip_store_schema.proofs.renewing.renew_tables.Goals as goal

pub returns-clause-leads : goal.returns-clause-leads
returns-clause-leads g c =
    let t = old_tables_in g.S.Store c.args.tx.now.conn.now in
    let f = filled (lines c.args.games.now) c.args.ballots.now in
    let two = writes_and _ _ _ _ _ _ _ c.in_ok-add_ballots.field-0 _ c.in_ok-add_ballots.ensures.writes c.in_ok-add_choices.ensures.writes in
    let three = writes_and _ _ _ _ _ _ _ c.in_ok-add_choices.field-0 _ two c.in_ok-clear_votes.ensures.does.writes in
    let four = writes_and _ _ _ _ _ _ _ c.in_ok-clear_votes.field-0 _ three c.in_ok-set_version.ensures.does.writes in
    let all = writes_leads f t _ _ (went ℕ Error c.in_ok-set_version.field-0) (writes_as _ _ _ f _ _ _ (λ t. refl) four) in
    leads_ok (HasOld t) (HasTables (f t)) _ _ c.in_ok-set_version.field-0 tt
    (leads_then (HasOld t) (HasTables t) (HasTables (f t)) _ _ _ c.in_ok-create_choices.field-0 (went ℕ Error c.in_ok-set_version.field-0) (c.in_ok-create_choices.ensures.over t) all)

pub returns-in_err-set_version-clause-leads : goal.returns-in_err-set_version-clause-leads
returns-in_err-set_version-clause-leads g c =
    let t = old_tables_in g.S.Store c.args.tx.now.conn.now in
    let f = filled (lines c.args.games.now) c.args.ballots.now in
    let e = c.in_err-set_version.field-0.0 in
    let two = writes_and _ _ _ _ _ _ _ c.in_ok-add_ballots.field-0 _ c.in_ok-add_ballots.ensures.writes c.in_ok-add_choices.ensures.writes in
    let three = writes_and _ _ _ _ _ _ _ c.in_ok-add_choices.field-0 _ two c.in_ok-clear_votes.ensures.does.writes in
    let four = writes_and _ _ _ _ _ _ _ c.in_ok-clear_votes.field-0 _ three c.in_err-set_version.ensures.does.writes in
    let all = writes_leads f t _ _ (fails ℕ Error e) (writes_as _ _ _ f _ _ (fails ℕ Error e) (λ t. refl) four) in
    let it = leads_fails {X = ℕ} {Y = Unit {0}} (HasOld t) (HasTables (f t)) (HasOld t) (HasTables (f t)) _ _ e e
    (leads_then (HasOld t) (HasTables t) (HasTables (f t)) _ _ _ c.in_ok-create_choices.field-0 (fails ℕ Error e) (c.in_ok-create_choices.ensures.over t) all) in
    search (rules, it)

pub returns-clause-tries : goal.returns-clause-tries
returns-clause-tries g c old good read room =
    let names = lines c.args.games.now in
    let bs = c.args.ballots.now in
    let P = λ (db : Database). db ≡ old in
    let t = old_tables_of old.trees in
    let u = more_ballots bs t in
    let v = more_choices (map old_choice names) u in
    let w = on_seats voteless v in
    let So = HasTables (on_desk second w) in
    let one = c.in_ok-create_choices.ensures.tries_over old good in
    let two = ballots_put old t _ _ (went (Unit {0}) Error c.in_ok-add_ballots.field-0) bs read.voted refl c.in_ok-add_ballots.ensures.writes (λ apart. c.in_ok-add_ballots.ensures.tries old t apart (ballots_room old bs read.voted room)) in
    let three = choices_put old u _ _ (went (Unit {0}) Error c.in_ok-add_choices.field-0) names read.named refl c.in_ok-add_choices.ensures.writes (λ apart. c.in_ok-add_choices.ensures.tries old u apart (choices_room old names read.named room)) in
    let four = tries_votes old v _ _ room.seats (went ℕ Error c.in_ok-clear_votes.field-0) c.in_ok-clear_votes.ensures.does c.in_ok-clear_votes.ensures.stores in
    let five = tries_version old w _ _ room.desk (went ℕ Error c.in_ok-set_version.field-0) c.in_ok-set_version.ensures.does c.in_ok-set_version.ensures.stores in
    tries_ok P So _ _ c.in_ok-set_version.field-0 tt
    (tries_then P (Stands old t) So _ _ _ c.in_ok-create_choices.field-0 one (went ℕ Error c.in_ok-set_version.field-0)
    (tries_then (Stands old t) (Stands old u) So _ _ _ c.in_ok-add_ballots.field-0 two (went ℕ Error c.in_ok-set_version.field-0)
    (tries_then (Stands old u) (Stands old v) So _ _ _ c.in_ok-add_choices.field-0 three (went ℕ Error c.in_ok-set_version.field-0)
    (tries_then (Stands old v) (HasDeskOf old w) So _ _ _ c.in_ok-clear_votes.field-0 four (went ℕ Error c.in_ok-set_version.field-0) five))))

pub returns-in_err-create_choices-clause-tries : goal.returns-in_err-create_choices-clause-tries
returns-in_err-create_choices-clause-tries g c old good read room =
    let names = lines c.args.games.now in
    let bs = c.args.ballots.now in
    let P = λ (db : Database). db ≡ old in
    let t = old_tables_of old.trees in
    let u = more_ballots bs t in
    let v = more_choices (map old_choice names) u in
    let w = on_seats voteless v in
    let So = HasTables (on_desk second w) in
    let e = c.in_err-create_choices.field-0.0 in
    let one = c.in_err-create_choices.ensures.tries_over old good in
    let it = tries_fails {X = Unit {0}} {Y = Unit {0}} P (Stands old t) So _ _ e one in
    search (rules, it)

pub returns-in_err-add_ballots-clause-tries : goal.returns-in_err-add_ballots-clause-tries
returns-in_err-add_ballots-clause-tries g c old good read room =
    let names = lines c.args.games.now in
    let bs = c.args.ballots.now in
    let P = λ (db : Database). db ≡ old in
    let t = old_tables_of old.trees in
    let u = more_ballots bs t in
    let v = more_choices (map old_choice names) u in
    let w = on_seats voteless v in
    let So = HasTables (on_desk second w) in
    let e = c.in_err-add_ballots.field-0.0 in
    let one = c.in_ok-create_choices.ensures.tries_over old good in
    let two = ballots_put old t _ _ (fails (Unit {0}) Error e) bs read.voted refl c.in_err-add_ballots.ensures.writes (λ apart. c.in_err-add_ballots.ensures.tries old t apart (ballots_room old bs read.voted room)) in
    let it = tries_fails {X = (Unit {0})} {Y = Unit {0}} P (Stands old u) So _ _ e
    (tries_then P (Stands old t) (Stands old u) _ _ _ c.in_ok-create_choices.field-0 one (fails (Unit {0}) Error e) two) in
    search (rules, it)

pub returns-in_err-add_choices-clause-tries : goal.returns-in_err-add_choices-clause-tries
returns-in_err-add_choices-clause-tries g c old good read room =
    let names = lines c.args.games.now in
    let bs = c.args.ballots.now in
    let P = λ (db : Database). db ≡ old in
    let t = old_tables_of old.trees in
    let u = more_ballots bs t in
    let v = more_choices (map old_choice names) u in
    let w = on_seats voteless v in
    let So = HasTables (on_desk second w) in
    let e = c.in_err-add_choices.field-0.0 in
    let one = c.in_ok-create_choices.ensures.tries_over old good in
    let two = ballots_put old t _ _ (went (Unit {0}) Error c.in_ok-add_ballots.field-0) bs read.voted refl c.in_ok-add_ballots.ensures.writes (λ apart. c.in_ok-add_ballots.ensures.tries old t apart (ballots_room old bs read.voted room)) in
    let three = choices_put old u _ _ (fails (Unit {0}) Error e) names read.named refl c.in_err-add_choices.ensures.writes (λ apart. c.in_err-add_choices.ensures.tries old u apart (choices_room old names read.named room)) in
    let it = tries_fails {X = (Unit {0})} {Y = Unit {0}} P (Stands old v) So _ _ e
    (tries_then P (Stands old t) (Stands old v) _ _ _ c.in_ok-create_choices.field-0 one (fails (Unit {0}) Error e) (tries_then (Stands old t) (Stands old u) (Stands old v) _ _ _ c.in_ok-add_ballots.field-0 two (fails (Unit {0}) Error e) three)) in
    search (rules, it)

pub returns-in_err-clear_votes-clause-tries : goal.returns-in_err-clear_votes-clause-tries
returns-in_err-clear_votes-clause-tries g c old good read room =
    let names = lines c.args.games.now in
    let bs = c.args.ballots.now in
    let P = λ (db : Database). db ≡ old in
    let t = old_tables_of old.trees in
    let u = more_ballots bs t in
    let v = more_choices (map old_choice names) u in
    let w = on_seats voteless v in
    let So = HasTables (on_desk second w) in
    let e = c.in_err-clear_votes.field-0.0 in
    let one = c.in_ok-create_choices.ensures.tries_over old good in
    let two = ballots_put old t _ _ (went (Unit {0}) Error c.in_ok-add_ballots.field-0) bs read.voted refl c.in_ok-add_ballots.ensures.writes (λ apart. c.in_ok-add_ballots.ensures.tries old t apart (ballots_room old bs read.voted room)) in
    let three = choices_put old u _ _ (went (Unit {0}) Error c.in_ok-add_choices.field-0) names read.named refl c.in_ok-add_choices.ensures.writes (λ apart. c.in_ok-add_choices.ensures.tries old u apart (choices_room old names read.named room)) in
    let four = tries_votes old v _ _ room.seats (fails ℕ Error e) c.in_err-clear_votes.ensures.does c.in_err-clear_votes.ensures.stores in
    let it = tries_fails {X = ℕ} {Y = Unit {0}} P (HasDeskOf old w) So _ _ e
    (tries_then P (Stands old t) (HasDeskOf old w) _ _ _ c.in_ok-create_choices.field-0 one (fails ℕ Error e) (tries_then (Stands old t) (Stands old u) (HasDeskOf old w) _ _ _ c.in_ok-add_ballots.field-0 two (fails ℕ Error e) (tries_then (Stands old u) (Stands old v) (HasDeskOf old w) _ _ _ c.in_ok-add_choices.field-0 three (fails ℕ Error e) four))) in
    search (rules, it)

pub returns-in_err-set_version-clause-tries : goal.returns-in_err-set_version-clause-tries
returns-in_err-set_version-clause-tries g c old good read room =
    let names = lines c.args.games.now in
    let bs = c.args.ballots.now in
    let P = λ (db : Database). db ≡ old in
    let t = old_tables_of old.trees in
    let u = more_ballots bs t in
    let v = more_choices (map old_choice names) u in
    let w = on_seats voteless v in
    let So = HasTables (on_desk second w) in
    let e = c.in_err-set_version.field-0.0 in
    let one = c.in_ok-create_choices.ensures.tries_over old good in
    let two = ballots_put old t _ _ (went (Unit {0}) Error c.in_ok-add_ballots.field-0) bs read.voted refl c.in_ok-add_ballots.ensures.writes (λ apart. c.in_ok-add_ballots.ensures.tries old t apart (ballots_room old bs read.voted room)) in
    let three = choices_put old u _ _ (went (Unit {0}) Error c.in_ok-add_choices.field-0) names read.named refl c.in_ok-add_choices.ensures.writes (λ apart. c.in_ok-add_choices.ensures.tries old u apart (choices_room old names read.named room)) in
    let four = tries_votes old v _ _ room.seats (went ℕ Error c.in_ok-clear_votes.field-0) c.in_ok-clear_votes.ensures.does c.in_ok-clear_votes.ensures.stores in
    let five = tries_version old w _ _ room.desk (fails ℕ Error e) c.in_err-set_version.ensures.does c.in_err-set_version.ensures.stores in
    let it = tries_fails {X = ℕ} {Y = Unit {0}} P So So _ _ e
    (tries_then P (Stands old t) So _ _ _ c.in_ok-create_choices.field-0 one (fails ℕ Error e) (tries_then (Stands old t) (Stands old u) So _ _ _ c.in_ok-add_ballots.field-0 two (fails ℕ Error e) (tries_then (Stands old u) (Stands old v) So _ _ _ c.in_ok-add_choices.field-0 three (fails ℕ Error e) (tries_then (Stands old v) (HasDeskOf old w) So _ _ _ c.in_ok-clear_votes.field-0 four (fails ℕ Error e) five)))) in
    search (rules, it)
