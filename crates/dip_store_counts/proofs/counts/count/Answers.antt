use Rattle.std.proofs.Common.{List, ℕ, Ok, Option, Vec, Global, subst, sym, ◌∙◌}
use Rattle.std.specs.List.{AllByRecursion}
use Rattle.sqlite.specs.Held.{state}
use Rattle.dip_desk_state.specs.ChangeRows as machine
use Rattle.dip_store_tables.specs.Counting.{CountsOn}
use Rattle.dip_store_tables.specs.Legible.{IsSeatLegible}
use Rattle.dip_store_tables.specs.Tables.{Tables}
use Rattle.dip_store_tables.specs.Written.{IsSeatWritten}
use Rattle.dip_store_tables.proofs.ListLemmas.{all_both}
use Rattle.dip_store_sql.proofs.Caused.{faulted_late}
use Rattle.dip_store_sql.specs.Calls.{tables_in}
use Rattle.dip_store_counts.specs.declared.readers.Reader.{Reader}
use Rattle.dip_store_counts.specs.declared.counts.Counted.{Counted}
use Rattle.dip_store_counts.specs.declared.known.AuthorRow.{AuthorRow}
use Rattle.dip_store_sql.specs.declared.row_faults.RowFault.{RowFault}
use Rattle.dip_store_counts.specs.Counts.{AreReaders, CountsRow}
use Rattle.dip_store_counts.specs.Failing.{InboxesHaveRoom, IsSeatKept, PressHasRoom}
use Rattle.dip_store_counts.specs.Knowing.{ArePapersKnown}
use Rattle.dip_store_counts.proofs.Placed.{inboxes_room, papers_narrow, room_of, rooms}
use Rattle.dip_store_sql.proofs.RowFaults.{same_fails}
use Rattle.dip_store_counts.proofs.Knowing.{known_at}
use Rattle.dip_store_counts.proofs.Peeking.{peeks_all, peeks_broken, peeks_counts, peeks_fair, peeks_kept, peeks_passed, peeks_shows, peeks_then}
use Rattle.dip_store_counts.proofs.counts.count.Goals as goal

pub returns-in_err-check_paper-clause-peeks : goal.returns-in_err-check_paper-clause-peeks
returns-in_err-check_paper-clause-peeks g c =
    peeks_passed g.S.Store {Y = Unit {0}} {F = RowFault} c.args.conn.now c.check_paper.new.conn c.in_err-check_paper.field-0.0 c.from_residual.result c.from_residual.ensures.0 c.in_err-check_paper.ensures.peeks

pub returns-in_err-check_paper-clause-fails : goal.returns-in_err-check_paper-clause-fails
returns-in_err-check_paper-clause-fails g c kept shows clean ours =
    let it = machine.change c.args.change.now in
    let t = tables_in g.S.Store c.args.conn.now in
    let papers = subst (λ (n : List ℕ). ArePapersKnown c.args.papers n t.games) (sym c.as_str-game.ensures.value) kept.1.1 in
    same_fails _ _ _ _ c.in_err-check_paper.field-0.0 c.from_residual.result c.from_residual.ensures.1 (λ fault. fault)
    (λ off place. off (subst (λ (n : List ℕ). CountsOn n it.effect t.games) (sym c.as_str-game.ensures.value) place.paper))
    (c.in_err-check_paper.ensures.fails kept.0 papers shows clean (papers_narrow c.args.map.now t.units t.centres t.choices t.games ours.written.games))

pub returns-in_err-readers-clause-peeks : goal.returns-in_err-readers-clause-peeks
returns-in_err-readers-clause-peeks g c =
    let two = peeks_then g.S.Store {X = Unit {0}} {E = RowFault} {Y = Option AuthorRow} {F = RowFault} c.args.conn.now c.check_paper.new.conn c.count_author.new.conn c.in_ok-check_paper.field-0 (Ok c.in_ok-row.row) c.in_ok-check_paper.ensures.peeks c.in_ok-row.ensures.peeks in
    peeks_broken g.S.Store {X = Option AuthorRow} {E = RowFault} {Y = Vec Reader Global} {F = RowFault} c.args.conn.now c.count_author.new.conn c.readers_of.new.conn c.in_ok-row.row c.in_err-readers.field-0.0
    c.from_residual-in_err-readers.result c.from_residual-in_err-readers.ensures.0 two c.in_err-readers.ensures.peeks

pub returns-in_err-row-clause-peeks : goal.returns-in_err-row-clause-peeks
returns-in_err-row-clause-peeks g c =
    peeks_broken g.S.Store {X = Unit {0}} {E = RowFault} {Y = Option AuthorRow} {F = RowFault} c.args.conn.now c.check_paper.new.conn c.count_author.new.conn c.in_ok-check_paper.field-0 c.in_err-row.field-0.0
    c.from_residual-in_err-row.result c.from_residual-in_err-row.ensures.0 c.in_ok-check_paper.ensures.peeks c.in_err-row.ensures.peeks

pub returns-clause-peeks : goal.returns-clause-peeks
returns-clause-peeks g c =
    peeks_all g.S.Store {X = Unit {0}} {E = RowFault} {Y = Option AuthorRow} {F = RowFault} {Z = Vec Reader Global} {G = RowFault} {W = Counted} {H = RowFault} c.args.conn.now c.check_paper.new.conn c.count_author.new.conn c.readers_of.new.conn
    c.in_ok-check_paper.field-0 c.in_ok-row.row c.in_ok-readers.readers _ c.in_ok-check_paper.ensures.peeks c.in_ok-row.ensures.peeks c.in_ok-readers.ensures.peeks

pub returns-clause-value : goal.returns-clause-value
returns-clause-value g c kept clean =
    let m = c.args.map.now in
    let it = machine.change c.args.change.now in
    let old = c.args.conn.now in
    let game = c.as_str-game.result.now in
    let two = peeks_fair g.S.Store {X = Vec Reader Global} {E = RowFault} c.count_author.new.conn c.readers_of.new.conn _ c.in_ok-readers.ensures.peeks clean in
    let one = peeks_fair g.S.Store {X = Option AuthorRow} {E = RowFault} c.check_paper.new.conn c.count_author.new.conn _ c.in_ok-row.ensures.peeks two in
    let first = peeks_kept g.S.Store {X = Unit {0}} {E = RowFault} old c.check_paper.new.conn c.in_ok-check_paper.field-0 c.in_ok-check_paper.ensures.peeks kept.0 one in
    let second = peeks_kept g.S.Store {X = Option AuthorRow} {E = RowFault} c.check_paper.new.conn c.count_author.new.conn c.in_ok-row.row c.in_ok-row.ensures.peeks first.0 two in
    let named = c.as_str-game.ensures.value in
    let known = known_at c.args.known m it.author it.game game (tables_in g.S.Store old) (tables_in g.S.Store c.check_paper.new.conn) named first.1 kept.1.0 in
    let papers = subst (λ (n : List ℕ). ArePapersKnown c.args.papers n (tables_in g.S.Store old).games) (sym named) kept.1.1 in
    record {
      paper = subst (λ (n : List ℕ). CountsOn n it.effect (tables_in g.S.Store old).games) named (c.in_ok-check_paper.ensures.value kept.0 papers one);
      author = subst (λ (n : List ℕ). CountsRow c.in_ok-row.row m it.author n it.effect (tables_in g.S.Store old)) named
          (subst (λ (t : Tables). CountsRow c.in_ok-row.row m it.author game it.effect t) first.1 (c.in_ok-row.ensures.value first.0 known two));
      readers = subst (λ (n : List ℕ). AreReaders m n it.effect (tables_in g.S.Store old).seats c.in_ok-readers.readers.items) named
          (subst (λ (t : Tables). AreReaders m game it.effect t.seats c.in_ok-readers.readers.items) (second.1 ∙ first.1) (c.in_ok-readers.ensures.value second.0 clean));
    }

pub returns-in_err-row-clause-fails : goal.returns-in_err-row-clause-fails
returns-in_err-row-clause-fails g c kept shows clean ours =
    let m = c.args.map.now in
    let it = machine.change c.args.change.now in
    let old = c.args.conn.now in
    let mid = c.check_paper.new.conn in
    let game = c.as_str-game.result.now in
    let t = tables_in g.S.Store old in
    let one = peeks_fair g.S.Store {X = Option AuthorRow} {E = RowFault} mid c.count_author.new.conn _ c.in_err-row.ensures.peeks clean in
    let first = peeks_kept g.S.Store {X = Unit {0}} {E = RowFault} old mid c.in_ok-check_paper.field-0 c.in_ok-check_paper.ensures.peeks kept.0 one in
    let up = peeks_shows g.S.Store {X = Unit {0}} {E = RowFault} old mid c.in_ok-check_paper.field-0 c.in_ok-check_paper.ensures.peeks kept.0 shows one in
    let late = faulted_late (state g.S.Store old) (state g.S.Store mid) (state g.S.Store c.count_author.new.conn) (peeks_counts g.S.Store {X = Unit {0}} {E = RowFault} old mid c.in_ok-check_paper.field-0 c.in_ok-check_paper.ensures.peeks) in
    let named = c.as_str-game.ensures.value in
    let known = known_at c.args.known m it.author it.game game t (tables_in g.S.Store mid) named first.1 kept.1.0 in
    let all = subst (λ (u : Tables). AllByRecursion IsSeatKept u.seats) (sym first.1) (all_both IsSeatWritten IsSeatLegible IsSeatKept (λ s a b. (a, b)) t.seats ours.written.seats ours.legible.seats) in
    same_fails _ _ _ _ c.in_err-row.field-0.0 c.from_residual-in_err-row.result c.from_residual-in_err-row.ensures.1 late
    (λ off place. off (subst (λ (u : Tables). PressHasRoom m it.author game it.effect u.seats) (sym first.1)
    (subst (λ (n : List ℕ). PressHasRoom m it.author n it.effect t.seats) (sym named) (rooms m it.author it.game it.effect t place.room).0)))
    (c.in_err-row.ensures.fails first.0 known up clean all)

pub returns-clause-place : goal.returns-clause-place
returns-clause-place g c kept clean =
    let m = c.args.map.now in
    let it = machine.change c.args.change.now in
    let old = c.args.conn.now in
    let game = c.as_str-game.result.now in
    let two = peeks_fair g.S.Store {X = Vec Reader Global} {E = RowFault} c.count_author.new.conn c.readers_of.new.conn _ c.in_ok-readers.ensures.peeks clean in
    let one = peeks_fair g.S.Store {X = Option AuthorRow} {E = RowFault} c.check_paper.new.conn c.count_author.new.conn _ c.in_ok-row.ensures.peeks two in
    let first = peeks_kept g.S.Store {X = Unit {0}} {E = RowFault} old c.check_paper.new.conn c.in_ok-check_paper.field-0 c.in_ok-check_paper.ensures.peeks kept.0 one in
    let second = peeks_kept g.S.Store {X = Option AuthorRow} {E = RowFault} c.check_paper.new.conn c.count_author.new.conn c.in_ok-row.row c.in_ok-row.ensures.peeks first.0 two in
    let named = c.as_str-game.ensures.value in
    let known = known_at c.args.known m it.author it.game game (tables_in g.S.Store old) (tables_in g.S.Store c.check_paper.new.conn) named first.1 kept.1.0 in
    let papers = subst (λ (n : List ℕ). ArePapersKnown c.args.papers n (tables_in g.S.Store old).games) (sym named) kept.1.1 in
    let sent = subst (λ (n : List ℕ). PressHasRoom m it.author n it.effect (tables_in g.S.Store old).seats) named
    (subst (λ (t : Tables). PressHasRoom m it.author game it.effect t.seats) first.1 (c.in_ok-row.ensures.room first.0 known two)) in
    let inboxes = subst (λ (n : List ℕ). InboxesHaveRoom m n it.effect (tables_in g.S.Store old).seats) named
    (subst (λ (t : Tables). InboxesHaveRoom m game it.effect t.seats) (second.1 ∙ first.1)
    (inboxes_room m game it.effect (tables_in g.S.Store c.count_author.new.conn).seats c.in_ok-readers.readers.items (c.in_ok-readers.ensures.value second.0 clean) c.in_ok-readers.ensures.room)) in
    record {
      paper = subst (λ (n : List ℕ). CountsOn n it.effect (tables_in g.S.Store old).games) named (c.in_ok-check_paper.ensures.value kept.0 papers one);
      room = room_of m it.author it.game it.effect (tables_in g.S.Store old) sent inboxes;
    }
