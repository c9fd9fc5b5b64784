use Rattle.std.proofs.Common.{arith, ◌≡◌, ◌≤◌, ◌+◌, ℕ, Option, Ok, Err, true, sym, ap, ◌∙◌}
use Rattle.dip_desk_state.specs.Bounds.{most_papers}
use Rattle.dip_store_tables.proofs.ListLemmas.{all_weaker}
use Rattle.dip_store_tables.specs.Counting.{IsNextPaper}
use Rattle.dip_store_tables.specs.Tables.{GameRow, is_named}
use Rattle.sqlite.specs.Held.{state}
use Rattle.dip_store_sql.specs.Calls.{tables_in}
use Rattle.dip_store_sql.proofs.Apart.{one_game}
use Rattle.dip_store_sql.proofs.RowFaults.{same_fails}
use Rattle.dip_store_sql.specs.declared.row_faults.RowFault.{RowFault}
use Rattle.dip_store_sql.specs.declared.row_faults.RowFault.TheVariants.{Misfit}
use Rattle.dip_store_counts.proofs.Found.{none_counted, one_counted}
use Rattle.dip_store_counts.proofs.Failing.{shown_found}
use Rattle.dip_store_counts.proofs.Peeking.{peeks_as, peeks_passed}
use Rattle.dip_store_counts.proofs.counts.check_number.Goals as goal
use Rattle.dip_store_counts.proofs.counts.check_number.Goals.{then-count-ge-MOST_PAPERS-via-then-count-ge-MOST_PAPERS, then-count-ge-MOST_PAPERS-via-else-count-ge-MOST_PAPERS+then-papers-count}

pub returns-in_default-clause-value : goal.returns-in_default-clause-value
returns-in_default-clause-value g c kept known clean =
    let name = c.args.game.now in
    let games = (tables_in g.S.Store c.args.conn.now).games in
    none_counted (is_named name) (λ r. r.papers) games (one_game (state g.S.Store c.args.conn.now).now kept.good name) (IsNextPaper c.args.papers)
    (sym c.in_default.is ∙ c.in_ok-count.ensures.value kept known clean)

pub returns-clause-value : goal.returns-clause-value
returns-clause-value g c kept known clean =
    let name = c.args.game.now in
    let games = (tables_in g.S.Store c.args.conn.now).games in
    let few : c.args.papers ≤ most_papers = omega (arith, c.if-count-ge-MOST_PAPERS.false, c.if-papers-count.false) in
    all_weaker (λ (x : GameRow). is_named name x ≡ true → c.args.papers ≡ x.papers + 1) (λ (x : GameRow). is_named name x ≡ true → IsNextPaper c.args.papers x)
    (λ x next mine. (next mine, few)) games
    (one_counted (is_named name) (λ r. r.papers) games (one_game (state g.S.Store c.args.conn.now).now kept.good name)
    c.in-Some.count c.args.papers (sym c.in-Some.is ∙ c.in_ok-count.ensures.value kept known clean) (omega (arith, c.if-papers-count.false)))

pub returns-in_err-count-clause-fails : goal.returns-in_err-count-clause-fails
returns-in_err-count-clause-fails g c kept known shows clean narrow =
    same_fails _ _ ⊥ _ c.in_err-count.field-0.0 c.from_residual.result c.from_residual.ensures.1 (λ fault. fault) (λ none. absurd none) (c.in_err-count.ensures.fails kept shows clean narrow)

pub returns-then-count-ge-MOST_PAPERS-clause-fails : goal.returns-then-count-ge-MOST_PAPERS-clause-fails
returns-then-count-ge-MOST_PAPERS-clause-fails g c kept known shows clean narrow = λ all.
    let it = shown_found (λ (x : GameRow). is_named c.args.game.now x ≡ true → IsNextPaper c.args.papers x) (is_named c.args.game.now) (λ x. x.papers) (tables_in g.S.Store c.args.conn.now).games c.in-Some.count
    (sym c.in-Some.is ∙ c.in_ok-count.ensures.value kept known clean) all in
    let few = (it.holds it.passes).1 in
    let next : c.args.papers ≡ c.in-Some.count + 1 = (it.holds it.passes).0 ∙ ap (λ n. n + 1) (sym it.shown) in
    elim c.then-count-ge-MOST_PAPERS.branch [
      | then-count-ge-MOST_PAPERS-via-then-count-ge-MOST_PAPERS w ↦ omega (arith, next, few, w)
      | then-count-ge-MOST_PAPERS-via-else-count-ge-MOST_PAPERS+then-papers-count w ↦ omega (arith, next, w)
    ]

pub returns-in_err-count-clause-peeks : goal.returns-in_err-count-clause-peeks
returns-in_err-count-clause-peeks g c =
    peeks_passed g.S.Store {Y = Option ℕ} {F = RowFault} c.args.conn.now c.know_papers.new.conn c.in_err-count.field-0.0 c.from_residual.result c.from_residual.ensures.0 c.in_err-count.ensures.peeks

pub returns-in_default-clause-peeks : goal.returns-in_default-clause-peeks
returns-in_default-clause-peeks g c =
    peeks_as g.S.Store {X = Option ℕ} {E = RowFault} {Y = Unit {0}} {F = RowFault} c.args.conn.now c.know_papers.new.conn c.in_ok-count.field-0 (Ok tt) c.in_ok-count.ensures.peeks

pub returns-then-count-ge-MOST_PAPERS-clause-peeks : goal.returns-then-count-ge-MOST_PAPERS-clause-peeks
returns-then-count-ge-MOST_PAPERS-clause-peeks g c =
    peeks_as g.S.Store {X = Option ℕ} {E = RowFault} {Y = Unit {0}} {F = RowFault} c.args.conn.now c.know_papers.new.conn c.in_ok-count.field-0 (Err Misfit) c.in_ok-count.ensures.peeks

pub returns-clause-peeks : goal.returns-clause-peeks
returns-clause-peeks g c =
    peeks_as g.S.Store {X = Option ℕ} {E = RowFault} {Y = Unit {0}} {F = RowFault} c.args.conn.now c.know_papers.new.conn c.in_ok-count.field-0 (Ok tt) c.in_ok-count.ensures.peeks
