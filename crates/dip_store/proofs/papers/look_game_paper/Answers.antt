use Rattle.std.proofs.Common.{◌≡◌, find, option_map, string_bytes, sym, subst}
use Rattle.std.proofs.lemmas.Result.{err_from_is_err_and}
use Rattle.dip_store_tables.specs.Legible.{AreOurs}
use Rattle.dip_store_sql.specs.Calls.{tables_in}
use Rattle.dip_store_sql.specs.Showing.{is_numbered}
use Rattle.dip_store_tables.specs.Tables.{Tables}
use Rattle.dip_store_sql.proofs.RowFaults.{outside_weaker}
use Rattle.dip_store_looks.proofs.Onward.{leaves}
use Rattle.dip_store_sql.proofs.Caused.{faulted_late}
use Rattle.sqlite.specs.Held.{state}
use Rattle.dip_store.proofs.Asked.{no_paper_is, paper_is}
use Rattle.dip_store.proofs.papers.look_game_paper.Goals as goal

pub returns-in_default-clause-value : goal.returns-in_default-clause-value
returns-in_default-clause-value g c kept clean m =
    no_paper_is m (c.paper_is_found.ensures m) (tables_in g.S.Store c.args.conn.now) kept.counted c.args.game.now c.args.number
    (rw c.in_default.is at (c.in_ok-_game.ensures.value kept clean))

pub returns-clause-value : goal.returns-clause-value
returns-clause-value g c kept clean m =
    let name = c.args.game.now in
    let number = c.args.number in
    let first = c.in_ok-_game.ensures.selects in
    let clean1 = c.in_ok-paper.ensures.selects.fair clean in
    let here = leaves g.S.Store c.args.conn.now _ c.in_ok-_game.field-0 first kept clean1 in
    let read = subst (λ (t : Tables). option_map string_bytes c.in_ok-paper.paper ≡ option_map (λ p. p.body) (find (is_numbered name number) t.papers)) here.1
    (c.in_ok-paper.ensures.value here.0 clean) in
    paper_is m (c.paper_is_found.ensures m) (tables_in g.S.Store c.args.conn.now) kept.counted name number c.in-Some._game _
    (rw c.in-Some.is at (c.in_ok-_game.ensures.value kept clean1)) read

pub returns-in_err-paper-clause-own : goal.returns-in_err-paper-clause-own
returns-in_err-paper-clause-own g c kept shows clean m ours =
    let clean1 = c.in_err-paper.ensures.selects.fair clean in
    let here = leaves g.S.Store c.args.conn.now _ c.in_ok-_game.field-0 c.in_ok-_game.ensures.selects kept clean1 in
    let shows1 = c.in_ok-_game.ensures.selects.ok kept clean1 in
    let p = err_from_is_err_and c.from_residual-in_err-paper.result c.from_residual-in_err-paper.ensures.1 in
    let late = faulted_late (state g.S.Store c.args.conn.now) (state g.S.Store c.find_game.new.conn) (state g.S.Store c.look_paper.new.conn) c.in_ok-_game.ensures.selects.counts in
    rw (p.1, p.2) (outside_weaker _ _ _ late (c.in_err-paper.ensures.own here.0 shows1 clean m (subst (AreOurs m) (sym here.1) ours)))
