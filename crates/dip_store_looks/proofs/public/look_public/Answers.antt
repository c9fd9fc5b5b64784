use Rattle.std.proofs.Common.{◌≡◌, arith, map, filter, option_map, subst, ap, Some, ◌∙◌}
use Rattle.std.specs.List.{find}
use Rattle.std.proofs.lemmas.Result.{err_from_is_err_and}
use Rattle.sqlite.specs.Effect.{Database}
use Rattle.dip_store_sql.specs.Calls.{tables_in}
use Rattle.dip_store_sql.specs.Rows.{tables_of}
use Rattle.dip_store_sql.specs.Showing.{show_centre, show_choice, show_unit}
use Rattle.dip_store_tables.specs.Tables.{is_unit_in, is_centre_in, is_choice_in}
use Rattle.dip_store_sql.proofs.RowFaults.{outside_weaker, told_on}
use Rattle.dip_store_sql.proofs.Caused.{faulted_late}
use Rattle.sqlite.specs.Held.{state}
use Rattle.dip_store_looks.proofs.BoardRows.{game_found_readable}
use Rattle.dip_store_looks.proofs.PublicLemmas.{public_is}
use Rattle.dip_store_looks.proofs.public.look_public.Goals as goal

pub returns-clause-value : goal.returns-clause-value
returns-clause-value g c kept clean =
    let a = c.in_ok-row.ensures.selects in
    let b = c.in_ok-units.ensures.selects in
    let d = c.in_ok-centres.ensures.selects in
    let clean3 = c.in_ok-choice.ensures.selects.fair clean in
    let clean2 = d.fair clean3 in
    let clean1 = b.fair clean2 in
    let shows1 = a.ok kept clean1 in
    let kept1 = a.kept kept shows1 in
    let same1 = a.same kept shows1 in
    let shows2 = b.ok kept1 clean2 in
    let kept2 = b.kept kept1 shows2 in
    let same2 = b.same kept1 shows2 ∙ same1 in
    let shows3 = d.ok kept2 clean3 in
    let kept3 = d.kept kept2 shows3 in
    let same3 = d.same kept2 shows3 ∙ same2 in
    let name = c.args.game.now in
    let units = subst (λ (d : Database). c.in_ok-units.units.items ≡ map show_unit (filter (is_unit_in name) (tables_of d.trees).units)) same1 (c.in_ok-units.ensures.value kept1 clean2) in
    let centres = subst (λ (d : Database). c.in_ok-centres.centres.items ≡ map show_centre (filter (is_centre_in name) (tables_of d.trees).centres)) same2 (c.in_ok-centres.ensures.value kept2 clean3) in
    let choice = subst (λ (d : Database). c.in_ok-choice.choice ≡ option_map show_choice (find (is_choice_in name) (tables_of d.trees).choices)) same3 (c.in_ok-choice.ensures.value kept3 clean) in
    let said = rw (c.as_slice.ensures.value, c.as_slice-2.ensures.value) at c.in_ok-public.ensures.value in
    ap Some said
    ∙ public_is c.args.map.now (tables_in g.S.Store c.args.conn.now) name c.in-Some.row c.in_ok-units.units.items c.in_ok-centres.centres.items c.in_ok-choice.choice
    (rw c.in-Some.is at (c.in_ok-row.ensures.value kept clean1)) units centres choice

pub returns-in_err-public-clause-own : goal.returns-in_err-public-clause-own
returns-in_err-public-clause-own g c kept shows clean ours =
    let a = c.in_ok-row.ensures.selects in
    let b = c.in_ok-units.ensures.selects in
    let d = c.in_ok-centres.ensures.selects in
    let clean3 = c.in_ok-choice.ensures.selects.fair clean in
    let clean2 = d.fair clean3 in
    let clean1 = b.fair clean2 in
    let shows1 = a.ok kept clean1 in
    let kept1 = a.kept kept shows1 in
    let same1 = a.same kept shows1 in
    let shows2 = b.ok kept1 clean2 in
    let kept2 = b.kept kept1 shows2 in
    let same2 = b.same kept1 shows2 ∙ same1 in
    let shows3 = d.ok kept2 clean3 in
    let kept3 = d.kept kept2 shows3 in
    let same3 = d.same kept2 shows3 ∙ same2 in
    let name = c.args.game.now in
    let units = subst (λ (d : Database). c.in_ok-units.units.items ≡ map show_unit (filter (is_unit_in name) (tables_of d.trees).units)) same1 (c.in_ok-units.ensures.value kept1 clean2) in
    let centres = subst (λ (d : Database). c.in_ok-centres.centres.items ≡ map show_centre (filter (is_centre_in name) (tables_of d.trees).centres)) same2 (c.in_ok-centres.ensures.value kept2 clean3) in
    let choice = subst (λ (d : Database). c.in_ok-choice.choice ≡ option_map show_choice (find (is_choice_in name) (tables_of d.trees).choices)) same3 (c.in_ok-choice.ensures.value kept3 clean) in
    let readable = game_found_readable c.args.map.now (tables_in g.S.Store c.args.conn.now) ours name c.in-Some.row c.in_ok-units.units.items c.in_ok-centres.centres.items c.in_ok-choice.choice
    (rw c.in-Some.is at (c.in_ok-row.ensures.value kept clean1)) units centres choice in
    let fails = rw (c.as_slice.ensures.value, c.as_slice-2.ensures.value) at c.in_err-public.ensures.own in
    let p = err_from_is_err_and c.from_residual-in_err-public.result c.from_residual-in_err-public.ensures.1 in
    rw (p.1, p.2) (outside_weaker ⊥ _ _ (λ none. absurd none) (fails readable))

pub returns-in_err-units-clause-own : goal.returns-in_err-units-clause-own
returns-in_err-units-clause-own g c kept shows clean ours =
    let a = c.in_ok-row.ensures.selects in
    let shows1 = a.ok kept (c.in_err-units.ensures.selects.fair clean) in
    let late = faulted_late (state g.S.Store c.args.conn.now) (state g.S.Store c.find_game.new.conn) (state g.S.Store c.list_units.new.conn) a.counts in
    told_on _ _ c.in_err-units.field-0.0 c.from_residual-in_err-units.result c.from_residual-in_err-units.ensures.1 late
    (c.in_err-units.ensures.caused (a.kept kept shows1) shows1 clean)

pub returns-in_err-centres-clause-own : goal.returns-in_err-centres-clause-own
returns-in_err-centres-clause-own g c kept shows clean ours =
    let a = c.in_ok-row.ensures.selects in
    let b = c.in_ok-units.ensures.selects in
    let clean2 = c.in_err-centres.ensures.selects.fair clean in
    let shows1 = a.ok kept (b.fair clean2) in
    let kept1 = a.kept kept shows1 in
    let shows2 = b.ok kept1 clean2 in
    let late = faulted_late (state g.S.Store c.args.conn.now) (state g.S.Store c.list_units.new.conn) (state g.S.Store c.list_centres.new.conn) (omega (arith, a.counts, b.counts)) in
    told_on _ _ c.in_err-centres.field-0.0 c.from_residual-in_err-centres.result c.from_residual-in_err-centres.ensures.1 late
    (c.in_err-centres.ensures.caused (b.kept kept1 shows2) shows2 clean)

pub returns-in_err-choice-clause-own : goal.returns-in_err-choice-clause-own
returns-in_err-choice-clause-own g c kept shows clean ours =
    let a = c.in_ok-row.ensures.selects in
    let b = c.in_ok-units.ensures.selects in
    let d = c.in_ok-centres.ensures.selects in
    let clean3 = c.in_err-choice.ensures.selects.fair clean in
    let clean2 = d.fair clean3 in
    let shows1 = a.ok kept (b.fair clean2) in
    let kept1 = a.kept kept shows1 in
    let shows2 = b.ok kept1 clean2 in
    let kept2 = b.kept kept1 shows2 in
    let shows3 = d.ok kept2 clean3 in
    let late = faulted_late (state g.S.Store c.args.conn.now) (state g.S.Store c.list_centres.new.conn) (state g.S.Store c.find_choice.new.conn) (omega (arith, a.counts, b.counts, d.counts)) in
    told_on _ _ c.in_err-choice.field-0.0 c.from_residual-in_err-choice.result c.from_residual-in_err-choice.ensures.1 late
    (c.in_err-choice.ensures.caused (d.kept kept2 shows3) shows3 clean)
