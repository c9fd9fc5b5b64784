use Rattle.std.proofs.Common.{ℕ, suc, rules}
use Rattle.sqlite.specs.declared.error.Error.{Error}
use Rattle.dip_store_tables.specs.Renewing.{old_choice}
use Rattle.dip_store_sql.specs.TablesAfter.{with_choice}
use Rattle.dip_store_sql.proofs.Parts.{fails, went}
use Rattle.dip_store_schema.specs.Rewriting.{StandsAt}
use Rattle.dip_store_schema.proofs.Refilling.{choice_tries}
use Rattle.dip_store_schema.proofs.Trying.{tries_fails, tries_ok}
use Rattle.dip_store_schema.proofs.renewing.add_new_choice.Goals as goal

pub returns-clause-tries : goal.returns-clause-tries
returns-clause-tries g c old t n apart fits =
    let one = choice_tries (old_choice c.args.game.now) _ _ (went ℕ Error c.in_ok-add_choice.field-0) c.in_ok-add_choice.ensures.does c.in_ok-add_choice.ensures.stores in
    tries_ok _ _ _ _ c.in_ok-add_choice.field-0 tt (one old t n apart fits)

pub returns-in_err-add_choice-clause-tries : goal.returns-in_err-add_choice-clause-tries
returns-in_err-add_choice-clause-tries g c old t n apart fits =
    let e = c.in_err-add_choice.field-0.0 in
    let one = choice_tries (old_choice c.args.game.now) _ _ (fails ℕ Error e) c.in_err-add_choice.ensures.does c.in_err-add_choice.ensures.stores in
    let it = tries_fails {X = ℕ} {Y = Unit {0}} _ _ (StandsAt 18 (suc n) old (with_choice (old_choice c.args.game.now) t)) _ _ e (one old t n apart fits) in
    search (rules, it)
