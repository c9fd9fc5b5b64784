use Rattle.std.proofs.Common.{◌≡◌, arith, rules, [], ◌∷◌, map, subst, string_bytes, ◌∙◌}
use Rattle.sqlite.specs.declared.error.Error.{Error}
use Rattle.sqlite.specs.Held.{state}
use Rattle.dip_store_tables.specs.Renewing.{old_choice}
use Rattle.dip_store_sql.specs.Calls.{Writes}
use Rattle.dip_store_sql.proofs.Parts.{fails, taken_both, went, writes_more}
use Rattle.dip_store_schema.specs.Renewing.{more_choices}
use Rattle.dip_store_schema.proofs.Filling.{choices_on}
use Rattle.dip_store_schema.proofs.Refilling.{ChoiceIs, choices_next}
use Rattle.dip_desk_state.specs.Rows.{lines}
use Rattle.dip_store_schema.specs.Rewriting.{Stands}
use Rattle.dip_store_schema.proofs.Trying.{tries_fails}
use Rattle.dip_store_schema.proofs.renewing.add_choices.Goals as goal

pub loop-game-preserved : goal.loop-game-preserved
loop-game-preserved g c =
    let d = c.game-item.result in
    let named : c.as_str.result.now ≡ string_bytes c.game-item.result = search rules in
    let here = subst (λ n. Writes (more_choices (old_choice n ∷ [])) (state g.S.Store c.loop-game.tx.conn.now) (state g.S.Store c.add_new_choice.new.tx.conn.now) (went (Unit {0}) Error tt)) named c.in_ok-add_new_choice.ensures.writes in
    let step = subst (λ s. Writes (more_choices (old_choice (string_bytes s) ∷ [])) (state g.S.Store c.loop-game.tx.conn.now) (state g.S.Store c.add_new_choice.new.tx.conn.now) (went (Unit {0}) Error tt)) c.game-item.is here in
    let named_one = subst (λ n. ChoiceIs (old_choice n) (state g.S.Store c.loop-game.tx.conn.now) (state g.S.Store c.add_new_choice.new.tx.conn.now) (went (Unit {0}) Error tt)) named c.in_ok-add_new_choice.ensures.tries in
    let one = subst (λ s. ChoiceIs (old_choice (string_bytes s)) (state g.S.Store c.loop-game.tx.conn.now) (state g.S.Store c.add_new_choice.new.tx.conn.now) (went (Unit {0}) Error tt)) c.game-item.is named_one in
    record {
      same_reference = c.in_ok-add_new_choice.ensures.same_reference ∙ c.loop-game.invariant.same_reference;
      writes = writes_more _ _ _ _ _ _ _ _ _ tt tt tt
          (choices_on _ _ _ (taken_both old_choice (λ s. string_bytes s) c.args.games.now c.loop-game.game-index d (omega arith)))
          c.loop-game.invariant.writes step;
      tries = choices_next c.args.games.now c.loop-game.game-index d (omega arith) _ _ _ tt (went (Unit {0}) Error tt) c.loop-game.invariant.tries one;
    }

pub returns-in_err-add_new_choice-clause-tries : goal.returns-in_err-add_new_choice-clause-tries
returns-in_err-add_new_choice-clause-tries g c old t =
    let d = c.game-item.result in
    let e = c.in_err-add_new_choice.field-0.0 in
    let named : c.as_str.result.now ≡ string_bytes c.game-item.result = search rules in
    let named_one = subst (λ n. ChoiceIs (old_choice n) (state g.S.Store c.loop-game.tx.conn.now) (state g.S.Store c.add_new_choice.new.tx.conn.now) (fails (Unit {0}) Error e)) named c.in_err-add_new_choice.ensures.tries in
    let one = subst (λ s. ChoiceIs (old_choice (string_bytes s)) (state g.S.Store c.loop-game.tx.conn.now) (state g.S.Store c.add_new_choice.new.tx.conn.now) (fails (Unit {0}) Error e)) c.game-item.is named_one in
    let all = choices_next c.args.games.now c.loop-game.game-index d (omega arith) _ _ _ tt (fails (Unit {0}) Error e) c.loop-game.invariant.tries one in
    λ apart fits.
    let it = tries_fails {X = Unit {0}} {Y = Unit {0}} _ _ (Stands old (more_choices (map old_choice (lines c.args.games.now)) t)) _ _ e (all old t apart fits) in
    search (rules, it)
