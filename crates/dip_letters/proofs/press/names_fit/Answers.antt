use Rattle.std.proofs.Common.{◌<◌, ap, arith, sym, ◌∙◌}
use Rattle.dip_letters.specs.Reading.{words_fit}
use Rattle.dip_letters_words.specs.Words.{is_name}
use Rattle.dip_letters.proofs.PressLemmas.{names_fail, names_last, names_more, names_zero}
use Rattle.dip_letters_words.proofs.LineLemmas.{word_utf8}
use Rattle.dip_letters.proofs.press.names_fit.Goals as goal

pub returns-then-left-eq0 : goal.returns-then-left-eq0
returns-then-left-eq0 c =
    sym (elim c.then-left-eq0.branch [
      | goal.then-left-eq0-via-then-left-eq0 w ↦ ap (λ k. words_fit is_name k c.loop-name.at.now) w.if-left-eq0.true ∙ names_zero c.loop-name.at.now _ (sym c.in-Some.ensures)
      | goal.then-left-eq0-via-else-left-eq0+then-not-is_name w ↦ names_fail c.loop-name.left c.loop-name.at.now _ (sym c.in-Some.ensures) (sym w.if-not-is_name.ensures)
    ]) ∙ c.loop-name.invariant.0

pub loop-name-preserved : goal.loop-name-preserved
loop-name-preserved c =
    let some : 0 < c.loop-name.left = omega (arith, c.if-left-eq0.false) in (
      sym (names_more c.loop-name.left c.loop-name.at.now _ some (sym c.in-Some.ensures) (sym c.if-not-is_name.ensures)) ∙ c.loop-name.invariant.0,
      word_utf8 c.loop-name.at.now c.in-Some.name.now c.in-Some.rest.now c.loop-name.invariant.1 c.in-Some.ensures,
    )

pub returns : goal.returns
returns c = c.is_name-2.ensures ∙ sym (names_last c.loop-name.left c.loop-name.at.now (sym c.in_default.ensures)) ∙ c.loop-name.invariant.0
