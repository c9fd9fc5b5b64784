use Rattle.std.proofs.Common.{ap, arith, length, sym}
use Rattle.dip_letters.specs.Reading.{items_from, text_at}
use Rattle.dip_letters_words.proofs.LineLemmas.{split_none}
use Rattle.dip_letters.proofs.BodyLemmas.{item_first, item_none}
use Rattle.dip_letters.specs.Views.{texts_in}
use Rattle.dip_letters.proofs.press.TextsIterator.next.Goals as goal

pub returns-in_err-line-clause-steps : goal.returns-in_err-line-clause-steps
unfolding texts_in
returns-in_err-line-clause-steps c = let none = ap (items_from text_at) (split_none c.args.self.now.text.now (sym c.in_err-line.ensures)) in rw c.from_residual.ensures (none, none)

pub returns-in_err-text-clause-steps : goal.returns-in_err-text-clause-steps
unfolding texts_in
returns-in_err-text-clause-steps c =
    let none = item_none text_at c.args.self.now.text.now c.in_ok-line.line.now c.in_ok-line.rest.now c.in_ok-line.ensures (sym c.in_err-text.ensures) in rw c.from_residual-in_err-text.ensures (none, none)

pub returns-clause-steps : goal.returns-clause-steps
unfolding texts_in
returns-clause-steps c = item_first text_at c.args.self.now.text.now c.in_ok-line.line.now c.in_ok-line.rest.now _ c.in_ok-line.ensures (sym c.in_ok-text.ensures)

pub returns-clause-goes : goal.returns-clause-goes
unfolding texts_in
returns-clause-goes c =
    let fewer = ap length (item_first text_at c.args.self.now.text.now c.in_ok-line.line.now c.in_ok-line.rest.now _ c.in_ok-line.ensures (sym c.in_ok-text.ensures)) in
    record { on = λ finite. (tt, finite, omega (arith, fewer)); keeps = tt; rests = λ finite. tt }
