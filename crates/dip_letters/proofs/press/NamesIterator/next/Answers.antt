use Rattle.std.proofs.Common.{ap, arith, length, sym}
use Rattle.dip_letters_words.proofs.LineLemmas.{words_first, words_none}
use Rattle.dip_letters.specs.Views.{names_in}
use Rattle.dip_letters.proofs.press.NamesIterator.next.Goals as goal

pub returns-in_err-name-clause-steps : goal.returns-in_err-name-clause-steps
unfolding names_in
returns-in_err-name-clause-steps c = let none = words_none c.args.self.now.text.now (sym c.in_err-name.ensures) in rw c.from_residual.ensures (none, none)

pub returns-clause-steps : goal.returns-clause-steps
unfolding names_in
returns-clause-steps c = words_first c.args.self.now.text.now c.in_ok-name.name.now c.in_ok-name.rest.now c.in_ok-name.ensures

pub returns-clause-goes : goal.returns-clause-goes
unfolding names_in
returns-clause-goes c =
    let fewer = ap length (words_first c.args.self.now.text.now c.in_ok-name.name.now c.in_ok-name.rest.now c.in_ok-name.ensures) in
    record { on = λ finite. (tt, finite, omega (arith, fewer)); keeps = tt; rests = λ finite. tt }
