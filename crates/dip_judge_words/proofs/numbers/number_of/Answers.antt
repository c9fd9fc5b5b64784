use Rattle.std.proofs.Common.{arith, sym, ◌∙◌}
use Rattle.dip_judge_words.proofs.NumberLemmas.{no_digit, low_digit, refused_number, same_number, read_number}
use Rattle.dip_judge_words.proofs.numbers.number_of.Goals as goal

pub returns-then-is_empty-clause-none : goal.returns-then-is_empty-clause-none
returns-then-is_empty-clause-none c = λ n is least most.
    no_digit c.args.text.now n (rw (← c.as_bytes-bytes.ensures.value) (sym c.is_empty.ensures ∙ c.if-is_empty.true)) is (omega (arith, c.ranges.most.fits))

pub returns-then-bytes-lt49-clause-none : goal.returns-then-bytes-lt49-clause-none
returns-then-bytes-lt49-clause-none c = λ n is least most.
    low_digit c.args.text.now n (rw (← c.as_bytes-bytes.ensures.value) c.if-bytes-lt49.true) is least (omega (arith, c.ranges.most.fits))

pub returns-in_default-clause-none : goal.returns-in_default-clause-none
returns-in_default-clause-none c = λ n is least most.
    refused_number c.args.text.now n c.parse.result c.in_default.field-0 c.parse.ensures.value.0 c.in_default.is is (omega (arith, c.ranges.most.fits))

pub returns-then-most-number-clause-none : goal.returns-then-most-number-clause-none
returns-then-most-number-clause-none c = λ n is least most.
    let same = same_number c.args.text.now n c.in-Ok.number c.parse.result c.parse.ensures.value.0 c.in-Ok.is is (omega (arith, c.ranges.most.fits)) in
    omega (arith, c.if-most-number.true)

pub returns-clause-some : goal.returns-clause-some
returns-clause-some c =
    let read = read_number c.args.text.now c.in-Ok.number c.parse.result c.parse.ensures.value.0 c.in-Ok.is (rw (← c.as_bytes-bytes.ensures.value) c.if-bytes-lt49.false) in
    (read.0, read.1, omega (arith, c.if-most-number.false))
