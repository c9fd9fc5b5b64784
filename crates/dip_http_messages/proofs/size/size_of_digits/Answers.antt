use Rattle.std.proofs.Common.{◌<◌, arith}
use Rattle.std.specs.Str.Parse.{digits_value}
use Rattle.std.proofs.lemmas.Bool.Decides.{nat_tests}
use Rattle.dip_http_messages.proofs.HeadNumbers.{digit_at, one_more}
use Rattle.dip_http_messages.proofs.size.size_of_digits.Goals as goal

pub overflow_sub-digit : goal.overflow_sub-digit
overflow_sub-digit c = (digit_at c.args.digits.now c.digits.digit-index c.requires c.digits-test.true).0

pub returns-then-value-gt-MOST_BODY : goal.returns-then-value-gt-MOST_BODY
returns-then-value-gt-MOST_BODY c =
    let m = one_more c.args.digits.now c.digits.digit-index c.requires c.digits-test.true in
    let big : 16384 < digits_value 10 c.args.digits.now = omega (arith, m.0, m.1) in
    grind (arith, nat_tests)

pub digits-preserved : goal.digits-preserved
digits-preserved c =
    let m = one_more c.args.digits.now c.digits.digit-index c.requires c.digits-test.true in
    record { value = omega (arith, m.0); small = c.if-value-gt-MOST_BODY.false }
