use Rattle.std.proofs.Common.{◌≡◌, ◌≤◌, take}
use Rattle.std.specs.Str.Parse.{digits_value}
use Rattle.dip_http_messages.proofs.size.size_of_digits.Given as goal

abbrev pub invariant-digits : goal.invariant-digits
invariant-digits l = record {
  value : l.value ≡ digits_value 10 (take l.digit-index l.digits);
  small : l.value ≤ 16384;
}
