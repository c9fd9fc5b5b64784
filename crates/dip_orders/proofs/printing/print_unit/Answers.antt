use Rattle.std.proofs.Common.{◌≡◌, ◌∙◌, length, rules, string_bytes}
use Rattle.std.proofs.lemmas.Str.{IsUtf8-string_bytes}
use Rattle.dip_orders.proofs.PrintLaws.{may_be_cut, cut_back}
use Rattle.dip_orders.proofs.printing.print_unit.Goals as goal

pub truncate-requires : goal.truncate-requires
truncate-requires c low =
    let old = string_bytes c.args.out.now in
    let new = string_bytes c.append_unit-printed.new.out in
    let cut = may_be_cut old new (IsUtf8-string_bytes c.args.out.now) (IsUtf8-string_bytes c.append_unit-printed.new.out) c.append_unit-printed.ensures.more in
    search (rules, cut)

pub returns-then-is_err-clause-unchanged : goal.returns-then-is_err-clause-unchanged
returns-then-is_err-clause-unchanged c =
    let ends : c.len-before.result ≡ length (string_bytes c.args.out.now) = c.len-before.ensures ∙ c.args.out.now.bytes.ok.0 in
    cut_back _ _ _ _ _ ends c.append_unit-printed.ensures.more c.truncate.ensures.bytes
