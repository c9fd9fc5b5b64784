use Rattle.std.proofs.Common.{◌≡◌, ◌∷◌, ◌++◌, rules}
use Rattle.dip_desk_state.specs.Writable.{Lacks}
use Rattle.dip_store_tables.proofs.KeptLines.{no_line, no_end, none_as}
use Rattle.dip_store_tables.proofs.last_letters.lines_of.Goals as goal

pub returns-in_err-more-clause-none : goal.returns-in_err-more-clause-none
returns-in_err-more-clause-none c =
    let off : Lacks 10 c.args.printed.now = search rules in
    rw c.from_residual.ensures (no_line c.args.printed.now off)

pub returns-clause-none : goal.returns-clause-none
returns-clause-none c =
    let off : Lacks 10 c.in_ok-more.field-0-0.now × (c.args.printed.now ≡ c.in_ok-more.field-0-0.now ++ 10 ∷ c.in_ok-more.more.now) = search rules in
    none_as c.before_end.result (no_end c.args.printed.now c.in_ok-more.field-0-0.now c.in_ok-more.more.now off) c.before_end.ensures.none
