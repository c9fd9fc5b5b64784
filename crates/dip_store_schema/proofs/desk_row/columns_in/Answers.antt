use Rattle.std.proofs.Common.{◌≡◌, ◌<◌, ◌^◌, ℕ, List, None, Option, Some, arith, codes, refl, subst, sym}
use Rattle.std.proofs.lemmas.Result.{err_from_is_err_and}
use Rattle.sqlite.specs.Order.{Row}
use Rattle.dip_desk_state.specs.Records.{Kept}
use Rattle.dip_store_schema.specs.Desk.{IsMarked}
use Rattle.dip_store_sql.specs.Showing.{show_desk}
use Rattle.dip_store_sql.specs.Values.{HasNumber}
use Rattle.dip_store_tables.specs.Tables.{DeskRow}
use Rattle.dip_store_tables.specs.Written.{IsDeskWritten, KeepsLetter}
use Rattle.dip_store_schema.proofs.desk_row.columns_in.Goals as goal

has_version : (d : DeskRow) → IsMarked d → HasNumber (show_desk d) 0
has_version d marked = record { there = omega arith; number = d.version; is = refl; low = marked.0 }

last_low : (game : List ℕ) (k : Option Kept) (d : DeskRow) → KeepsLetter game (codes "master") k d.last d.kept d.reply → d.last < 2 ^ 32
last_low game None d it = omega (arith, it.0)
last_low game (Some k) d it = omega (arith, it.1, it.2)

has_last : (d : DeskRow) → IsDeskWritten d → HasNumber (show_desk d) 3
has_last d written = record { there = omega arith; number = d.last; is = refl; low = last_low written.letter.0 written.letter.1 d written.letter.2 }

pub returns-in_err-number_at-clause-own : goal.returns-in_err-number_at-clause-own
returns-in_err-number_at-clause-own c d is marked written =
    let p = err_from_is_err_and c.from_residual.result c.from_residual.ensures.1 in
    rw (p.1, p.2) (c.in_err-number_at.ensures.own (subst (λ (r : Row). HasNumber r 0) (sym is) (has_version d marked)))

pub returns-in_err-number_at-2-clause-own : goal.returns-in_err-number_at-2-clause-own
returns-in_err-number_at-2-clause-own c d is marked written =
    let p = err_from_is_err_and c.from_residual-in_err-number_at-2.result c.from_residual-in_err-number_at-2.ensures.1 in
    rw (p.1, p.2) (c.in_err-number_at-2.ensures.own (subst (λ (r : Row). HasNumber r 3) (sym is) (has_last d written)))
