use Rattle.std.proofs.Common.{rules}
use Rattle.dip_http_messages.proofs.TableLemmas.{first_fault, first_row, second_fault, second_row, third_fault, third_row}
use Rattle.dip_http_messages.proofs.table.router_of.Goals as goal

pub returns-clause-ok : goal.returns-clause-ok
returns-clause-ok c =
    let a = first_row _ (rw c.new-router.ensures at c.in_ok-insert.ensures) in
    let b = second_row _ (rw a at c.in_ok-insert-2.ensures) in
    third_row _ (rw b at c.in_ok-insert-3.ensures)

pub returns-in_err-insert-clause-err : goal.returns-in_err-insert-clause-err
returns-in_err-insert-clause-err c =
    let f = first_fault _ _ (rw c.new-router.ensures at c.in_err-insert.ensures) in
    search (rules, f)

pub returns-in_err-insert-2-clause-err : goal.returns-in_err-insert-2-clause-err
returns-in_err-insert-2-clause-err c =
    let a = first_row _ (rw c.new-router.ensures at c.in_ok-insert.ensures) in
    let f = second_fault _ _ (rw a at c.in_err-insert-2.ensures) in
    search (rules, f)

pub returns-in_err-insert-3-clause-err : goal.returns-in_err-insert-3-clause-err
returns-in_err-insert-3-clause-err c =
    let a = first_row _ (rw c.new-router.ensures at c.in_ok-insert.ensures) in
    let b = second_row _ (rw a at c.in_ok-insert-2.ensures) in
    let f = third_fault _ _ (rw b at c.in_err-insert-3.ensures) in
    search (rules, f)
