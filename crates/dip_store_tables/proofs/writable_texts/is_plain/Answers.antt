use Rattle.std.proofs.Common.{IsTrue, string_bytes}
use Rattle.dip_desk_state.specs.Writable.{IsWord, Lacks}
use Rattle.dip_store_tables.proofs.Mapped.{each_told}
use Rattle.dip_store_tables.proofs.writable_texts.is_plain.Goals as goal

pub returns-then-are_words : goal.returns-then-are_words
returns-then-are_words c =
    let words = each_told (IsTrue c.are_words.result) (IsWord 32) (λ t. string_bytes t) _ _ c.as_slice.ensures.value c.are_words.ensures in
    let lines = each_told (IsTrue c.are_lines.result) (Lacks 10) (λ t. string_bytes t) _ _ c.as_slice-then-are_words.ensures.value c.are_lines.ensures in
    rw c.in-White.is (λ is. (words.0 c.if-are_words.true, lines.0 is), λ plain. lines.1 plain.1)

pub returns-else-are_words : goal.returns-else-are_words
returns-else-are_words c =
    let words = each_told (IsTrue c.are_words.result) (IsWord 32) (λ t. string_bytes t) _ _ c.as_slice.ensures.value c.are_words.ensures in
    let no = c.if-are_words.false in
    rw c.in-White.is (λ is. absurd (cc), λ plain. words.1 plain.0)

pub returns-in-Grey : goal.returns-in-Grey
returns-in-Grey c =
    let lines = each_told (IsTrue c.are_lines-in-Grey.result) (Lacks 10) (λ t. string_bytes t) _ _ c.as_slice-in-Grey.ensures.value c.are_lines-in-Grey.ensures in
    rw c.in-Grey.is lines
