use Rattle.std.proofs.Common.{◌≡◌, ◌∷◌, length, drop, ◌∙◌, sym, ap, ap₂, rules, string_bytes}
use Rattle.dip_desk_state.specs.Rows as rows
use Rattle.dip_store_tables.specs.Reading.{status_in, status_of}
use Rattle.dip_store_tables.specs.Texts.{pieces}
use Rattle.dip_store_tables.proofs.KeptLines.{none_as, ok_as}
use Rattle.dip_store_tables.proofs.StatusLemmas.{no_words, told, status_told, lines_behind}
use Rattle.dip_store_tables.proofs.statuses.read_status.Goals as goal

pub returns-in_default-clause-none : goal.returns-in_default-clause-none
returns-in_default-clause-none c said =
    let empty : length c.in_ok-words.words.items ≡ 0 = search rules in
    no_words c.args.map.now c.facts.ensures c.args.text.now c.in_ok-words.words.items c.in_ok-words.ensures empty said

pub returns-clause-value : goal.returns-clause-value
returns-clause-value c =
    let split : c.in_ok-words.words.items ≡ c.in-Some.word.now ∷ c.in-Some.more.now = search rules in
    let cut : pieces 32 c.args.text.now ≡ string_bytes c.in-Some.word.now ∷ rows.lines c.in-Some.more.now = sym c.in_ok-words.ensures ∙ ap rows.lines split in
    let word : c.as_str.result.now ≡ string_bytes c.in-Some.word.now = c.as_str.ensures.value in
    let names : rows.lines c.without_first.result.now ≡ drop 1 (rows.lines c.in-Some.more.now) = ap rows.lines c.without_first.ensures ∙ lines_behind c.in-Some.more.now in
    let same : status_of c.args.map.now c.args.text.now ≡ status_in c.args.map.now c.as_str.result.now (rows.lines c.without_first.result.now) =
    status_told c.args.map.now c.args.text.now (string_bytes c.in-Some.word.now) (rows.lines c.in-Some.more.now) cut
    ∙ ap₂ (status_in c.args.map.now) (sym word) (sym names) in
    rw same c.told_by.ensures.value

pub returns-clause-none : goal.returns-clause-none
returns-clause-none c =
    let split : c.in_ok-words.words.items ≡ c.in-Some.word.now ∷ c.in-Some.more.now = search rules in
    let cut : pieces 32 c.args.text.now ≡ string_bytes c.in-Some.word.now ∷ rows.lines c.in-Some.more.now = sym c.in_ok-words.ensures ∙ ap rows.lines split in
    let word : c.as_str.result.now ≡ string_bytes c.in-Some.word.now = c.as_str.ensures.value in
    let names : rows.lines c.without_first.result.now ≡ drop 1 (rows.lines c.in-Some.more.now) = ap rows.lines c.without_first.ensures ∙ lines_behind c.in-Some.more.now in
    ok_as c.told_by.result
    (λ o. none_as o (λ never said.
    never (rw (word, names) (told c.args.map.now c.facts.ensures c.args.text.now (string_bytes c.in-Some.word.now) (rows.lines c.in-Some.more.now) cut said))))
    c.told_by.ensures.none
