use Rattle.std.proofs.Common.{◌≡◌, ◌+◌, codes, sym, ◌∙◌}
use Rattle.std.proofs.lemmas.Bool.{false≢true}
use Rattle.std.proofs.lemmas.Slice.Eq.{bytes_eq-Decides}
use Rattle.dip_desk_state.specs.Records.{Public}
use Rattle.dip_desk_state.specs.Rows as rows
use Rattle.dip_check_papers.proofs.KindsApart.{draw_first, kind_words}
use Rattle.dip_check.proofs.checking.check_on_time.Goals as goal

pub returns : goal.returns
returns c = λ new h.
    let p : Public = rows.public c.args.before.now in
    let title : c.first_line-title.result.now ≡ kind_words (c.args.before.now.papers + 1) (codes "draw") = c.first_line-title.ensures ∙ draw_first c.args.map.now p c.args.text.now new h in
    let wanted : c.as_str.result.now ≡ kind_words (c.args.before.now.papers + 1) (codes "draw") = c.as_str.ensures.value ∙ c.in_ok-title_of.ensures in
    false≢true (sym c.if-eq.false ∙ c.eq.ensures ∙ (bytes_eq-Decides c.first_line-title.result.now c.as_str.result.now).1 (title ∙ sym wanted))
