use Rattle.std.proofs.Common.{◌++◌, ℕ, List, ap, codes, ◌∙◌}
use Rattle.std.specs.Fmt.{decimal}
use Rattle.dip_check_runs.specs.Texts.{line_after, title_in, too_long_text}
use Rattle.dip_check_runs.proofs.RunLemmas.{on_ok}
use Rattle.dip_check_runs.proofs.texts.too_long_text.Goals as goal

pub returns : goal.returns
unfolding too_long_text
returns c =
    let line = c.line_after.ensures ∙ ap (λ (l : List ℕ). line_after l) c.within_most.ensures in
    let text = c.as_str.ensures.value ∙ c.in_ok-text.ensures
    ∙ ap (λ (n : ℕ). codes " is too long: line " ++ (decimal n ++ codes " goes past 1048576 bytes\n")) line in
    on_ok _ _ c.text_under_title.result c.text_under_title.ensures (λ told is. is ∙ ap (λ (l : List ℕ). title_in c.args.paper.now ++ l) text)
