use Rattle.std.proofs.Common.{◌∙◌, ap}
use Rattle.std.proofs.lemmas.Result.{IfOk-weaker}
use Rattle.serde_json.specs.Written.{compact_text, has_float}
use Rattle.dip_desk_state.specs.Rows as rows
use Rattle.dip_http_messages.proofs.TextLemmas.{no_float, whole_text}
use Rattle.dip_http_messages.proofs.state.state_text.Goals as goal

pub returns : goal.returns
returns c =
    let is = c.in_ok-state_value.ensures in
    let m = c.args.map.now in
    let p = rows.public c.args.public.now in
    IfOk-weaker c.to_string.result _ _ (λ s h. h (ap has_float is ∙ no_float m p) ∙ (ap compact_text is ∙ whole_text m p)) c.to_string.ensures.text
