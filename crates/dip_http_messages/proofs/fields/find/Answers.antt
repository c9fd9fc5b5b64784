use Rattle.std.proofs.Common.{◌≡◌, true, false, map, take, get_or, sym, ap, ◌∙◌}
use Rattle.std.specs.Str.{str_eq_ignore_ascii_case}
use Rattle.httparse.specs.Spans.{header_bytes}
use Rattle.dip_http_messages.specs.Fields.{field_of, found_more}
use Rattle.dip_http_messages.proofs.FieldLemmas.{field_of-more, field_of-other, fields_more, no_span}
use Rattle.dip_http_messages.proofs.fields.find.Goals as goal
use Rattle.dip_http_messages.proofs.fields.find.Goals.{then-is_named, else-is_named}

pub fields-preserved : goal.fields-preserved
fields-preserved c =
    let more = ap (field_of c.args.name.now) (fields_more c.args.buf.now c.args.headers.now c.fields.header-index c.fields-test.true) in
    let here = header_bytes c.args.buf.now (get_or c.args.headers.now c.fields.header-index no_span) in
    let name : c.is_named.result ≡ str_eq_ignore_ascii_case here.0 c.args.name.now = c.is_named.ensures ∙ ap (λ t. str_eq_ignore_ascii_case t c.args.name.now) c.of.ensures in
    elim c.if-is_named.branch [
      | then-is_named w ↦
          let named : str_eq_ignore_ascii_case here.0 c.args.name.now ≡ true = sym name ∙ w.if-is_named.true in
          let step = field_of-more c.args.name.now (map (header_bytes c.args.buf.now) (take c.fields.header-index c.args.headers.now)) here named in
          let value = w.of-then-is_named.ensures in
          let found = w.one_more-found.ensures in
          rw w.found-is (found ∙ (ap (λ f. found_more f w.of-then-is_named.result.now) c.fields.invariant
          ∙ (ap (λ v. found_more (field_of c.args.name.now (map (header_bytes c.args.buf.now) (take c.fields.header-index c.args.headers.now))) v) value ∙ sym (more ∙ step))))
      | else-is_named w ↦
          let named : str_eq_ignore_ascii_case here.0 c.args.name.now ≡ false = sym name ∙ w.if-is_named.false in
          let step = field_of-other c.args.name.now (map (header_bytes c.args.buf.now) (take c.fields.header-index c.args.headers.now)) here named in
          rw w.found-is (c.fields.invariant ∙ sym (more ∙ step))
    ]
