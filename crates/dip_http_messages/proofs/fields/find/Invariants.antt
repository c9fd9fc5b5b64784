use Rattle.std.proofs.Common.{◌≡◌, map, take}
use Rattle.httparse.specs.Spans.{header_bytes}
use Rattle.dip_http_messages.specs.Fields.{field_of}
use Rattle.dip_http_messages.specs.HeadViews.{found_view}
use Rattle.dip_http_messages.proofs.fields.find.Given as goal

abbrev pub invariant-fields : goal.invariant-fields
invariant-fields l = found_view l.found ≡ field_of l.name (map (header_bytes l.buf) (take l.header-index l.headers))
