use Rattle.std.proofs.Common.{rules, string_bytes, ◌≡◌, [], ◌∷◌, ◌++◌, ◌<◌, length, sym, ap, ◌∙◌}
use Rattle.std.specs.Str.{IsUtf8}
use Rattle.dip_desk_state.specs.Writable.{Lacks}
use Rattle.dip_desk_state.specs.Rows as rows
use Rattle.dip_store_tables.proofs.Cutting.{turn, last, lines_grown}
use Rattle.dip_store_tables.proofs.cuts.pieces_of.Goals as goal

pub loop-piece-preserved : goal.loop-piece-preserved
loop-piece-preserved c =
    let grown : c.push.new.self.items ≡ c.loop-piece.found.items ++ c.in_ok-from_str.field-0 ∷ [] = search rules in
    let said : string_bytes c.in_ok-from_str.field-0 ≡ c.in-Some.piece.now = search rules in
    let pushed : rows.lines c.push.new.self.items ≡ rows.lines c.loop-piece.found.items ++ c.in-Some.piece.now ∷ [] =
    lines_grown c.loop-piece.found.items c.in_ok-from_str.field-0 c.push.new.self.items c.in-Some.piece.now grown said in
    let off : Lacks c.args.mark c.in-Some.piece.now × (c.loop-piece.rest.now ≡ c.in-Some.piece.now ++ c.args.mark ∷ c.in-Some.more.now) = search rules in
    let text : IsUtf8 c.in-Some.more.now = search rules in
    (rw pushed (turn c.args.mark (rows.lines c.loop-piece.found.items) c.loop-piece.rest.now c.args.text.now c.in-Some.piece.now c.in-Some.more.now off c.loop-piece.invariant.0), text)

pub returns : goal.returns
returns c =
    let grown : c.push-2.new.self.items ≡ c.loop-piece.found.items ++ c.in_ok-from_str-2.field-0 ∷ [] = search rules in
    let said : string_bytes c.in_ok-from_str-2.field-0 ≡ c.loop-piece.rest.now = search rules in
    let off : Lacks c.args.mark c.loop-piece.rest.now = search rules in
    let long : 0 < length c.loop-piece.rest.now = search rules in
    lines_grown c.loop-piece.found.items c.in_ok-from_str-2.field-0 c.push-2.new.self.items c.loop-piece.rest.now grown said
    ∙ ap (λ ps. rows.lines c.loop-piece.found.items ++ ps) (sym (last c.args.mark c.loop-piece.rest.now off long)) ∙ c.loop-piece.invariant.0
