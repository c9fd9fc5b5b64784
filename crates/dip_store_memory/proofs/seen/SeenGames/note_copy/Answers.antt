use Rattle.std.proofs.Common.{◌≡◌, ◌∙◌, ap, subst, sym, Some}
use Rattle.dip_desk_state.specs.Records as r
use Rattle.dip_desk_state.specs.Rows as rows
use Rattle.dip_desk_state.specs.declared.records.Public.{Public}
use Rattle.dip_store_memory.specs.Seen.{Recalls}
use Rattle.dip_store_memory.proofs.Seeing.{noted_recalls}
use Rattle.dip_store_memory.proofs.seen.SeenGames.note_copy.Goals as goal

pub returns : goal.returns
returns c s holds is =
    let same : rows.public c.in_ok-part.part.value ≡ record (rows.public c.args.public.now) { game = c.args.name.now } = ap (λ (p : Public). rows.public p) c.in_ok-part.ensures.ok ∙ c.in_ok-copy.ensures.copy in
    noted_recalls c.note.result s c.args.name.now (rows.public c.in_ok-part.part.value) c.copy_sharing.new.self c.note.new.self c.note.ensures.ok c.note.ensures.err (subst (Recalls s) (sym c.in_ok-copy.ensures.same) holds) (is ∙ ap (λ (p : r.Public). Some p) (sym same))
