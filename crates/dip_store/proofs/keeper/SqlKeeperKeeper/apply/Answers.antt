use Rattle.std.proofs.Common.{rules, ◌≡◌, ℕ, List, map, ap, sym, ◌∙◌}
use Rattle.dip_desk_state.specs.ChangeRows as machine
use Rattle.dip_desk_state.specs.Rows as rows
use Rattle.dip_desk_state.specs.declared.records.Own.{Own}
use Rattle.dip_store_tables.specs.ChangeColumns.{IsWritable}
use Rattle.dip_store.proofs.Transaction.{makes_when}
use Rattle.dip_store_memory.specs.Owns.{owns_of}
use Rattle.dip_store.specs.Authors.{known_among}
use Rattle.dip_store.proofs.Made.{changes_well, changes_ill, changes_none, knows}
use Rattle.dip_store_memory.proofs.Idling.{idle_before, idle_after}
use Rattle.dip_store_memory.proofs.Owning.{left_recalls, made_recalls, owned}
use Rattle.dip_store_memory.proofs.Seeing.{heeded, was_there}
use Rattle.dip_store.proofs.keeper.SqlKeeperKeeper.apply.Goals as goal

pub returns-in-Ok : goal.returns-in-Ok
returns-in-Ok g c =
    let m = c.args.map.now in
    let it = machine.change c.args.change.now in
    let fits : IsWritable m it = c.is_writable.ensures.0 c.if-not-is_writable.false in
    let lies : c.as_slice.result.now ≡ c.take-owns.result.items = search rules in
    let known : c.known_author-author.result ≡ known_among it.author (owns_of it.game c.args.self.now.owns) = c.known_author-author.ensures ∙ ap (known_among it.author) (ap (map (λ (o : Own). rows.own o)) lies ∙ c.take-owns.ensures.taken ∙ ap (λ (name : List ℕ). owns_of name c.args.self.now.owns) c.as_str.ensures.value) in
    let has = knows g.S.Store m c.args.self.now it (c.own_is_found.ensures m c.facts.ensures) fits.0.author c.known_author-author.result c.forget_replaced-papers.result known c.forget_replaced-papers.ensures.was in
    changes_well g.S.Store m c.args.self.now it c.make.new.conn (c.changes_are_made.ensures m c.facts.ensures) fits c.has_widths.ensures c.forget_replaced-papers.new.self (heeded it c.args.self.now.seen c.forget_replaced-papers.new.self c.forget_replaced-papers.ensures.left) c.keep.new.self c.note_after.new.self _ _ c.in-Ok.field-0 c.has_texts.ensures (c.tables_stay_legible.ensures m)
    (makes_when g.S.Store _ _ _ _ _ _ _ _ has c.in-Ok.ensures.makes) (λ keeps. c.in-Ok.ensures.kept (has keeps)) (λ keeps. c.in-Ok.ensures.place (has keeps))
    (made_recalls it c.as_str.result.now c.as_str.ensures.value c.args.self.now.owns c.take-owns.new.self c.keep.new.self (owned c.take-owns.result) c.take-owns.ensures.taken c.take-owns.ensures.left c.keep.ensures.recalls)
    (λ s before apart. c.note_after.ensures s (idle_after it c.args.self.now.idle c.stir_author.new.self c.stir_author.ensures s before) apart)
    c.note_after-in-Ok.new.self (λ s before holds apart. c.note_after-in-Ok.ensures s holds apart (λ so. was_there it s c.args.self.now.seen c.forget_replaced-papers.result c.forget_replaced-papers.ensures.was before (sym c.is_some.ensures ∙ so)))

pub returns-in-Err : goal.returns-in-Err
returns-in-Err g c =
    let m = c.args.map.now in
    let it = machine.change c.args.change.now in
    let fits : IsWritable m it = c.is_writable.ensures.0 c.if-not-is_writable.false in
    let lies : c.as_slice.result.now ≡ c.take-owns.result.items = search rules in
    let known : c.known_author-author.result ≡ known_among it.author (owns_of it.game c.args.self.now.owns) = c.known_author-author.ensures ∙ ap (known_among it.author) (ap (map (λ (o : Own). rows.own o)) lies ∙ c.take-owns.ensures.taken ∙ ap (λ (name : List ℕ). owns_of name c.args.self.now.owns) c.as_str.ensures.value) in
    let has = knows g.S.Store m c.args.self.now it (c.own_is_found.ensures m c.facts.ensures) fits.0.author c.known_author-author.result c.forget_replaced-papers.result known c.forget_replaced-papers.ensures.was in
    rw (c.count_fault-in-Err.ensures.same, c.count_fault-in-Err.ensures.told, c.row_fault.ensures)
    (changes_ill g.S.Store m c.args.self.now it c.make.new.conn (c.changes_are_made.ensures m c.facts.ensures) fits c.has_widths.ensures c.forget_replaced-papers.new.self (heeded it c.args.self.now.seen c.forget_replaced-papers.new.self c.forget_replaced-papers.ensures.left) c.take-owns.new.self c.stir_author.new.self _ _ c.in-Err.fault
    (λ s. (left_recalls s c.as_str.result.now c.args.self.now.owns c.take-owns.new.self c.take-owns.ensures.left, idle_before it c.args.self.now.idle c.stir_author.new.self c.stir_author.ensures s)) c.has_texts.ensures (c.tables_stay_legible.ensures m) (c.tables_stay_counted.ensures m)
    (λ keeps. c.in-Err.ensures.landed (has keeps)) g.met.S.Store.settled (c.what_fits_finds_place.ensures m)
    (makes_when g.S.Store _ _ _ _ _ _ _ _ has c.in-Err.ensures.makes) (λ keeps. c.in-Err.ensures.fails (has keeps)) (λ keeps. c.in-Err.ensures.blames (has keeps)))

pub returns-then-not-is_writable : goal.returns-then-not-is_writable
returns-then-not-is_writable g c =
    let m = c.args.map.now in
    let it = machine.change c.args.change.now in
    rw (c.count_fault.ensures.same, c.count_fault.ensures.told)
    (changes_none g.S.Store m c.args.self.now it _ (c.what_fits_can_be_written.ensures m)
    (λ fits. absurd (let x = sym c.if-not-is_writable.true ∙ c.is_writable.ensures.1 fits in cc)))
