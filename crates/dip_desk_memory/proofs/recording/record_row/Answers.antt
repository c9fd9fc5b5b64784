use Rattle.std.proofs.Common.{ap, sym, subst, ◌∙◌, List, map}
use Rattle.std.specs.List.{AllByRecursion}
use Rattle.dip_desk_state.specs.ChangeRows as desk_rows
use Rattle.dip_desk_state.specs.State.{Part, with_author}
use Rattle.dip_desk_state.specs.Records.{Kept}
use Rattle.dip_desk_state.specs.Rows as rows
use Rattle.dip_desk_memory.specs.Stored.{AuthorMaySend, parts, reached}
use Rattle.dip_desk_memory.proofs.PartLemmas.{all_may_get, all_may_send, row_after}
use Rattle.dip_desk_memory.proofs.recording.record_row.Goals as goal

pub record_author-requires-clause-room : goal.record_author-requires-clause-room
record_author-requires-clause-room c =
    let e = desk_rows.effect c.args.change.now.effect in
    let who = desk_rows.author c.args.change.now.author in
    subst (AllByRecursion (AuthorMaySend who e)) (sym c.in_ok-put_content.ensures.ok.seats) (all_may_send who e (parts c.args.game.now.seats.items) c.requires)

pub put_content-requires : goal.put_content-requires
put_content-requires c = all_may_get (desk_rows.author c.args.change.now.author) (desk_rows.effect c.args.change.now.effect) (parts c.args.game.now.seats.items) c.requires

pub returns-clause-ok : goal.returns-clause-ok
returns-clause-ok c key =
    let e = desk_rows.effect c.args.change.now.effect in
    let who = desk_rows.author c.args.change.now.author in
    let brings = c.in_ok-put_content.ensures.ok in
    row_after (desk_rows.change c.args.change.now) c.args.game.now
    (record {
      public = c.put_content.new.game.public;
      papers = c.put_content.new.game.papers;
      seats = c.reach_seats.new.seats;
    })
    brings.public brings.papers
    (c.reach_seats.ensures
    ∙ ap (map (reached e)) c.record_author.ensures
    ∙ ap (λ (k : Kept). map (reached e) (with_author who k e (parts c.put_content.new.game.seats.items))) c.in_ok-kept.ensures
    ∙ ap (λ (ps : List Part). map (reached e) (with_author who (rows.kept c.args.change.now.kept) e ps)) brings.seats)
    key
