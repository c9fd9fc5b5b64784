use Rattle.std.proofs.Common.{ap, sym, ◌∙◌, string_bytes, List}
use Rattle.dip_desk_state.specs.ChangeRows as desk_rows
use Rattle.dip_desk_memory.specs.declared.games.SeatRow.{SeatRow}
use Rattle.dip_desk_memory.specs.Stored.{finds_room, parts}
use Rattle.dip_desk_memory.proofs.PartLemmas.{no_room}
use Rattle.dip_desk_memory.proofs.recording.record_fitting.Goals as goal

pub returns-then-not-finds_room-clause-damaged : goal.returns-then-not-finds_room-clause-damaged
returns-then-not-finds_room-clause-damaged c told key =
    let who = desk_rows.author c.args.change.now.author in
    let e = desk_rows.effect c.args.change.now.effect in
    no_room (string_bytes c.args.change.now.game) who e key c.args.game.now
    (ap (λ (os : List SeatRow). finds_room who e (parts os)) (sym c.as_slice.ensures.value) ∙ sym c.finds_room.ensures ∙ c.if-not-finds_room.true)
