use Rattle.std.proofs.Common.{◌≡◌, ◌∙◌, ap, sym, subst, List, ℕ, Option, Some, string_bytes, is_some, false}
use Rattle.std.specs.List.{position}
use Rattle.std.specs.Map.{keys_of, lookup}
use Rattle.std.proofs.lemmas.Result.{on_err_weaker, on_ok_weaker}
use Rattle.dip_desk_state.specs.ChangeRows as desk_rows
use Rattle.dip_desk_state.specs.State as s
use Rattle.dip_desk_memory.specs.Lacking.{LacksPlace}
use Rattle.dip_desk_memory.proofs.GamesLemmas.{game_kept, game_same, game_set, game_there, is_named, named_set, none_named}
use Rattle.dip_desk_memory.proofs.recording.record_game.Goals as goal

pub returns-in_default-clause-ok : goal.returns-in_default-clause-ok
returns-in_default-clause-ok c =
    let name = string_bytes c.args.change.now.game in
    let es = c.args.games.now.entries in
    let none : is_some (lookup (is_named c.as_str.result.now) es) ≡ false = sym c.get_index_of.ensures.found ∙ cc in
    game_kept name (s.game_after (desk_rows.change c.args.change.now)) es (ap (λ (n : List ℕ). is_some (lookup (is_named n) es)) (sym c.as_str.ensures.value) ∙ none)

pub returns-clause-ok : goal.returns-clause-ok
returns-clause-ok c =
    let name = string_bytes c.args.change.now.game in
    let es = c.args.games.now.entries in
    let there : position (is_named name) (keys_of es) ≡ Some c.in-Some.place = ap (λ (n : List ℕ). position (is_named n) (keys_of es)) (sym c.as_str.ensures.value) ∙ sym c.in-Some.ensures.index in
    on_ok_weaker c.record_fitting.result
    (λ made. game_set name (s.game_after (desk_rows.change c.args.change.now)) es c.in-Some.place c.index_mut-game.result.now c.record_fitting.new.game there c.index_mut-game.ensures.value made)
    c.record_fitting.ensures.ok

pub returns-clause-named : goal.returns-clause-named
returns-clause-named c named =
    named_set c.args.games.now.entries c.in-Some.place c.index_mut-game.result.now c.record_fitting.new.game c.index_mut-game.ensures.value c.record_fitting.ensures.name named

pub returns-clause-err : goal.returns-clause-err
returns-clause-err c =
    let name = string_bytes c.args.change.now.game in
    let es = c.args.games.now.entries in
    let there : position (is_named name) (keys_of es) ≡ Some c.in-Some.place = ap (λ (n : List ℕ). position (is_named n) (keys_of es)) (sym c.as_str.ensures.value) ∙ sym c.in-Some.ensures.index in
    on_err_weaker c.record_fitting.result
    (λ same. game_same name es c.in-Some.place c.index_mut-game.result.now c.record_fitting.new.game there c.index_mut-game.ensures.value same)
    c.record_fitting.ensures.err

pub returns-clause-damaged : goal.returns-clause-damaged
returns-clause-damaged c bad =
    let name = string_bytes c.args.change.now.game in
    let es = c.args.games.now.entries in
    let there : position (is_named name) (keys_of es) ≡ Some c.in-Some.place = ap (λ (n : List ℕ). position (is_named n) (keys_of es)) (sym c.as_str.ensures.value) ∙ sym c.in-Some.ensures.index in
    subst (λ (g : Option s.Game). LacksPlace name (desk_rows.author c.args.change.now.author) (desk_rows.effect c.args.change.now.effect) g)
    (sym (game_there name es c.in-Some.place c.index_mut-game.result.now there c.index_mut-game.ensures.value)) (c.record_fitting.ensures.damaged bad name)

pub returns-in_default-clause-room : goal.returns-in_default-clause-room
returns-in_default-clause-room c =
    let name = string_bytes c.args.change.now.game in
    let es = c.args.games.now.entries in
    let none : is_some (lookup (is_named c.as_str.result.now) es) ≡ false = sym c.get_index_of.ensures.found ∙ cc in
    rw (none_named name es (ap (λ (n : List ℕ). is_some (lookup (is_named n) es)) (sym c.as_str.ensures.value) ∙ none)) tt

pub returns-clause-room : goal.returns-clause-room
returns-clause-room c =
    let name = string_bytes c.args.change.now.game in
    let es = c.args.games.now.entries in
    let there : position (is_named name) (keys_of es) ≡ Some c.in-Some.place = ap (λ (n : List ℕ). position (is_named n) (keys_of es)) (sym c.as_str.ensures.value) ∙ sym c.in-Some.ensures.index in
    on_ok_weaker c.record_fitting.result (λ room. rw (game_there name es c.in-Some.place c.index_mut-game.result.now there c.index_mut-game.ensures.value) room) c.record_fitting.ensures.room
