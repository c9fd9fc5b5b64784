use Rattle.std.proofs.Common.{◌≡◌, ◌∙◌, List, ℕ, ap, is_some, sym, false, string_bytes, true≢false, rules}
use Rattle.std.specs.Map.{lookup}
use Rattle.dip_desk_memory.specs.Stored.{are_named, games}
use Rattle.dip_desk_memory.proofs.GamesLemmas.{game_added, game_kept, is_named, named_added, none_named, nothing_found}
use Rattle.dip_desk_memory.proofs.opening.add_game.Goals as goal

pub returns-then-contains_key-clause-taken : goal.returns-then-contains_key-clause-taken
returns-then-contains_key-clause-taken c _ none =
    let name = string_bytes c.args.public.now.game in
    let free : is_some (lookup (is_named name) c.args.games.now.entries) ≡ false = nothing_found name c.args.games.now.entries none in
    absurd (true≢false (c.if-contains_key.ensures ∙ ap (λ (n : List ℕ). is_some (lookup (is_named n) c.args.games.now.entries)) c.as_str.ensures.value ∙ free))

pub returns-clause-ok : goal.returns-clause-ok
returns-clause-ok c =
    let name = string_bytes c.args.public.now.game in
    let es = c.args.games.now.entries in
    let same : string_bytes c.in_ok-clone.field-0 ≡ name = search rules in
    let free : is_some (lookup (is_named name) es) ≡ false =
    ap (λ (n : List ℕ). is_some (lookup (is_named n) es)) (sym c.as_str.ensures.value) ∙ sym c.if-contains_key.ensures in
    ap games c.in_ok-insert.ensures.entries
    ∙ game_added c.in_ok-clone.field-0 c.in_ok-game.game _ es (ap (λ (n : List ℕ). is_some (lookup (is_named n) es)) same ∙ free)
    (c.in_ok-game.ensures.game (string_bytes c.in_ok-clone.field-0) same)

pub returns-clause-named : goal.returns-clause-named
returns-clause-named c named =
    let name = string_bytes c.args.public.now.game in
    let es = c.args.games.now.entries in
    let same : string_bytes c.in_ok-clone.field-0 ≡ name = search rules in
    let free : is_some (lookup (is_named name) es) ≡ false =
    ap (λ (n : List ℕ). is_some (lookup (is_named n) es)) (sym c.as_str.ensures.value) ∙ sym c.if-contains_key.ensures in
    ap are_named c.in_ok-insert.ensures.entries
    ∙ named_added c.in_ok-clone.field-0 c.in_ok-game.game es (c.in_ok-game.ensures.name ∙ sym same) (ap (λ (n : List ℕ). is_some (lookup (is_named n) es)) same ∙ free) named

pub returns-clause-free : goal.returns-clause-free
returns-clause-free c =
    let name = string_bytes c.args.public.now.game in
    let es = c.args.games.now.entries in
    let free : is_some (lookup (is_named name) es) ≡ false =
    ap (λ (n : List ℕ). is_some (lookup (is_named n) es)) (sym c.as_str.ensures.value) ∙ sym c.if-contains_key.ensures in
    (none_named name es free, λ f. game_kept name f es free)
