-- Games that are found by their names among entries.
use Rattle.std.proofs.Common.{◌≡◌, ◌<◌, ◌++◌, ◌+◌, ◌&&◌, ℕ, zero, suc, Bool, true, false, cond, List, [], ◌∷◌, Option, None, Some, length, option_map, option_copied, is_some, Bor, refl, sym, ap, ◌∙◌, arith, bytes_eq, String, string_bytes, slice_get, if◌then◌else◌}
use Rattle.std.specs.Prelude.{IfSome}
use Rattle.std.specs.declared.alloc.Global.{Global}
use Rattle.std.specs.List.{position_or_len, position}
use Rattle.std.specs.Map.{keys_of, lookup, values_of}
use Rattle.std.specs.Slice.{IsItemAt}
use Rattle.std.specs.String.{string_eq}
use Rattle.indexmap.specs.IndexMap.{insert_entry, set_value_at}
use Rattle.indexmap.proofs.MapLemmas.{Found-position}
use Rattle.std.proofs.lemmas.Bool.{and_parts}
use Rattle.std.proofs.lemmas.Option.{slice_get_past, slice_get_read}
use Rattle.std.proofs.lemmas.Slice.Eq.{bytes_eq-Decides}
use Rattle.dip_desk_state.specs.Keyed.{at, change_at}
use Rattle.dip_desk_state.specs.State as s
use Rattle.dip_desk_state.specs.Rows as rows
use Rattle.dip_desk_memory.specs.Stored as stored
use Rattle.dip_desk_memory.specs.declared.games.GameRow.{GameRow}

abbrev pub Entry : Type 0
Entry = String Global × GameRow

-- the test of a name on the keys
abbrev pub is_named : List ℕ → String Global → Bool
is_named name key = bytes_eq name (string_bytes key)

-- whether two names are the same, whichever comes first
pub bytes_eq-turned : (a b : List ℕ) → bytes_eq a b ≡ bytes_eq b a
bytes_eq-turned a b = go (bytes_eq a b) (bytes_eq b a) refl refl
  where
    go : (x y : Bool) → bytes_eq a b ≡ x → bytes_eq b a ≡ y → x ≡ y
    go true true e f = refl
    go false false e f = refl
    go true false e f = sym ((bytes_eq-Decides b a).1 (sym ((bytes_eq-Decides a b).0 e))) ∙ f
    go false true e f = sym e ∙ (bytes_eq-Decides a b).1 (sym ((bytes_eq-Decides b a).0 f))

-- what is found under a name is the game of that name
pub game_found : (name : List ℕ) (es : List Entry)
    → option_map (stored.game name) (lookup (is_named name) es) ≡ at bytes_eq s.name_of name (stored.games es)
game_found name [] = refl
game_found name (e ∷ es) = go (bytes_eq name (string_bytes e.0)) refl (game_found name es)
  where
    key : List ℕ
    key = string_bytes e.0

    go : (b : Bool) → bytes_eq name key ≡ b
        → option_map (stored.game name) (lookup (is_named name) es) ≡ at bytes_eq s.name_of name (stored.games es)
        → option_map (stored.game name) (cond b (Some e.1) (lookup (is_named name) es)) ≡ cond (bytes_eq key name) (Some (stored.game key e.1)) (at bytes_eq s.name_of name (stored.games es))
    go true is more = rw (sym (bytes_eq-turned name key) ∙ is) (ap (λ (k : List ℕ). Some (stored.game k e.1)) ((bytes_eq-Decides name key).0 is))
    go false is more = rw (sym (bytes_eq-turned name key) ∙ is) more

-- where no game is of a name, nothing is found under it
pub nothing_found : (name : List ℕ) (es : List Entry) → at bytes_eq s.name_of name (stored.games es) ≡ None → is_some (lookup (is_named name) es) ≡ false
nothing_found name es none = go (lookup (is_named name) es) (game_found name es ∙ none)
  where
    go : (r : Option GameRow) → option_map (stored.game name) r ≡ None → is_some r ≡ false
    go None e = refl
    go (Some g) e = cc

-- where nothing is found under a name, no game is of it
pub none_named : (name : List ℕ) (es : List Entry) → is_some (lookup (is_named name) es) ≡ false → at bytes_eq s.name_of name (stored.games es) ≡ None
none_named name es none = sym (game_found name es) ∙ go (lookup (is_named name) es) none
  where
    go : (r : Option GameRow) → is_some r ≡ false → option_map (stored.game name) r ≡ None
    go None e = refl
    go (Some g) e = absurd (cc)

-- a game under a name that is free stands last
pub game_added : (key : String Global) (row : GameRow) (game : s.Game) (es : List Entry) → is_some (lookup (is_named (string_bytes key)) es) ≡ false
    → stored.game (string_bytes key) row ≡ game → stored.games (insert_entry string_eq es key row) ≡ stored.games es ++ game ∷ []
game_added key row game [] free is = ap (λ (g : s.Game). g ∷ []) is
game_added key row game (e ∷ es) free is = go (bytes_eq (string_bytes key) (string_bytes e.0)) free (λ rest. game_added key row game es rest is)
  where
    go : (b : Bool) → is_some (cond b (Some e.1) (lookup (is_named (string_bytes key)) es)) ≡ false
        → (is_some (lookup (is_named (string_bytes key)) es) ≡ false → stored.games (insert_entry string_eq es key row) ≡ stored.games es ++ game ∷ [])
        → stored.games (cond b ((e.0, row) ∷ es) (e ∷ insert_entry string_eq es key row)) ≡ stored.games (e ∷ es) ++ game ∷ []
    go true h more = cc
    go false h more = ap (λ (gs : List s.Game). stored.game (string_bytes e.0) e.1 ∷ gs) (more h)

-- a game that is changed in its place
pub game_set : (name : List ℕ) (f : s.Game → s.Game) (es : List Entry) (i : ℕ) (old new : GameRow) → position (is_named name) (keys_of es) ≡ Some i
    → slice_get (values_of es) i ≡ Some old → ((key : List ℕ) → stored.game key new ≡ f (stored.game key old))
    → stored.games (set_value_at es i new) ≡ change_at bytes_eq s.name_of name f (stored.games es)
game_set name f es i old new there value made =
    let found = Found-position (is_named name) es i there in
    set es i found.or_len found.within value
  where
    set : (fs : List Entry) (j : ℕ) → position_or_len (is_named name) (keys_of fs) ≡ j → j < length fs → slice_get (values_of fs) j ≡ Some old
        → stored.games (set_value_at fs j new) ≡ change_at bytes_eq s.name_of name f (stored.games fs)
    set [] j here lt value = refl
    set (e ∷ fs) j here lt value = go (bytes_eq name (string_bytes e.0)) refl j here lt value (set fs)
      where
        go : (b : Bool) → bytes_eq name (string_bytes e.0) ≡ b → (k : ℕ) → position_or_len (is_named name) (keys_of (e ∷ fs)) ≡ k → k < length (e ∷ fs)
            → slice_get (values_of (e ∷ fs)) k ≡ Some old
            → ((j : ℕ) → position_or_len (is_named name) (keys_of fs) ≡ j → j < length fs → slice_get (values_of fs) j ≡ Some old
            → stored.games (set_value_at fs j new) ≡ change_at bytes_eq s.name_of name f (stored.games fs))
            → stored.games (set_value_at (e ∷ fs) k new)
            ≡ (if bytes_eq (string_bytes e.0) name then f (stored.game (string_bytes e.0) e.1) ∷ stored.games fs
            else stored.game (string_bytes e.0) e.1 ∷ change_at bytes_eq s.name_of name f (stored.games fs))
        go true is zero here lt value more =
            let same : e.1 ≡ old = cc in
            rw (sym (bytes_eq-turned name (string_bytes e.0)) ∙ is)
            (ap (λ (g : s.Game). g ∷ stored.games fs) (made (string_bytes e.0) ∙ ap (λ (g : GameRow). f (stored.game (string_bytes e.0) g)) (sym same)))
        go true is (suc k) here lt value more = let zero_first : 0 ≡ suc k = rw is at here in absurd (cc)
        go false is zero here lt value more = let after : 1 + position_or_len (is_named name) (keys_of fs) ≡ 0 = rw is at here in absurd (omega (arith, after))
        go false is (suc k) here lt value more =
            let after : 1 + position_or_len (is_named name) (keys_of fs) ≡ suc k = rw is at here in
            rw (sym (bytes_eq-turned name (string_bytes e.0)) ∙ is)
            (ap (λ (gs : List s.Game). stored.game (string_bytes e.0) e.1 ∷ gs) (more k (omega (arith, after)) (omega (arith, lt)) value))

-- where no key is the name, nothing changes
pub game_kept : (name : List ℕ) (f : s.Game → s.Game) (es : List Entry) → is_some (lookup (is_named name) es) ≡ false
    → stored.games es ≡ change_at bytes_eq s.name_of name f (stored.games es)
game_kept name f [] none = refl
game_kept name f (e ∷ es) none = go (bytes_eq name (string_bytes e.0)) refl none (game_kept name f es)
  where
    go : (b : Bool) → bytes_eq name (string_bytes e.0) ≡ b → is_some (cond b (Some e.1) (lookup (is_named name) es)) ≡ false
        → (is_some (lookup (is_named name) es) ≡ false → stored.games es ≡ change_at bytes_eq s.name_of name f (stored.games es))
        → stored.games (e ∷ es) ≡ (if bytes_eq (string_bytes e.0) name then f (stored.game (string_bytes e.0) e.1) ∷ stored.games es
        else stored.game (string_bytes e.0) e.1 ∷ change_at bytes_eq s.name_of name f (stored.games es))
    go true is h more = cc
    go false is h more = rw (sym (bytes_eq-turned name (string_bytes e.0)) ∙ is) (ap (λ (gs : List s.Game). stored.game (string_bytes e.0) e.1 ∷ gs) (more h))

-- what is lent is what is found
pub game_shown : (name : List ℕ) (r : Option (Bor GameRow)) → option_map (λ g. stored.game name g.now) r ≡ option_map (stored.game name) (option_copied r)
game_shown name None = refl
game_shown name (Some g) = refl

-- what lies at the place of a name is the game of that name
pub game_there : (name : List ℕ) (es : List Entry) (i : ℕ) (old : GameRow) → position (is_named name) (keys_of es) ≡ Some i → slice_get (values_of es) i ≡ Some old
    → at bytes_eq s.name_of name (stored.games es) ≡ Some (stored.game name old)
game_there name es i old there value =
    let found = Found-position (is_named name) es i there in
    sym (game_found name es) ∙ ap (option_map (stored.game name)) (look es i found.or_len found.within value)
  where
    look : (fs : List Entry) (j : ℕ) → position_or_len (is_named name) (keys_of fs) ≡ j → j < length fs → slice_get (values_of fs) j ≡ Some old → lookup (is_named name) fs ≡ Some old
    look [] j here lt value = absurd (omega (arith, lt))
    look (e ∷ fs) j here lt value = go (bytes_eq name (string_bytes e.0)) refl j here lt value (look fs)
      where
        go : (b : Bool) → bytes_eq name (string_bytes e.0) ≡ b → (k : ℕ) → position_or_len (is_named name) (keys_of (e ∷ fs)) ≡ k → k < length (e ∷ fs)
            → slice_get (values_of (e ∷ fs)) k ≡ Some old
            → ((j : ℕ) → position_or_len (is_named name) (keys_of fs) ≡ j → j < length fs → slice_get (values_of fs) j ≡ Some old → lookup (is_named name) fs ≡ Some old)
            → cond b (Some e.1) (lookup (is_named name) fs) ≡ Some old
        go true is zero here lt value more = value
        go true is (suc k) here lt value more = let zero_first : 0 ≡ suc k = rw is at here in absurd (cc)
        go false is zero here lt value more = let after : 1 + position_or_len (is_named name) (keys_of fs) ≡ 0 = rw is at here in absurd (omega (arith, after))
        go false is (suc k) here lt value more =
            let after : 1 + position_or_len (is_named name) (keys_of fs) ≡ suc k = rw is at here in
            more k (omega (arith, after)) (omega (arith, lt)) value

unchanged : (name : List ℕ) (gs : List s.Game) → change_at bytes_eq s.name_of name (λ g. g) gs ≡ gs
unchanged name [] = refl
unchanged name (g ∷ gs) = go (bytes_eq (s.name_of g) name) (unchanged name gs)
  where
    go : (b : Bool) → change_at bytes_eq s.name_of name (λ g. g) gs ≡ gs → cond b (g ∷ gs) (g ∷ change_at bytes_eq s.name_of name (λ g. g) gs) ≡ g ∷ gs
    go true rest = refl
    go false rest = ap (λ (hs : List s.Game). g ∷ hs) rest

-- a game in its place that says the same as before
pub game_same : (name : List ℕ) (es : List Entry) (i : ℕ) (old new : GameRow) → position (is_named name) (keys_of es) ≡ Some i → slice_get (values_of es) i ≡ Some old
    → ((key : List ℕ) → stored.game key new ≡ stored.game key old) → stored.games (set_value_at es i new) ≡ stored.games es
game_same name es i old new there value made = game_set name (λ g. g) es i old new there value made ∙ unchanged name (stored.games es)

-- what is found under a name has it
pub found_named : (name : List ℕ) (es : List Entry) (g : GameRow) → stored.are_named es ≡ true → lookup (is_named name) es ≡ Some g → stored.name_in g ≡ name
found_named name [] g named found = absurd (cc)
found_named name (e ∷ es) g named found = go (bytes_eq name key) refl found (found_named name es g rest.1)
  where
    key : List ℕ
    key = string_bytes e.0

    rest : (bytes_eq (stored.name_in e.1) key ≡ true) × (stored.are_named es ≡ true)
    rest = and_parts (bytes_eq (stored.name_in e.1) key) (stored.are_named es) named

    go : (b : Bool) → bytes_eq name key ≡ b → cond b (Some e.1) (lookup (is_named name) es) ≡ Some g → (lookup (is_named name) es ≡ Some g → stored.name_in g ≡ name)
        → stored.name_in g ≡ name
    go true is here more =
        let same : e.1 ≡ g = cc in
        ap (λ (r : GameRow). stored.name_in r) (sym same) ∙ (bytes_eq-Decides (stored.name_in e.1) key).0 rest.0 ∙ sym ((bytes_eq-Decides name key).0 is)
    go false is here more = more here

-- so has what is lent
pub named_shown : (name : List ℕ) (es : List Entry) (r : Option (Bor GameRow)) → stored.are_named es ≡ true → option_copied r ≡ lookup (is_named name) es
    → IfSome r (λ g. stored.name_in g.now ≡ name)
named_shown name es None named found = tt
named_shown name es (Some g) named found = found_named name es g.now named (sym found)

-- a new game under its name
pub named_added : (key : String Global) (row : GameRow) (es : List Entry) → stored.name_in row ≡ string_bytes key → is_some (lookup (is_named (string_bytes key)) es) ≡ false
    → stored.are_named es ≡ true → stored.are_named (insert_entry string_eq es key row) ≡ true
named_added key row [] is free named = ap (λ (b : Bool). b && true) ((bytes_eq-Decides (stored.name_in row) (string_bytes key)).1 is)
named_added key row (e ∷ es) is free named = go (bytes_eq (string_bytes key) (string_bytes e.0)) free (λ more. named_added key row es is more rest.1)
  where
    rest : (bytes_eq (stored.name_in e.1) (string_bytes e.0) ≡ true) × (stored.are_named es ≡ true)
    rest = and_parts (bytes_eq (stored.name_in e.1) (string_bytes e.0)) (stored.are_named es) named

    go : (b : Bool) → is_some (cond b (Some e.1) (lookup (is_named (string_bytes key)) es)) ≡ false
        → (is_some (lookup (is_named (string_bytes key)) es) ≡ false → stored.are_named (insert_entry string_eq es key row) ≡ true)
        → stored.are_named (cond b ((e.0, row) ∷ es) (e ∷ insert_entry string_eq es key row)) ≡ true
    go true h more = absurd (cc)
    go false h more = ap (λ (b : Bool). b && stored.are_named (insert_entry string_eq es key row)) rest.0 ∙ more h

-- a game in its place whose public part keeps its name
pub named_set : (es : List Entry) (i : ℕ) (old new : GameRow) → slice_get (values_of es) i ≡ Some old → stored.name_in new ≡ stored.name_in old → stored.are_named es ≡ true
    → stored.are_named (set_value_at es i new) ≡ true
named_set [] i old new value same named = refl
named_set (e ∷ es) zero old new value same named =
    let here : e.1 ≡ old = cc in
    ap (λ (n : List ℕ). bytes_eq n (string_bytes e.0) && stored.are_named es) (same ∙ ap (λ (r : GameRow). stored.name_in r) (sym here)) ∙ named
named_set (e ∷ es) (suc i) old new value same named =
    let rest = and_parts (bytes_eq (stored.name_in e.1) (string_bytes e.0)) (stored.are_named es) named in
    ap (λ (b : Bool). b && stored.are_named (set_value_at es i new)) rest.0 ∙ named_set es i old new value same rest.1

-- the paper of a number lies one place before it
paper_there : (i : ℕ) (ps : List (String Global)) → option_map (λ p. string_bytes p) (slice_get ps i) ≡ s.paper_numbered (suc i) (rows.lines ps)
paper_there i [] = refl
paper_there zero (p ∷ ps) = refl
paper_there (suc i) (p ∷ ps) = paper_there i ps

-- the paper that is lent at a place is the one of the number after it
pub paper_lent : (n i : ℕ) (ps : List (String Global)) (r : Option (Bor (String Global))) → n ≡ suc i → IsItemAt ps i r
    → option_map (λ p. string_bytes p.now) r ≡ s.paper_numbered n (rows.lines ps)
paper_lent n i ps None is item =
    ap (option_map (λ p. string_bytes p)) (sym (slice_get_past ps i item.3)) ∙ paper_there i ps ∙ ap (λ k. s.paper_numbered k (rows.lines ps)) (sym is)
paper_lent n i ps (Some p) is item =
    ap (option_map (λ q. string_bytes q)) (sym (slice_get_read ps (length ps) i p.now refl item.3.0 item.1)) ∙ paper_there i ps
    ∙ ap (λ k. s.paper_numbered k (rows.lines ps)) (sym is)

-- no paper has the number 0
pub none_numbered : (n : ℕ) (ps : List (List ℕ)) → n ≡ 0 → None ≡ s.paper_numbered n ps
none_numbered n ps is = none ps ∙ ap (λ k. s.paper_numbered k ps) (sym is)
  where
    none : (ps : List (List ℕ)) → None ≡ s.paper_numbered 0 ps
    none [] = refl
    none (p ∷ ps) = refl
