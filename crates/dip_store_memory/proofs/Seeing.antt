-- Public parts that are remembered.
use Rattle.std.proofs.Common.{◌≡◌, ◌&&◌, ◌++◌, ℕ, nat_lt, length, Bool, true, false, cond, List, [], ◌∷◌, Option, None, Some, is_some, option_map, option_copied, Bor, Result, Ok, Err, OnOk, OnErr, refl, sym, ap, subst, ◌∙◌, bytes_eq, String, string_bytes}
use Rattle.std.specs.List.{AllByRecursion}
use Rattle.std.specs.declared.alloc.Global.{Global}
use Rattle.std.specs.declared.rc.Rc.{Rc}
use Rattle.std.specs.Option.{option_or}
use Rattle.std.specs.Map.{lookup}
use Rattle.std.specs.String.{string_eq}
use Rattle.indexmap.specs.IndexMap.{IndexMap, UpdatesBy}
use Rattle.std.proofs.lemmas.Slice.Eq.{bytes_eq-Decides}
use Rattle.sqlite_trees.specs.Tree.{IsAscending}
use Rattle.dip_desk_state.specs.Records as r
use Rattle.dip_desk_state.specs.Rows as rows
use Rattle.dip_desk_state.specs.State.{Change, Effect, Game, Nothing, NewSeat, Pending, Votes, Delivers, Opens, Publishes, Seats, State, game_after, game_at, name_of, new_games, opening_game, public_after, public_at, state_after}
use Rattle.dip_desk_state.specs.Keyed.{at, change_at}
use Rattle.dip_desk_state.proofs.KeyedLemmas.{Tells, at_key, at-append, at-change_at_other, at-change_at_same, names_tell}
use Rattle.dip_desk_state.proofs.KeptKeys.{name_kept}
use Rattle.dip_desk_state.specs.declared.records.Public.{Public}
use Rattle.dip_store_memory.proofs.Named.{found_said, lent_said, said, updated_said}
use Rattle.dip_store_memory.specs.Seen.{DifferByName, IsThere, Parts, Recalls, gives_part, is_paper, most_seen, part_of, replaced_papers, with_room}

-- what a part as it lies in memory says
abbrev pub says : Rc Public Global → r.Public
says p = rows.public p.value

-- what is found under a name is the part of that name
pub part_found : (name : List ℕ) (es : List (String Global × Rc Public Global))
    → option_map (λ p. rows.public p.value) (lookup (λ k. bytes_eq name (string_bytes k)) es) ≡ part_of name (said says es)
part_found name es = found_said says name es

-- what a change at a name leaves of each
pub parts_updated : {S : Type 0} (bs : List ℕ) (m n : IndexMap (String Global) (Rc Public Global) S) (w : Option (Rc Public Global)) → UpdatesBy string_eq (λ k. bytes_eq bs (string_bytes k)) m n w
    → (other : List ℕ) → part_of other (said says n.entries) ≡ cond (bytes_eq bs other) (option_map (λ p. rows.public p.value) w) (part_of other (said says m.entries))
parts_updated bs m n w updates other = updated_said says bs m n w updates other

-- and how many papers the part has that is found
pub papers_found : (name : List ℕ) (found : Option (Rc Public Global)) (es : List (String Global × Rc Public Global)) (ps : Parts) → found ≡ lookup (λ k. bytes_eq name (string_bytes k)) es → said says es ≡ ps
    → option_map (λ (p : Rc Public Global). p.value.papers) found ≡ option_map (λ (p : r.Public). p.papers) (part_of name ps)
papers_found name found es ps is same =
    twice found
    ∙ ap (option_map (λ (p : r.Public). p.papers)) (ap (λ (o : Option (Rc Public Global)). option_map (λ p. rows.public p.value) o) is ∙ part_found name es ∙ ap (part_of name) same)
  where
    twice : (o : Option (Rc Public Global)) → option_map (λ (p : Rc Public Global). p.value.papers) o ≡ option_map (λ (p : r.Public). p.papers) (option_map (λ p. rows.public p.value) o)
    twice None = refl
    twice (Some p) = refl

-- by the name, the part and the parts that are meant
pub part_noted : (other bs name : List ℕ) (p q : r.Public) (ps qs : Parts) → bs ≡ name → p ≡ q → ps ≡ qs
    → cond (bytes_eq bs other) (Some p) (part_of other ps) ≡ cond (bytes_eq name other) (Some q) (part_of other qs)
part_noted other bs name p q ps qs key part same =
    ap (λ (n : List ℕ). cond (bytes_eq n other) (Some p) (part_of other ps)) key
    ∙ ap (λ (x : r.Public). cond (bytes_eq name other) (Some x) (part_of other ps)) part
    ∙ ap (λ (xs : Parts). cond (bytes_eq name other) (Some q) (part_of other xs)) same

pub part_shown : (o : Option (Bor (Rc Public Global))) → option_map (λ p. rows.public p.now.value) o ≡ option_map (λ p. rows.public p.value) (option_copied o)
part_shown o = lent_said says o

-- nothing is remembered wrong where nothing is
pub recalls_none : (s : State) → Recalls s []
recalls_none s name p h = absurd (let x = h in cc)

-- nor where room is made
roomy : (s : State) (ps : Parts) → Recalls s ps → Recalls s (with_room ps)
roomy s ps holds = go (nat_lt (length ps) most_seen)
  where
    go : (b : Bool) → Recalls s (cond b ps [])
    go true = holds
    go false = recalls_none s

-- a part that the state has may be remembered
pub learned : (s : State) (old new : Parts) (name : List ℕ) (p : r.Public) → Recalls s old → Some p ≡ public_at name s
    → ((other : List ℕ) → part_of other new ≡ cond (bytes_eq name other) (Some p) (part_of other (with_room old))) → Recalls s new
learned s old new name p holds is noted other q h = go (bytes_eq name other) refl (noted other)
  where
    go : (b : Bool) → bytes_eq name other ≡ b → part_of other new ≡ cond b (Some p) (part_of other (with_room old)) → public_at other s ≡ Some q
    go true e n = subst (λ (w : List ℕ). public_at w s ≡ Some q) ((bytes_eq-Decides name other).0 e) (sym is ∙ sym n ∙ h)
    go false e n = roomy s old holds other q (sym n ∙ h)

pub not_learned : (s : State) (old new : Parts) → Recalls s old → new ≡ with_room old → Recalls s new
not_learned s old new holds is = subst (Recalls s) (sym is) (roomy s old holds)

-- so it is whether memory was there for it or not
pub noted_recalls : {X E : Type 0} (did : Result X E) (s : State) (name : List ℕ) (p : r.Public) (old new : Parts)
    → OnOk did ((other : List ℕ) → part_of other new ≡ cond (bytes_eq name other) (Some p) (part_of other (with_room old))) → OnErr did (new ≡ with_room old)
    → Recalls s old → public_at name s ≡ Some p → Recalls s new
noted_recalls (Ok x) s name p old new noted not holds is = learned s old new name p holds (sym is) noted
noted_recalls (Err e) s name p old new noted not holds is = not_learned s old new holds not

-- a game keeps its public part, but for a paper
keeps_part : (e : Effect) (p : r.Public) → is_paper e ≡ false → public_after e p ≡ p
keeps_part Nothing p none = refl
keeps_part (Pending orders) p none = refl
keeps_part (Votes vote) p none = refl
keeps_part (Delivers readers item) p none = refl
keeps_part (Opens public paper seats) p none = refl
keeps_part (Publishes public paper played) p none = absurd (cc)
keeps_part (Seats seat) p none = refl

-- a game to which a change gives no other part has the one that it had
part_stays : (c : Change) (s : State) (name : List ℕ) (p : r.Public) → gives_part c name ≡ false → public_at name s ≡ Some p
    → public_at name (state_after c s) ≡ Some p
part_stays c s name p other is =
    ap (option_map (λ (g : Game). g.public)) (at-append bytes_eq name_of name (change_at bytes_eq name_of c.game (game_after c) s.games) (new_games c.effect))
    ∙ first (at bytes_eq name_of name (change_at bytes_eq name_of c.game (game_after c) s.games)) (changed (bytes_eq c.game name) refl other)
  where
    first : (o : Option Game) → option_map (λ g. g.public) o ≡ Some p → option_map (λ g. g.public) (option_or o (at bytes_eq name_of name (new_games c.effect))) ≡ Some p
    first None h = cc
    first (Some g) h = h

    kept : is_paper c.effect ≡ false → (o : Option Game) → option_map (λ g. g.public) o ≡ Some p → option_map (λ g. g.public) (option_map (game_after c) o) ≡ Some p
    kept none None h = cc
    kept none (Some g) h = ap Some (keeps_part c.effect g.public none) ∙ h

    and_true : (b : Bool) → (b && true) ≡ false → b ≡ false
    and_true false h = refl
    and_true true h = h

    changed : (b : Bool) → bytes_eq c.game name ≡ b → (is_paper c.effect && b) ≡ false
        → option_map (λ g. g.public) (at bytes_eq name_of name (change_at bytes_eq name_of c.game (game_after c) s.games)) ≡ Some p
    changed false e h = ap (option_map (λ (g : Game). g.public)) (at-change_at_other bytes_eq name_of c.game name (game_after c) s.games names_tell (name_kept c) e) ∙ is
    changed true e h =
        let same = (bytes_eq-Decides c.game name).0 e in
        subst (λ (w : List ℕ). option_map (λ g. g.public) (at bytes_eq name_of w (change_at bytes_eq name_of c.game (game_after c) s.games)) ≡ Some p) same
        (ap (option_map (λ (g : Game). g.public)) (at-change_at_same bytes_eq name_of c.game (game_after c) s.games (name_kept c))
        ∙ kept (and_true (is_paper c.effect) h) (game_at c.game s) (subst (λ (w : List ℕ). public_at w s ≡ Some p) (sym same) is))

-- the parts but for the one that a change gives
abbrev IsHeeded : Change → Parts → Parts → Type 0
IsHeeded c old new = (name : List ℕ) → part_of name new ≡ cond (gives_part c name) None (part_of name old)

heeded_by : (b : Bool) (o : Option r.Public) (p : r.Public) → cond b None o ≡ Some p → (b ≡ false) × (o ≡ Some p)
heeded_by true o p h = absurd (cc)
heeded_by false o p h = (refl, h)

-- what is left of what a state has, it has before a change and after it
abbrev pub Heeds : Change → Parts → Parts → Type 0
Heeds c old new = (s : State) → Recalls s old → Recalls s new × Recalls (state_after c s) new

pub heeded : (c : Change) (old new : Parts) → IsHeeded c old new → Heeds c old new
heeded c old new is s holds = (before, later)
  where
    before : Recalls s new
    before name p h = holds name p (heeded_by (gives_part c name) (part_of name old) p (sym (is name) ∙ h)).1

    later : Recalls (state_after c s) new
    later name p h =
        let it = heeded_by (gives_part c name) (part_of name old) p (sym (is name) ∙ h) in
        part_stays c s name p it.0 (holds name p it.1)

-- the part that a change replaces has as many papers in the state, where it was remembered
pub replaced : (c : Change) (s : State) (ps : Parts) (n : ℕ) → replaced_papers c ps ≡ Some n → Recalls s ps → option_map (λ p. p.papers) (public_at c.game s) ≡ Some n
replaced c s ps n is holds = go (is_paper c.effect) (part_of c.game ps) refl is
  where
    go : (b : Bool) (o : Option r.Public) → part_of c.game ps ≡ o → cond b (option_map (λ p. p.papers) o) None ≡ Some n → option_map (λ (p : r.Public). p.papers) (public_at c.game s) ≡ Some n
    go false o found h = absurd (cc)
    go true None found h = absurd (cc)
    go true (Some p) found h = ap (option_map (λ (p : r.Public). p.papers)) (holds c.game p found) ∙ h

-- and its game is there
pub was_there : (c : Change) (s : State) (ps : Parts) (papers : Option ℕ) → papers ≡ replaced_papers c ps → Recalls s ps → is_some papers ≡ true → IsThere c.game s
was_there c s ps None is holds so = absurd (cc)
was_there c s ps (Some n) is holds so = there (public_at c.game s) (replaced c s ps n (sym is) holds)
  where
    there : (o : Option r.Public) → option_map (λ (p : r.Public). p.papers) o ≡ Some n → is_some o ≡ true
    there None h = absurd (cc)
    there (Some p) h = refl

last_has : {A : Type 0} (P : A → Type 0) (xs : List A) (x : A) → AllByRecursion P (xs ++ x ∷ []) → P x
last_has P [] x all = all.0
last_has P (y ∷ ys) x all = last_has P ys x all.1

-- where no two records have one key, the last is found at its own
pub at_last : {K A : Type 0} (eq : K → K → Bool) (key : A → K) (xs : List A) (x : A) → Tells eq → IsAscending (λ a b. eq (key a) (key b) ≡ false) (xs ++ x ∷ []) → at eq key (key x) (xs ++ x ∷ []) ≡ Some x
at_last eq key [] x tells apart = rw (tells.self (key x)) refl
at_last eq key (y ∷ ys) x tells apart = rw (last_has (λ b. eq (key y) (key b) ≡ false) ys x apart.0) (at_last eq key ys x tells apart.1)

-- a game that is opened has the part that came with it
pub opened : (c : Change) (s : State) (name : List ℕ) (p : r.Public) (paper : List ℕ) (seats : List NewSeat) → name ≡ p.game → c.effect ≡ Opens p paper seats → DifferByName (state_after c s).games
    → public_at name (state_after c s) ≡ Some (record p { game = name })
opened c s name p paper seats named is apart = subst (λ (n : List ℕ). public_at n (state_after c s) ≡ Some (record p { game = n })) (sym named) here
  where
    new : new_games c.effect ≡ opening_game p paper seats ∷ []
    new = ap (λ (e : Effect). new_games e) is

    here : public_at p.game (state_after c s) ≡ Some p
    here =
        let before = change_at bytes_eq name_of c.game (game_after c) s.games in
        ap (λ (o : Option Game). option_map (λ g. g.public) o) (
        ap (λ (gs : List Game). at bytes_eq name_of p.game (before ++ gs)) new
        ∙ at_last bytes_eq name_of before (opening_game p paper seats) names_tell (subst (λ (gs : List Game). DifferByName (before ++ gs)) new apart))

-- and so has a game that is there, with a paper
pub published : (c : Change) (s : State) (name : List ℕ) (p : r.Public) (paper : List ℕ) (played : Bool) → name ≡ c.game → c.effect ≡ Publishes p paper played → IsThere c.game s
    → public_at name (state_after c s) ≡ Some (record p { game = name })
published c s name p paper played named is there = subst (λ (n : List ℕ). public_at n (state_after c s) ≡ Some (record p { game = n })) (sym named) (go (game_at c.game s) refl there)
  where
    go : (o : Option Game) → game_at c.game s ≡ o → is_some (option_map (λ (g : Game). g.public) o) ≡ true → public_at c.game (state_after c s) ≡ Some (record p { game = c.game })
    go None found some = absurd (cc)
    go (Some g) found some =
        ap (λ (o : Option Game). option_map (λ g. g.public) o) (
        at-append bytes_eq name_of c.game (change_at bytes_eq name_of c.game (game_after c) s.games) (new_games c.effect)
        ∙ ap (λ (o : Option Game). option_or o (at bytes_eq name_of c.game (new_games c.effect))) (at-change_at_same bytes_eq name_of c.game (game_after c) s.games (name_kept c) ∙ ap (λ (o : Option Game). option_map (game_after c) o) found))
        ∙ ap (λ (e : Effect). Some (public_after e g.public)) is
        ∙ ap (λ (n : List ℕ). Some (record p { game = n })) (names_tell.same (name_of g) c.game (at_key bytes_eq name_of c.game s.games g found))
