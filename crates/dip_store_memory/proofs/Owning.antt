-- Own parts that are remembered.
use Rattle.std.proofs.Common.{◌≡◌, ◌<◌, ◌==◌, ◌+◌, ◌++◌, ◌⊎◌, inl, inr, ℕ, zero, suc, Bool, true, false, cond, nat_le, List, [], ◌∷◌, Option, Some, Result, Ok, Err, OnOk, OnErr, map, filter, take, drop, get_or, length, option_map, unwrap_or, refl, sym, ap, subst, ◌∙◌, arith, add-one, bytes_eq, String, string_bytes, Vec, vec_len, slice_set, eqb-true}
use Rattle.std.specs.declared.alloc.Global.{Global}
use Rattle.std.specs.List.{AllByRecursion}
use Rattle.std.specs.Map.{lookup, values_of}
use Rattle.std.specs.String.{string_eq}
use Rattle.indexmap.specs.IndexMap.{IndexMap, UpdatesBy}
use Rattle.std.proofs.lemmas.List.{map-append}
use Rattle.std.proofs.lemmas.Slice.Eq.{bytes_eq-Decides}
use Rattle.dip_desk_state.specs.Records as r
use Rattle.dip_desk_state.specs.Rows as rows
use Rattle.dip_desk_state.specs.State.{Change, State, own_at, state_after}
use Rattle.dip_desk_state.specs.declared.records.Own.{Own}
use Rattle.dip_store_memory.specs.Owns.{AreShort, HasOwn, HoldsOwns, MayForget, Owns, RecallsOwns, is_short, leaves_owns_known, many_owns, most_owns, own_among, own_after, owns_of, owns_with_room}
use Rattle.dip_store_memory.proofs.After.{has_own, letter_stays, other_stays}
use Rattle.dip_store_memory.proofs.Named.{found_said, said, updated_said}

-- ---- as they lie in memory

-- what own parts as they lie in memory say
abbrev pub owned : Vec Own Global → List r.Own
owned v = map (λ o. rows.own o) v.items

abbrev Found : Type 0
Found = Option (Vec Own Global)

-- what is found under a name are the own parts of that game, and none where nothing is
pub owns_found : (name : List ℕ) (es : List (String Global × Vec Own Global)) (o : Found) → o ≡ lookup (λ k. bytes_eq name (string_bytes k)) es
    → unwrap_or (option_map owned o) [] ≡ owns_of name (said owned es)
owns_found name es o is = ap (λ (x : Found). unwrap_or (option_map owned x) []) is ∙ ap (λ (x : Option (List r.Own)). unwrap_or x []) (found_said owned name es)

-- what a change at a name leaves of each game
pub owns_updated : {S : Type 0} (bs : List ℕ) (m n : IndexMap (String Global) (Vec Own Global) S) (w : Found) → UpdatesBy string_eq (λ k. bytes_eq bs (string_bytes k)) m n w
    → (other : List ℕ) → owns_of other (said owned n.entries) ≡ cond (bytes_eq bs other) (unwrap_or (option_map owned w) []) (owns_of other (said owned m.entries))
owns_updated bs m n w updates other =
    ap (λ (x : Option (List r.Own)). unwrap_or x []) (updated_said owned bs m n w updates other)
    ∙ over (bytes_eq bs other) (lookup (bytes_eq other) (said owned m.entries))
  where
    over : (b : Bool) (o : Option (List r.Own)) → unwrap_or (cond b (option_map owned w) o) [] ≡ cond b (unwrap_or (option_map owned w) []) (unwrap_or o [])
    over true o = refl
    over false o = refl

-- how many lie there
abbrev pub tally : List (Vec Own Global) → ℕ
tally [] = 0
tally (v ∷ vs) = vec_len v + tally vs

pub tally_all : (es : List (String Global × Vec Own Global)) → tally (values_of es) ≡ many_owns (said owned es)
tally_all [] = refl
tally_all (e ∷ es) = let one = length_said e.1.items in let more = tally_all es in omega (arith, one, more)
  where
    length_said : (os : List Own) → length os ≡ length (map (λ o. rows.own o) os)
    length_said [] = refl
    length_said (o ∷ os) = ap suc (length_said os)

-- those that pass a test of what they say
pub passed_said : (test : r.Own → Bool) (os : List Own) → map (λ o. rows.own o) (filter (λ o. test (rows.own o)) os) ≡ filter test (map (λ o. rows.own o) os)
passed_said test [] = refl
passed_said test (o ∷ os) = go (test (rows.own o)) (passed_said test os)
  where
    go : (b : Bool) → map (λ o. rows.own o) (filter (λ o. test (rows.own o)) os) ≡ filter test (map (λ o. rows.own o) os)
        → map (λ o. rows.own o) (cond b (o ∷ filter (λ o. test (rows.own o)) os) (filter (λ o. test (rows.own o)) os)) ≡ cond b (rows.own o ∷ filter test (map (λ o. rows.own o) os)) (filter test (map (λ o. rows.own o) os))
    go true more = ap (λ (xs : List r.Own). rows.own o ∷ xs) more
    go false more = more

-- one more of them is changed
pub next_reached : (f : r.Own → r.Own) (xs : List Own) (i : ℕ) (new d : Own) → i < length xs → rows.own new ≡ f (rows.own (get_or xs i d))
    → take (i + 1) (map (λ o. rows.own o) (slice_set xs i new)) ++ map f (drop (i + 1) (map (λ o. rows.own o) (slice_set xs i new)))
    ≡ take i (map (λ o. rows.own o) xs) ++ map f (drop i (map (λ o. rows.own o) xs))
next_reached f xs i new d lt is = rw (add-one i) (go xs i lt is)
  where
    go : (ys : List Own) (j : ℕ) → j < length ys → rows.own new ≡ f (rows.own (get_or ys j d))
        → take (suc j) (map (λ o. rows.own o) (slice_set ys j new)) ++ map f (drop (suc j) (map (λ o. rows.own o) (slice_set ys j new))) ≡ take j (map (λ o. rows.own o) ys) ++ map f (drop j (map (λ o. rows.own o) ys))
    go [] j lt is = absurd (omega arith)
    go (y ∷ ys) zero lt is = ap (λ (p : r.Own). p ∷ map f (map (λ o. rows.own o) ys)) is
    go (y ∷ ys) (suc j) lt is = ap (λ (ps : List r.Own). rows.own y ∷ ps) (go ys j (omega arith) is)

-- one more of them
pub pushed_said : (os : List Own) (x : Own) (o : r.Own) → rows.own x ≡ o → map (λ o. rows.own o) (os ++ x ∷ []) ≡ map (λ o. rows.own o) os ++ o ∷ []
pushed_said os x o is = map-append (λ o. rows.own o) os (x ∷ []) ∙ ap (λ (y : r.Own). map (λ o. rows.own o) os ++ y ∷ []) is

-- ---- what a state has of them

-- nothing is remembered wrong where nothing is
pub recalls_no_owns : (s : State) → RecallsOwns s []
recalls_no_owns s name = tt

-- what holds of each holds where room is made
holds_with_room : (P : List ℕ → r.Own → Type 0) (ws : Owns) → HoldsOwns P ws → HoldsOwns P (owns_with_room ws)
holds_with_room P ws holds = go (nat_le most_owns (many_owns ws))
  where
    go : (b : Bool) → HoldsOwns P (cond b [] ws)
    go true = λ name. tt
    go false = holds

-- what is found among them the state has
pub recalled_own : (s : State) (ws : Owns) (name : List ℕ) (power : ℕ) (o : r.Own) → RecallsOwns s ws → own_among power (owns_of name ws) ≡ Some o → own_at name power s ≡ Some o
recalled_own s ws name power o recalls h = among (owns_of name ws) (recalls name) h
  where
    among : (os : List r.Own) → AllByRecursion (HasOwn s name) os → own_among power os ≡ Some o → own_at name power s ≡ Some o
    among [] all h = cc
    among (x ∷ xs) all h = go (x.power == power) refl h (among xs all.1)
      where
        go : (b : Bool) → (x.power == power) ≡ b → cond b (Some x) (own_among power xs) ≡ Some o → (own_among power xs ≡ Some o → own_at name power s ≡ Some o) → own_at name power s ≡ Some o
        go true is h more = subst (λ (p : ℕ). own_at name p s ≡ Some x) (eqb-true x.power power is) all.0 ∙ h
        go false is h more = more h

all_weaker : (P Q : r.Own → Type 0) → ((o : r.Own) → P o → Q o) → (os : List r.Own) → AllByRecursion P os → AllByRecursion Q os
all_weaker P Q turn [] all = tt
all_weaker P Q turn (o ∷ os) all = (turn o all.0, all_weaker P Q turn os all.1)

all_with : (P : r.Own → Type 0) (os : List r.Own) (o : r.Own) → AllByRecursion P os → P o → AllByRecursion P (os ++ o ∷ [])
all_with P [] o all has = (has, tt)
all_with P (x ∷ xs) o all has = (all.0, all_with P xs o all.1 has)

all_reached : (P Q : r.Own → Type 0) (test : r.Own → Bool) (f : r.Own → r.Own) → ((o : r.Own) → P o → Q (f o)) → (os : List r.Own) → AllByRecursion P os → AllByRecursion Q (filter test (map f os))
all_reached P Q test f turn [] all = tt
all_reached P Q test f turn (o ∷ os) all = go (test (f o)) (turn o all.0) (all_reached P Q test f turn os all.1)
  where
    go : (b : Bool) → Q (f o) → AllByRecursion Q (filter test (map f os)) → AllByRecursion Q (cond b (f o ∷ filter test (map f os)) (filter test (map f os)))
    go true has more = (has, more)
    go false has more = more

-- what is remembered where a game's own parts are taken out
abbrev IsLeft : List ℕ → Owns → Owns → Type 0
IsLeft name old new = (other : List ℕ) → owns_of other new ≡ cond (bytes_eq name other) [] (owns_of other old)

-- and where these are put there
abbrev IsPut : List ℕ → List r.Own → Owns → Owns → Type 0
IsPut name os old new = (other : List ℕ) → owns_of other new ≡ cond (bytes_eq name other) os (owns_of other old)

left_holds : (P : List ℕ → r.Own → Type 0) (name : List ℕ) (old new : Owns) → IsLeft name old new → HoldsOwns P old → HoldsOwns P new
left_holds P name old new left holds other = go (bytes_eq name other) (left other)
  where
    go : (b : Bool) → owns_of other new ≡ cond b [] (owns_of other old) → AllByRecursion (P other) (owns_of other new)
    go true is = subst (AllByRecursion (P other)) (sym is) tt
    go false is = subst (AllByRecursion (P other)) (sym is) (holds other)

pub left_recalls : (s : State) (name : List ℕ) (old new : Owns) → IsLeft name old new → RecallsOwns s old → RecallsOwns s new
left_recalls s = left_holds (HasOwn s)

put_holds : (P : List ℕ → r.Own → Type 0) (name : List ℕ) (os : List r.Own) (old new : Owns) → IsPut name os old new → HoldsOwns P old → AllByRecursion (P name) os → HoldsOwns P new
put_holds P name os old new put holds all other = go (bytes_eq name other) refl (put other)
  where
    go : (b : Bool) → bytes_eq name other ≡ b → owns_of other new ≡ cond b os (owns_of other old) → AllByRecursion (P other) (owns_of other new)
    go true same is = subst (AllByRecursion (P other)) (sym is) (subst (λ (n : List ℕ). AllByRecursion (P n) os) ((bytes_eq-Decides name other).0 same) all)
    go false same is = subst (AllByRecursion (P other)) (sym is) (holds other)

-- without the own parts of its game, what is remembered before a change is right after it
pub left_after : (c : Change) (s : State) (old new : Owns) → IsLeft c.game old new → RecallsOwns s old → RecallsOwns (state_after c s) new
left_after c s old new left recalls other = go (bytes_eq c.game other) refl (left other)
  where
    go : (b : Bool) → bytes_eq c.game other ≡ b → owns_of other new ≡ cond b [] (owns_of other old) → AllByRecursion (HasOwn (state_after c s) other) (owns_of other new)
    go true same is = subst (AllByRecursion (HasOwn (state_after c s) other)) (sym is) tt
    go false differ is = subst (AllByRecursion (HasOwn (state_after c s) other)) (sym is) (all_weaker _ _ (other_stays c s other differ) (owns_of other old) (recalls other))

-- those of its game that were taken out the state has
pub taken_had : (s : State) (name : List ℕ) (os : List r.Own) (old : Owns) → os ≡ owns_of name old → RecallsOwns s old → AllByRecursion (HasOwn s name) os
taken_had s name os old is recalls = subst (AllByRecursion (HasOwn s name)) (sym is) (recalls name)

-- what a letter makes of them is what the state after it has
pub reached_had : (c : Change) (s : State) (test : r.Own → Bool) (os : List r.Own) → leaves_owns_known c.effect ≡ true → AllByRecursion (HasOwn s c.game) os
    → AllByRecursion (HasOwn (state_after c s) c.game) (filter test (map (own_after c) os))
reached_had c s test os own all = all_reached (HasOwn s c.game) (HasOwn (state_after c s) c.game) test (own_after c) (letter_stays c s own) os all

-- whichever way it went
pub either_way : {X E : Type 0} {P Q R : Type 0} (did : Result X E) → OnOk did P → OnErr did Q → (P → R) → (Q → R) → R
either_way (Ok x) ok err well ill = well ok
either_way (Err e) ok err well ill = ill err

pub on_err : {X E P : Type 0} (did : Result X E) → P → OnErr did P
on_err (Ok x) holds = tt
on_err (Err e) holds = holds

-- by the name and the own parts that are meant
pub put_named : (other bs name : List ℕ) (os : List r.Own) (ws vs : Owns) → bs ≡ name → ws ≡ vs → cond (bytes_eq bs other) os (owns_of other ws) ≡ cond (bytes_eq name other) os (owns_of other vs)
put_named other bs name os ws vs key same =
    ap (λ (n : List ℕ). cond (bytes_eq n other) os (owns_of other ws)) key ∙ ap (λ (xs : Owns). cond (bytes_eq name other) os (owns_of other xs)) same

-- a change that is made, before which the own parts of its game were taken out
pub made_recalls : (c : Change) (name : List ℕ) → name ≡ c.game → (old left new : Owns) (os : List r.Own) → os ≡ owns_of name old → IsLeft name old left
    → ((s : State) → RecallsOwns (state_after c s) left → AllByRecursion (HasOwn s c.game) os → RecallsOwns (state_after c s) new)
    → (s : State) → RecallsOwns s old → RecallsOwns (state_after c s) new
made_recalls c name is old left new os took out keeps s recalls =
    keeps s (left_after c s old left (subst (λ (n : List ℕ). IsLeft n old left) is out) recalls)
    (taken_had s c.game os old (took ∙ ap (λ (n : List ℕ). owns_of n old) is) recalls)

-- and what a letter makes of them put back
pub letter_recalls : {X E : Type 0} (did : Result X E) (c : Change) (s : State) (name : List ℕ) → name ≡ c.game → (test : r.Own → Bool) (os reached short : List r.Own) (old new : Owns) → leaves_owns_known c.effect ≡ true
    → reached ≡ map (own_after c) os → short ≡ filter test reached → OnOk did (IsPut name short old new) → OnErr did (new ≡ old)
    → RecallsOwns (state_after c s) old → AllByRecursion (HasOwn s c.game) os → RecallsOwns (state_after c s) new
letter_recalls did c s name is test os reached short old new own reaches passes ok err recalls all =
    either_way did ok err
    (λ put. put_holds (HasOwn (state_after c s)) name short old new put recalls (subst (λ (n : List ℕ). AllByRecursion (HasOwn (state_after c s) n) short) (sym is) had))
    (λ same. subst (RecallsOwns (state_after c s)) (sym same) recalls)
  where
    had : AllByRecursion (HasOwn (state_after c s) c.game) short
    had = subst (AllByRecursion (HasOwn (state_after c s) c.game)) (sym (passes ∙ ap (λ (xs : List r.Own). filter test xs) reaches)) (reached_had c s test os own all)

-- ---- one more is remembered

-- to room that was made
abbrev IsNoted : List ℕ → r.Own → Owns → Owns → Type 0
IsNoted name o old new = (other : List ℕ) → owns_of other new ≡ cond (bytes_eq name other) (owns_of other (owns_with_room old) ++ o ∷ []) (owns_of other (owns_with_room old))

pub noted_own : (name : List ℕ) (o : r.Own) (old room left new : Owns) (taken os : List r.Own) → room ≡ owns_with_room old → taken ≡ owns_of name room → IsLeft name room left → IsPut name os left new → os ≡ taken ++ o ∷ []
    → IsNoted name o old new
noted_own name o old room left new taken os roomy took out put is other =
    go (bytes_eq name other) refl (put other) (out other)
    ∙ ap (λ (ws : Owns). cond (bytes_eq name other) (owns_of other ws ++ o ∷ []) (owns_of other ws)) roomy
  where
    go : (b : Bool) → bytes_eq name other ≡ b → owns_of other new ≡ cond b os (owns_of other left) → owns_of other left ≡ cond b [] (owns_of other room)
        → owns_of other new ≡ cond b (owns_of other room ++ o ∷ []) (owns_of other room)
    go true same here out = here ∙ is ∙ ap (λ (xs : List r.Own). xs ++ o ∷ []) (took ∙ ap (λ (n : List ℕ). owns_of n room) ((bytes_eq-Decides name other).0 same))
    go false differ here out = here ∙ out

-- where memory is wanting
pub not_noted : (name : List ℕ) (old room left new : Owns) → room ≡ owns_with_room old → IsLeft name room left → new ≡ left → MayForget old new
not_noted name old room left new roomy out same other =
    over (nat_le most_owns (many_owns old)) (bytes_eq name other) (owns_of other old) (ap (owns_of other) same ∙ out other ∙ ap (λ (ws : Owns). cond (bytes_eq name other) [] (owns_of other ws)) roomy ∙ ap (cond (bytes_eq name other) []) (made (nat_le most_owns (many_owns old))))
  where
    made : (b : Bool) → owns_of other (cond b [] old) ≡ cond b [] (owns_of other old)
    made true = refl
    made false = refl

    over : {os : List r.Own} (b d : Bool) (had : List r.Own) → os ≡ cond d [] (cond b [] had) → (os ≡ had) ⊎ (os ≡ [])
    over b true had is = inr is
    over true false had is = inr is
    over false false had is = inl is

noted_holds : (P : List ℕ → r.Own → Type 0) (name : List ℕ) (o : r.Own) (old new : Owns) → IsNoted name o old new → P name o → HoldsOwns P old → HoldsOwns P new
noted_holds P name o old new noted has holds =
    put_holds P name (owns_of name (owns_with_room old) ++ o ∷ []) (owns_with_room old) new put before (all_with (P name) (owns_of name (owns_with_room old)) o (before name) has)
  where
    before : HoldsOwns P (owns_with_room old)
    before = holds_with_room P old holds

    put : IsPut name (owns_of name (owns_with_room old) ++ o ∷ []) (owns_with_room old) new
    put other = go (bytes_eq name other) refl (noted other)
      where
        go : (b : Bool) → bytes_eq name other ≡ b → owns_of other new ≡ cond b (owns_of other (owns_with_room old) ++ o ∷ []) (owns_of other (owns_with_room old))
            → owns_of other new ≡ cond b (owns_of name (owns_with_room old) ++ o ∷ []) (owns_of other (owns_with_room old))
        go true same is = is ∙ ap (λ (n : List ℕ). owns_of n (owns_with_room old) ++ o ∷ []) (sym ((bytes_eq-Decides name other).0 same))
        go false differ is = is

-- what is forgotten breaks nothing
forgotten_holds : (P : List ℕ → r.Own → Type 0) (old new : Owns) → MayForget old new → HoldsOwns P old → HoldsOwns P new
forgotten_holds P old new forgets holds name = go (forgets name)
  where
    go : (owns_of name new ≡ owns_of name old) ⊎ (owns_of name new ≡ []) → AllByRecursion (P name) (owns_of name new)
    go (inl is) = subst (AllByRecursion (P name)) (sym is) (holds name)
    go (inr is) = subst (AllByRecursion (P name)) (sym is) tt

learned_holds : {X E : Type 0} (did : Result X E) (P : List ℕ → r.Own → Type 0) (name : List ℕ) (o : r.Own) (old new : Owns) → OnOk did (IsNoted name o old new) → OnErr did (MayForget old new)
    → P name o → HoldsOwns P old → HoldsOwns P new
learned_holds did P name o old new noted not has holds =
    either_way did noted not (λ noted. noted_holds P name o old new noted has holds) (λ forgets. forgotten_holds P old new forgets holds)

pub learned_own : {X E : Type 0} (did : Result X E) (s : State) (name : List ℕ) (power : ℕ) (o : r.Own) (old new : Owns) → OnOk did (IsNoted name o old new) → OnErr did (MayForget old new)
    → Some o ≡ own_at name power s → RecallsOwns s old → RecallsOwns s new
learned_own did s name power o old new noted not is = learned_holds did (HasOwn s) name o old new noted not (has_own s name power o (sym is))

-- ---- none with a long reply

pub learned_short : {X E : Type 0} (did : Result X E) (name : List ℕ) (o : r.Own) (old new : Owns) → OnOk did (IsNoted name o old new) → OnErr did (MayForget old new)
    → is_short o.kept ≡ true → AreShort old → AreShort new
learned_short did name o old new noted not is = learned_holds did (λ name o. is_short o.kept ≡ true) name o old new noted not is

pub letter_short : {X E : Type 0} (did : Result X E) (name : List ℕ) (reached short : List r.Own) (old new : Owns) → short ≡ filter (λ o. is_short o.kept) reached
    → OnOk did (IsPut name short old new) → OnErr did (new ≡ old) → AreShort old → AreShort new
letter_short did name reached short old new passes ok err are =
    either_way did ok err (λ put. put_holds (λ name o. is_short o.kept ≡ true) name short old new put are (subst (AllByRecursion (λ o. is_short o.kept ≡ true)) (sym passes) (all_pass (λ o. is_short o.kept) reached)))
    (λ same. subst AreShort (sym same) are)
  where
    all_pass : (test : r.Own → Bool) (os : List r.Own) → AllByRecursion (λ o. test o ≡ true) (filter test os)
    all_pass test [] = tt
    all_pass test (o ∷ os) = over (test o) refl (all_pass test os)
      where
        over : (b : Bool) → test o ≡ b → AllByRecursion (λ o. test o ≡ true) (filter test os) → AllByRecursion (λ o. test o ≡ true) (cond b (o ∷ filter test os) (filter test os))
        over true is more = (is, more)
        over false is more = more
