-- The search that visits each fleet once finds a chain exactly where there is one.
use Rattle.std.proofs.Common.{◌≡◌, ℕ, ◌≤◌, ◌<◌, ◌+◌, List, [], ◌∷◌, ◌++◌, take, get_or, length, refl, sym, subst, ap, ◌∙◌, append_assoc, inl, inr, suc, arith, length-append}
use Rattle.std.specs.Prelude.{◌==◌, Bool, true, false, not, ◌||◌, filter}
use Rattle.std.proofs.lemmas.Bool.{cases_Bool, both_ways, or_cases, or_left, or_right, and_parts, and_from, eqb-true, not-true}
use Rattle.std.proofs.lemmas.List.{take_more, take_all, take-append-le}
use mathlib.Core.Logic.{◌⊎◌}
use Rattle.dip_map.specs.Charts.{are_provs_single}
use Rattle.dip_decide_rules.specs.declared.decisions.Decision.{Decision}
use Rattle.dip_decide_rules.specs.declared.decisions.Decision.TheVariants.{Move, Path, Support}
use Rattle.dip_decide_rules.specs.Deciding.{Assignment, is_among}
use Rattle.dip_decide_rules.specs.Laws.{AreJoined, IsChain}
use Rattle.dip_decide_rules.specs.Movement.{Situation, IsSituation, is_listed, joins, serves}
use Rattle.dip_decide_rules.proofs.Chaining.{found_chain, chain_found}
use Rattle.dip_decide_rules.proofs.ChainLaws.{listed_kept}
use Rattle.dip_decide_rules.specs.Chains.{IsSought, IsSpread, IsSeeking}
use Rattle.dip_decide_rules.specs.Steps.{moves_of}
use Rattle.dip_decide_rules.proofs.Giving.{single_moves}
use Rattle.dip_decide_rules.proofs.Progress.{no_more}
use Rattle.dip_decide_table.proofs.Plain.{flip_eq}
use Rattle.dip_decide_rules.proofs.RingLaws.{among_moves}

listed_append : (xs ys : List ℕ) (x : ℕ) → is_listed (xs ++ ys) x ≡ (is_listed xs x || is_listed ys x)
listed_append [] ys x = refl
listed_append (z ∷ xs) ys x = rw (listed_append xs ys x) (either (z == x) (is_listed xs x) (is_listed ys x))
  where
    either : (a b c : Bool) → (a || (b || c)) ≡ ((a || b) || c)
    either true b c = refl
    either false b c = refl

listed_cases : (xs ys : List ℕ) (x : ℕ) → is_listed (xs ++ ys) x ≡ true → (is_listed xs x ≡ true) ⊎ (is_listed ys x ≡ true)
listed_cases xs ys x h = or_cases _ _ (sym (listed_append xs ys x) ∙ h)

listed_left : (xs ys : List ℕ) (x : ℕ) → is_listed xs x ≡ true → is_listed (xs ++ ys) x ≡ true
listed_left xs ys x h = listed_append xs ys x ∙ or_left _ _ h

listed_right : (xs ys : List ℕ) (x : ℕ) → is_listed ys x ≡ true → is_listed (xs ++ ys) x ≡ true
listed_right xs ys x h = listed_append xs ys x ∙ or_right (is_listed xs x) _ h

listed_one : (y x : ℕ) → is_listed (y ∷ []) x ≡ true → y ≡ x
listed_one y x h = go (or_cases _ _ h)
  where
    go : ((y == x) ≡ true) ⊎ (false ≡ true) → y ≡ x
    go (inl e) = eqb-true y x e
    go (inr e) = absurd (both_ways false refl e)

append_none : (xs : List ℕ) → xs ≡ xs ++ []
append_none [] = refl
append_none (x ∷ xs) = ap (λ (z : List ℕ). x ∷ z) (append_none xs)

single_push : (xs : List ℕ) (x : ℕ) → is_listed xs x ≡ false → are_provs_single xs ≡ true → are_provs_single (xs ++ x ∷ []) ≡ true
single_push [] x n s = refl
single_push (y ∷ xs) x n s = go (cases_Bool (y == x)) (cases_Bool (is_listed xs x)) (λ m. single_push xs x m a.1)
  where
    a : (not (is_listed xs y) ≡ true) × (are_provs_single xs ≡ true)
    a = and_parts _ _ s

    go : ((y == x) ≡ true) ⊎ ((y == x) ≡ false) → (is_listed xs x ≡ true) ⊎ (is_listed xs x ≡ false) → (is_listed xs x ≡ false → are_provs_single (xs ++ x ∷ []) ≡ true) → are_provs_single ((y ∷ xs) ++ x ∷ []) ≡ true
    go (inl e) _ _ = absurd (both_ways _ n (or_left _ _ e))
    go (inr e) (inl m) _ = absurd (both_ways _ n (or_right (y == x) _ m))
    go (inr e) (inr m) r = and_from _ _ (ap not away) (r m)
      where
        other : (x == y) ≡ false
        other = which (cases_Bool (x == y))
          where
            which : ((x == y) ≡ true) ⊎ ((x == y) ≡ false) → (x == y) ≡ false
            which (inr f) = f
            which (inl f) = absurd (both_ways _ e (flip_eq x y f))

        away : is_listed (xs ++ x ∷ []) y ≡ false
        away = listed_append xs (x ∷ []) y ∙ rw (not-true _ a.0, other) refl

module _ (next : ℕ → ℕ → Bool) where
  pub spread_none : (p : ℕ) (old : List ℕ) → IsSpread next [] p old old
  spread_none p old = record { more = []; behind = append_none old; all = λ x h n. absurd (both_ways false refl h); only = λ x h. absurd (both_ways false refl h); single = λ s. s }

  pub one_spread : (p x : ℕ) (old : List ℕ) → next p x ≡ true → is_listed old x ≡ false → IsSpread next (x ∷ []) p old (old ++ x ∷ [])
  one_spread p x old n h = record {
    more = x ∷ [];
    behind = refl;
    all = λ y m f. listed_right old (x ∷ []) y m;
    only = λ y m. (m, subst (λ (z : ℕ). next p z ≡ true) (listed_one x y m) n);
    single = single_push old x h;
  }

  pub one_unspread : (p x : ℕ) (old : List ℕ) → (next p x ≡ true → is_listed old x ≡ true) → IsSpread next (x ∷ []) p old old
  one_unspread p x old f = record {
    more = [];
    behind = append_none old;
    all = λ y m n. let e = listed_one x y m in subst (λ (z : ℕ). is_listed old z ≡ true) e (f (subst (λ (z : ℕ). next p z ≡ true) (sym e) n));
    only = λ y m. absurd (both_ways false refl m);
    single = λ s. s;
  }

  pub spread_on : (p : ℕ) (fs gs x y z : List ℕ) → IsSpread next fs p x y → IsSpread next gs p y z → IsSpread next (fs ++ gs) p x z
  spread_on p fs gs x y z a b = record {
    more = a.more ++ b.more;
    behind = b.behind ∙ ap (λ (v : List ℕ). v ++ b.more) a.behind ∙ append_assoc x a.more b.more;
    all = λ w m n. all w n (listed_cases fs gs w m);
    only = λ w m. only w (listed_cases a.more b.more w m);
    single = λ s. b.single (a.single s);
  }
    where
      all : (w : ℕ) → next p w ≡ true → (is_listed fs w ≡ true) ⊎ (is_listed gs w ≡ true) → is_listed z w ≡ true
      all w n (inl h) = rw b.behind (listed_left y b.more w (a.all w h n))
      all w n (inr h) = b.all w h n

      only : (w : ℕ) → (is_listed a.more w ≡ true) ⊎ (is_listed b.more w ≡ true) → (is_listed (fs ++ gs) w ≡ true) × (next p w ≡ true)
      only w (inl h) = let r = a.only w h in (listed_left fs gs w r.0, r.1)
      only w (inr h) = let r = b.only w h in (listed_right fs gs w r.0, r.1)

  pub spread_step : (p : ℕ) (fs : List ℕ) (i f : ℕ) (x y z : List ℕ) → i < length fs → f ≡ get_or fs i f → IsSpread next (take i fs) p x y → IsSpread next (f ∷ []) p y z → IsSpread next (take (i + 1) fs) p x z
  spread_step p fs i f x y z h e a b =
      let cut : take (i + 1) fs ≡ take i fs ++ f ∷ [] = take_more fs i f h ∙ ap (λ (v : ℕ). take i fs ++ v ∷ []) (sym e) in
      rw cut (spread_on p (take i fs) (f ∷ []) x y z a b)

  joined_push : (test : ℕ → Bool) (q x : ℕ) (xs : List ℕ) (p : ℕ) → AreJoined test next x p xs → test x ≡ true → next x q ≡ true → AreJoined test next q p (xs ++ x ∷ [])
  joined_push test q x [] p j t n = (t, j, n)
  joined_push test q x (y ∷ xs) p j t n = (j.0, j.1, joined_push test q x xs y j.2 t n)

  length_more : (xs : List ℕ) (x : ℕ) → 1 ≤ length (xs ++ x ∷ [])
  length_more [] x = omega arith
  length_more (y ∷ xs) x = omega arith

  module _ (fleets : List ℕ) (q p : ℕ) where
    pub seek_first : (reached : List ℕ) → IsSpread next fleets p [] reached → IsSeeking next fleets q p reached 0
    seek_first reached s = record {
      single = s.single refl;
      inside = λ x h. (s.only x (rw s.behind at h)).0;
      joined = λ x h. ([], (s.only x (rw s.behind at h)).1);
      start = λ x f n. s.all x f n;
      closed = λ y x h f n. absurd (both_ways false refl h);
      short = λ y h. absurd (both_ways false refl h);
      within = omega arith;
    }

    pub seek_found : (reached : List ℕ) (visited x : ℕ) → IsSeeking next fleets q p reached visited → is_listed reached x ≡ true → next x q ≡ true → (xs : List ℕ) × IsChain (is_listed fleets) next q p xs
    seek_found reached visited x s h n = let j = s.joined x h in (j.0 ++ x ∷ [], (length_more j.0 x, joined_push (is_listed fleets) q x j.0 p j.1 (s.inside x h) n))

    pub seek_on : (reached new : List ℕ) (visited x : ℕ) → IsSeeking next fleets q p reached visited → visited < length reached → x ≡ get_or reached visited x → is_listed reached x ≡ true → next x q ≡ false → IsSpread next fleets x reached new → IsSeeking next fleets q p new (visited + 1)
    seek_on reached new visited x s l e h n w = record {
      single = w.single s.single;
      inside = λ y m. inside y (listed_cases reached w.more y (rw w.behind at m));
      joined = λ y m. joined y (listed_cases reached w.more y (rw w.behind at m));
      start = λ y f m. rw w.behind (listed_left reached w.more y (s.start y f m));
      closed = λ y z m f g. closed y z (listed_cases (take visited reached) (x ∷ []) y (rw cut at m)) f g;
      short = λ y m. short y (listed_cases (take visited reached) (x ∷ []) y (rw cut at m));
      within = long;
    }
      where
        cut : take (visited + 1) new ≡ take visited reached ++ x ∷ []
        cut = ap (take (visited + 1)) w.behind ∙ take-append-le (visited + 1) reached w.more (omega arith) ∙ take_more reached visited x l ∙ ap (λ (v : ℕ). take visited reached ++ v ∷ []) (sym e)

        long : visited + 1 ≤ length new
        long = rw (w.behind, length-append) (omega arith)

        inside : (y : ℕ) → (is_listed reached y ≡ true) ⊎ (is_listed w.more y ≡ true) → is_listed fleets y ≡ true
        inside y (inl m) = s.inside y m
        inside y (inr m) = (w.only y m).0

        joined : (y : ℕ) → (is_listed reached y ≡ true) ⊎ (is_listed w.more y ≡ true) → (xs : List ℕ) × AreJoined (is_listed fleets) next y p xs
        joined y (inl m) = s.joined y m
        joined y (inr m) = let j = s.joined x h in (j.0 ++ x ∷ [], joined_push (is_listed fleets) y x j.0 p j.1 (s.inside x h) (w.only y m).1)

        closed : (y z : ℕ) → (is_listed (take visited reached) y ≡ true) ⊎ (is_listed (x ∷ []) y ≡ true) → is_listed fleets z ≡ true → next y z ≡ true → is_listed new z ≡ true
        closed y z (inl m) f g = rw w.behind (listed_left reached w.more z (s.closed y z m f g))
        closed y z (inr m) f g = w.all z f (subst (λ (v : ℕ). next v z ≡ true) (sym (listed_one x y m)) g)

        short : (y : ℕ) → (is_listed (take visited reached) y ≡ true) ⊎ (is_listed (x ∷ []) y ≡ true) → next y q ≡ false
        short y (inl m) = s.short y m
        short y (inr m) = subst (λ (v : ℕ). next v q ≡ false) (listed_one x y m) n

    pub seek_none : (reached : List ℕ) (visited : ℕ) → IsSeeking next fleets q p reached visited → length reached ≤ visited → (xs : List ℕ) → IsChain (is_listed fleets) next q p xs → ⊥
    seek_none reached visited s l [] c = let m = c.0 in absurd (omega arith)
    seek_none reached visited s l (x ∷ xs) c = go xs x (s.start x c.1.0 c.1.1) c.1.2
      where
        all : take visited reached ≡ reached
        all = take_all visited reached l

        go : (xs : List ℕ) (x : ℕ) → is_listed reached x ≡ true → AreJoined (is_listed fleets) next q x xs → ⊥
        go [] x h j = both_ways _ (s.short x (rw all h)) j
        go (y ∷ ys) x h j = go ys y (s.closed x y (rw all h) j.0 j.1) j.2

    pub seek_short : (reached : List ℕ) (visited : ℕ) → IsSeeking next fleets q p reached visited → length reached ≤ length fleets
    seek_short reached visited s =
        let l = no_more (moves_of reached) (moves_of fleets) (single_moves reached s.single) inside in
        let e = length_moves reached in
        let f = length_moves fleets in
        omega arith
      where
        length_moves : (xs : List ℕ) → length (moves_of xs) ≡ length xs
        length_moves [] = refl
        length_moves (x ∷ xs) = ap suc (length_moves xs)

        inside : (c : Decision) → is_among c (moves_of reached) ≡ true → is_among c (moves_of fleets) ≡ true
        inside (Move x) h = among_moves fleets x ∙ s.inside x (sym (among_moves reached x) ∙ h)
        inside (Path x) h = absurd (both_ways _ (none reached) h)
          where
            none : (xs : List ℕ) → is_among (Path x) (moves_of xs) ≡ false
            none [] = refl
            none (y ∷ ys) = none ys
        inside (Support x) h = absurd (both_ways _ (none reached) h)
          where
            none : (xs : List ℕ) → is_among (Support x) (moves_of xs) ≡ false
            none [] = refl
            none (y ∷ ys) = none ys

-- what the search answers is what the equation of a path asks for
pub sought_joins : (test : ℕ → Bool) (next : ℕ → ℕ → Bool) (places : List ℕ) (q p : ℕ) (b : Bool) → ((x : ℕ) → test x ≡ true → is_listed places x ≡ true) → IsSought (is_listed (filter test places)) next q p b → b ≡ joins test next places q (suc (length places)) p
sought_joins test next places q p true l h = sym (chain_found test next places q l p h.0 (h.1.0, passed h.0 p h.1.1))
  where
    passed : (xs : List ℕ) (p : ℕ) → AreJoined (is_listed (filter test places)) next q p xs → AreJoined test next q p xs
    passed [] p j = j
    passed (x ∷ xs) p j = ((and_parts (test x) (is_listed places x) (sym (listed_kept test places x) ∙ j.0)).0, j.1, passed xs x j.2)
sought_joins test next places q p false l h = go (cases_Bool (joins test next places q (suc (length places)) p))
  where
    kept : (xs : List ℕ) (p : ℕ) → AreJoined test next q p xs → AreJoined (is_listed (filter test places)) next q p xs
    kept [] p j = j
    kept (x ∷ xs) p j = (listed_kept test places x ∙ and_from _ _ j.0 (l x j.0), j.1, kept xs x j.2)

    go : (joins test next places q (suc (length places)) p ≡ true) ⊎ (joins test next places q (suc (length places)) p ≡ false) → false ≡ joins test next places q (suc (length places)) p
    go (inr e) = sym e
    go (inl e) = let c = found_chain test next places q (suc (length places)) p e in absurd (h c.0 (c.1.0, kept c.0 p c.1.1))

-- whoever serves stands somewhere
pub serving_listed : (s : Situation) → IsSituation s → (a : Assignment) (p x : ℕ) → serves s a p x ≡ true → is_listed s.places x ≡ true
serving_listed s i a p x h = i.carrier_listed x p (and_parts _ _ h).0
