use Rattle.std.proofs.Common.{◌≡◌, ℕ, ◌≤◌, ◌+◌, List, [], ◌∷◌, length, refl, sym, ap, ◌∙◌, subst, arith, inl, inr, zero, suc}
use Rattle.std.specs.Prelude.{◌==◌, Bool, true, false, not, ◌&&◌, ◌||◌, Option, None, Some, if◌then◌else◌}
use Rattle.std.specs.List.{list_any}
use Rattle.std.specs.Option.{is_some}
use Rattle.std.proofs.lemmas.Bool.{eqb-true, eq-eqb, or_cases, or_parts, or_left, or_right, or_from, cases_Bool, both_ways, and_parts, and_from}
use mathlib.Core.Logic.{◌⊎◌}
use Rattle.dip_decide_rules.specs.declared.decisions.Decision.{Decision}
use Rattle.dip_decide_rules.specs.declared.decisions.Decision.TheVariants.{Move, Path, Support}
use Rattle.dip_decide_rules.specs.Deciding.{same, is_among, AreDistinct, Assignment, Known, Equation, IsCompletion, IsForced, Follows, AreLinked, GoesRound, is_move, IsCircle, Leads, Reaches, IsOpenPath, Mentions}
use Rattle.dip_decide_rules.specs.Movement.{Situation, IsSituation, is_at, goes, has_move, head_to_head, rule, is_listed, is_decided, mentions}
use Rattle.dip_decide_rules.specs.Steps.{decisions, is_unknown}
pub use Rattle.dip_decide_table.proofs.Plain.{at_is, is_at_is}
use Rattle.dip_decide_table.proofs.Plain.{flip_eq}
use Rattle.dip_decide_rules.proofs.OneAnswer.{same_is, same_self, Apart, fill, fill_completes, fill_there}
use Rattle.dip_decide_rules.proofs.CornerLaws.{agree}
use Rattle.dip_decide_rules.specs.Corners.{rises}
use Rattle.dip_decide_rules.proofs.Rises.{rule_rises}

-- options

pub some_is : (o : Option ℕ) → is_some o ≡ true → (q : ℕ) × (o ≡ Some q)
some_is None h = absurd (both_ways false refl h)
some_is (Some q) h = (q, refl)

pub known_or_open : (o : Option Bool) → (o ≡ None) ⊎ ((v : Bool) × (o ≡ Some v))
known_or_open None = inl refl
known_or_open (Some v) = inr (v, refl)

pub unknown_is : (o : Option Bool) → is_unknown o ≡ true → o ≡ None
unknown_is None h = refl
unknown_is (Some v) h = absurd (both_ways false refl h)

-- all decisions of these places

pub move_among : (ps : List ℕ) (p : ℕ) → is_listed ps p ≡ true → is_among (Move p) (decisions ps) ≡ true
move_among [] p h = h
move_among (x ∷ ps) p h = go (or_cases _ _ h) (move_among ps p)
  where
    go : ((x == p) ≡ true) ⊎ (is_listed ps p ≡ true) → (is_listed ps p ≡ true → is_among (Move p) (decisions ps) ≡ true) → is_among (Move p) (decisions (x ∷ ps)) ≡ true
    go (inl e) _ = or_left _ _ (flip_eq x p e)
    go (inr m) f = or_right (p == x) _ (f m)

pub path_among : (ps : List ℕ) (p : ℕ) → is_listed ps p ≡ true → is_among (Path p) (decisions ps) ≡ true
path_among [] p h = h
path_among (x ∷ ps) p h = go (or_cases _ _ h) (path_among ps p)
  where
    go : ((x == p) ≡ true) ⊎ (is_listed ps p ≡ true) → (is_listed ps p ≡ true → is_among (Path p) (decisions ps) ≡ true) → is_among (Path p) (decisions (x ∷ ps)) ≡ true
    go (inl e) _ = or_left _ _ (flip_eq x p e)
    go (inr m) f = or_right (p == x) _ (f m)

pub support_among : (ps : List ℕ) (p : ℕ) → is_listed ps p ≡ true → is_among (Support p) (decisions ps) ≡ true
support_among [] p h = h
support_among (x ∷ ps) p h = go (or_cases _ _ h) (support_among ps p)
  where
    go : ((x == p) ≡ true) ⊎ (is_listed ps p ≡ true) → (is_listed ps p ≡ true → is_among (Support p) (decisions ps) ≡ true) → is_among (Support p) (decisions (x ∷ ps)) ≡ true
    go (inl e) _ = or_left _ _ (flip_eq x p e)
    go (inr m) f = or_right (p == x) _ (f m)

-- one of a list passes, or none does
pub record Found {X : Type 0} (t : X → Bool) : Type 0 where
  pub one : X
  pub passes : t one ≡ true

pub find : {X : Type 0} (t : X → Bool) (xs : List X) → list_any t xs ≡ true → Found t
find t [] h = absurd (both_ways false refl h)
find t (x ∷ xs) h = go (or_cases _ _ h) (find t xs)
  where
    go : (t x ≡ true) ⊎ (list_any t xs ≡ true) → (list_any t xs ≡ true → Found t) → Found t
    go (inl e) _ = record { one = x; passes = e }
    go (inr e) f = f e

pub none_among : (t : Decision → Bool) (ds : List Decision) → list_any t ds ≡ false → (d : Decision) → is_among d ds ≡ true → t d ≡ false
none_among t [] n d h = absurd (both_ways false refl h)
none_among t (x ∷ ds) n d h = let e = or_parts _ _ n in go (or_cases _ _ h) e.0 (none_among t ds e.1 d)
  where
    go : (same d x ≡ true) ⊎ (is_among d ds ≡ true) → t x ≡ false → (is_among d ds ≡ true → t d ≡ false) → t d ≡ false
    go (inl e) f _ = subst (λ (y : Decision). t y ≡ false) (sym (same_is d x e)) f
    go (inr m) _ g = g m

-- distinct members of a list are no more than it has

pub without : Decision → List Decision → List Decision
without d [] = []
without d (x ∷ xs) = if same d x then xs else x ∷ without d xs

pub length-without : (d : Decision) (xs : List Decision) → is_among d xs ≡ true → length xs ≡ suc (length (without d xs))
unfolding without
length-without d [] h = absurd (both_ways false refl h)
length-without d (x ∷ xs) h = go (cases_Bool (same d x)) (length-without d xs)
  where
    go : (same d x ≡ true) ⊎ (same d x ≡ false) → (is_among d xs ≡ true → length xs ≡ suc (length (without d xs))) → length (x ∷ xs) ≡ suc (length (if same d x then xs else x ∷ without d xs))
    go (inl e) _ = rw e refl
    go (inr e) f = rw e (ap suc (f (rw e at h)))

pub among_without : (d : Decision) (xs : List Decision) (e : Decision) → same e d ≡ false → is_among e xs ≡ true → is_among e (without d xs) ≡ true
unfolding without
among_without d [] e n h = h
among_without d (x ∷ xs) e n h = go (cases_Bool (same d x)) (or_cases _ _ h) (among_without d xs e n)
  where
    go : (same d x ≡ true) ⊎ (same d x ≡ false) → (same e x ≡ true) ⊎ (is_among e xs ≡ true) → (is_among e xs ≡ true → is_among e (without d xs) ≡ true) → is_among e (if same d x then xs else x ∷ without d xs) ≡ true
    go (inl s) (inl t) _ = absurd (both_ways _ n (subst (λ (y : Decision). same e y ≡ true) (sym (same_is d x s)) t))
    go (inl s) (inr m) _ = rw s m
    go (inr s) (inl t) _ = rw s (or_left _ _ t)
    go (inr s) (inr m) f = rw s (or_right (same e x) _ (f m))

pub no_more : (ds es : List Decision) → AreDistinct ds → ((d : Decision) → is_among d ds ≡ true → is_among d es ≡ true) → length ds ≤ length es
no_more [] es h f = omega arith
no_more (d ∷ ds) es h f = let l = no_more ds (without d es) h.1 inside in let e = length-without d es (f d (or_left _ _ (same_self d))) in omega arith
  where
    inside : (e : Decision) → is_among e ds ≡ true → is_among e (without d es) ≡ true
    inside e m = among_without d es e (other (cases_Bool (same e d))) (f e (or_right (same e d) _ m))
      where
        other : (same e d ≡ true) ⊎ (same e d ≡ false) → same e d ≡ false
        other (inr n) = n
        other (inl t) = absurd (both_ways _ h.0 (subst (λ (y : Decision). is_among y ds ≡ true) (same_is e d t) m))

-- closing a circle

-- each of these follows the one before it, the first one d
abbrev pub AreBehind : Equation → Known → Decision → List Decision → Type 0
AreBehind r k d [] = Unit {0}
AreBehind r k d (c ∷ cs) = Follows r k c d × AreBehind r k c cs

pub record Ring (r : Equation) (k : Known) (P : Decision → Type 0) : Type 0 where
  pub ds : List Decision
  pub two : 2 ≤ length ds
  pub distinct : AreDistinct ds
  pub all : (d : Decision) → is_among d ds ≡ true → P d
  pub round : GoesRound r k ds

pub close : (r : Equation) (k : Known) (P : Decision → Type 0) (e : Decision) (cs : List Decision) (d : Decision) (rest : List Decision) →
    AreLinked r k e (d ∷ rest) → AreBehind r k d cs → is_among e (d ∷ cs) ≡ true → AreDistinct (d ∷ rest) → AreDistinct cs → Apart cs (d ∷ rest) →
    ((x : Decision) → is_among x (d ∷ rest) ≡ true → P x) → ((x : Decision) → is_among x cs ≡ true → P x) → (same e d ≡ true → 1 ≤ length rest) → Ring r k P
close r k P e [] d rest l b m u v w p q o = go (or_cases _ _ m)
  where
    go : (same e d ≡ true) ⊎ (false ≡ true) → Ring r k P
    go (inl s) = let n = o s in record { ds = d ∷ rest; two = omega arith; distinct = u; all = p; round = subst (λ (y : Decision). AreLinked r k y (d ∷ rest)) (same_is e d s) l }
    go (inr n) = absurd (both_ways false refl n)
close r k P e (c ∷ cs) d rest l b m u v w p q o = go (or_cases _ _ m)
    (λ n. close r k P e cs c (d ∷ rest) (b.0, l) b.1 n (w c (or_left _ _ (same_self c)), u) v.1 apart here (λ x h. q x (or_right (same x c) _ h)) (λ _. omega arith))
  where
    apart : Apart cs (c ∷ d ∷ rest)
    apart x h = or_from (same x c) _ (other (cases_Bool (same x c))) (w x (or_right (same x c) _ h))
      where
        other : (same x c ≡ true) ⊎ (same x c ≡ false) → same x c ≡ false
        other (inr n) = n
        other (inl t) = absurd (both_ways _ v.0 (subst (λ (y : Decision). is_among y cs ≡ true) (same_is x c t) h))

    here : (x : Decision) → is_among x (c ∷ d ∷ rest) ≡ true → P x
    here x h = which (or_cases _ _ h)
      where
        which : (same x c ≡ true) ⊎ (is_among x (d ∷ rest) ≡ true) → P x
        which (inl t) = q x (or_left _ _ t)
        which (inr n) = p x n

    go : (same e d ≡ true) ⊎ (is_among e (c ∷ cs) ≡ true) → (is_among e (c ∷ cs) ≡ true → Ring r k P) → Ring r k P
    go (inl s) _ = let n = o s in record { ds = d ∷ rest; two = omega arith; distinct = u; all = p; round = subst (λ (y : Decision). AreLinked r k y (d ∷ rest)) (same_is e d s) l }
    go (inr n) f = f n

-- one way of mentions after another
pub leads_on : (m : Mentions) (k : Known) (u v x : Decision) (between : List Decision) → Leads m k u between v → k v ≡ None → Reaches m k v x → Reaches m k u x
leads_on m k u v x [] l o r = (v ∷ r.0, (l, o, r.1))
leads_on m k u v x (c ∷ cs) l o r = let t = leads_on m k c v x cs l.2 o r in (c ∷ t.0, (l.0, l.1, t.1))

-- where nothing is forced and there is no circle, every open decision reaches an open path

-- an open path that d reaches
pub record Arrives (s : Situation) (k : Known) (d : Decision) : Type 0 where
  pub path : Decision
  pub is_open : IsOpenPath k path
  pub reaches : Reaches (mentions s) k d path

pub direct : (s : Situation) (k : Known) (d e : Decision) → mentions s d e ≡ true → IsOpenPath k e → Arrives s k d
direct s k d e m o = record { path = e; is_open = o; reaches = ([], m) }

pub further : (s : Situation) (k : Known) (d e : Decision) → mentions s d e ≡ true → k e ≡ None → Arrives s k e → Arrives s k d
further s k d e m o a = record { path = a.path; is_open = a.is_open; reaches = (e ∷ a.reaches.0, (m, o, a.reaches.1)) }

pub record Mention (s : Situation) (k : Known) (d : Decision) : Type 0 where
  pub one : Decision
  pub named : mentions s d one ≡ true
  pub is_open : k one ≡ None

abbrev pub opens : Situation → Known → Decision → Decision → Bool
opens s k d e = mentions s d e && is_unknown (k e)

-- an open decision is one of those of the places
pub listed_decision : (s : Situation) → IsSituation s → (k : Known) → ((d : Decision) → is_decided s d ≡ false → k d ≡ Some false) → (d : Decision) → k d ≡ None → is_among d (decisions s.places) ≡ true
listed_decision s i k start d o = listed d decided
  where
    decided : is_decided s d ≡ true
    decided = go (cases_Bool (is_decided s d))
      where
        go : (is_decided s d ≡ true) ⊎ (is_decided s d ≡ false) → is_decided s d ≡ true
        go (inl e) = e
        go (inr e) = let n = start d e in absurd (cc)

    mover : (p : ℕ) → has_move s p ≡ true → is_listed s.places p ≡ true
    mover p h = let t = some_is (s.target p) h in i.listed p t.0 (at_is (s.target p) t.0 t.1)

    listed : (d : Decision) → is_decided s d ≡ true → is_among d (decisions s.places) ≡ true
    listed (Move p) e = move_among s.places p (mover p e)
    listed (Path p) e = path_among s.places p (mover p (i.sailor_moves p e))
    listed (Support h) e = let f = find (λ p. s.supports h p) s.places e in support_among s.places h (i.helper_listed h f.one f.passes)

module _ (s : Situation) (i : IsSituation s) (k : Known) (start : (d : Decision) → is_decided s d ≡ false → k d ≡ Some false) (none_forced : (d : Decision) (b : Bool) → IsForced (rule s) k d b → ⊥) where
  pub open_decided : (d : Decision) → k d ≡ None → is_decided s d ≡ true
  open_decided d o = go (cases_Bool (is_decided s d))
    where
      go : (is_decided s d ≡ true) ⊎ (is_decided s d ≡ false) → is_decided s d ≡ true
      go (inl e) = e
      go (inr e) = let n = start d e in absurd (cc)

  pub open_listed : (d : Decision) → k d ≡ None → is_among d (decisions s.places) ≡ true
  open_listed d o = listed_decision s i k start d o

  -- an open decision mentions one
  some_mention : (d : Decision) → k d ≡ None → Mention s k d
  some_mention d o = go (cases_Bool (list_any (opens s k d) (decisions s.places)))
    where
      go : (list_any (opens s k d) (decisions s.places) ≡ true) ⊎ (list_any (opens s k d) (decisions s.places) ≡ false) → Mention s k d
      go (inl h) = let f = find (opens s k d) (decisions s.places) h in let e = and_parts (mentions s d f.one) _ f.passes in record { one = f.one; named = e.0; is_open = unknown_is _ e.1 }
      go (inr h) = absurd (none_forced d (rule s d (fill k d true)) (record { is_open = o; value = λ a c. agree (rule s) d (mentions s d) (rises s d) (rule_rises s i d) a (fill k d true) (alike_at a c) }))
        where
          alike_at : (a : Assignment) → IsCompletion k a → (e : Decision) → mentions s d e ≡ true → a e ≡ fill k d true e
          alike_at a c e m = which (known_or_open (k e))
            where
              which : (k e ≡ None) ⊎ ((v : Bool) × (k e ≡ Some v)) → a e ≡ fill k d true e
              which (inr w) = c e w.0 w.1 ∙ sym (fill_completes k d true o e w.0 w.1)
              which (inl n) = absurd (both_ways _ (none_among (opens s k d) (decisions s.places) h e (open_listed e n)) (and_from _ _ m (rw n refl)))

  stays : (h p : ℕ) → s.supports h p ≡ true → k (Move h) ≡ None → ⊥
  stays h p e o = both_ways _ (rw (i.helper_stays h p e) refl) (open_decided (Move h) o)

  helper : (h : ℕ) → k (Support h) ≡ None → Found (λ p. s.supports h p)
  helper h o = find (λ p. s.supports h p) s.places (open_decided (Support h) o)

  -- a support that is mentioned by a move into a supporter's province mentions no open move
  last_support : (h : ℕ) → k (Support h) ≡ None → (x y z : ℕ) → s.target x ≡ Some h → mentions s (Move x) (Support y) ≡ true → mentions s (Support y) (Move z) ≡ true → k (Move z) ≡ None → ⊥
  last_support h o x y z t m n u = go (or_cases _ _ (rw t at m))
    where
      f : Found (λ p. s.supports h p)
      f = helper h o

      goes_there : is_at (s.aim y) z ≡ true
      goes_there = (and_parts (goes s z y && not (s.same_power z y)) _ n).1

      go : (list_any (λ w. s.supports y w && goes s w h) s.places ≡ true) ⊎ ((s.supports y h && (not (has_move s h) || head_to_head s x h)) ≡ true) → ⊥
      go (inl a) =
          let w = find (λ w. s.supports y w && goes s w h) s.places a in
          let e = and_parts (s.supports y w.one) _ w.passes in
          let p = i.aims y w.one e.0 in
          let q = is_at_is (s.target w.one) h e.1 in
          let r = is_at_is (s.aim y) z goes_there in
          let same_place : z ≡ h = cc in
          stays h f.one f.passes (subst (λ (v : ℕ). k (Move v) ≡ None) same_place u)
      go (inr a) =
          let p = i.aims y h (and_parts (s.supports y h) _ a).0 in
          let q = i.helper_stays h f.one f.passes in
          let r = is_at_is (s.aim y) z goes_there in
          absurd (cc)

  support_arrives : (h : ℕ) → k (Support h) ≡ None → Arrives s k (Support h)
  support_arrives h o = first (some_mention (Support h) o)
    where
      third : (x y : ℕ) → s.target x ≡ Some h → mentions s (Move x) (Support y) ≡ true → (e : Decision) → mentions s (Support y) e ≡ true → k e ≡ None → Arrives s k (Support y)
      third x y t m (Path z) n u = direct s k (Support y) (Path z) n (refl, u)
      third x y t m (Support z) n u = absurd (both_ways false refl n)
      third x y t m (Move z) n u = absurd (last_support h o x y z t m n u)

      second : (x : ℕ) → s.target x ≡ Some h → (e : Decision) → mentions s (Move x) e ≡ true → k e ≡ None → Arrives s k (Move x)
      second x t (Path z) n u = direct s k (Move x) (Path z) n (refl, u)
      second x t (Move z) n u = let f = helper h o in let m : (z == h) ≡ true = rw t at n in absurd (stays h f.one f.passes (subst (λ (v : ℕ). k (Move v) ≡ None) (eqb-true z h m) u))
      second x t (Support y) n u = let m = some_mention (Support y) u in further s k (Move x) (Support y) n u (third x y t n m.one m.named m.is_open)

      from : (e : Decision) → mentions s (Support h) e ≡ true → k e ≡ None → Arrives s k (Support h)
      from (Path z) n u = direct s k (Support h) (Path z) n (refl, u)
      from (Support z) n u = absurd (both_ways false refl n)
      from (Move x) n u =
          let m = some_mention (Move x) u in
          let t = is_at_is (s.target x) h (and_parts (goes s x h) _ (and_parts (goes s x h && not (s.same_power x h)) _ n).0).0 in
          further s k (Support h) (Move x) n u (second x t m.one m.named m.is_open)

      first : Mention s k (Support h) → Arrives s k (Support h)
      first m = from m.one m.named m.is_open

  -- what a move equals
  pub record Linked (p : ℕ) : Type 0 where
    pub next : ℕ
    pub target : s.target p ≡ Some next
    pub is_open : k (Move next) ≡ None
    pub follows : Follows (rule s) k (Move p) (Move next)

  -- its rule gives the value of the one open decision that it mentions
  pub follows_one : (d e : Decision) → k d ≡ None → k e ≡ None → rises s d e ≡ true → ((c : Decision) → mentions s d c ≡ true → k c ≡ None → c ≡ e) → Follows (rule s) k d e
  follows_one d e o u up one = record { value = λ a c. at_once a c ∙ value (a e) }
    where
      at : Bool → Bool
      at b = rule s d (fill k e b)

      at_once : (a : Assignment) → IsCompletion k a → rule s d a ≡ rule s d (fill k e (a e))
      at_once a c = agree (rule s) d (mentions s d) (rises s d) (rule_rises s i d) a (fill k e (a e)) (λ x m. which x m (known_or_open (k x)))
        where
          which : (x : Decision) → mentions s d x ≡ true → (k x ≡ None) ⊎ ((v : Bool) × (k x ≡ Some v)) → a x ≡ fill k e (a e) x
          which x m (inr w) = c x w.0 w.1 ∙ sym (fill_completes k e (a e) u x w.0 w.1)
          which x m (inl n) = let q : x ≡ e = one x m n in ap a q ∙ sym (ap (fill k e (a e)) q ∙ fill_there k e (a e))

      same_both : rule s d (fill k e true) ≡ rule s d (fill k e false) → ⊥
      same_both h = none_forced d (rule s d (fill k e true)) (record { is_open = o; value = λ a c. at_once a c ∙ either (a e) })
        where
          either : (b : Bool) → rule s d (fill k e b) ≡ rule s d (fill k e true)
          either true = refl
          either false = sym h

      rising : rule s d (fill k e false) ≡ true → rule s d (fill k e true) ≡ true
      rising = rule_rises s i d (fill k e false) (fill k e true) (record { up = λ x m _ h. grow x h; down = λ x m n h. shrink x n h })
        where
          grow : (x : Decision) → fill k e false x ≡ true → fill k e true x ≡ true
          grow x h = go (cases_Bool (same x e))
            where
              go : (same x e ≡ true) ⊎ (same x e ≡ false) → fill k e true x ≡ true
              go (inl t) = rw t refl
              go (inr t) = rw t (rw t at h)

          shrink : (x : Decision) → rises s d x ≡ false → fill k e true x ≡ true → fill k e false x ≡ true
          shrink x n h = go (cases_Bool (same x e))
            where
              go : (same x e ≡ true) ⊎ (same x e ≡ false) → fill k e false x ≡ true
              go (inl t) = absurd (both_ways _ (subst (λ (y : Decision). rises s d y ≡ false) (same_is x e t) n) up)
              go (inr t) = rw t (rw t at h)

      value : (b : Bool) → rule s d (fill k e b) ≡ b
      value b = go b (cases_Bool (rule s d (fill k e true))) (cases_Bool (rule s d (fill k e false)))
        where
          go : (b : Bool) → (rule s d (fill k e true) ≡ true) ⊎ (rule s d (fill k e true) ≡ false) → (rule s d (fill k e false) ≡ true) ⊎ (rule s d (fill k e false) ≡ false) → rule s d (fill k e b) ≡ b
          go b (inl t) (inl f) = absurd (same_both (t ∙ sym f))
          go b (inr t) (inr f) = absurd (same_both (t ∙ sym f))
          go b (inr t) (inl f) = absurd (both_ways _ t (rising f))
          go true (inl t) (inr f) = t
          go false (inl t) (inr f) = f

  -- an open move reaches an open path, or equals the open move at its destination
  pub step : (p : ℕ) → k (Move p) ≡ None → Arrives s k (Move p) ⊎ Linked p
  step p o = go (cases_Bool (list_any beyond (decisions s.places)))
    where
      beyond : Decision → Bool
      beyond e = opens s k (Move p) e && not (is_move e)

      by_kind : (e : Decision) → mentions s (Move p) e ≡ true → k e ≡ None → not (is_move e) ≡ true → Arrives s k (Move p)
      by_kind (Path x) m n h = direct s k (Move p) (Path x) m (refl, n)
      by_kind (Support x) m n h = further s k (Move p) (Support x) m n (support_arrives x n)
      by_kind (Move x) m n h = absurd (both_ways false refl h)

      go : (list_any beyond (decisions s.places) ≡ true) ⊎ (list_any beyond (decisions s.places) ≡ false) → Arrives s k (Move p) ⊎ Linked p
      go (inl h) =
          let f = find beyond (decisions s.places) h in
          let e = and_parts (opens s k (Move p) f.one) _ f.passes in
          let m = and_parts (mentions s (Move p) f.one) _ e.0 in
          inl (by_kind f.one m.0 (unknown_is _ m.1) e.1)
      go (inr h) = inr (record { next = q.0; target = q.1; is_open = subst (λ (x : Decision). k x ≡ None) (only m.one m.named m.is_open) m.is_open; follows = follows_one (Move p) (Move q.0) o (subst (λ (x : Decision). k x ≡ None) (only m.one m.named m.is_open) m.is_open) (at_is (s.target p) q.0 q.1) only })
        where
          q : (q : ℕ) × (s.target p ≡ Some q)
          q = some_is (s.target p) (open_decided (Move p) o)

          m : Mention s k (Move p)
          m = some_mention (Move p) o

          moves_only : (e : Decision) → mentions s (Move p) e ≡ true → k e ≡ None → is_move e ≡ true → e ≡ Move q.0
          moves_only (Move r) m n _ = let t : (r == q.0) ≡ true = rw q.1 at m in ap Move (eqb-true r q.0 t)
          moves_only (Path r) m n h = absurd (both_ways false refl h)
          moves_only (Support r) m n h = absurd (both_ways false refl h)

          only : (e : Decision) → mentions s (Move p) e ≡ true → k e ≡ None → e ≡ Move q.0
          only e m n = moves_only e m n (yes_move (cases_Bool (is_move e)))
            where
              yes_move : (is_move e ≡ true) ⊎ (is_move e ≡ false) → is_move e ≡ true
              yes_move (inl t) = t
              yes_move (inr t) = absurd (both_ways _ (none_among beyond (decisions s.places) h e (open_listed e n)) (and_from _ _ (and_from _ _ m (rw n refl)) (rw t refl)))

  -- the way from one open path to the next: the move of p goes to a fleet that convoys a, or to a support into or at such a fleet

  pub data Directed (h x : ℕ) : Type 0 where
    into : (w : ℕ) → s.supports h w ≡ true → s.target w ≡ Some x → Directed h x
    at : s.supports h x ≡ true → s.target x ≡ None → Directed h x

  pub data Leading (a p : ℕ) : Type 0 where
    straight : (x : ℕ) → s.convoys x a ≡ true → s.target p ≡ Some x → Leading a p
    around : (x h : ℕ) → s.convoys x a ≡ true → s.target p ≡ Some h → Directed h x → Leading a p

  directed_helps : (h x : ℕ) → Directed h x → (w : ℕ) × (s.supports h w ≡ true)
  directed_helps h x (into w e t) = (w, e)
  directed_helps h x (at e t) = (x, e)

  one_directed : (h x y : ℕ) → Directed h x → Directed h y → x ≡ y
  one_directed h x y (into w e t) (into v f u) = let p = i.one_helped h w v e f in let q : s.target w ≡ s.target v = ap s.target p in cc
  one_directed h x y (into w e t) (at f u) = let p = i.one_helped h w y e f in let q : s.target w ≡ s.target y = ap s.target p in absurd (cc)
  one_directed h x y (at e t) (into v f u) = let p = i.one_helped h x v e f in let q : s.target x ≡ s.target v = ap s.target p in absurd (cc)
  one_directed h x y (at e t) (at f u) = i.one_helped h x y e f

  -- an open path is led to by one at most
  one_before : (a b p : ℕ) → Leading a p → Leading b p → a ≡ b
  one_before a b p (straight x c t) (straight y d u) = let q : x ≡ y = cc in i.one_carried y a b (subst (λ (z : ℕ). s.convoys z a ≡ true) q c) d
  one_before a b p (straight x c t) (around y h d u e) = let q : x ≡ h = cc in let w = directed_helps h y e in absurd (i.carrier_helps_none h a w.0 (subst (λ (z : ℕ). s.convoys z a ≡ true) q c) w.1)
  one_before a b p (around x h c t e) (straight y d u) = let q : y ≡ h = cc in let w = directed_helps h x e in absurd (i.carrier_helps_none h b w.0 (subst (λ (z : ℕ). s.convoys z b ≡ true) q d) w.1)
  one_before a b p (around x h c t e) (around y g d u f) =
      let q : h ≡ g = cc in
      let r = one_directed g x y (subst (λ (z : ℕ). Directed z x) q e) f in
      i.one_carried y a b (subst (λ (z : ℕ). s.convoys z a ≡ true) r c) d

  pub record Onward (a : ℕ) : Type 0 where
    pub next : ℕ
    pub is_open : k (Path next) ≡ None
    pub leading : Leading a next
    pub reaches : Reaches (mentions s) k (Path a) (Path next)

  -- an open support that a move into x mentions, where the unit in x has no move, is directed there
  support_directed : (m x h : ℕ) → s.target m ≡ Some x → s.target x ≡ None → mentions s (Move m) (Support h) ≡ true → Directed h x
  support_directed m x h t n e = go (or_cases _ _ (rw t at e))
    where
      go : (list_any (λ w. s.supports h w && goes s w x) s.places ≡ true) ⊎ ((s.supports h x && (not (has_move s x) || head_to_head s m x)) ≡ true) → Directed h x
      go (inl f) = let w = find (λ w. s.supports h w && goes s w x) s.places f in let g = and_parts (s.supports h w.one) _ w.passes in into w.one g.0 (is_at_is (s.target w.one) x g.1)
      go (inr f) = at (and_parts (s.supports h x) _ f).0 n

  directed_aim : (h x : ℕ) → Directed h x → (z : ℕ) → s.aim h ≡ Some z → z ≡ x
  directed_aim h x (into w e t) z a = let p = i.aims h w e in cc
  directed_aim h x (at e t) z a = let p = i.aims h x e in absurd (cc)

  onward : (a : ℕ) → k (Path a) ≡ None → Onward a
  onward a o = first (some_mention (Path a) o)
    where
      third : (x h : ℕ) → s.convoys x a ≡ true → Directed h x → ((p : ℕ) → mentions s (Support h) (Path p) ≡ true → Reaches (mentions s) k (Path a) (Path p)) → (e : Decision) → mentions s (Support h) e ≡ true → k e ≡ None → Onward a
      third x h c d via (Path p) n u = record { next = p; is_open = u; leading = around x h c (is_at_is (s.target p) h (and_parts (goes s p h) _ (and_parts (goes s p h && not (s.same_power p h)) _ n).0).0) d; reaches = via p n }
      third x h c d via (Support p) n u = absurd (both_ways false refl n)
      third x h c d via (Move p) n u =
          let f = and_parts (goes s p h && not (s.same_power p h)) _ n in
          let q = directed_aim h x d p (is_at_is (s.aim h) p f.1) in
          let r = is_at_is (s.target p) h (and_parts (goes s p h) _ f.0).0 in
          let v : s.target p ≡ s.target x = ap s.target q in
          let w = i.carrier_stays x a c in
          absurd (cc)

      second : (m x : ℕ) → s.convoys x a ≡ true → s.target m ≡ Some x → ((between : List Decision) (p : ℕ) → Leads (mentions s) k (Move m) between (Path p) → Reaches (mentions s) k (Path a) (Path p)) → (e : Decision) → mentions s (Move m) e ≡ true → k e ≡ None → Onward a
      second m x c t via (Path p) n u = record { next = p; is_open = u; leading = straight x c (is_at_is (s.target p) x (and_parts (goes s p x) (s.convoyed p) (rw t at n)).0); reaches = via [] p n }
      second m x c t via (Move r) n u = let v : (r == x) ≡ true = rw t at n in absurd (both_ways _ (rw (i.carrier_stays x a c) refl) (open_decided (Move x) (subst (λ (z : ℕ). k (Move z) ≡ None) (eqb-true r x v) u)))
      second m x c t via (Support h) n u = let y = some_mention (Support h) u in third x h c (support_directed m x h t (i.carrier_stays x a c) n) (λ p f. via (Support h ∷ []) p (n, u, f)) y.one y.named y.is_open

      from : (e : Decision) → mentions s (Path a) e ≡ true → k e ≡ None → Onward a
      from (Move m) n u =
          let f = find (λ x. s.convoys x a && goes s m x) s.places n in
          let g = and_parts (s.convoys f.one a) _ f.passes in
          let y = some_mention (Move m) u in
          second m f.one g.0 (is_at_is (s.target m) f.one g.1) (λ between p l. (Move m ∷ between, (n, u, l))) y.one y.named y.is_open
      from (Path m) n u = absurd (both_ways false refl n)
      from (Support m) n u = absurd (both_ways false refl n)

      first : Mention s k (Path a) → Onward a
      first m = from m.one m.named m.is_open

  -- open paths from the first one on, the newest apart, each led to by one before it
  pub record Way (first last : ℕ) (trail : List Decision) : Type 0 where
    pub distinct : AreDistinct (Path last ∷ trail)
    pub all : (x : Decision) → is_among x (Path last ∷ trail) ≡ true → k x ≡ None
    pub come : (x : ℕ) → is_among (Path x) (Path last ∷ trail) ≡ true → (x ≡ first) ⊎ ((a : ℕ) × (is_among (Path a) trail ≡ true) × Leading a x)

  -- from one open path to another by the next ones
  abbrev pub AreLeading : ℕ → List ℕ → ℕ → Type 0
  AreLeading a [] b = Leading a b
  AreLeading a (c ∷ cs) b = Leading a c × (k (Path c) ≡ None) × AreLeading c cs b

  fleet_stays : (a m x : ℕ) → s.convoys x a ≡ true → s.target m ≡ Some x → (r : ℕ) → mentions s (Move m) (Move r) ≡ true → k (Move r) ≡ None → ⊥
  fleet_stays a m x c t r n u = let v : (r == x) ≡ true = rw t at n in both_ways _ (rw (i.carrier_stays x a c) refl) (open_decided (Move x) (subst (λ (z : ℕ). k (Move z) ≡ None) (eqb-true r x v) u))

  aim_stays : (a x h : ℕ) → s.convoys x a ≡ true → Directed h x → (p : ℕ) → mentions s (Support h) (Move p) ≡ true → ⊥
  aim_stays a x h c d p n =
      let f = and_parts (goes s p h && not (s.same_power p h)) _ n in
      let q = directed_aim h x d p (is_at_is (s.aim h) p f.1) in
      let r = is_at_is (s.target p) h (and_parts (goes s p h) _ f.0).0 in
      let v : s.target p ≡ s.target x = ap s.target q in
      let w = i.carrier_stays x a c in
      absurd (cc)

  goes_round : (p h : ℕ) → mentions s (Support h) (Path p) ≡ true → s.target p ≡ Some h
  goes_round p h n = is_at_is (s.target p) h (and_parts (goes s p h) _ (and_parts (goes s p h && not (s.same_power p h)) _ n).0).0

  goes_straight : (m x p : ℕ) → s.target m ≡ Some x → mentions s (Move m) (Path p) ≡ true → s.target p ≡ Some x
  goes_straight m x p t n = is_at_is (s.target p) x (and_parts (goes s p x) (s.convoyed p) (rw t at n)).0

  pub record Tour (a b : ℕ) : Type 0 where
    pub paths : List ℕ
    pub leading : AreLeading a paths b

  tour : (a b : ℕ) (between : List Decision) → Leads (mentions s) k (Path a) between (Path b) → Tour a b
  tour a b [] l = absurd (both_ways false refl l)
  tour a b (Path c ∷ cs) l = absurd (both_ways false refl l.0)
  tour a b (Support c ∷ cs) l = absurd (both_ways false refl l.0)
  tour a b (Move m ∷ []) l =
      let f = find (λ x. s.convoys x a && goes s m x) s.places l.0 in
      let g = and_parts (s.convoys f.one a) _ f.passes in
      record { paths = []; leading = straight f.one g.0 (goes_straight m f.one b (is_at_is (s.target m) f.one g.1) l.2) }
  tour a b (Move m ∷ Path c ∷ cs) l =
      let f = find (λ x. s.convoys x a && goes s m x) s.places l.0 in
      let g = and_parts (s.convoys f.one a) _ f.passes in
      let r = tour c b cs l.2.2 in
      record { paths = c ∷ r.paths; leading = (straight f.one g.0 (goes_straight m f.one c (is_at_is (s.target m) f.one g.1) l.2.0), l.2.1, r.leading) }
  tour a b (Move m ∷ Move r ∷ cs) l =
      let f = find (λ x. s.convoys x a && goes s m x) s.places l.0 in
      let g = and_parts (s.convoys f.one a) _ f.passes in
      absurd (fleet_stays a m f.one g.0 (is_at_is (s.target m) f.one g.1) r l.2.0 l.2.1)
  tour a b (Move m ∷ Support h ∷ []) l =
      let f = find (λ x. s.convoys x a && goes s m x) s.places l.0 in
      let g = and_parts (s.convoys f.one a) _ f.passes in
      let d = support_directed m f.one h (is_at_is (s.target m) f.one g.1) (i.carrier_stays f.one a g.0) l.2.0 in
      record { paths = []; leading = around f.one h g.0 (goes_round b h l.2.2) d }
  tour a b (Move m ∷ Support h ∷ Path c ∷ cs) l =
      let f = find (λ x. s.convoys x a && goes s m x) s.places l.0 in
      let g = and_parts (s.convoys f.one a) _ f.passes in
      let d = support_directed m f.one h (is_at_is (s.target m) f.one g.1) (i.carrier_stays f.one a g.0) l.2.0 in
      let r = tour c b cs l.2.2.2 in
      record { paths = c ∷ r.paths; leading = (around f.one h g.0 (goes_round c h l.2.2.0) d, l.2.2.1, r.leading) }
  tour a b (Move m ∷ Support h ∷ Support c ∷ cs) l = absurd (both_ways false refl l.2.2.0)
  tour a b (Move m ∷ Support h ∷ Move p ∷ cs) l =
      let f = find (λ x. s.convoys x a && goes s m x) s.places l.0 in
      let g = and_parts (s.convoys f.one a) _ f.passes in
      let d = support_directed m f.one h (is_at_is (s.target m) f.one g.1) (i.carrier_stays f.one a g.0) l.2.0 in
      absurd (aim_stays a f.one h g.0 d p l.2.2.0)

  -- the open path that leads back to the first one, which reaches it
  pub record Closed (first : ℕ) : Type 0 where
    pub last : ℕ
    pub is_open : k (Path last) ≡ None
    pub leading : Leading last first
    pub there : (last ≡ first) ⊎ Reaches (mentions s) k (Path first) (Path last)
    pub back : Reaches (mentions s) k (Path last) (Path first)

  walk_round : (fuel first last : ℕ) (trail : List Decision) → Way first last trail → (last ≡ first) ⊎ Reaches (mentions s) k (Path first) (Path last) → length trail + fuel ≡ length (decisions s.places) → Closed first
  walk_round zero first last trail w r n = let l = no_more (Path last ∷ trail) (decisions s.places) w.distinct (λ x h. open_listed x (w.all x h)) in absurd (omega arith)
  walk_round (suc fuel) first last trail w r n = go (cases_Bool (is_among (Path o.next) (Path last ∷ trail))) (walk_round fuel first o.next (Path last ∷ trail))
    where
      last_open : k (Path last) ≡ None
      last_open = w.all (Path last) (or_left _ _ (eq-eqb last last refl))

      o : Onward last
      o = onward last last_open

      onto : Reaches (mentions s) k (Path first) (Path o.next)
      onto = which r
        where
          which : (last ≡ first) ⊎ Reaches (mentions s) k (Path first) (Path last) → Reaches (mentions s) k (Path first) (Path o.next)
          which (inl e) = subst (λ (y : ℕ). Reaches (mentions s) k (Path y) (Path o.next)) e o.reaches
          which (inr e) = leads_on (mentions s) k (Path first) (Path last) (Path o.next) e.0 e.1 last_open o.reaches

      found : (o.next ≡ first) ⊎ ((a : ℕ) × (is_among (Path a) trail ≡ true) × Leading a o.next) → Closed first
      found (inl e) = record { last = last; is_open = last_open; leading = subst (λ (y : ℕ). Leading last y) e o.leading; there = r; back = subst (λ (y : ℕ). Reaches (mentions s) k (Path last) (Path y)) e o.reaches }
      found (inr e) = absurd (both_ways _ w.distinct.0 (subst (λ (y : ℕ). is_among (Path y) trail ≡ true) (one_before e.0 last o.next e.2 o.leading) e.1))

      known : (x : Decision) → (same x (Path o.next) ≡ true) ⊎ (is_among x (Path last ∷ trail) ≡ true) → k x ≡ None
      known x (inl e) = ap k (same_is x (Path o.next) e) ∙ o.is_open
      known x (inr e) = w.all x e

      older : (x : ℕ) → (x ≡ first) ⊎ ((a : ℕ) × (is_among (Path a) trail ≡ true) × Leading a x) → (x ≡ first) ⊎ ((a : ℕ) × (is_among (Path a) (Path last ∷ trail) ≡ true) × Leading a x)
      older x (inl e) = inl e
      older x (inr e) = inr (e.0, or_right (e.0 == last) _ e.1, e.2)

      comes : (x : ℕ) → ((x == o.next) ≡ true) ⊎ (is_among (Path x) (Path last ∷ trail) ≡ true) → (x ≡ first) ⊎ ((a : ℕ) × (is_among (Path a) (Path last ∷ trail) ≡ true) × Leading a x)
      comes x (inl e) = inr (last, or_left _ _ (eq-eqb last last refl), subst (λ (y : ℕ). Leading last y) (sym (eqb-true x o.next e)) o.leading)
      comes x (inr e) = older x (w.come x e)

      go : (is_among (Path o.next) (Path last ∷ trail) ≡ true) ⊎ (is_among (Path o.next) (Path last ∷ trail) ≡ false) → (Way first o.next (Path last ∷ trail) → (o.next ≡ first) ⊎ Reaches (mentions s) k (Path first) (Path o.next) → length (Path last ∷ trail) + fuel ≡ length (decisions s.places) → Closed first) → Closed first
      go (inl e) _ = found (w.come o.next e)
      go (inr e) f = f (record { distinct = (e, w.distinct); all = λ x h. known x (or_cases _ _ h); come = λ x h. comes x (or_cases _ _ h) }) (inr onto) (omega arith)

  closed_at : (b : ℕ) → k (Path b) ≡ None → Closed b
  closed_at b o = walk_round (length (decisions s.places)) b b [] (record { distinct = (refl, tt); all = λ x h. known x (or_cases _ _ h); come = λ x h. first x (or_cases _ _ h) }) (inl refl) (omega arith)
    where
      known : (x : Decision) → (same x (Path b) ≡ true) ⊎ (false ≡ true) → k x ≡ None
      known x (inl e) = ap k (same_is x (Path b) e) ∙ o
      known x (inr e) = absurd (both_ways false refl e)

      first : (x : ℕ) → ((x == b) ≡ true) ⊎ (false ≡ true) → (x ≡ b) ⊎ ((a : ℕ) × (is_among (Path a) [] ≡ true) × Leading a x)
      first x (inl e) = inl (eqb-true x b e)
      first x (inr e) = absurd (both_ways false refl e)

  -- every open path is led to by an open path
  all_led_to : (p : ℕ) → k (Path p) ≡ None → ((a : ℕ) → k (Path a) ≡ None → Leading a p → ⊥) → ⊥
  all_led_to p o none = let c = closed_at p o in none c.last c.is_open c.leading

  -- whom an open path leads to reaches it
  back_one : (a b : ℕ) → k (Path b) ≡ None → Leading a b → Reaches (mentions s) k (Path b) (Path a)
  back_one a b o l = go closed.there
    where
      closed : Closed b
      closed = closed_at b o

      it : a ≡ closed.last
      it = one_before a closed.last b l closed.leading

      go : (closed.last ≡ b) ⊎ Reaches (mentions s) k (Path b) (Path closed.last) → Reaches (mentions s) k (Path b) (Path a)
      go (inr r) = subst (λ (y : ℕ). Reaches (mentions s) k (Path b) (Path y)) (sym it) r
      go (inl e) = subst (λ (y : ℕ). Reaches (mentions s) k (Path b) (Path y)) (sym (it ∙ e)) (subst (λ (y : ℕ). Reaches (mentions s) k (Path y) (Path b)) e closed.back)

  back_all : (a b : ℕ) (paths : List ℕ) → k (Path a) ≡ None → k (Path b) ≡ None → AreLeading a paths b → Reaches (mentions s) k (Path b) (Path a)
  back_all a b [] u v l = back_one a b v l
  back_all a b (c ∷ cs) u v l = let r = back_all c b cs l.1 v l.2 in leads_on (mentions s) k (Path b) (Path c) (Path a) r.0 r.1 l.1 (back_one a c l.1 l.0)

  -- an open path that is reached from another reaches it
  pub reached_back : (a b : ℕ) → k (Path a) ≡ None → k (Path b) ≡ None → Reaches (mentions s) k (Path a) (Path b) → Reaches (mentions s) k (Path b) (Path a)
  reached_back a b u v r = let t = tour a b r.0 r.1 in back_all a b t.paths u v t.leading

  -- no open path goes to a support that isn't directed at a fleet which convoys
  not_to : (h : ℕ) → ((x a : ℕ) → s.convoys x a ≡ true → Directed h x → ⊥) → (w : ℕ) → s.supports h w ≡ true → (p : ℕ) → k (Path p) ≡ None → s.target p ≡ Some h → ⊥
  not_to h none w e p o t = all_led_to p o (λ a _ l. go a l)
    where
      go : (a : ℕ) → Leading a p → ⊥
      go a (straight x c u) = let q : x ≡ h = cc in i.carrier_helps_none h a w (subst (λ (z : ℕ). s.convoys z a ≡ true) q c) e
      go a (around x g c u d) = let q : g ≡ h = cc in none x a c (subst (λ (z : ℕ). Directed z x) q d)

  -- a support that isn't directed at a fleet which convoys isn't open
  not_open : (h : ℕ) → k (Support h) ≡ None → ((x a : ℕ) → s.convoys x a ≡ true → Directed h x → ⊥) → ⊥
  not_open h o none = first (some_mention (Support h) o)
    where
      w : Found (λ p. s.supports h p)
      w = helper h o

      third : (m y : ℕ) → s.target m ≡ Some h → mentions s (Move m) (Support y) ≡ true → k (Support y) ≡ None → (e : Decision) → mentions s (Support y) e ≡ true → k e ≡ None → ⊥
      third m y t f v (Path p) n u = not_to y (λ x a c d. i.carrier_helps_none h a w.one (subst (λ (z : ℕ). s.convoys z a ≡ true) (one_directed y x h d (support_directed m h y t (i.helper_stays h w.one w.passes) f)) c) w.passes) (helper y v).one (helper y v).passes p u (is_at_is (s.target p) y (and_parts (goes s p y) _ (and_parts (goes s p y && not (s.same_power p y)) _ n).0).0)
      third m y t f v (Support p) n u = both_ways false refl n
      third m y t f v (Move z) n u = last_support h o m y z t f n u

      second : (m : ℕ) → s.target m ≡ Some h → (e : Decision) → mentions s (Move m) e ≡ true → k e ≡ None → ⊥
      second m t (Path p) n u = not_to h none w.one w.passes p u (is_at_is (s.target p) h (and_parts (goes s p h) (s.convoyed p) (rw t at n)).0)
      second m t (Move r) n u = let v : (r == h) ≡ true = rw t at n in stays h w.one w.passes (subst (λ (z : ℕ). k (Move z) ≡ None) (eqb-true r h v) u)
      second m t (Support y) n u = let g = some_mention (Support y) u in third m y t n u g.one g.named g.is_open

      from : (e : Decision) → mentions s (Support h) e ≡ true → k e ≡ None → ⊥
      from (Path p) n u = not_to h none w.one w.passes p u (is_at_is (s.target p) h (and_parts (goes s p h) _ (and_parts (goes s p h && not (s.same_power p h)) _ n).0).0)
      from (Support p) n u = both_ways false refl n
      from (Move m) n u = let g = some_mention (Move m) u in second m (is_at_is (s.target m) h (and_parts (goes s m h) _ (and_parts (goes s m h && not (s.same_power m h)) _ n).0).0) g.one g.named g.is_open

      first : Mention s k (Support h) → ⊥
      first m = from m.one m.named m.is_open

  -- a move to a unit that moves mentions no other open decision than that unit's move
  pub moves_alone : (p q t : ℕ) → s.target p ≡ Some q → s.target q ≡ Some t → (e : Decision) → mentions s (Move p) e ≡ true → k e ≡ None → e ≡ Move q
  moves_alone p q t u v (Move r) n o = let f : (r == q) ≡ true = rw u at n in ap Move (eqb-true r q f)
  moves_alone p q t u v (Path w) n o = absurd (all_led_to w o (λ a _ l. go a l))
    where
      f : s.target w ≡ Some q
      f = is_at_is (s.target w) q (and_parts (goes s w q) (s.convoyed w) (rw u at n)).0

      go : (a : ℕ) → Leading a w → ⊥
      go a (straight x c g) = let e = f in let y : x ≡ q = cc in let z = i.carrier_stays x a c in let r : s.target x ≡ s.target q = ap s.target y in absurd (cc)
      go a (around x h c g d) = let b = f in let y : h ≡ q = cc in let e = directed_helps h x d in let z = i.helper_stays h e.0 e.1 in let r : s.target h ≡ s.target q = ap s.target y in absurd (cc)
  moves_alone p q t u v (Support h) n o = absurd (not_open h o (which (or_cases _ _ (rw u at n))))
    where
      which : (list_any (λ w. s.supports h w && goes s w q) s.places ≡ true) ⊎ ((s.supports h q && (not (has_move s q) || head_to_head s p q)) ≡ true) → (x a : ℕ) → s.convoys x a ≡ true → Directed h x → ⊥
      which (inl f) x a c d =
          let w = find (λ w. s.supports h w && goes s w q) s.places f in
          let g = and_parts (s.supports h w.one) _ w.passes in
          let y : x ≡ q = one_directed h x q d (into w.one g.0 (is_at_is (s.target w.one) q g.1)) in
          let z = i.carrier_stays x a c in
          let r : s.target x ≡ s.target q = ap s.target y in
          absurd (cc)
      which (inr f) x a c d = facing d
        where
          helped_q : s.supports h q ≡ true
          helped_q = (and_parts (s.supports h q) _ f).0

          facing : Directed h x → ⊥
          facing (at e g) = let y = i.one_helped h x q e helped_q in let r : s.target x ≡ s.target q = ap s.target y in absurd (cc)
          facing (into w e g) = both (or_cases (not (has_move s q)) _ (and_parts (s.supports h q) _ f).1)
            where
              both : (not (has_move s q) ≡ true) ⊎ (head_to_head s p q ≡ true) → ⊥
              both (inl b) = both_ways false refl (rw v at b)
              both (inr b) =
                  let y = i.one_helped h w q e helped_q in
                  let r : s.target w ≡ s.target q = ap s.target y in
                  let back = is_at_is (s.target q) p (and_parts (goes s p q) (goes s q p) (and_parts (goes s p q && goes s q p) _ b).0).1 in
                  let m : x ≡ p = cc in
                  let z = i.carrier_stays x a c in
                  let o : s.target x ≡ s.target p = ap s.target m in
                  absurd (cc)

-- and where there is no circle either

module _ (s : Situation) (i : IsSituation s) (k : Known) (start : (d : Decision) → is_decided s d ≡ false → k d ≡ Some false) (none_forced : (d : Decision) (b : Bool) → IsForced (rule s) k d b → ⊥) (no_circle : (ds : List Decision) → IsCircle (rule s) k ds → ⊥) where
  no_ring : Ring (rule s) k (λ x. (is_move x ≡ true) × (k x ≡ None)) → ⊥
  no_ring r = no_circle r.ds (record { two = r.two; distinct = r.distinct; moves = λ d m. (r.all d m).0; unknown = λ d m. (r.all d m).1; round = r.round })

  -- d is open, a move, and after it stands a trail of open moves, each of which follows the next
  pub record Trail (d : Decision) (trail : List Decision) : Type 0 where
    pub behind : AreBehind (rule s) k d trail
    pub distinct : AreDistinct (d ∷ trail)
    pub all : (x : Decision) → is_among x (d ∷ trail) ≡ true → (is_move x ≡ true) × (k x ≡ None)

  not_round : (p : ℕ) (trail : List Decision) → Trail (Move p) trail → (l : Linked s i k start none_forced p) → is_among (Move l.next) (Move p ∷ trail) ≡ true → ⊥
  not_round p trail t l m = no_ring (close (rule s) k (λ x. (is_move x ≡ true) × (k x ≡ None)) (Move l.next) trail (Move p) [] (l.follows, tt) t.behind m (refl, tt) t.distinct.1 apart first (λ x h. t.all x (or_right (same x (Move p)) _ h)) (λ e. absurd (both_ways _ (i.elsewhere p) (at_is (s.target p) p (subst (λ (y : ℕ). s.target p ≡ Some y) (eqb-true l.next p e) l.target)))))
    where
      apart : Apart trail (Move p ∷ [])
      apart x h = or_from (same x (Move p)) false (other (cases_Bool (same x (Move p)))) refl
        where
          other : (same x (Move p) ≡ true) ⊎ (same x (Move p) ≡ false) → same x (Move p) ≡ false
          other (inr n) = n
          other (inl e) = absurd (both_ways _ t.distinct.0 (subst (λ (y : Decision). is_among y trail ≡ true) (same_is x (Move p) e) h))

      first : (x : Decision) → is_among x (Move p ∷ []) ≡ true → (is_move x ≡ true) × (k x ≡ None)
      first x h = go (or_cases _ _ h)
        where
          go : (same x (Move p) ≡ true) ⊎ (false ≡ true) → (is_move x ≡ true) × (k x ≡ None)
          go (inl e) = t.all x (or_left _ _ e)
          go (inr e) = absurd (both_ways false refl e)

  longer : (p : ℕ) (trail : List Decision) → Trail (Move p) trail → (l : Linked s i k start none_forced p) → is_among (Move l.next) (Move p ∷ trail) ≡ false → Trail (Move l.next) (Move p ∷ trail)
  longer p trail t l n = record { behind = (l.follows, t.behind); distinct = (n, t.distinct); all = λ x h. go x (or_cases _ _ h) }
    where
      go : (x : Decision) → (same x (Move l.next) ≡ true) ⊎ (is_among x (Move p ∷ trail) ≡ true) → (is_move x ≡ true) × (k x ≡ None)
      go x (inr h) = t.all x h
      go x (inl e) = subst (λ (y : Decision). (is_move y ≡ true) × (k y ≡ None)) (sym (same_is x (Move l.next) e)) (refl, l.is_open)

  walk : (fuel p : ℕ) (trail : List Decision) → Trail (Move p) trail → length trail + fuel ≡ length (decisions s.places) → Arrives s k (Move p)
  walk zero p trail t n = let l = no_more (Move p ∷ trail) (decisions s.places) t.distinct (λ x h. open_listed s i k start none_forced x (t.all x h).1) in absurd (omega arith)
  walk (suc m) p trail t n = go (step s i k start none_forced p (t.all (Move p) (or_left _ _ (eq-eqb p p refl))).1) (λ q. walk m q (Move p ∷ trail))
    where
      go : Arrives s k (Move p) ⊎ Linked s i k start none_forced p → ((q : ℕ) → Trail (Move q) (Move p ∷ trail) → length (Move p ∷ trail) + m ≡ length (decisions s.places) → Arrives s k (Move q)) → Arrives s k (Move p)
      go (inl a) _ = a
      go (inr l) f = which (cases_Bool (is_among (Move l.next) (Move p ∷ trail)))
        where
          which : (is_among (Move l.next) (Move p ∷ trail) ≡ true) ⊎ (is_among (Move l.next) (Move p ∷ trail) ≡ false) → Arrives s k (Move p)
          which (inl h) = absurd (not_round p trail t l h)
          which (inr h) = further s k (Move p) (Move l.next) (rw l.target (eq-eqb l.next l.next refl)) l.is_open (f l.next (longer p trail t l h) (omega arith))

  -- every open decision reaches an open path
  pub arrives : (d : Decision) → k d ≡ None → Arrives s k d
  arrives (Support h) o = support_arrives s i k start none_forced h o
  arrives (Move p) o = walk (length (decisions s.places)) p [] (record { behind = tt; distinct = (refl, tt); all = λ x h. alone x (or_cases _ _ h) }) (omega arith)
    where
      alone : (x : Decision) → (same x (Move p) ≡ true) ⊎ (false ≡ true) → (is_move x ≡ true) × (k x ≡ None)
      alone x (inl e) = subst (λ (y : Decision). (is_move y ≡ true) × (k y ≡ None)) (sym (same_is x (Move p) e)) (refl, o)
      alone x (inr e) = absurd (both_ways false refl e)
  arrives (Path p) o = go (some_mention s i k start none_forced (Path p) o)
    where
      at : (e : Decision) → mentions s (Path p) e ≡ true → k e ≡ None → Arrives s k (Path p)
      at (Move m) n u = further s k (Path p) (Move m) n u (walk (length (decisions s.places)) m [] (record { behind = tt; distinct = (refl, tt); all = λ x h. alone x (or_cases _ _ h) }) (omega arith))
        where
          alone : (x : Decision) → (same x (Move m) ≡ true) ⊎ (false ≡ true) → (is_move x ≡ true) × (k x ≡ None)
          alone x (inl e) = subst (λ (y : Decision). (is_move y ≡ true) × (k y ≡ None)) (sym (same_is x (Move m) e)) (refl, u)
          alone x (inr e) = absurd (both_ways false refl e)
      at (Path m) n u = absurd (both_ways false refl n)
      at (Support m) n u = absurd (both_ways false refl n)

      go : Mention s k (Path p) → Arrives s k (Path p)
      go m = at m.one m.named m.is_open
