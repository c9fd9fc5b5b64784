-- The powers that a vote names, and those that survivors agree on.
use Rattle.std.proofs.Common.{◌≡◌, ℕ, ◌<◌, ◌≤◌, ◌+◌, ◌==◌, zero, suc, arith, Bool, true, false, cond, List, [], ◌∷◌, length, Option, Some, None, bytes_eq, refl, sym, ap, subst, ◌∙◌}
use Rattle.std.specs.Prelude.{◌||◌, filter}
use Rattle.std.specs.List.{AllByRecursion, list_all, range_with_len}
use Rattle.std.proofs.lemmas.Bool.{and_parts, eqb-false, eqb-true, false≢true}
use Rattle.std.proofs.lemmas.List.Quantifiers.{position-Some}
use Rattle.dip_map.specs.Charts.{Chart, Realm, no_realm, power_of, powers}
use Rattle.dip_decide.proofs.ResultLaws.{ascending}
use Rattle.dip_letters.specs.Letters.{FitsNames}
use Rattle.dip_desk_games.specs.Drawing.{agreed, asked, drawn_between, first_asked, is_agreed, is_set, survives, survivors, vote_of, where_agreed}
use Rattle.dip_desk_machine.specs.Pressing.{are_distinct, is_among, named_powers, with_power}
use Rattle.dip_desk_machine.specs.Voting.{in_order, plain_vote, set_of, set_where}
use Rattle.dip_desk_state.proofs.KeyedLemmas.{powers_tell}
use Rattle.dip_desk_state.specs.Records.{Own, For, Whole}
use Rattle.dip_desk_state.specs.Writable.{IsVoteOf}
use Rattle.dip_desk_machine.proofs.WritableLemmas.{all_filtered, powers_low}

-- what is among powers that all have a property has it
pub among_all : (P : ℕ → Type 0) (p : ℕ) (ps : List ℕ) → AllByRecursion P ps → is_among p ps ≡ true → P p
among_all P p [] all is = absurd (false≢true is)
among_all P p (q ∷ qs) all is = go (q == p) refl is (among_all P p qs all.1)
  where
    go : (b : Bool) → (q == p) ≡ b → (b || is_among p qs) ≡ true → (is_among p qs ≡ true → P p) → P p
    go true same more later = subst P (eqb-true q p same) all.0
    go false differ more later = later more

pub all_among : (P : ℕ → Type 0) (set ps : List ℕ) → AllByRecursion P ps → list_all (λ p. is_among p ps) set ≡ true → AllByRecursion P set
all_among P [] ps all is = tt
all_among P (q ∷ qs) ps all is =
    let parts = and_parts (is_among q ps) (list_all (λ p. is_among p ps) qs) is in (among_all P q ps all parts.0, all_among P qs ps all parts.1)

-- a number that passes a test is among those that do
pub among_kept : (t : ℕ → Bool) (a k p : ℕ) → a ≤ p → p < a + k → t p ≡ true → is_among p (filter t (range_with_len a k)) ≡ true
among_kept t a zero p low high is = absurd (omega (arith, low, high))
among_kept t a (suc k) p low high is = go (a == p) refl (λ lower. among_kept t (a + 1) k p lower (omega (arith, high)) is)
  where
    rest : List ℕ
    rest = filter t (range_with_len (a + 1) k)

    go : (b : Bool) → (a == p) ≡ b → (a + 1 ≤ p → is_among p rest ≡ true) → is_among p (cond (t a) (a ∷ rest) rest) ≡ true
    go true same more =
        let kept : t a ≡ true = subst (λ (q : ℕ). t q ≡ true) (sym (eqb-true a p same)) is in
        ap (λ (b : Bool). is_among p (cond b (a ∷ rest) rest)) kept ∙ ap (λ (b : Bool). b || is_among p rest) same
    go false differ more = by (t a) (more (omega (arith, low, eqb-false a p differ)))
      where
        by : (b : Bool) → is_among p rest ≡ true → is_among p (cond b (a ∷ rest) rest) ≡ true
        by true there = ap (λ (c : Bool). c || is_among p rest) differ ∙ there
        by false there = there

some_among : (p : ℕ) (ps : List ℕ) → is_among p ps ≡ true → 0 < length ps
some_among p [] is = absurd (false≢true is)
some_among p (q ∷ qs) is = omega arith

-- ---- VOTE FOR

-- the powers of names are powers of the map
pub named_low : (m : Chart) (names : List (List ℕ)) (found : List ℕ) → named_powers m names ≡ Some found → AllByRecursion (λ p. p < length m.realms) found
named_low m [] found is = let none : [] ≡ found = cc in subst (AllByRecursion (λ p. p < length m.realms)) none tt
named_low m (name ∷ names) found is = go (power_of m name) refl (named_powers m names) refl (named_low m names) is
  where
    go : (q : Option ℕ) → power_of m name ≡ q → (rest : Option (List ℕ)) → named_powers m names ≡ rest
        → ((qs : List ℕ) → named_powers m names ≡ Some qs → AllByRecursion (λ p. p < length m.realms) qs) → with_power q rest ≡ Some found → AllByRecursion (λ p. p < length m.realms) found
    go None at rest more low e = absurd (cc)
    go (Some q) at None more low e = absurd (cc)
    go (Some q) at (Some qs) more low e =
        let same : q ∷ qs ≡ found = cc in
        subst (AllByRecursion (λ p. p < length m.realms)) same ((position-Some (λ (x : Realm). bytes_eq x.name name) m.realms q no_realm at).0, low qs more)

-- one power a name
named_some : (m : Chart) (names : List (List ℕ)) (found : List ℕ) → named_powers m names ≡ Some found → 1 ≤ length names → 1 ≤ length found
named_some m [] found is some = absurd (omega (arith, some))
named_some m (name ∷ names) found is some = go (power_of m name) (named_powers m names) is
  where
    go : (q : Option ℕ) (rest : Option (List ℕ)) → with_power q rest ≡ Some found → 1 ≤ length found
    go None rest e = absurd (cc)
    go (Some q) None e = absurd (cc)
    go (Some q) (Some qs) e = let same : q ∷ qs ≡ found = cc in subst (λ (ps : List ℕ). 1 ≤ length ps) same (omega arith)

-- what holds of the powers of names in the map's order holds of what VOTE FOR asks for
set_holds : (P : List ℕ → Type 0) (m : Chart) (names : List (List ℕ)) (set : List ℕ) → ((found : List ℕ) → named_powers m names ≡ Some found → P (in_order m found)) → set_of m names ≡ Some set → P set
set_holds P m names set holds is = by (named_powers m names) refl is
  where
    by : (o : Option (List ℕ)) → named_powers m names ≡ o → set_where m o ≡ Some set → P set
    by None at e = absurd (cc)
    by (Some found) at e = here (are_distinct found) e
      where
        here : (b : Bool) → cond b (Some (in_order m found)) None ≡ Some set → P set
        here true e = let same : in_order m found ≡ set = cc in subst P same (holds found at)
        here false e = absurd (cc)

-- VOTE FOR asks for powers of the map, in order
pub set_fits : (m : Chart) (names : List (List ℕ)) (set : List ℕ) → FitsNames names → set_of m names ≡ Some set → IsVoteOf m (For set)
set_fits m names set fits is =
    set_holds (λ ps. IsVoteOf m (For ps)) m names set
    (λ found at. (
      all_filtered (λ p. p < length m.realms) (λ p. is_among p found) (powers m) (powers_low m),
      ascending (λ p. is_among p found) 0 (length m.realms),
      some found (named_low m names found at) (named_some m names found at fits.0),
    )) is
  where
    some : (found : List ℕ) → AllByRecursion (λ p. p < length m.realms) found → 1 ≤ length found → 0 < length (in_order m found)
    some [] low one = absurd (omega (arith, one))
    some (q ∷ qs) low one =
        let lt : q < length m.realms = low.0 in
        let it : is_among q (q ∷ qs) ≡ true = ap (λ (b : Bool). b || is_among q qs) (powers_tell.self q) in
        some_among q (in_order m (q ∷ qs)) (among_kept (λ p. is_among p (q ∷ qs)) 0 (length m.realms) q (omega arith) (omega (arith, lt)) it)

pub plain_fits : (m : Chart) (draw : Bool) → IsVoteOf m (plain_vote draw)
plain_fits m true = tt
plain_fits m false = tt

-- ---- a draw

-- what is drawn is agreed on
pub agreed_is : (ps : List ℕ) (seats : List Own) (set : List ℕ) → agreed ps seats ≡ Some set → is_agreed ps seats set ≡ true
agreed_is ps seats set is = by (first_asked ps seats) is
  where
    by : (o : Option (List ℕ)) → where_agreed ps seats o ≡ Some set → is_agreed ps seats set ≡ true
    by None e = absurd (cc)
    by (Some x) e = here (is_agreed ps seats x) refl e
      where
        here : (b : Bool) → is_agreed ps seats x ≡ b → cond b (Some x) None ≡ Some set → is_agreed ps seats set ≡ true
        here true on e = let same : x ≡ set = cc in subst (λ (s : List ℕ). is_agreed ps seats s ≡ true) same on
        here false off e = absurd (cc)

-- a game is drawn between powers of the map
pub drawn_low : (m : Chart) (w : Whole) (set : List ℕ) → drawn_between m w ≡ Some set → AllByRecursion (λ p. p < length m.realms) set
drawn_low m w set is =
    let ps = survivors m w.public.board in
    let both = and_parts (list_all (λ p. is_set set (asked ps (vote_of w.seats p))) ps) (list_all (λ p. is_among p ps) set) (agreed_is ps w.seats set is) in
    all_among (λ p. p < length m.realms) set ps (all_filtered (λ p. p < length m.realms) (survives m w.public.board) (powers m) (powers_low m)) both.1
