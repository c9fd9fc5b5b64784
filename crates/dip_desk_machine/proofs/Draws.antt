-- A draw is what all survivors agree on.
use Rattle.std.proofs.Common.{◌≡◌, ℕ, ◌<◌, arith, Bool, true, false, cond, List, [], ◌∷◌, length, Option, Some, None, refl, sym, ap, subst, ◌∙◌}
use Rattle.std.specs.Prelude.{◌&&◌, ◌↔◌, filter}
use Rattle.std.specs.List.{AllByRecursion, list_all}
use Rattle.std.proofs.lemmas.Bool.{and_parts, false≢true}
use Rattle.dip_map.specs.Charts.{Chart, powers}
use Rattle.dip_desk_games.specs.Drawing.{agreed, asked, drawn_between, first_asked, is_set, survives, survivors, vote_of, where_agreed}
use Rattle.dip_desk_machine.specs.Draws.{AsksFor, Draws, DrawsAreAgreed, IsAgreedOn, IsSurvivor}
use Rattle.dip_desk_machine.specs.Machine.{OnTime}
use Rattle.dip_desk_machine.specs.Pressing.{is_among}
use Rattle.dip_desk_games.specs.Ticking.{status_after}
use Rattle.dip_turn.specs.Course.{Course}
use Rattle.dip_turn.specs.Course.TheVariants.{GoesOn, Won as WonBy, Ended as AtAnEnd}
use Rattle.dip_desk_state.proofs.KeyedLemmas.{names_tell}
use Rattle.dip_desk_state.specs.Records.{Drawn, Vote, No, Yes, For, Whole}
use Rattle.dip_desk_games.proofs.ListLemmas.{all_weaker}
use Rattle.dip_desk_machine.proofs.VotingLemmas.{agreed_is, all_among, among_all, among_kept}
use Rattle.dip_desk_machine.proofs.WritableLemmas.{powers_low}

-- what is kept by a test passes it
all_kept : (P : ℕ → Type 0) (t : ℕ → Bool) (ps : List ℕ) → AllByRecursion P ps → AllByRecursion (λ p. P p × (t p ≡ true)) (filter t ps)
all_kept P t [] all = tt
all_kept P t (p ∷ ps) all = go (t p) refl (all_kept P t ps all.1)
  where
    go : (b : Bool) → t p ≡ b → AllByRecursion (λ p. P p × (t p ≡ true)) (filter t ps) → AllByRecursion (λ p. P p × (t p ≡ true)) (cond b (p ∷ filter t ps) (filter t ps))
    go true is rest = ((all.0, is), rest)
    go false is rest = rest

-- a test that each element passes
tests_all : (P : ℕ → Type 0) (t : ℕ → Bool) (ps : List ℕ) → ((p : ℕ) → P p → t p ≡ true) → AllByRecursion P ps → list_all t ps ≡ true
tests_all P t [] passes all = refl
tests_all P t (p ∷ ps) passes all = ap (λ (b : Bool). b && list_all t ps) (passes p all.0) ∙ tests_all P t ps passes all.1

passes_all : (t : ℕ → Bool) (ps : List ℕ) → list_all t ps ≡ true → AllByRecursion (λ p. t p ≡ true) ps
passes_all t [] all = tt
passes_all t (p ∷ ps) all = let parts = and_parts (t p) (list_all t ps) all in (parts.0, passes_all t ps parts.1)

module _ (m : Chart) (w : Whole) where
  all_alive : AllByRecursion (IsSurvivor m w) (survivors m w.public.board)
  all_alive = all_kept (λ p. p < length m.realms) (survives m w.public.board) (powers m) (powers_low m)

  is_alive : (p : ℕ) → IsSurvivor m w p → is_among p (survivors m w.public.board) ≡ true
  is_alive p h = let lt = h.0 in among_kept (survives m w.public.board) 0 (length m.realms) p (omega arith) (omega (arith, lt)) h.1

  -- what a vote asks for, by its test and as a set
  asks : (set : List ℕ) (v : Vote) → is_set set (asked (survivors m w.public.board) v) ≡ true → AsksFor m w set v
  asks set No is = absurd (false≢true is)
  asks set Yes is = sym (names_tell.same (survivors m w.public.board) set is)
  asks set (For named) is = sym (names_tell.same named set is)

  asks_so : (set : List ℕ) (v : Vote) → AsksFor m w set v → asked (survivors m w.public.board) v ≡ Some set
  asks_so set No h = absurd h
  asks_so set Yes h = ap (λ (ps : List ℕ). Some ps) (sym h)
  asks_so set (For named) h = ap (λ (ps : List ℕ). Some ps) (sym h)

  somebody : (ps : List ℕ) (set : List ℕ) → AllByRecursion (IsSurvivor m w) ps → agreed ps w.seats ≡ Some set → (p : ℕ) × IsSurvivor m w p
  somebody [] set all is = absurd (cc)
  somebody (p ∷ ps) set all is = (p, all.0)

  -- a game is drawn between powers on whom all survivors agree
  pub drawn_so : (set : List ℕ) → drawn_between m w ≡ Some set → IsAgreedOn m w set
  drawn_so set is =
      let ps = survivors m w.public.board in
      let parts = and_parts (list_all (λ p. is_set set (asked ps (vote_of w.seats p))) ps) (list_all (λ p. is_among p ps) set) (agreed_is ps w.seats set is) in
      record {
        survivor = somebody ps set all_alive is;
        asked = λ p h. asks set (vote_of w.seats p)
            (among_all (λ q. is_set set (asked ps (vote_of w.seats q)) ≡ true) p ps (passes_all (λ q. is_set set (asked ps (vote_of w.seats q))) ps parts.0) (is_alive p h));
        survive = all_among (IsSurvivor m w) set ps all_alive parts.1;
      }

  -- the first of some powers asks for what all ask for
  first_so : (ps : List ℕ) (set : List ℕ) (p : ℕ) → is_among p ps ≡ true → AllByRecursion (λ q. asked ps (vote_of w.seats q) ≡ Some set) ps → first_asked ps w.seats ≡ Some set
  first_so [] set p is all = absurd (false≢true is)
  first_so (q ∷ qs) set p is all = all.0

  agreed_so : (set : List ℕ) → IsAgreedOn m w set → drawn_between m w ≡ Some set
  agreed_so set h =
      ap (where_agreed ps w.seats) (first_so ps set h.survivor.0 (is_alive h.survivor.0 h.survivor.1) (all_weaker (IsSurvivor m w) (λ q. asked ps (vote_of w.seats q) ≡ Some set) ps each all_alive))
      ∙ ap (λ (b : Bool). cond b (Some set) None) (both_hold (list_all (λ p. is_set set (asked ps (vote_of w.seats p))) ps) (list_all (λ p. is_among p ps) set)
      (tests_all (IsSurvivor m w) (λ p. is_set set (asked ps (vote_of w.seats p))) ps (λ p s. ap (is_set set) (each p s) ∙ names_tell.self set) all_alive)
      (tests_all (IsSurvivor m w) (λ p. is_among p ps) set is_alive h.survive))
    where
      ps : List ℕ
      ps = survivors m w.public.board

      each : (p : ℕ) → IsSurvivor m w p → asked ps (vote_of w.seats p) ≡ Some set
      each p s = asks_so set (vote_of w.seats p) (h.asked p s)

      both_hold : (a b : Bool) → a ≡ true → b ≡ true → (a && b) ≡ true
      both_hold true b is on = on
      both_hold false b is on = absurd (cc)

-- no phase ends in a draw
plays_none : (course : Course) (set : List ℕ) → status_after course ≡ Drawn set → ⊥
plays_none GoesOn set is = cc
plays_none (WonBy power) set is = cc
plays_none AtAnEnd set is = cc

pub draws_agreed : (m : Chart) → DrawsAreAgreed m
draws_agreed m tick w true due v set h = (λ draws. absurd (subst (Draws set) h draws), λ on. absurd (false≢true (sym on.0)))
draws_agreed m tick w false false v set h = (λ draws. absurd (subst (Draws set) h draws), λ on. absurd (false≢true on.1))
draws_agreed m tick w false true v set h = go (drawn_between m w) refl h
  where
    go : (o : Option (List ℕ)) → drawn_between m w ≡ o → OnTime m tick w o v → Draws set v ↔ ((false ≡ false) × (true ≡ true) × IsAgreedOn m w set)
    go (Some found) at is = (
      λ draws.
          let same : Drawn found ≡ Drawn set = subst (Draws set) is draws in
          let it : found ≡ set = cc in
          (refl, refl, drawn_so m w set (at ∙ ap (λ (ps : List ℕ). Some ps) it)),
      λ on.
          let both : Some found ≡ Some set = sym at ∙ agreed_so m w set on.2 in
          let it : found ≡ set = cc in
          subst (Draws set) (sym is) (ap (λ (ps : List ℕ). Drawn ps) it),
    )
    go None at is = (
      λ draws. absurd (plays_none is.report.course set (subst (Draws set) is.verdict draws)),
      λ on. let bad : ◌≡◌ {A = Option (List ℕ)} None (Some set) = sym at ∙ agreed_so m w set on.2 in absurd (cc),
    )
