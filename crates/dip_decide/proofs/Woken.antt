-- Who mentions a decision is among those that it wakes.
use Rattle.std.proofs.Common.{◌≡◌, ℕ, List, [], ◌∷◌, ◌++◌, refl, sym, subst, ◌∙◌, inl, inr}
use Rattle.std.specs.Prelude.{true, false, not, ◌&&◌, ◌||◌, Option, None, Some}
use Rattle.std.specs.List.{list_any}
use Rattle.std.proofs.lemmas.Bool.{eqb-true, both_ways, or_cases, or_left, or_right, and_parts, and_from}
use mathlib.Core.Logic.{◌⊎◌}
use Rattle.dip_decide_rules.specs.declared.decisions.Decision.{Decision}
use Rattle.dip_decide_rules.specs.declared.decisions.Decision.TheVariants.{Move, Path, Support}
use Rattle.dip_decide_rules.specs.declared.placed.Table.{Table}
use Rattle.dip_decide_rules.specs.Deciding.{same, is_among}
use Rattle.dip_decide_rules.specs.Given.{situation_of}
use Rattle.dip_decide_rules.specs.Matching.{target_of}
use Rattle.dip_decide_rules.specs.Movement.{IsSituation, goes, has_move, head_to_head, is_at, mentions, move_mentions}
use Rattle.dip_decide_rules.specs.Placed.{backed_of, entry, carried_of, keyed_by}
use Rattle.dip_decide.specs.Waking.{moves_into, past_support, woken}
use Rattle.dip_decide_rules.proofs.OneAnswer.{same_self}
use Rattle.dip_decide_rules.proofs.Progress.{is_at_is, at_is, find}
use Rattle.dip_decide_rules.proofs.RingLaws.{among_moves}
use Rattle.dip_decide_rules.proofs.ChainLaws.{listed_kept}
use Rattle.dip_decide_rules.proofs.Among.{convoys_carried}
use Rattle.dip_decide_rules.proofs.Backing.{backs}

among_left : (d : Decision) (ds es : List Decision) → is_among d ds ≡ true → is_among d (ds ++ es) ≡ true
among_left d [] es h = absurd (both_ways false refl h)
among_left d (x ∷ ds) es h = go (or_cases _ _ h) (among_left d ds es)
  where
    go : (same d x ≡ true) ⊎ (is_among d ds ≡ true) → (is_among d ds ≡ true → is_among d (ds ++ es) ≡ true) → is_among d ((x ∷ ds) ++ es) ≡ true
    go (inl e) _ = or_left _ _ e
    go (inr e) f = or_right (same d x) _ (f e)

among_right : (d : Decision) (ds es : List Decision) → is_among d es ≡ true → is_among d (ds ++ es) ≡ true
among_right d [] es h = h
among_right d (x ∷ ds) es h = or_right (same d x) _ (among_right d ds es h)

module _ (t : Table) (i : IsSituation (situation_of t)) where
  -- who goes to q is among the moves into it
  mover : (p q : ℕ) → goes (situation_of t) p q ≡ true → is_among (Move p) (moves_into t q) ≡ true
  mover p q g = among_moves (keyed_by target_of t.places.items t.rows.items q) p ∙ listed_kept (λ w. is_at (target_of (entry t.rows.items w)) q) t.places.items p ∙ and_from _ _ g (i.listed p q g)

  helper : (h p : ℕ) → (situation_of t).supports h p ≡ true → backed_of (entry t.rows.items) (entry t.rows.items h) ≡ Some p
  helper h p g = is_at_is _ p (backs (entry t.rows.items) (entry t.rows.items h) p ∙ g)

  carrier : (x p : ℕ) → (situation_of t).convoys x p ≡ true → carried_of (entry t.rows.items x) ≡ Some p
  carrier x p g = is_at_is _ p (convoys_carried t.map.now (entry t.rows.items) (entry t.rows.items x) p g)

  goer : (x h : ℕ) → goes (situation_of t) x h ≡ true → target_of (entry t.rows.items x) ≡ Some h
  goer x h g = is_at_is _ h g

  -- the moves to q
  move_woken : (p q : ℕ) → (situation_of t).target p ≡ Some q → (e : Decision) → move_mentions (situation_of t) p (Some q) e ≡ true → is_among (Move p) (woken t e) ≡ true
  move_woken p q o (Move r) h = among_left (Move p) (moves_into t r) _ (mover p r (subst (λ (x : ℕ). goes (situation_of t) p x ≡ true) (sym (eqb-true r q h)) (at_is _ q o)))
  move_woken p q o (Path w) h = rw (goer w q (and_parts _ _ h).0) (among_left (Move p) (moves_into t q) _ (mover p q (at_is _ q o)))
  move_woken p q o (Support h) m = go (or_cases _ _ m)
    where
      there : goes (situation_of t) p q ≡ true
      there = at_is _ q o

      go : (list_any (λ w. (situation_of t).supports h w && goes (situation_of t) w q) t.places.items ≡ true) ⊎ (((situation_of t).supports h q && (not (has_move (situation_of t) q) || head_to_head (situation_of t) p q)) ≡ true) → is_among (Move p) (past_support t (backed_of (entry t.rows.items) (entry t.rows.items h))) ≡ true
      go (inl a) =
          let f = find (λ w. (situation_of t).supports h w && goes (situation_of t) w q) t.places.items a in
          let b = and_parts _ _ f.passes in
          rw (helper h f.one b.0, goer f.one q b.1) (among_right (Move p) (moves_into t f.one) _ (mover p q there))
      go (inr a) = rw (helper h q (and_parts _ _ a).0) (among_left (Move p) (moves_into t q) _ (mover p q there))

  pub all_woken : (d e : Decision) → mentions (situation_of t) d e ≡ true → is_among d (woken t e) ≡ true
  all_woken (Move p) e m = go ((situation_of t).target p) refl m
    where
      go : (o : Option ℕ) → (situation_of t).target p ≡ o → move_mentions (situation_of t) p o e ≡ true → is_among (Move p) (woken t e) ≡ true
      go None o h = absurd (both_ways false refl h)
      go (Some q) o h = move_woken p q o e h
  all_woken (Support h) (Path x) m = rw (goer x h (and_parts _ _ (and_parts _ _ m).0).0) (among_right (Support h) (moves_into t h) _ (or_left _ _ (same_self (Support h))))
  all_woken (Support h) (Move x) m = among_right (Support h) (moves_into t x) _ (rw (goer x h (and_parts _ _ (and_parts _ _ m).0).0) (or_left _ _ (same_self (Support h))))
  all_woken (Support h) (Support x) m = absurd (both_ways false refl m)
  all_woken (Path p) (Move x) m =
      let f = find (λ y. (situation_of t).convoys y p && goes (situation_of t) x y) t.places.items m in
      let b = and_parts _ _ f.passes in
      among_right (Path p) (moves_into t x) _ (rw (goer x f.one b.1, carrier f.one p b.0) (or_right false _ (or_left _ _ (same_self (Path p)))))
  all_woken (Path p) (Path x) m = absurd (both_ways false refl m)
  all_woken (Path p) (Support x) m = absurd (both_ways false refl m)
