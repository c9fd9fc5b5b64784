-- Strengths as lengths, and whose supports count.
use Rattle.std.proofs.Common.{◌≡◌, ◌∙◌, ℕ, ◌+◌, List, [], ◌∷◌, length, refl, inl, inr, arith}
use Rattle.std.specs.Prelude.{Bool, true, false, not, ◌&&◌, ◌||◌, if◌then◌else◌}
use Rattle.std.proofs.lemmas.Bool.{cases_Bool, both_ways, and_parts}
use mathlib.Core.Logic.{◌⊎◌}
use Rattle.dip_map.specs.Charts.{are_provs_single}
use Rattle.dip_decide_rules.specs.Deciding.{Assignment}
use Rattle.dip_decide_rules.specs.Movement.{Situation, IsSituation, attack, goes, hold, has_move, has_path, head_to_head, is_listed, opposition, prevent, support, support_against}
use Rattle.dip_decide_rules.specs.declared.decisions.Decision.TheVariants.{Move, Support}
use Rattle.dip_explain_strengths.specs.Strengths.{attackers, backers, backers_against, backs, backs_against, holders, is_free, is_left_out, is_left_out_against, left_out, left_out_against, opponents, preventers}
use Rattle.dip_explain_laws.proofs.ListLemmas.{counted, kept_single, passing}

module _ (s : Situation) (a : Assignment) where
  backing : (p : ℕ) → support s a p ≡ length (backers s a p)
  unfolding backs
  backing p = counted (backs s a p) s.places

  backing_against : (p q : ℕ) → support_against s a p q ≡ length (backers_against s a p q)
  unfolding backs backs_against
  backing_against p q = counted (backs_against s a p q) s.places

  pub hold_counts : (q : ℕ) → hold s a q ≡ length (holders s a q)
  hold_counts q = go (not (s.is_occupied q) || a (Move q)) (has_move s q) (backing q)
    where
      go : (gone move : Bool) → support s a q ≡ length (backers s a q)
          → (if gone then 0 else if move then 1 else 1 + support s a q) ≡ length (if gone then [] else if move then q ∷ [] else q ∷ backers s a q)
      go true move e = refl
      go false true e = refl
      go false false e = omega arith

  pub attack_counts : (p q : ℕ) → attack s a p q ≡ length (attackers s a p q)
  attack_counts p q = go (not (has_path s a p)) (not (s.is_occupied q) || (a (Move q) && not (head_to_head s p q))) (s.same_power p q) (backing p) (backing_against p q)
    where
      go : (stuck free own : Bool) → support s a p ≡ length (backers s a p) → support_against s a p q ≡ length (backers_against s a p q)
          → (if stuck then 0 else if free then 1 + support s a p else if own then 0 else 1 + support_against s a p q)
          ≡ length (if stuck then [] else if free then p ∷ backers s a p else if own then [] else p ∷ backers_against s a p q)
      go true free own e f = refl
      go false true own e f = omega arith
      go false false true e f = refl
      go false false false e f = omega arith

  pub opposition_counts : (p q : ℕ) → opposition s a p q ≡ length (opponents s a p q)
  opposition_counts p q = go (head_to_head s p q) (backing q) (hold_counts q)
    where
      go : (meets : Bool) → support s a q ≡ length (backers s a q) → hold s a q ≡ length (holders s a q)
          → (if meets then 1 + support s a q else hold s a q) ≡ length (if meets then q ∷ backers s a q else holders s a q)
      go true e f = omega arith
      go false e f = f

  pub prevent_counts : (p q : ℕ) → prevent s a p q ≡ length (preventers s a p q)
  prevent_counts p q = go (not (has_path s a p) || (head_to_head s p q && a (Move q))) (backing p)
    where
      go : (none : Bool) → support s a p ≡ length (backers s a p) → (if none then 0 else 1 + support s a p) ≡ length (if none then [] else p ∷ backers s a p)
      go true e = refl
      go false e = omega arith

module _ (s : Situation) (i : IsSituation s) (a : Assignment) where
  pub backer : (p h : ℕ) → is_listed (backers s a p) h ≡ (s.supports h p && a (Support h))
  unfolding backs
  backer p h = passing (backs s a p) s.places h (λ e. i.helper_listed h p (and_parts _ _ e).0)

  pub backer_against : (p q h : ℕ) → is_listed (backers_against s a p q) h ≡ ((s.supports h p && a (Support h)) && not (s.same_power h q))
  unfolding backs backs_against
  backer_against p q h = passing (backs_against s a p q) s.places h (λ e. i.helper_listed h p (and_parts _ _ (and_parts _ _ e).0).0)

  pub unsupporting : (p h : ℕ) → is_listed (left_out s a p) h ≡ (s.supports h p && not (a (Support h)))
  unfolding backs is_left_out
  unsupporting p h = passing (is_left_out s a p) s.places h (λ e. i.helper_listed h p (and_parts _ _ e).0) ∙ go (s.supports h p) (a (Support h))
    where
      go : (x y : Bool) → (x && not (x && y)) ≡ (x && not y)
      go true y = refl
      go false y = refl

  pub unsupporting_against : (p q h : ℕ) → is_listed (left_out_against s a p q) h ≡ (s.supports h p && (not (a (Support h)) || s.same_power h q))
  unfolding backs backs_against is_left_out_against
  unsupporting_against p q h = passing (is_left_out_against s a p q) s.places h (λ e. i.helper_listed h p (and_parts _ _ e).0) ∙ go (s.supports h p) (a (Support h)) (s.same_power h q)
    where
      go : (x y z : Bool) → (x && not ((x && y) && not z)) ≡ (x && (not y || z))
      go true true true = refl
      go true true false = refl
      go true false z = refl
      go false y z = refl

  pub parted : (p h : ℕ) → s.supports h p ≡ true → is_listed (left_out s a p) h ≡ not (is_listed (backers s a p) h)
  parted p h e = unsupporting p h ∙ rw (backer p h, e) refl

  pub parted_against : (p q h : ℕ) → s.supports h p ≡ true → is_listed (left_out_against s a p q) h ≡ not (is_listed (backers_against s a p q) h)
  parted_against p q h e = unsupporting_against p q h ∙ rw (backer_against p q h, e) (go (a (Support h)) (s.same_power h q))
    where
      go : (y z : Bool) → (not y || z) ≡ not (y && not z)
      go true true = refl
      go true false = refl
      go false z = refl

-- no unit is counted twice

module _ (s : Situation) (i : IsSituation s) (a : Assignment) where
  -- whoever isn't a supporter of its own is counted once
  single : (p : ℕ) (hs : List ℕ) → are_provs_single hs ≡ true → is_listed hs p ≡ false → are_provs_single (p ∷ hs) ≡ true
  single p hs h n = rw (n, h) refl

  not_its_own : (p : ℕ) → s.supports p p ≡ false → is_listed (backers s a p) p ≡ false
  not_its_own p n = backer s i a p p ∙ rw n refl

  backers_single : (p : ℕ) → s.supports p p ≡ false → are_provs_single (p ∷ backers s a p) ≡ true
  backers_single p n = single p (backers s a p) (kept_single (backs s a p) s.places i.distinct) (not_its_own p n)

  against_single : (p q : ℕ) → s.supports p p ≡ false → are_provs_single (p ∷ backers_against s a p q) ≡ true
  against_single p q n = single p (backers_against s a p q) (kept_single (backs_against s a p q) s.places i.distinct) (backer_against s i a p q p ∙ rw n refl)

  -- a unit that moves supports nobody
  mover_alone : (p q : ℕ) → goes s p q ≡ true → s.supports p p ≡ false
  mover_alone p q g = go (cases_Bool (s.supports p p))
    where
      go : (s.supports p p ≡ true) ⊎ (s.supports p p ≡ false) → s.supports p p ≡ false
      go (inr n) = n
      go (inl y) = absurd (both_ways _ refl (rw (i.helper_stays p p y) at g))

  pub attackers_single : (p q : ℕ) → goes s p q ≡ true → are_provs_single (attackers s a p q) ≡ true
  attackers_single p q g = go (not (has_path s a p)) (is_free s a p q) (s.same_power p q) (mover_alone p q g)
    where
      go : (stuck free its : Bool) → s.supports p p ≡ false
          → are_provs_single (if stuck then [] else if free then p ∷ backers s a p else if its then [] else p ∷ backers_against s a p q) ≡ true
      go true free its n = refl
      go false true its n = backers_single p n
      go false false true n = refl
      go false false false n = against_single p q n

  pub preventers_single : (p q : ℕ) → goes s p q ≡ true → are_provs_single (preventers s a p q) ≡ true
  preventers_single p q g = go (not (has_path s a p) || (head_to_head s p q && a (Move q))) (mover_alone p q g)
    where
      go : (none : Bool) → s.supports p p ≡ false → are_provs_single (if none then [] else p ∷ backers s a p) ≡ true
      go true n = refl
      go false n = backers_single p n

  pub opponents_single : (p q : ℕ) → s.supports q q ≡ false → are_provs_single (opponents s a p q) ≡ true
  opponents_single p q n = go (head_to_head s p q) (not (s.is_occupied q) || a (Move q)) (has_move s q)
    where
      go : (meets gone moves : Bool) → are_provs_single (if meets then q ∷ backers s a q else if gone then [] else if moves then q ∷ [] else q ∷ backers s a q) ≡ true
      go true gone moves = backers_single q n
      go false true moves = refl
      go false false true = refl
      go false false false = backers_single q n
