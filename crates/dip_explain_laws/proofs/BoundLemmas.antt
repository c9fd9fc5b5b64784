-- Strengths between the least completion and the greatest.
use Rattle.std.proofs.Common.{◌≡◌, ℕ, ◌≤◌, subst, refl, inl, inr, arith}
use Rattle.std.specs.Prelude.{◌==◌, Bool, true, false, not, if◌then◌else◌}
use Rattle.std.proofs.lemmas.Bool.{cases_Bool, both_ways, and_parts, and_from, eqb-true, eq-eqb}
use mathlib.Core.Logic.{◌⊎◌}
use Rattle.dip_decide_rules.specs.declared.decisions.Decision.TheVariants.{Move, Path, Support}
use Rattle.dip_decide_rules.specs.Corners.{corner, rises}
use Rattle.dip_decide_rules.specs.Deciding.{Assignment, IsCompletion, Known}
use Rattle.dip_decide_rules.specs.Movement.{IsSituation, Situation, attack, defend, goes, has_move, has_path, head_to_head, hold, is_listed, opposition, prevent, support, support_against}
use Rattle.dip_decide_rules.proofs.CornerLaws.{Higher, above_least, below_greatest}
use Rattle.dip_decide_rules.proofs.Rises.{attack_le, count_le, hold_le, path_le, prevent_le}
use Rattle.dip_explain_strengths.specs.Matters.{Matter, here, there}
use Rattle.dip_explain_strengths.specs.StrengthTexts.{attack_strength, opposition_strength, prevent_strength, strength_text}
use Rattle.dip_explain_lines.specs.Lines.{rivals}
use Rattle.dip_explain_laws.specs.Words.{IsOfMove, IsSaid}
use Rattle.dip_explain_laws.specs.Words.IsSaid.{just, at_least, at_most}
use Rattle.dip_explain_laws.proofs.MoveLemmas.{rival_parts}

-- where the decisions with which a move rises are at least so, and the others at most, its attack is at least so, and what is against it at most
module _ (s : Situation) (i : IsSituation s) (p q : ℕ) (g : goes s p q ≡ true) (a b : Assignment) (h : Higher (λ e. true) (rises s (Move p)) a b) where
  support_up : support s a p ≤ support s b p
  support_up = count_le _ _ s.places (λ x e. let f = and_parts _ _ e in and_from _ _ f.0 (h.up (Support x) refl f.0 f.1))

  against_up : (v : ℕ) → support_against s a p v ≤ support_against s b p v
  against_up v = count_le _ _ s.places (λ x e. let d = and_parts _ _ e in let f = and_parts _ _ d.0 in and_from _ _ (and_from _ _ f.0 (h.up (Support x) refl f.0 f.1)) d.1)

  against_le : (v : ℕ) → support_against s a p v ≤ support s a p
  against_le v = count_le _ _ s.places (λ x e. (and_parts _ _ e).0)

  not_helped : (w x : ℕ) → (w == p) ≡ false → s.supports x w ≡ true → s.supports x p ≡ false
  not_helped w x n e = go (cases_Bool (s.supports x p))
    where
      go : (s.supports x p ≡ true) ⊎ (s.supports x p ≡ false) → s.supports x p ≡ false
      go (inr f) = f
      go (inl f) = absurd (both_ways _ n (eq-eqb w p (i.one_helped x w p e f)))

  support_down : (w : ℕ) → (w == p) ≡ false → support s b w ≤ support s a w
  support_down w n = count_le _ _ s.places (λ x e. let f = and_parts _ _ e in and_from _ _ f.0 (h.down (Support x) refl (not_helped w x n f.0) f.1))

  other : (q == p) ≡ false
  other = go (cases_Bool (q == p))
    where
      go : ((q == p) ≡ true) ⊎ ((q == p) ≡ false) → (q == p) ≡ false
      go (inr f) = f
      go (inl f) = absurd (both_ways _ (i.elsewhere p) (subst (λ (x : ℕ). goes s p x ≡ true) (eqb-true q p f) g))

  leaves : a (Move q) ≡ true → b (Move q) ≡ true
  leaves = h.up (Move q) refl g

  pub attack_up : attack s a p q ≤ attack s b p q
  attack_up = attack_le (has_path s a p) (has_path s b p) (s.is_occupied q) (a (Move q)) (b (Move q)) (head_to_head s p q) (s.same_power p q) (support s a p) (support s b p) (support_against s a p q) (support_against s b p q)
      (path_le (s.convoyed p) (a (Path p)) (b (Path p)) (λ _. h.up (Path p) refl (eq-eqb p p refl))) leaves support_up (against_up q) (against_le q)

  pub prevent_down : (w : ℕ) → (w == p) ≡ false → prevent s b w q ≤ prevent s a w q
  prevent_down w n = prevent_le (has_path s a w) (has_path s b w) (head_to_head s w q) (a (Move q)) (b (Move q)) (support s a w) (support s b w)
      (path_le (s.convoyed w) (b (Path w)) (a (Path w)) (λ _. h.down (Path w) refl n)) leaves (support_down w n)

  pub opposition_down : opposition s b p q ≤ opposition s a p q
  opposition_down = go (head_to_head s p q) (support_down q other)
    where
      go : (meets : Bool) → support s b q ≤ support s a q → (if meets then defend s b q else hold s b q) ≤ (if meets then defend s a q else hold s a q)
      go true l = omega arith
      go false l = hold_le (s.is_occupied q) (a (Move q)) (b (Move q)) (has_move s q) (support s a q) (support s b q) leaves (λ _. l)

-- a value is at least what it is here, or at most; and the same where both completions have the same
record AreBounds (least : Bool) (here there value : ℕ) : Type 0 where
  just : here ≡ there → value ≡ here
  at_least : least ≡ true → here ≤ value
  at_most : least ≡ false → value ≤ here

-- so it is as the text says
said : (least : Bool) (here there value : ℕ) → AreBounds least here there value → IsSaid (strength_text least here there) here value
unfolding strength_text
said least here there value b = go (cases_Bool (here == there)) (cases_Bool least)
  where
    go : ((here == there) ≡ true) ⊎ ((here == there) ≡ false) → (least ≡ true) ⊎ (least ≡ false) → IsSaid (strength_text least here there) here value
    go (inl e) _ = just (rw e refl) (b.just (eqb-true here there e))
    go (inr e) (inl l) = at_least (rw (e, l) refl) (b.at_least l)
    go (inr e) (inr l) = at_most (rw (e, l) refl) (b.at_most l)

-- what rises from the least completion to the greatest is at least so at the least one, and at most so at the greatest
rising : (high : Bool) (at : Bool → ℕ) (value : ℕ) → at false ≤ value → value ≤ at true → AreBounds (not high) (at high) (at (not high)) value
rising false at value l m = record { just = λ e. omega arith; at_least = λ _. l; at_most = λ n. absurd (both_ways true n refl) }
rising true at value l m = record { just = λ e. omega arith; at_least = λ n. absurd (both_ways false refl n); at_most = λ _. m }

-- and the other way round of what falls
falling : (high : Bool) (at : Bool → ℕ) (value : ℕ) → at true ≤ value → value ≤ at false → AreBounds high (at high) (at (not high)) value
falling false at value l m = record { just = λ e. omega arith; at_least = λ n. absurd (both_ways false refl n); at_most = λ _. m }
falling true at value l m = record { just = λ e. omega arith; at_least = λ _. l; at_most = λ n. absurd (both_ways true n refl) }

module _ (s : Situation) (i : IsSituation s) (p q : ℕ) (g : goes s p q ≡ true) (k : Known) (f : Assignment) (c : IsCompletion k f) where
  low : Higher (λ e. true) (rises s (Move p)) (corner (rises s (Move p)) k false) f
  low = above_least (λ e. true) (rises s (Move p)) k f c

  high : Higher (λ e. true) (rises s (Move p)) f (corner (rises s (Move p)) k true)
  high = below_greatest (λ e. true) (rises s (Move p)) k f c

  attack_bounds : (b : Bool) → AreBounds (not b) (attack s (corner (rises s (Move p)) k b) p q) (attack s (corner (rises s (Move p)) k (not b)) p q) (attack s f p q)
  attack_bounds b = rising b (λ x. attack s (corner (rises s (Move p)) k x) p q) _ (attack_up s i p q g _ f low) (attack_up s i p q g f _ high)

  opposition_bounds : (b : Bool) → AreBounds b (opposition s (corner (rises s (Move p)) k b) p q) (opposition s (corner (rises s (Move p)) k (not b)) p q) (opposition s f p q)
  opposition_bounds b = falling b (λ x. opposition s (corner (rises s (Move p)) k x) p q) _ (opposition_down s i p q g f _ high) (opposition_down s i p q g _ f low)

  prevent_bounds : (w : ℕ) → (w == p) ≡ false → (b : Bool) → AreBounds b (prevent s (corner (rises s (Move p)) k b) w q) (prevent s (corner (rises s (Move p)) k (not b)) w q) (prevent s f w q)
  prevent_bounds w n b = falling b (λ x. prevent s (corner (rises s (Move p)) k x) w q) _ (prevent_down s i p q g f _ high w n) (prevent_down s i p q g _ f low w n)

-- of the move that a line is about
module _ (c : Matter) (p q : ℕ) (f : Assignment) (i : IsSituation c.situation) (o : IsOfMove c p q) (k : IsCompletion c.known f) where
  there_it_goes : goes c.situation p q ≡ true
  there_it_goes = rw o.goes (eq-eqb q q refl)

  pub attack_told : IsSaid (attack_strength c p q) (attack c.situation (here c) p q) (attack c.situation f p q)
  unfolding attack_strength
  attack_told = said (not c.high) _ _ _ bounds
    where
      bounds : AreBounds (not c.high) (attack c.situation (here c) p q) (attack c.situation (there c) p q) (attack c.situation f p q)
      bounds = rw o.move (attack_bounds c.situation i p q there_it_goes c.known f k c.high)

  pub opposition_told : IsSaid (opposition_strength c p q) (opposition c.situation (here c) p q) (opposition c.situation f p q)
  unfolding opposition_strength
  opposition_told = said c.high _ _ _ bounds
    where
      bounds : AreBounds c.high (opposition c.situation (here c) p q) (opposition c.situation (there c) p q) (opposition c.situation f p q)
      bounds = rw o.move (opposition_bounds c.situation i p q there_it_goes c.known f k c.high)

  pub prevent_told : (w : ℕ) → is_listed (rivals c.situation p q) w ≡ true → IsSaid (prevent_strength c q w) (prevent c.situation (here c) w q) (prevent c.situation f w q)
  unfolding prevent_strength
  prevent_told w r = said c.high _ _ _ bounds
    where
      bounds : AreBounds c.high (prevent c.situation (here c) w q) (prevent c.situation (there c) w q) (prevent c.situation f w q)
      bounds = rw o.move (prevent_bounds c.situation i p q there_it_goes c.known f k w (rival_parts c.situation p q w r).0 c.high)
