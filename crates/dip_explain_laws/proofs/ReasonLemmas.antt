-- Why nobody makes up a strength of 0.
use Rattle.std.proofs.Common.{◌≡◌, ◌∙◌, ℕ, ◌+◌, ◌++◌, List, [], refl, inl, inr, arith}
use Rattle.std.specs.Prelude.{Bool, true, false, not, ◌&&◌, ◌||◌, codes, if◌then◌else◌}
use mathlib.Core.Logic.{◌⊎◌}
use Rattle.dip_decide_rules.specs.declared.decisions.Decision.TheVariants.{Move}
use Rattle.dip_decide_rules.specs.Deciding.{Assignment}
use Rattle.dip_decide_rules.specs.Movement.{attack, has_move, has_path, head_to_head, opposition, prevent, support, support_against}
use Rattle.dip_explain_strengths.specs.Matters.{Matter, here, unit_in}
use Rattle.dip_explain_strengths.specs.StrengthTexts.{alone_text, attackers_text, backed_against_text, backed_text, holders_text, leaver_text, loser_text, opponents_text, own_text, own_way_text, own_way_words, own_words, pathless, pathless_words, preventers_text, since_text}
use Rattle.dip_explain_laws.specs.Words.{AttackedByNone, OpposedByNone, PreventedByNone}
use Rattle.dip_explain_laws.specs.Words.AttackedByNone.{met, stopped, stranded}
use Rattle.dip_explain_laws.specs.Words.OpposedByNone.{empty, left}
use Rattle.dip_explain_laws.specs.Words.PreventedByNone.{lost, stranded as routeless}

-- over plain values: where the number is 0, which text stands, and why

no_attack_by : (path there leaves meets own : Bool) (n f : ℕ) (w x y z : List ℕ)
    → (if not path then 0 else if not there || (leaves && not meets) then 1 + n else if own then 0 else 1 + f) ≡ 0
    → ((path ≡ false) × ((if not path then w else if not there || (leaves && not meets) then x else if own then y else z) ≡ w))
    ⊎ (((own ≡ true) × ((meets ≡ true) ⊎ ((meets ≡ false) × (leaves ≡ false)))) × ((if not path then w else if not there || (leaves && not meets) then x else if own then y else z) ≡ y))
no_attack_by false there leaves meets own n f w x y z e = inl (refl, refl)
no_attack_by true false leaves meets own n f w x y z e = absurd (omega arith)
no_attack_by true true true false own n f w x y z e = absurd (omega arith)
no_attack_by true true true true true n f w x y z e = inr ((refl, inl refl), refl)
no_attack_by true true true true false n f w x y z e = absurd (omega arith)
no_attack_by true true false true true n f w x y z e = inr ((refl, inl refl), refl)
no_attack_by true true false true false n f w x y z e = absurd (omega arith)
no_attack_by true true false false true n f w x y z e = inr ((refl, inr (refl, refl)), refl)
no_attack_by true true false false false n f w x y z e = absurd (omega arith)

no_opposition_by : (meets there leaves moves : Bool) (n : ℕ) (x y z : List ℕ)
    → (if meets then 1 + n else if not there || leaves then 0 else if moves then 1 else 1 + n) ≡ 0
    → ((there ≡ false) × ((if meets then z else if not there then [] else if leaves then x else if moves then y else z) ≡ []))
    ⊎ ((leaves ≡ true) × ((if meets then z else if not there then [] else if leaves then x else if moves then y else z) ≡ x))
no_opposition_by true there leaves moves n x y z e = absurd (omega arith)
no_opposition_by false false leaves moves n x y z e = inl (refl, refl)
no_opposition_by false true true moves n x y z e = inr (refl, refl)
no_opposition_by false true false true n x y z e = absurd (omega arith)
no_opposition_by false true false false n x y z e = absurd (omega arith)

no_prevent_by : (path meets leaves : Bool) (n : ℕ) (x y z : List ℕ)
    → (if not path || (meets && leaves) then 0 else 1 + n) ≡ 0
    → ((path ≡ false) × ((if not path then x else if meets && leaves then y else z) ≡ x))
    ⊎ ((meets ≡ true) × (leaves ≡ true) × ((if not path then x else if meets && leaves then y else z) ≡ y))
no_prevent_by false meets leaves n x y z e = inl (refl, refl)
no_prevent_by true true true n x y z e = inr (refl, refl, refl)
no_prevent_by true true false n x y z e = absurd (omega arith)
no_prevent_by true false leaves n x y z e = absurd (omega arith)

module _ (c : Matter) where
  own_meets : (p q : ℕ) → head_to_head c.situation p q ≡ true → own_text c p q ≡ codes ", since " ++ unit_in c q ++ codes ", of its own power, comes the other way"
  unfolding own_text since_text own_way_text own_way_words own_words
  own_meets p q h = rw h refl

  own_stays : (p q : ℕ) → head_to_head c.situation p q ≡ false → own_text c p q ≡ codes ", since " ++ unit_in c q ++ codes ", of its own power, stays there"
  unfolding own_text since_text own_way_text own_way_words own_words
  own_stays p q h = rw h refl

  pub no_attack : (a : Assignment) (p q : ℕ) → (has_path c.situation (here c) p ≡ false → has_path c.situation a p ≡ false) → (here c (Move q) ≡ false → a (Move q) ≡ false)
      → attack c.situation (here c) p q ≡ 0 → AttackedByNone c a p q
  unfolding attackers_text
  no_attack a p q way stay none =
      go (no_attack_by (has_path c.situation (here c) p) (c.situation.is_occupied q) (here c (Move q)) (head_to_head c.situation p q) (c.situation.same_power p q)
      (support c.situation (here c) p) (support_against c.situation (here c) p q) (codes ", since it has no route") (backed_text c p) (own_text c p q) (backed_against_text c p q) none)
    where
      go : ((has_path c.situation (here c) p ≡ false) × (attackers_text c p q ≡ codes ", since it has no route"))
          ⊎ (((c.situation.same_power p q ≡ true) × ((head_to_head c.situation p q ≡ true) ⊎ ((head_to_head c.situation p q ≡ false) × (here c (Move q) ≡ false)))) × (attackers_text c p q ≡ own_text c p q))
          → AttackedByNone c a p q
      go (inl h) = stranded (way h.0) h.1
      go (inr h) = which h.0.1
        where
          which : (head_to_head c.situation p q ≡ true) ⊎ ((head_to_head c.situation p q ≡ false) × (here c (Move q) ≡ false)) → AttackedByNone c a p q
          which (inl t) = met h.0.0 t (h.1 ∙ own_meets p q t)
          which (inr t) = stopped h.0.0 (stay t.1) (h.1 ∙ own_stays p q t.0)

  pub no_opposition : (a : Assignment) (p q : ℕ) → (here c (Move q) ≡ true → a (Move q) ≡ true) → opposition c.situation (here c) p q ≡ 0 → OpposedByNone c a p q
  unfolding opponents_text holders_text leaver_text
  no_opposition a p q leave none =
      go (no_opposition_by (head_to_head c.situation p q) (c.situation.is_occupied q) (here c (Move q)) (has_move c.situation q) (support c.situation (here c) q) (leaver_text c q) (alone_text c q) (backed_text c q) none)
    where
      go : ((c.situation.is_occupied q ≡ false) × (opponents_text c p q ≡ [])) ⊎ ((here c (Move q) ≡ true) × (opponents_text c p q ≡ leaver_text c q)) → OpposedByNone c a p q
      go (inl h) = empty h.0 h.1
      go (inr h) = left (leave h.0) h.1

  pub no_prevent : (a : Assignment) (q w : ℕ) → (has_path c.situation (here c) w ≡ false → has_path c.situation a w ≡ false) → (here c (Move q) ≡ true → a (Move q) ≡ true)
      → prevent c.situation (here c) w q ≡ 0 → PreventedByNone c a q w
  unfolding preventers_text pathless pathless_words loser_text
  no_prevent a q w way leave none =
      go (no_prevent_by (has_path c.situation (here c) w) (head_to_head c.situation w q) (here c (Move q)) (support c.situation (here c) w) (pathless c w) (loser_text c q w) (backed_text c w) none)
    where
      go : ((has_path c.situation (here c) w ≡ false) × (preventers_text c q w ≡ pathless c w))
          ⊎ ((head_to_head c.situation w q ≡ true) × (here c (Move q) ≡ true) × (preventers_text c q w ≡ loser_text c q w)) → PreventedByNone c a q w
      go (inl h) = routeless (way h.0) h.1
      go (inr h) = lost h.0 (leave h.1) h.2
