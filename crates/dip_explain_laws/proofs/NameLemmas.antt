-- The units that a text names.
use Rattle.std.proofs.Common.{◌≡◌, ◌∙◌, ℕ, ◌≤◌, ◌+◌, ◌++◌, List, [], ◌∷◌, ap, refl, sym, arith}
use Rattle.std.proofs.lemmas.List.{append-nil}
use Rattle.std.specs.Prelude.{Bool, true, false, not, ◌&&◌, ◌||◌, codes, if◌then◌else◌}
use Rattle.dip_decide_rules.specs.declared.decisions.Decision.TheVariants.{Move}
use Rattle.dip_decide_rules.specs.Movement.{attack, has_move, has_path, head_to_head, opposition, prevent, support, support_against}
use Rattle.dip_explain_strengths.specs.Matters.{Matter, here, unit_in}
use Rattle.dip_explain_strengths.specs.StrengthTexts.{alone_text, attackers_text, backed_against_text, backed_text, holders_text, lack_against_text, lack_text, leaver_text, left_out_against_text, left_out_text, loser_text, opponents_text, own_text, pathless, preventers_text}
use Rattle.dip_explain_strengths.specs.Strengths.{attackers, backers, backers_against, left_out, left_out_against, opponents, preventers}
use Rattle.dip_explain_laws.specs.Words.{attack_lack, missing_attackers, missing_opponents, named_text}

module _ (c : Matter) where
  -- a unit with its supporters
  backed : (p : ℕ) → backed_text c p ≡ named_text c (p ∷ backers c.situation (here c) p) (left_out c.situation (here c) p) (lack_text c)
  unfolding backed_text left_out_text
  backed p = refl

  backed_against : (p q : ℕ) → backed_against_text c p q ≡ named_text c (p ∷ backers_against c.situation (here c) p q) (left_out_against c.situation (here c) p q) (lack_against_text c q)
  unfolding backed_against_text left_out_against_text
  backed_against p q = refl

  alone : (q : ℕ) → alone_text c q ≡ named_text c (q ∷ []) [] (lack_text c)
  unfolding alone_text
  alone q = ap (λ (t : List ℕ). t ++ codes ")") (sym (append-nil (codes " (" ++ unit_in c q)) ∙ sym (append-nil ((codes " (" ++ unit_in c q) ++ [])))

  -- who attacks
  pub attackers_named : (p q : ℕ) → 1 ≤ attack c.situation (here c) p q
      → attackers_text c p q ≡ named_text c (attackers c.situation (here c) p q) (missing_attackers c p q) (attack_lack c p q)
  unfolding attackers_text
  attackers_named p q some =
      go (not (has_path c.situation (here c) p)) (not (c.situation.is_occupied q) || (here c (Move q) && not (head_to_head c.situation p q))) (c.situation.same_power p q) some
    where
      go : (stuck free own : Bool)
          → 1 ≤ (if stuck then 0 else if free then 1 + support c.situation (here c) p else if own then 0 else 1 + support_against c.situation (here c) p q)
          → (if stuck then codes ", since it has no route" else if free then backed_text c p else if own then own_text c p q else backed_against_text c p q)
          ≡ named_text c (if stuck then [] else if free then p ∷ backers c.situation (here c) p else if own then [] else p ∷ backers_against c.situation (here c) p q)
          (if free then left_out c.situation (here c) p else left_out_against c.situation (here c) p q) (λ h. if free then lack_text c h else lack_against_text c q h)
      go true free own some = absurd (omega arith)
      go false true own some = backed p
      go false false true some = absurd (omega arith)
      go false false false some = backed_against p q

  -- who sets itself against a move in its destination
  pub opponents_named : (p q : ℕ) → 1 ≤ opposition c.situation (here c) p q
      → opponents_text c p q ≡ named_text c (opponents c.situation (here c) p q) (missing_opponents c p q) (lack_text c)
  unfolding opponents_text holders_text
  opponents_named p q some = go (head_to_head c.situation p q) (not (c.situation.is_occupied q)) (here c (Move q)) (has_move c.situation q) some
    where
      go : (meets empty leaves moves : Bool)
          → 1 ≤ (if meets then 1 + support c.situation (here c) q else if empty || leaves then 0 else if moves then 1 else 1 + support c.situation (here c) q)
          → (if meets then backed_text c q else if empty then [] else if leaves then leaver_text c q else if moves then alone_text c q else backed_text c q)
          ≡ named_text c (if meets then q ∷ backers c.situation (here c) q else if empty || leaves then [] else if moves then q ∷ [] else q ∷ backers c.situation (here c) q)
          (if meets || not moves then left_out c.situation (here c) q else []) (lack_text c)
      go true empty leaves moves some = backed q
      go false true leaves moves some = absurd (omega arith)
      go false false true moves some = absurd (omega arith)
      go false false false true some = alone q
      go false false false false some = backed q

  -- who prevents others
  pub preventers_named : (q w : ℕ) → 1 ≤ prevent c.situation (here c) w q
      → preventers_text c q w ≡ named_text c (preventers c.situation (here c) w q) (left_out c.situation (here c) w) (lack_text c)
  unfolding preventers_text
  preventers_named q w some = go (not (has_path c.situation (here c) w)) (head_to_head c.situation w q && here c (Move q)) some
    where
      go : (stuck lost : Bool) → 1 ≤ (if stuck || lost then 0 else 1 + support c.situation (here c) w)
          → (if stuck then pathless c w else if lost then loser_text c q w else backed_text c w)
          ≡ named_text c (if stuck || lost then [] else w ∷ backers c.situation (here c) w) (left_out c.situation (here c) w) (lack_text c)
      go true lost some = absurd (omega arith)
      go false true some = absurd (omega arith)
      go false false some = backed w
