-- What is said of supporters is so.
use Rattle.std.proofs.Common.{◌≡◌, ℕ, List, refl, inl, inr}
use Rattle.std.proofs.lemmas.List.{append-nil}
use Rattle.std.specs.Prelude.{Bool, true, false, not, ◌&&◌, Option, None, Some}
use Rattle.std.proofs.lemmas.Bool.{and_parts, both_ways, cases_Bool, not-true}
use mathlib.Core.Logic.{◌⊎◌}
use Rattle.dip_decide_rules.specs.declared.decisions.Decision.TheVariants.{Support}
use Rattle.dip_decide_rules.specs.declared.decisions.Step.{Step}
use Rattle.dip_decide_rules.specs.declared.decisions.Step.TheVariants.{Forced}
use Rattle.dip_decide_rules.specs.Corners.{at_corner, rises}
use Rattle.dip_decide_rules.specs.Deciding.{Assignment, IsCompletion}
use Rattle.dip_decide_rules.specs.Movement.{is_listed}
use Rattle.dip_explain_strengths.specs.Matters.{Matter, here, unit_in}
use Rattle.dip_explain_strengths.specs.StrengthTexts.{backer_text, lack_against_text, lack_text}
use Rattle.dip_explain_strengths.specs.Strengths.{backers, backers_against, backs, backs_against, is_left_out, is_left_out_against, left_out, left_out_against}
use Rattle.dip_explain_laws.specs.Words.{IsCounted, IsLeftOut, IsLeftOutAgainst, IsTold}
use Rattle.dip_explain_laws.specs.Words.IsCounted.{given, uncertain}
use Rattle.dip_explain_laws.specs.Words.IsLeftOut.{cut, uncertain as unsure}
use Rattle.dip_explain_laws.proofs.LineLemmas.{line_agrees}
use Rattle.dip_explain_laws.proofs.ListLemmas.{kept}

module _ (steps : List Step) (a : Assignment) (c : Matter) (t : IsTold steps a c) where
  agrees : IsCompletion c.known a
  agrees = line_agrees c.situation steps a t.explained c.known (Forced c.of) t.line

  -- one whose support is given where the line is told
  counted : (h : ℕ) → here c (Support h) ≡ true → IsCounted c a h
  unfolding backer_text
  counted h g = go (c.known (Support h)) refl g
    where
      go : (o : Option Bool) → c.known (Support h) ≡ o → at_corner (rises c.situation c.of) c.high (Support h) o ≡ true → IsCounted c a h
      go None e g = uncertain (rw e refl) e
      go (Some true) e g = given (rw e (append-nil (unit_in c h))) (agrees (Support h) true e)
      go (Some false) e g = absurd (both_ways false refl g)

  -- one whose support isn't
  missing : (h : ℕ) → here c (Support h) ≡ false → IsLeftOut c a h (lack_text c h)
  unfolding lack_text
  missing h g = go (c.known (Support h)) refl g
    where
      go : (o : Option Bool) → c.known (Support h) ≡ o → at_corner (rises c.situation c.of) c.high (Support h) o ≡ false → IsLeftOut c a h (lack_text c h)
      go None e g = unsure (rw e refl) e
      go (Some true) e g = absurd (both_ways true g refl)
      go (Some false) e g = cut (rw e refl) (agrees (Support h) false e)

  pub counted_said : (p h : ℕ) → is_listed (backers c.situation (here c) p) h ≡ true → IsCounted c a h
  unfolding backs
  counted_said p h n = counted h (and_parts (c.situation.supports h p) _ (kept (backs c.situation (here c) p) c.situation.places h n)).1

  pub counted_against_said : (p q h : ℕ) → is_listed (backers_against c.situation (here c) p q) h ≡ true → IsCounted c a h
  unfolding backs backs_against
  counted_against_said p q h n =
      counted h (and_parts (c.situation.supports h p) _ (and_parts _ (not (c.situation.same_power h q)) (kept (backs_against c.situation (here c) p q) c.situation.places h n)).0).1

  ungiven : (x y : Bool) → (x && not (x && y)) ≡ true → y ≡ false
  ungiven true y h = not-true y h
  ungiven false y h = absurd (both_ways false refl h)

  ungiven_or_own : (x y z : Bool) → (x && not ((x && y) && not z)) ≡ true → y ≡ true → z ≡ true
  ungiven_or_own true true true h e = refl
  ungiven_or_own true true false h e = absurd (both_ways false refl h)
  ungiven_or_own true false z h e = absurd (both_ways false refl e)
  ungiven_or_own false y z h e = absurd (both_ways false refl h)

  pub left_out_said : (p h : ℕ) → is_listed (left_out c.situation (here c) p) h ≡ true → IsLeftOut c a h (lack_text c h)
  unfolding backs is_left_out
  left_out_said p h n = missing h (ungiven (c.situation.supports h p) _ (kept (is_left_out c.situation (here c) p) c.situation.places h n))

  pub left_out_against_said : (p q h : ℕ) → is_listed (left_out_against c.situation (here c) p q) h ≡ true → IsLeftOutAgainst c a q h (lack_against_text c q h)
  unfolding backs backs_against is_left_out_against lack_against_text
  left_out_against_said p q h n = go (cases_Bool (here c (Support h))) (kept (is_left_out_against c.situation (here c) p q) c.situation.places h n)
    where
      go : (here c (Support h) ≡ true) ⊎ (here c (Support h) ≡ false) → (c.situation.supports h p && not ((c.situation.supports h p && here c (Support h)) && not (c.situation.same_power h q))) ≡ true
          → IsLeftOutAgainst c a q h (lack_against_text c q h)
      go (inl y) k = inr (rw y refl, ungiven_or_own (c.situation.supports h p) (here c (Support h)) (c.situation.same_power h q) k y)
      go (inr y) k = inl (rw y (missing h y))
