-- What the numbers of a move's line decide.
use Rattle.std.proofs.Common.{◌≡◌, ◌∙◌, ℕ, List, [], refl, inl, inr, arith, ◌≤◌, ◌<◌, ◌++◌, sym}
use Rattle.std.specs.List.{list_all}
use Rattle.std.specs.Prelude.{Bool, true, false, not, ◌||◌, if◌then◌else◌, ◌==◌, nat_lt, codes}
use Rattle.std.proofs.lemmas.Bool.{cases_Bool, both_ways, and_parts, not-true, or_left, or_right, and_cases}
use Rattle.std.proofs.lemmas.Bool.Decides.{nat_tests}
use mathlib.Core.Logic.{◌⊎◌}
use Rattle.dip_decide_rules.specs.Deciding.{Assignment}
use Rattle.dip_decide_rules.specs.Movement.{Situation, attack, goes, is_listed, opposition, prevent, beats, succeeds}
use Rattle.dip_decide_rules.proofs.ChainLaws.{listed_kept}
use Rattle.dip_explain_strengths.specs.Matters.{Matter, here, others}
use Rattle.dip_explain_lines.specs.Lines.{comparison_text, exceeded_text, is_rival, is_unbeaten, rivals, unbeaten, unexceeded_text}
use Rattle.dip_explain_strengths.specs.StrengthTexts.{opposition_text, prevent_text}
use Rattle.dip_explain_laws.specs.Words.{Exceeds, FallsShort}
use Rattle.dip_explain_laws.specs.Words.FallsShort.{held, powerless, prevented}
use Rattle.dip_explain_laws.proofs.ListLemmas.{all_at, some_fails}

less : (x y : ℕ) → nat_lt x y ≡ true → x < y
less x y h = grind (arith, nat_tests)

not_less : (x y : ℕ) → nat_lt x y ≡ false → y ≤ x
not_less x y h = grind (arith, nat_tests)

-- a rival, where the attack exceeds it and where it doesn't

pub rival_parts : (s : Situation) (p q w : ℕ) → is_listed (rivals s p q) w ≡ true → ((w == p) ≡ false) × (goes s w q ≡ true) × (is_listed s.places w ≡ true)
rival_parts s p q w h =
    let e = and_parts (is_rival s p q w) (is_listed s.places w) (sym (listed_kept (is_rival s p q) s.places w) ∙ h) in
    let f = and_parts (not (w == p)) (goes s w q) e.0 in
    (not-true _ f.0, f.1, e.1)

-- where there is a rival, all hangs on the numbers
by_numbers : (x y z v : Bool) → x ≡ false → y ≡ true → ((x || not y) || z) ≡ v → z ≡ v
by_numbers x y z v n m h = rw (n, m) at h

outdone : (s : Situation) (a : Assignment) (p q w : ℕ) → (w == p) ≡ false → goes s w q ≡ true → beats s a p q w ≡ true → prevent s a w q < attack s a p q
outdone s a p q w n g h = less _ _ (by_numbers (w == p) (goes s w q) _ true n g h)

-- each that isn't beaten is another move there, whose strength the attack doesn't exceed
pub unbeaten_is : (s : Situation) (a : Assignment) (p q w : ℕ) → is_listed (unbeaten s a p q) w ≡ true → (is_listed (rivals s p q) w ≡ true) × (attack s a p q ≤ prevent s a w q)
unfolding is_unbeaten
unbeaten_is s a p q w h =
    let e = and_parts (is_unbeaten s a p q w) (is_listed s.places w) (sym (listed_kept (is_unbeaten s a p q) s.places w) ∙ h) in
    go (cases_Bool (w == p)) (cases_Bool (goes s w q)) (not-true _ e.0) e.1
  where
    go : ((w == p) ≡ true) ⊎ ((w == p) ≡ false) → (goes s w q ≡ true) ⊎ (goes s w q ≡ false) → beats s a p q w ≡ false → is_listed s.places w ≡ true → (is_listed (rivals s p q) w ≡ true) × (attack s a p q ≤ prevent s a w q)
    go (inl n) g b l = absurd (both_ways _ b (or_left _ _ (or_left _ _ n)))
    go (inr n) (inr g) b l = absurd (both_ways _ b (or_left _ _ (or_right (w == p) _ (rw g refl))))
    go (inr n) (inl g) b l = (listed_kept (is_rival s p q) s.places w ∙ rw (n, g, l) refl, not_less _ _ (by_numbers (w == p) (goes s w q) _ false n g b))

-- a number that is more than another isn't 0
not_nothing : (m n : ℕ) → m < n → (n == 0) ≡ false
not_nothing m n h = grind (arith, nat_tests)

nothing : (n : ℕ) → (n == 0) ≡ true → n ≡ 0
nothing n h = grind (arith, nat_tests)

some_of : (n : ℕ) → (n == 0) ≡ false → 1 ≤ n
some_of n h = grind (arith, nat_tests)

-- what the line of a failing move compares its attack with
compared : (zero high more value : Bool) (all rest most : List ℕ) → zero ≡ false → high ≡ true → more ≡ value
    → (if zero then [] else codes " against " ++ (if high then (if more then rest else most) else all)) ≡ codes " against " ++ (if value then rest else most)
compared zero high more value all rest most z l n = rw (z, l, n) refl

module _ (c : Matter) (p q : ℕ) where
  pub exceeds : c.high ≡ false → succeeds c.situation (here c) p q ≡ true → Exceeds c p q
  unfolding comparison_text exceeded_text
  exceeds l h =
      let e = and_parts (list_all (beats c.situation (here c) p q) c.situation.places) _ h in
      let more = less _ _ e.1 in
      record {
        destination = more;
        each_rival = λ w r. let f = rival_parts c.situation p q w r in outdone c.situation (here c) p q w f.0 f.1 (all_at (beats c.situation (here c) p q) c.situation.places w e.0 f.2);
        shown = shown more;
      }
    where
      shown : opposition c.situation (here c) p q < attack c.situation (here c) p q → comparison_text c p q ≡ codes " against " ++ opposition_text c p q ++ others (prevent_text c q) (rivals c.situation p q)
      shown more = rw (not_nothing _ _ more, l) refl

  pub falls_short : c.high ≡ true → succeeds c.situation (here c) p q ≡ false → FallsShort c p q
  unfolding comparison_text unexceeded_text is_unbeaten
  falls_short l h =
      go (cases_Bool (attack c.situation (here c) p q == 0)) (cases_Bool (nat_lt (opposition c.situation (here c) p q) (attack c.situation (here c) p q)))
      (and_cases (list_all (beats c.situation (here c) p q) c.situation.places) _ h)
    where
      go : ((attack c.situation (here c) p q == 0) ≡ true) ⊎ ((attack c.situation (here c) p q == 0) ≡ false)
          → (nat_lt (opposition c.situation (here c) p q) (attack c.situation (here c) p q) ≡ true) ⊎ (nat_lt (opposition c.situation (here c) p q) (attack c.situation (here c) p q) ≡ false)
          → (list_all (beats c.situation (here c) p q) c.situation.places ≡ false) ⊎ (nat_lt (opposition c.situation (here c) p q) (attack c.situation (here c) p q) ≡ false) → FallsShort c p q
      go (inl z) _ _ = powerless (nothing _ z) (rw z refl)
      go (inr z) (inr n) _ = held (some_of _ z) (not_less _ _ n) (compared _ c.high _ false _ _ _ z l n)
      go (inr z) (inl y) (inr n) = absurd (both_ways _ n y)
      go (inr z) (inl y) (inl n) =
          let w = some_fails (beats c.situation (here c) p q) c.situation.places n in
          prevented (some_of _ z) w.0 (listed_kept (is_unbeaten c.situation (here c) p q) c.situation.places w.0 ∙ rw (w.1, w.2) refl) (compared _ c.high _ true _ _ _ z l y)
