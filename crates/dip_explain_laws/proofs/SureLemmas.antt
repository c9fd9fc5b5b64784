-- What the completion at which a line is told takes against what it tells, came out so.
use Rattle.std.proofs.Common.{◌≡◌, ◌∙◌, ℕ, refl}
use Rattle.std.specs.Prelude.{Bool, true, false, not, ◌||◌, Option, None, Some, if◌then◌else◌}
use Rattle.std.proofs.lemmas.Bool.{both_ways}
use Rattle.dip_decide_rules.specs.declared.decisions.Decision.{Decision}
use Rattle.dip_decide_rules.specs.declared.decisions.Decision.TheVariants.{Path}
use Rattle.dip_decide_rules.specs.Corners.{at_corner, rises}
use Rattle.dip_decide_rules.specs.Deciding.{Assignment, IsCompletion}
use Rattle.dip_decide_rules.specs.Movement.{has_path}
use Rattle.dip_explain_strengths.specs.Matters.{Matter, here}

against_true : (r high : Bool) → r ≡ not high → (if r then high else not high) ≡ true → ⊥
against_true r true e h = both_ways false refl (rw e at h)
against_true r false e h = both_ways false refl (rw e at h)

against_false : (r high : Bool) → r ≡ high → (if r then high else not high) ≡ false → ⊥
against_false r true e h = both_ways true (rw e at h) refl
against_false r false e h = both_ways true (rw e at h) refl

missing_path : (convoyed x y : Bool) → (x ≡ false → y ≡ false) → (not convoyed || x) ≡ false → (not convoyed || y) ≡ false
missing_path true x y f h = f h
missing_path false x y f h = h

given_path : (convoyed x y : Bool) → (x ≡ true → y ≡ true) → (not convoyed || x) ≡ true → (not convoyed || y) ≡ true
given_path true x y f h = f h
given_path false x y f h = h

module _ (c : Matter) (a : Assignment) (k : IsCompletion c.known a) where
  pub came_true : (e : Decision) → rises c.situation c.of e ≡ not c.high → here c e ≡ true → a e ≡ true
  came_true e r h = go (c.known e) (k e) h
    where
      go : (o : Option Bool) → ((v : Bool) → o ≡ Some v → a e ≡ v) → at_corner (rises c.situation c.of) c.high e o ≡ true → a e ≡ true
      go None f h = absurd (against_true (rises c.situation c.of e) c.high r h)
      go (Some v) f h = f v refl ∙ h

  pub came_false : (e : Decision) → rises c.situation c.of e ≡ c.high → here c e ≡ false → a e ≡ false
  came_false e r h = go (c.known e) (k e) h
    where
      go : (o : Option Bool) → ((v : Bool) → o ≡ Some v → a e ≡ v) → at_corner (rises c.situation c.of) c.high e o ≡ false → a e ≡ false
      go None f h = absurd (against_false (rises c.situation c.of e) c.high r h)
      go (Some v) f h = f v refl ∙ h

  pub path_true : (p : ℕ) → rises c.situation c.of (Path p) ≡ not c.high → has_path c.situation (here c) p ≡ true → has_path c.situation a p ≡ true
  path_true p r = given_path (c.situation.convoyed p) (here c (Path p)) (a (Path p)) (came_true (Path p) r)

  pub path_false : (p : ℕ) → rises c.situation c.of (Path p) ≡ c.high → has_path c.situation (here c) p ≡ false → has_path c.situation a p ≡ false
  path_false p r = missing_path (c.situation.convoyed p) (here c (Path p)) (a (Path p)) (came_false (Path p) r)
