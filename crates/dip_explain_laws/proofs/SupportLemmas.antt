-- Who cuts a support, and who spares it.
use Rattle.std.proofs.Common.{◌≡◌, ◌∙◌, ℕ, refl, inl, inr, sym}
use Rattle.std.specs.List.{list_all}
use Rattle.std.specs.Prelude.{◌&&◌, true, false, not, if◌then◌else◌}
use Rattle.std.proofs.lemmas.Bool.{cases_Bool, and_parts, not-true, and_from, not-false}
use mathlib.Core.Logic.{◌⊎◌}
use Rattle.dip_decide_rules.specs.declared.decisions.Decision.TheVariants.{Move}
use Rattle.dip_decide_rules.specs.Deciding.{Assignment}
use Rattle.dip_decide_rules.specs.Movement.{Situation, cuts, goes, has_path, is_at, is_listed}
use Rattle.dip_decide_rules.proofs.ChainLaws.{listed_kept}
use Rattle.dip_explain_strengths.specs.Matters.{Matter, here}
use Rattle.dip_explain_lines.specs.Lines.{cutters, cutting_text, is_cut_by, movers, sparing_text}
use Rattle.dip_explain_laws.specs.Words.{Cuts, Spares}
use Rattle.dip_explain_laws.specs.Words.Cuts.{attacks, dislodges}
use Rattle.dip_explain_laws.specs.Words.Spares.{beaten, own, stranded}
use Rattle.dip_explain_laws.proofs.ListLemmas.{kept, all_at, some_fails}

-- a support is cut by one that is listed, or spared by each
pub cut_by : (s : Situation) (a : Assignment) (h : ℕ) → list_all (λ x. not (cuts s a h x)) s.places ≡ false → (x : ℕ) × (is_listed (cutters s a h) x ≡ true)
unfolding is_cut_by
cut_by s a h n =
    let w = some_fails (λ x. not (cuts s a h x)) s.places n in
    (w.0, listed_kept (is_cut_by s a h) s.places w.0 ∙ and_from _ _ (not-false _ w.2) w.1)

-- who is listed as one that cuts a support cuts it
pub cutter_cuts : (c : Matter) (a : Assignment) (h x : ℕ) → (here c (Move x) ≡ true → a (Move x) ≡ true) → (has_path c.situation (here c) x ≡ true → has_path c.situation a x ≡ true)
    → is_listed (cutters c.situation (here c) h) x ≡ true
    → (goes c.situation x h ≡ true) × (c.situation.same_power x h ≡ false) × Cuts c a h x
unfolding is_cut_by cutting_text
cutter_cuts c a h x won way l =
    let e = and_parts (goes c.situation x h && not (c.situation.same_power x h)) _ (kept (is_cut_by c.situation (here c) h) c.situation.places x l) in
    let f = and_parts (goes c.situation x h) (not (c.situation.same_power x h)) e.0 in
    (f.0, not-true _ f.1, go (cases_Bool (is_at (c.situation.aim h) x)) e.1)
  where
    go : (is_at (c.situation.aim h) x ≡ true) ⊎ (is_at (c.situation.aim h) x ≡ false)
        → (if is_at (c.situation.aim h) x then here c (Move x) else has_path c.situation (here c) x) ≡ true → Cuts c a h x
    go (inl y) k = dislodges y (won (rw y at k)) (rw y refl)
    go (inr y) k = attacks y (way (rw y at k)) (rw y refl)

pub spared : (c : Matter) (a : Assignment) (h x : ℕ) → (here c (Move x) ≡ false → a (Move x) ≡ false) → (has_path c.situation (here c) x ≡ false → has_path c.situation a x ≡ false)
    → list_all (λ y. not (cuts c.situation (here c) h y)) c.situation.places ≡ true → is_listed (movers c.situation h) x ≡ true → Spares c a h x
unfolding sparing_text
spared c a h x lost way n l =
    let e = and_parts (goes c.situation x h) (is_listed c.situation.places x) (sym (listed_kept (λ y. goes c.situation y h) c.situation.places x) ∙ l) in
    go (cases_Bool (c.situation.same_power x h)) (cases_Bool (is_at (c.situation.aim h) x)) e.0 (not-true _ (all_at (λ y. not (cuts c.situation (here c) h y)) c.situation.places x n e.1))
  where
    go : (c.situation.same_power x h ≡ true) ⊎ (c.situation.same_power x h ≡ false) → (is_at (c.situation.aim h) x ≡ true) ⊎ (is_at (c.situation.aim h) x ≡ false)
        → goes c.situation x h ≡ true → cuts c.situation (here c) h x ≡ false → Spares c a h x
    go (inl y) _ g f = own y (rw y refl)
    go (inr o) (inl y) g f = beaten y (lost (rw (g, o, y) at f)) (rw (o, y) refl)
    go (inr o) (inr y) g f = stranded (way (rw (g, o, y) at f)) (rw (o, y) refl)
