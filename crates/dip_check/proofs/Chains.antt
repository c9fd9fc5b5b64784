-- Papers that come one after the other: how a game stands after the first of them, and which is the first that is wrong.
use Rattle.std.proofs.Common.{◌≡◌, ◌<◌, ◌≤◌, ◌+◌, ◌-◌, ◌⊎◌, inl, inr, ℕ, zero, suc, List, [], ◌∷◌, ◌++◌, drop, get_or, length, take, refl, sym, ap, subst, ◌∙◌, append_assoc, append-nil, arith}
use Rattle.std.proofs.lemmas.List.{drop_more, take-append-drop, take_all, take_more}
use Rattle.dip_map.specs.Charts.{Chart}
use Rattle.dip_desk_state.specs.Records.{Public}
use Rattle.dip_check_papers.specs.Checks.{IsFirstWrong}
use Rattle.dip_check_papers.specs.Games.{AreNext, AreOfGame, IsNext, IsOpening}

-- after these papers a game stands so, and in no other way
pub record Stands (m : Chart) (p : Public) (done : List (List ℕ)) (q : Public) : Type 0 where
  pub chain : (more : List (List ℕ)) (new : Public) → AreNext m q more new → AreNext m p (done ++ more) new
  pub only : (more : List (List ℕ)) (new : Public) → AreNext m p (done ++ more) new → AreNext m q more new

pub none_done : (m : Chart) (p : Public) → Stands m p [] p
none_done m p = record { chain = λ more new h. h; only = λ more new h. h }

module _ (m : Chart) (p : Public) (texts : List (List ℕ)) where
  -- one paper more
  pub one_more : (k : ℕ) (q after : Public) → k < length texts → Stands m p (take k texts) q → IsNext m q (get_or texts k []) after
      → ((other : Public) → IsNext m q (get_or texts k []) other → after ≡ other) → Stands m p (take (k + 1) texts) after
  one_more k q after low stands right one =
      let t = get_or texts k [] in
      let more_is : (more : List (List ℕ)) → take (k + 1) texts ++ more ≡ take k texts ++ (t ∷ more) =
      λ more. ap (λ (ls : List (List ℕ)). ls ++ more) (take_more texts k [] low) ∙ append_assoc (take k texts) (t ∷ []) more in
      record {
        chain = λ more new h. subst (λ (ls : List (List ℕ)). AreNext m p ls new) (sym (more_is more)) (stands.chain (t ∷ more) new (after, right, h));
        only = λ more new h.
            let rest : AreNext m q (t ∷ more) new = stands.only (t ∷ more) new (subst (λ (ls : List (List ℕ)). AreNext m p ls new) (more_is more) h) in
            subst (λ (x : Public). AreNext m x more new) (sym (one rest.0 rest.1)) rest.2;
      }

  pub all_right : (k : ℕ) (q : Public) → length texts ≤ k → Stands m p (take k texts) q → AreNext m p texts q
  all_right k q past stands = subst (λ (ls : List (List ℕ)). AreNext m p ls q) (append-nil (take k texts) ∙ take_all k texts past) (stands.chain [] q refl)

  -- a wrong paper is the first that is, where the game stood so before it
  pub first_wrong : (k : ℕ) (q : Public) → k < length texts → Stands m p (take k texts) q → ((other : Public) → IsNext m q (get_or texts k []) other → ⊥)
      → ((new : Public) → AreNext m p texts new → ⊥) × IsFirstWrong (AreNext m p) texts (k + 1)
  first_wrong k q low stands wrong =
      let t = get_or texts k [] in
      let whole : texts ≡ take k texts ++ (t ∷ drop (k + 1) texts) = sym (take-append-drop k texts) ∙ ap (λ (ls : List (List ℕ)). take k texts ++ ls) (drop_more texts k [] low) in
      let before : AreNext m p (take k texts) q = subst (λ (ls : List (List ℕ)). AreNext m p ls q) (append-nil (take k texts)) (stands.chain [] q refl) in
      let back : k + 1 - 1 ≡ k = omega arith in (
        λ new h. let rest = stands.only (t ∷ drop (k + 1) texts) new (subst (λ (ls : List (List ℕ)). AreNext m p ls new) whole h) in wrong rest.0 rest.1,
        record {
          least = omega arith;
          there = omega (arith, low);
          before = inr (q, subst (λ (n : ℕ). AreNext m p (take n texts) q) (sym back) before);
          none = λ new h. let rest = stands.only (t ∷ []) new (subst (λ (ls : List (List ℕ)). AreNext m p ls new) (take_more texts k [] low) h) in wrong rest.0 rest.1;
        },
      )

-- ---- from the opening on

module _ (m : Chart) (t : List ℕ) (ts : List (List ℕ)) (p : Public) (opens : IsOpening m t p) (one : (q : Public) → IsOpening m t q → p ≡ q) where
  after_opening : (rest : List (List ℕ)) (new : Public) → AreOfGame m (t ∷ rest) new → AreNext m p rest new
  after_opening rest new h = subst (λ (q : Public). AreNext m q rest new) (sym (one h.0 h.1)) h.2

  pub right_from : (new : Public) → AreNext m p ts new → AreOfGame m (t ∷ ts) new
  right_from new h = (p, opens, h)

  -- what is wrong after the opening is wrong in all, one paper later
  pub wrong_from : (k : ℕ) → ((new : Public) → AreNext m p ts new → ⊥) × IsFirstWrong (AreNext m p) ts k
      → ((new : Public) → AreOfGame m (t ∷ ts) new → ⊥) × IsFirstWrong (AreOfGame m) (t ∷ ts) (k + 1)
  wrong_from zero h = absurd (omega (arith, h.1.least))
  wrong_from (suc k) h =
      let next : suc k + 1 ≡ suc (suc k) = omega arith in
      subst (λ (n : ℕ). ((new : Public) → AreOfGame m (t ∷ ts) new → ⊥) × IsFirstWrong (AreOfGame m) (t ∷ ts) n) (sym next) (
        λ new g. h.0 new (after_opening ts new g),
        record {
          least = omega arith;
          there = omega (arith, h.1.there);
          before = inr (before k h.1.before);
          none = λ new g. h.1.none new (after_opening (take (suc k) ts) new g);
        },
      )
    where
      before : (n : ℕ) → (suc n ≡ 1) ⊎ ((old : Public) × AreNext m p (take (suc n - 1) ts) old) → (old : Public) × AreOfGame m (take (suc (suc n) - 1) (t ∷ ts)) old
      before n b =
          let less : suc (suc n) - 1 ≡ suc n = omega arith in
          subst (λ (i : ℕ). (old : Public) × AreOfGame m (take i (t ∷ ts)) old) (sym less) (elim b [
            | inl is ↦ let zero_is : n ≡ 0 = omega (arith, is) in subst (λ (i : ℕ). (old : Public) × AreOfGame m (take (suc i) (t ∷ ts)) old) (sym zero_is) (p, (p, opens, refl))
            | inr some ↦
                let same : suc n - 1 ≡ n = omega arith in
                (some.0, (p, opens, subst (λ (i : ℕ). AreNext m p (take i ts) some.0) same some.1))
          ])

  pub nothing_from : (ts ≡ []) × ((new : Public) → AreNext m p ts new → ⊥) → ⊥
  nothing_from h = h.1 p (subst (λ (ls : List (List ℕ)). AreNext m p ls p) (sym h.0) refl)

-- the opening itself is wrong
pub opening_wrong : (m : Chart) (t : List ℕ) (ts : List (List ℕ)) → ((new : Public) → IsOpening m t new → ⊥)
    → ((new : Public) → AreOfGame m (t ∷ ts) new → ⊥) × IsFirstWrong (AreOfGame m) (t ∷ ts) 1
opening_wrong m t ts wrong = (
  λ new h. wrong h.0 h.1,
  record { least = omega arith; there = omega arith; before = inl refl; none = λ new h. wrong h.0 h.1 },
)
