-- How matchit's search reads a path over rows that begin alike.
use Rattle.std.proofs.Common.{◌≡◌, ◌<◌, ◌-◌, ℕ, zero, suc, List, [], ◌∷◌, ◌++◌, Bool, true, false, cond, ◌==◌, Option, Some, None, length, refl, ap, ◌∙◌, arith, append-nil, nat_lt, option_and_then, if◌then◌else◌}
use Rattle.std.specs.List.{list_all}
use Rattle.std.proofs.lemmas.Bool.Decides.{nat_tests}
use Rattle.matchit.specs.Rows.{RowsOf}
use Rattle.matchit.specs.Seek.{seek, own, step, or_else, param_step, has_slash}
use Rattle.dip_http_messages.specs.Places.{after}
use Rattle.dip_letters.proofs.WordLemmas.{and_first, and_second}

pub below : (b : ℕ) → nat_lt b 256 ≡ true → b < 256
below b e = grind (arith, nat_tests)

module _ {K : Type 0} where
  -- rows with a token in front of each
  abbrev pub under : ℕ → RowsOf K → RowsOf K
  under b [] = []
  under b ((t, key) ∷ rest) = (b ∷ t, key) ∷ under b rest

  abbrev pub under_all : List ℕ → RowsOf K → RowsOf K
  under_all [] rs = rs
  under_all (b ∷ w) rs = under b (under_all w rs)

  pub param_none : (path : List ℕ) → (param_step {K = K} [] path).1 ≡ []
  unfolding param_step
  param_none path = elim (has_slash path) as (λ t. (cond {A = ℕ × RowsOf K} t (0, []) (length path, [])).1 ≡ []) [ true ↦ refl | false ↦ refl ]

  pub seek_none : (k : ℕ) (path : List ℕ) → seek {K = K} k [] path ≡ None
  unfolding seek
  seek_none k [] = refl
  seek_none (suc k) (b ∷ path) = seek_none k path
  seek_none zero (b ∷ path) =
      let none = param_none (b ∷ path) in
      let later : seek {K = K} ((param_step {K = K} [] (b ∷ path)).0 - 1) (param_step {K = K} [] (b ∷ path)).1 path ≡ None = rw none (seek_none ((param_step {K = K} [] (b ∷ path)).0 - 1) path) in
      rw (seek_none 0 path, later) refl

  pub step_under : (b c : ℕ) (rs : RowsOf K) → step c (under b rs) ≡ cond (b == c) rs []
  step_under b c rs = elim (b == c) as (λ t. (b == c) ≡ t → step c (under b rs) ≡ cond t rs []) [ true ↦ λ e. same rs e | false ↦ λ e. other rs e ] refl
    where
      same : (ss : RowsOf K) → (b == c) ≡ true → step c (under b ss) ≡ ss
      same [] e = refl
      same ((t, key) ∷ rest) e = rw e (ap (λ rs. (t, key) ∷ rs) (same rest e))

      other : (ss : RowsOf K) → (b == c) ≡ false → step c (under b ss) ≡ []
      other [] e = refl
      other ((t, key) ∷ rest) e = rw e (other rest e)

  pub own_under : (b : ℕ) (rs : RowsOf K) → own (under b rs) ≡ None
  own_under b [] = refl
  own_under b ((t, key) ∷ rest) = own_under b rest

  pub seek_end : (rs : RowsOf K) → seek 0 rs [] ≡ own rs
  unfolding seek
  seek_end rs = refl

  pub or_none : (o : Option K) → or_else o None ≡ o
  or_none None = refl
  or_none (Some k) = refl

  -- rows that go on neither with a parameter nor with a catch-all
  pub seek_plain : (rs : RowsOf K) (c : ℕ) (path : List ℕ) → step 256 rs ≡ [] → step 257 rs ≡ [] → seek 0 rs (c ∷ path) ≡ seek 0 (step c rs) path
  unfolding seek
  seek_plain rs c path params all =
      let gone = param_none (c ∷ path) in
      let later : seek {K = K} ((param_step {K = K} [] (c ∷ path)).0 - 1) (param_step {K = K} [] (c ∷ path)).1 path ≡ None = rw gone (seek_none ((param_step {K = K} [] (c ∷ path)).0 - 1) path) in
      rw (params, all, later, or_none) refl

  seek_cond : (t : Bool) (rs : RowsOf K) (path : List ℕ) → seek 0 (cond t rs []) path ≡ cond t (seek 0 rs path) None
  seek_cond true rs path = refl
  seek_cond false rs path = seek_none 0 path

  -- a byte in front
  pub seek_under : (b : ℕ) → b < 256 → (rs : RowsOf K) (c : ℕ) (path : List ℕ) → seek 0 (under b rs) (c ∷ path) ≡ cond (b == c) (seek 0 rs path) None
  seek_under b small rs c path =
      let p : (b == 256) ≡ false = grind (arith, nat_tests) in
      let q : (b == 257) ≡ false = grind (arith, nat_tests) in
      let params : step 256 (under b rs) ≡ [] = step_under b 256 rs ∙ ap (λ t. cond t rs []) p in
      let all : step 257 (under b rs) ≡ [] = step_under b 257 rs ∙ ap (λ t. cond t rs []) q in
      seek_plain (under b rs) c path params all ∙ (ap (λ (ss : RowsOf K). seek 0 ss path) (step_under b c rs) ∙ seek_cond (b == c) rs path)

  -- bytes in front
  pub seek_after : (w : List ℕ) → list_all (λ b. nat_lt b 256) w ≡ true → (rs : RowsOf K) (path : List ℕ) → seek 0 (under_all w rs) path ≡ option_and_then (λ text. seek 0 rs text) (after w path)
  seek_after [] small rs path = refl
  seek_after (b ∷ w) small rs [] = seek_end (under b (under_all w rs)) ∙ own_under b (under_all w rs)
  seek_after (b ∷ w) small rs (c ∷ path) =
      seek_under b (below b (and_first _ _ small)) (under_all w rs) c path
      ∙ (elim (b == c) as (λ t. cond t (seek 0 (under_all w rs) path) None ≡ option_and_then (λ text. seek 0 rs text) (if t then after w path else None))
      [ true ↦ seek_after w (and_second _ _ small) rs path | false ↦ refl ])

  step_append : (c : ℕ) (rs ss : RowsOf K) → step c (rs ++ ss) ≡ step c rs ++ step c ss
  step_append c [] ss = refl
  step_append c (([], key) ∷ rest) ss = step_append c rest ss
  step_append c ((x ∷ t, key) ∷ rest) ss =
      elim (x == c) as (λ b. cond b ((t, key) ∷ step c (rest ++ ss)) (step c (rest ++ ss)) ≡ cond b ((t, key) ∷ step c rest) (step c rest) ++ step c ss)
      [ true ↦ ap (λ rs. (t, key) ∷ rs) (step_append c rest ss) | false ↦ step_append c rest ss ]

  -- one of two bytes in front
  pub seek_fork : (rs ss : RowsOf K) (c : ℕ) (path : List ℕ) → seek 0 (under 103 rs ++ under 108 ss) (c ∷ path) ≡ cond (103 == c) (seek 0 rs path) (cond (108 == c) (seek 0 ss path) None)
  seek_fork rs ss c path =
      let split = λ (x : ℕ). step_append x (under 103 rs) (under 108 ss) ∙ (ap (λ (us : RowsOf K). us ++ step x (under 108 ss)) (step_under 103 x rs) ∙ ap (λ (us : RowsOf K). cond (103 == x) rs [] ++ us) (step_under 108 x ss)) in
      seek_plain (under 103 rs ++ under 108 ss) c path (split 256) (split 257) ∙ (ap (λ (us : RowsOf K). seek 0 us path) (split c) ∙ pick c)
    where
      pick : (x : ℕ) → seek 0 (cond (103 == x) rs [] ++ cond (108 == x) ss []) path ≡ cond (103 == x) (seek 0 rs path) (cond (108 == x) (seek 0 ss path) None)
      pick x =
          elim (103 == x) as (λ t. (103 == x) ≡ t → seek 0 (cond t rs [] ++ cond (108 == x) ss []) path ≡ cond t (seek 0 rs path) (cond (108 == x) (seek 0 ss path) None)) [
            | true ↦ λ e. let no : (108 == x) ≡ false = grind (arith, nat_tests) in rw (no, append-nil) refl
            | false ↦ λ e. seek_cond (108 == x) ss path
          ] refl
