-- The addressees of press.
use Rattle.std.proofs.Common.{◌≡◌, ◌<◌, ◌≤◌, ◌-◌, ℕ, zero, suc, List, [], ◌∷◌, ◌++◌, Option, Some, None, Bool, true, false, codes, length, refl, sym, ap, subst, ◌∙◌, append-nil, arith}
use Rattle.std.specs.List.{AllByRecursion}
use Rattle.dip_letters.specs.Letters.{FitsNames, words_of}
use Rattle.dip_letters_words.specs.Lines.{split_words, word_at}
use Rattle.dip_letters.specs.Reading.{names_at, word_fits, words_fit}
use Rattle.dip_letters_words.specs.Words.{is_name}
use Rattle.dip_letters.proofs.FieldLemmas.{guard_some}
use Rattle.dip_letters_words.proofs.LineLemmas.{cut_again, cut_none, cut_takes, one_word, words_again}
use Rattle.dip_letters_words.proofs.WordLemmas.{IsPrintable, and_first, and_second, name_is_word, name_prints, printable_append}

abbrev pub IsName : List ℕ → Type 0
IsName n = is_name n ≡ true

pub words_print : (ns : List (List ℕ)) → AllByRecursion IsName ns → IsPrintable (words_of ns)
words_print [] all = tt
words_print (n ∷ ns) all = (refl, printable_append n (words_of ns) (name_prints n all.0) (words_print ns all.1))

-- ---- names read one after another

pub names_last : (k : ℕ) (t : List ℕ) → word_at t ≡ None → words_fit is_name k t ≡ is_name t
unfolding words_fit
names_last zero t none = refl
names_last (suc k) t none = rw none refl

-- a text with a space is no name
pub names_zero : (t : List ℕ) (p : List ℕ × List ℕ) → word_at t ≡ Some p → words_fit is_name 0 t ≡ false
unfolding words_fit
names_zero t p word = by_test (is_name t) refl
  where
    by_test : (b : Bool) → is_name t ≡ b → b ≡ false
    by_test false e = refl
    by_test true e = let none : word_at t ≡ None = cut_none 32 t (name_is_word t e) in let bad : ◌≡◌ {A = Option (List ℕ × List ℕ)} None (Some p) = sym none ∙ word in cc

names_suc : (k : ℕ) (t : List ℕ) (p : List ℕ × List ℕ) → word_at t ≡ Some p → words_fit is_name (suc k) t ≡ word_fits is_name (words_fit is_name k) t (Some p)
unfolding words_fit
names_suc k t p word = rw word refl

pub names_more : (k : ℕ) (t : List ℕ) (p : List ℕ × List ℕ) → 0 < k → word_at t ≡ Some p → is_name p.0 ≡ true → words_fit is_name k t ≡ words_fit is_name (k - 1) p.1
names_more zero t p some word pass = absurd (omega arith)
names_more (suc k) t p some word pass = let less : suc k - 1 ≡ k = omega arith in rw (names_suc k t p word, pass, less) refl

pub names_fail : (k : ℕ) (t : List ℕ) (p : List ℕ × List ℕ) → word_at t ≡ Some p → is_name p.0 ≡ false → words_fit is_name k t ≡ false
names_fail zero t p word fails = names_zero t p word
names_fail (suc k) t p word fails = rw (names_suc k t p word, fails) refl

-- ---- what is spelled is read

names_pass : (k : ℕ) (n : List ℕ) (ns : List (List ℕ)) → length ns ≤ k → IsName n → AllByRecursion IsName ns → words_fit is_name k (n ++ words_of ns) ≡ true
unfolding words_fit
names_pass k n [] few first all = rw (append-nil n) (names_last k n (cut_none 32 n (name_is_word n first)) ∙ first)
names_pass zero n (v ∷ ns) few first all = absurd (omega arith)
names_pass (suc k) n (v ∷ ns) few first all =
    rw (cut_again 32 n (v ++ words_of ns) (name_is_word n first), first) (names_pass k v ns (omega arith) all.0 all.1)

one_name : (n : List ℕ) → IsName n → split_words n ≡ n ∷ []
one_name [] e = cc
one_name (b ∷ n) e = one_word b n (name_is_word (b ∷ n) e)

names_split : (n : List ℕ) (ns : List (List ℕ)) → IsName n → AllByRecursion IsName ns → split_words (n ++ words_of ns) ≡ n ∷ ns
names_split n [] first all = rw (append-nil n) (one_name n first)
names_split n (v ∷ ns) first all = words_again n (v ++ words_of ns) (name_is_word n first) ∙ ap (λ ws. n ∷ ws) (names_split v ns all.0 all.1)

pub names_again : (n : List ℕ) (ns : List (List ℕ)) → FitsNames (n ∷ ns) → names_at (n ++ words_of ns) ≡ Some (n ∷ ns)
unfolding names_at
names_again n ns fits =
    let most = fits.1 in
    rw (names_pass 6 n ns (omega (arith, most)) fits.2.0 fits.2.1, names_split n ns fits.2.0 fits.2.1) refl

-- ---- what is read is spelled

pub record AreNames (k : ℕ) (t : List ℕ) (ns : List (List ℕ)) : Type 0 where
  pub is : codes " " ++ t ≡ words_of ns
  pub least : 1 ≤ length ns
  pub most : length ns ≤ suc k
  pub fit : AllByRecursion IsName ns

last_name : (k : ℕ) (t : List ℕ) → IsName t → AreNames k t (split_words t)
last_name k t e = rw (one_name t e) (record { is = ap (λ n. 32 ∷ n) (sym (append-nil t)); least = omega arith; most = omega arith; fit = (e, tt) })

names_take_all : (k : ℕ) (t : List ℕ) → words_fit is_name k t ≡ true → AreNames k t (split_words t)
unfolding words_fit
names_take_all zero t e = last_name 0 t e
names_take_all (suc k) t e = by_word (word_at t) refl e (λ r pass. names_take_all k r pass)
  where
    by_word : (o : Option (List ℕ × List ℕ)) → word_at t ≡ o → word_fits is_name (words_fit is_name k) t o ≡ true
        → ((r : List ℕ) → words_fit is_name k r ≡ true → AreNames k r (split_words r)) → AreNames (suc k) t (split_words t)
    by_word None word e rest = last_name (suc k) t e
    by_word (Some w) word e rest =
        let c = cut_takes 32 t w word in
        let more = rest w.1 (and_second (is_name w.0) (words_fit is_name k w.1) e) in
        let few = more.most in
        let split : w.0 ∷ split_words w.1 ≡ split_words t = sym (ap split_words c.1 ∙ words_again w.0 w.1 c.0) in
        subst (λ (ns : List (List ℕ)). AreNames (suc k) t ns) split (record {
          is = ap (λ x. 32 ∷ x) (c.1 ∙ ap (λ x. w.0 ++ x) more.is);
          least = omega arith;
          most = omega (arith, few);
          fit = (and_first (is_name w.0) (words_fit is_name k w.1) e, more.fit);
        })

pub names_take : (t : List ℕ) (ns : List (List ℕ)) → names_at t ≡ Some ns → AreNames 6 t ns
unfolding names_at
names_take t ns e =
    let g = guard_some (words_fit is_name 6 t) (split_words t) ns e in
    subst (λ (ns : List (List ℕ)). AreNames 6 t ns) g.1 (names_take_all 6 t g.0)
