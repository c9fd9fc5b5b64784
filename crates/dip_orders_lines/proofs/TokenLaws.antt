use Rattle.std.proofs.Common.{length-take, length-drop, length-append, ◌≡◌, ℕ, ◌+◌, ◌<◌, ◌≤◌, ◌==◌, Bool, true, false, suc, get_or, length, take, drop, List, [], ◌∷◌, ◌++◌, refl, sym, ◌∙◌, ap, subst, inl, inr, arith, nat_le, Option, Some, None, option_map, append_assoc}
use Rattle.std.proofs.lemmas.Bool.{and_parts, cases_Bool, le-leb, leb-true}
use Rattle.std.proofs.lemmas.List.{append-nil, take-append-drop}
use Rattle.std.specs.List.{list_all}
use Rattle.std.specs.Cmp.Derive.{both_true}
use Rattle.dip_orders_lines.specs.Tokens.{is_word_byte, minus}
use Rattle.dip_orders_lines.specs.Scan.{with_word, scan, tokens_at, word_length, few}

-- a text that begins with a letter or a slash
abbrev pub starts_word : List ℕ → Bool
starts_word [] = false
starts_word (b ∷ bs) = is_word_byte b

-- letters and slashes lengthen the word before them
scan_word : (w t rest : List ℕ) → list_all is_word_byte t ≡ true → scan w (t ++ rest) ≡ scan (w ++ t) rest
scan_word w [] rest h = ap (λ x. scan x rest) (sym (append-nil w))
scan_word w (b ∷ bs) rest h =
    let (hb, more) = and_parts (is_word_byte b) (list_all is_word_byte bs) h in
    rw hb (scan_word (w ++ b ∷ []) bs rest more ∙ ap (λ x. scan x rest) (append_assoc w (b ∷ []) bs))

closed_none : (o : Option (List (List ℕ))) → option_map (λ ts. with_word [] ts) o ≡ o
closed_none None = refl
closed_none (Some ts) = refl

closed_twice : (b : ℕ) (bs : List ℕ) (o : Option (List (List ℕ)))
    → option_map (λ ts. with_word (b ∷ bs) (minus ∷ ts)) o ≡ option_map (λ ts. (b ∷ bs) ∷ ts) (option_map (λ ts. with_word [] (minus ∷ ts)) o)
closed_twice b bs None = refl
closed_twice b bs (Some ts) = refl

-- a word ends where no letter or slash follows
scan_closed : (b : ℕ) (bs rest : List ℕ) → starts_word rest ≡ false → scan (b ∷ bs) rest ≡ option_map (λ ts. (b ∷ bs) ∷ ts) (scan [] rest)
scan_closed b bs [] h = refl
scan_closed b bs (x ∷ xs) h =
    rw h (elim (cases_Bool (x == 32)) [
      | inl space ↦ rw space (ap (λ o. option_map (λ ts. (b ∷ bs) ∷ ts) o) (sym (closed_none (scan [] xs))))
      | inr other ↦
          rw other (elim (cases_Bool (x == 45)) [
            | inl dash ↦ rw dash (closed_twice b bs (scan [] xs))
            | inr stray ↦ rw stray refl
          ])
    ])

word_all : (text : List ℕ) → list_all is_word_byte (take (word_length text) text) ≡ true
word_all [] = refl
word_all (b ∷ bs) =
    elim (cases_Bool (is_word_byte b)) [
      | inl word ↦
          let e : 1 + word_length bs ≡ suc (word_length bs) = omega arith in
          rw (word, e) (both_true word (word_all bs))
      | inr other ↦ rw other refl
    ]

word_ends : (text : List ℕ) → starts_word (drop (word_length text) text) ≡ false
word_ends [] = refl
word_ends (b ∷ bs) =
    elim (cases_Bool (is_word_byte b)) [
      | inl word ↦
          let e : 1 + word_length bs ≡ suc (word_length bs) = omega arith in
          rw (word, e) (word_ends bs)
      | inr other ↦ rw other other
    ]

-- a first byte that is a letter or a slash begins a word
pub word_first : (text : List ℕ) → 1 ≤ length text → is_word_byte (get_or text 0 0) ≡ true → 1 ≤ word_length text
word_first [] h w = absurd (omega arith)
word_first (b ∷ bs) h w = rw w (omega arith)

pub scan_run : (t rest : List ℕ) → 1 ≤ length t → list_all is_word_byte t ≡ true → starts_word rest ≡ false → scan [] (t ++ rest) ≡ option_map (λ ts. t ∷ ts) (scan [] rest)
scan_run [] rest h a e = absurd (omega arith)
scan_run (b ∷ bs) rest h a e = scan_word [] (b ∷ bs) rest a ∙ scan_closed b bs rest e

-- the word at the front of a text, and what is after it
pub word_run : (text : List ℕ) → 1 ≤ word_length text → word_length text ≤ length text
    → (tokens_at text ≡ option_map (λ ts. take (word_length text) text ∷ ts) (tokens_at (drop (word_length text) text))) × (length (drop (word_length text) text) < length text)
word_run text h low =
    let n : ℕ = word_length text in
    let long : 1 ≤ length (take n text) = omega (arith, length-take n text) in
    let cut : take n text ++ drop n text ≡ text = take-append-drop n text in
    let run = scan_run (take n text) (drop n text) long (word_all text) (word_ends text) in
    (subst (λ (x : List ℕ). scan [] x ≡ option_map (λ ts. take n text ∷ ts) (scan [] (drop n text))) cut run, omega (arith, length-drop n text))

-- the list so far, and the tokens of the rest
pub few_end : (found : List (List ℕ)) → length found ≤ 8 → few (option_map (λ ts. found ++ ts) (Some [])) ≡ Some found
few_end found h = rw (append-nil, le-leb _ _ h) refl

pub few_full : (found : List (List ℕ)) (t : List ℕ) (o : Option (List (List ℕ))) → 8 ≤ length found → few (option_map (λ ts. found ++ ts) (option_map (λ ts. t ∷ ts) o)) ≡ None
few_full found t None h = refl
few_full found t (Some ts) h =
    elim (cases_Bool (nat_le (length (found ++ t ∷ ts)) 8)) [
      | inl small ↦ absurd (omega (arith, leb-true _ _ small, length-append found (t ∷ ts)))
      | inr large ↦ rw large refl
    ]

pub few_more : (found : List (List ℕ)) (t : List ℕ) (o : Option (List (List ℕ)))
    → option_map (λ ts. found ++ ts) (option_map (λ ts. t ∷ ts) o) ≡ option_map (λ ts. (found ++ t ∷ []) ++ ts) o
few_more found t None = refl
few_more found t (Some ts) = ap (λ x. Some x) (sym (append_assoc found (t ∷ []) ts))
