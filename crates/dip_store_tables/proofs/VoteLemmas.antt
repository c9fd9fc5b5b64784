-- A vote is read back from the text of its ballot, which is one of characters.
use Rattle.std.proofs.Common.{◌≡◌, ◌<◌, ◌++◌, ℕ, true, false, List, [], ◌∷◌, map, codes, length, flat_map, bytes_eq, refl, sym, ap, subst, ◌∙◌, arith, inl, inr}
use Rattle.std.specs.List.{AllByRecursion}
use Rattle.std.proofs.lemmas.Bool.{and_parts, cases_Bool}
use Rattle.std.proofs.lemmas.Slice.Eq.{bytes_eq-Decides}
use Rattle.dip_map.specs.Charts.{Chart, IsMap, is_power_name}
use Rattle.dip_desk_state.specs.Records.{Vote, No, Yes, For}
use Rattle.dip_desk_state.specs.Writable.{IsVoteOf}
use Rattle.dip_store_tables.specs.Boards.{power_in, power_name}
use Rattle.dip_store_tables.specs.Columns.{ArePowers}
use Rattle.dip_store_tables.specs.Legible.{IsText}
use Rattle.dip_store_tables.specs.Texts.{joined, pieces}
use Rattle.dip_store_tables.specs.Votes.{IsBallotText, ballot_text, vote_of}
use Rattle.dip_store_tables.proofs.MapTexts.{power_text}
use Rattle.dip_store_tables.proofs.Pieces.{joined_back}
use Rattle.dip_store_tables.proofs.Records.{names_back, names_words}
use Rattle.dip_store_tables.proofs.Spelled.{plain, words}
use Rattle.dip_store_tables.proofs.StatusLemmas.{all_powers}

pub names_joined : (m : Chart) (p : ℕ) (ps : List ℕ) → power_name m p ++ flat_map (λ q. 32 ∷ power_name m q) ps ≡ joined 32 (map (power_name m) (p ∷ ps))
names_joined m p ps = ap (λ t. power_name m p ++ t) (one_by_one ps)
  where
    one_by_one : (qs : List ℕ) → flat_map (λ q. 32 ∷ power_name m q) qs ≡ flat_map (λ v. 32 ∷ v) (map (power_name m) qs)
    one_by_one [] = refl
    one_by_one (q ∷ qs) = ap (λ t. (32 ∷ power_name m q) ++ t) (one_by_one qs)

module _ (m : Chart) (ok : IsMap m) where
  -- the names of powers are found again
  pub names_cut : (ps : List ℕ) → AllByRecursion (λ p. p < length m.realms) ps → pieces 32 (joined 32 (map (power_name m) ps)) ≡ map (power_name m) ps
  names_cut ps all = joined_back 32 (map (power_name m) ps) (names_words m ok ps all)

  -- a word in capitals is no power's name
  named_word : (word : List ℕ) → pieces 32 word ≡ word ∷ [] → is_power_name word ≡ false → (ps : List ℕ) → AllByRecursion (λ p. p < length m.realms) ps
      → joined 32 (map (power_name m) ps) ≡ word → ⊥
  named_word word one off [] all is = let none : ◌≡◌ {A = List (List ℕ)} [] (word ∷ []) = ap (pieces 32) is ∙ one in cc
  named_word word one off (p ∷ ps) all is =
      let same : map (power_name m) (p ∷ ps) ≡ word ∷ [] = sym (names_cut (p ∷ ps) all) ∙ ap (pieces 32) is ∙ one in
      let name : power_name m p ≡ word = cc in
      let form : is_power_name word ≡ true = subst (λ w. is_power_name w ≡ true) name (and_parts _ _ (ok.realms p all.0)).0 in
      let bad : true ≡ false = sym form ∙ off in
      cc

  off_word : (word : List ℕ) → pieces 32 word ≡ word ∷ [] → is_power_name word ≡ false → (ps : List ℕ) → AllByRecursion (λ p. p < length m.realms) ps
      → bytes_eq (joined 32 (map (power_name m) ps)) word ≡ false
  off_word word one off ps all = elim (cases_Bool (bytes_eq (joined 32 (map (power_name m) ps)) word)) [
    | inl e ↦ absurd (named_word word one off ps all ((bytes_eq-Decides (joined 32 (map (power_name m) ps)) word).0 e))
    | inr e ↦ e
  ]

  pub vote_back : (v : Vote) → IsVoteOf m v → vote_of m (ballot_text m v) ≡ v
  vote_back No of_map = refl
  vote_back Yes of_map = refl
  vote_back (For ps) of_map =
      rw (off_word (codes "NO") refl refl ps of_map.0, off_word (codes "YES") refl refl ps of_map.0)
      (ap For (ap (map (power_in m)) (names_cut ps of_map.0) ∙ names_back m ok ps of_map.0))

  names_text : (ps : List ℕ) → AllByRecursion (λ p. p < length m.realms) ps → AllByRecursion IsText (map (power_name m) ps)
  names_text [] all = tt
  names_text (p ∷ ps) all = (power_text m ok p all.0, names_text ps all.1)

  pub ballot_is_text : (v : Vote) → IsVoteOf m v → IsText (ballot_text m v)
  ballot_is_text No of_map = plain (codes "NO") refl
  ballot_is_text Yes of_map = plain (codes "YES") refl
  ballot_is_text (For ps) of_map = words 32 (omega arith) (map (power_name m) ps) (names_text ps of_map.0)

  -- what is neither NO nor YES names powers of the map, if it is a ballot's text
  pub named_powers : (text : List ℕ) → (text ≡ codes "NO" → ⊥) → (text ≡ codes "YES" → ⊥) → IsBallotText m text → ArePowers m (pieces 32 text)
  named_powers text not_no not_yes (No, of_map, is) = absurd (not_no is)
  named_powers text not_no not_yes (Yes, of_map, is) = absurd (not_yes is)
  named_powers text not_no not_yes (For ps, of_map, is) =
      subst (ArePowers m) (sym (ap (pieces 32) is ∙ names_cut ps of_map.0)) (all_powers m ps of_map.0)

  -- a ballot's text is never empty
  pub never_empty : (text : List ℕ) → length text ≡ 0 → IsBallotText m text → ⊥
  never_empty text none (No, of_map, is) = absurd (omega (arith, none, ap length is))
  never_empty text none (Yes, of_map, is) = absurd (omega (arith, none, ap length is))
  never_empty [] none (For [], of_map, is) = absurd (omega (arith, of_map.2))
  never_empty [] none (For (p ∷ ps), of_map, is) = let cut : [] ≡ map (power_name m) (p ∷ ps) = ap (pieces 32) is ∙ names_cut (p ∷ ps) of_map.0 in cc
  never_empty (x ∷ xs) none (For ps, of_map, is) = absurd (omega (arith, none))
