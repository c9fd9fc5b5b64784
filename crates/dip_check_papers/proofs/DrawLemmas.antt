-- The paper of a draw names those who share, and they are read back.
use Rattle.std.proofs.Common.{◌≡◌, ◌<◌, ◌≤◌, ◌==◌, ◌&&◌, ◌||◌, ◌+◌, nat_le, nat_lt, not, ℕ, zero, suc, Bool, true, false, cond, length, List, [], ◌∷◌, ◌++◌, Some, filter, flat_map, map, refl, sym, ap, ap₂, subst, ◌∙◌, append_assoc, codes, arith, eq-eqb}
use Rattle.std.specs.List.{AllByRecursion, list_all, range_with_len}
use Rattle.std.specs.Str.{bytes_eq}
use Rattle.std.specs.Bool.{one_answer}
use Rattle.std.specs.Char.{is_ascii_lowercase}
use Rattle.std.proofs.lemmas.Bool.{and_parts, eqb-false, eqb-true, false≢true, leb-true, ltb-true}
use Rattle.std.proofs.lemmas.Bool.Decides.{nat_tests}
use Rattle.std.proofs.lemmas.Slice.Eq.{bytes_eq-Decides}
use Rattle.dip_names.specs.Forms.{is_power_name, is_taken}
use Rattle.dip_map.specs.Boards.{Position, are_ascending}
use Rattle.dip_map.specs.Charts.{Chart, IsMap, is_centre, is_unit, power_of, powers, realm}
use Rattle.dip_desk_games.specs.Drawing.{public_drawn, survives}
use Rattle.dip_desk_state.specs.Records.{For, Public}
use Rattle.dip_desk_state.specs.Writable.{IsVoteOf}
use Rattle.dip_reports.specs.Texts.{board_lines, draw_paper, game_line, paper_title, phase_text, terms_text}
use Rattle.dip_desk_state.specs.Texts.{status_text}
use Rattle.dip_check_papers.specs.Parts.{words_in}
use Rattle.dip_check_papers.specs.Shared.{draw_head, is_named, is_sharer, sharers}
use Rattle.dip_check_papers.proofs.WordLemmas.{lacks, lacks_by}
use Rattle.dip_check_papers.proofs.GameLines.{glued, terms_glued, word_then}

-- the names of powers, each after a space
abbrev pub names_text : Chart → List ℕ → List ℕ
names_text m powers = flat_map (λ p. codes " " ++ (realm m p).name) powers

-- all after the names in the paper of a draw
abbrev pub draw_tail : Chart → Public → List ℕ
draw_tail m p = codes "\n" ++ (board_lines m p.board ++ codes "END\n")

-- all from the names on
abbrev pub draw_rest : Chart → List ℕ → Public → List ℕ
draw_rest m powers p = names_text m powers ++ (terms_text (public_drawn powers p) ++ draw_tail m p)

pub draw_begins : (m : Chart) (powers : List ℕ) (p : Public) → draw_paper m (public_drawn powers p) ≡ draw_head p ++ draw_rest m powers p
unfolding game_line status_text
draw_begins m powers p =
    let new : Public = public_drawn powers p in
    let title : List ℕ = paper_title (p.papers + 1) (codes "draw") in
    let phase : List ℕ = phase_text p.board.phase in
    let says : List ℕ = codes "drawn by" ++ names_text m powers in
    let rest : List ℕ = names_text m powers ++ (terms_text new ++ draw_tail m p) in
    ap (λ t. title ++ t) (glued (codes "GAME " ++ p.game) (codes " " ∷ phase ∷ codes " " ∷ says ∷ terms_text new ∷ codes "\n" ∷ board_lines m p.board ∷ codes "END\n" ∷ []))
    ∙ sym (glued title (codes "GAME " ∷ p.game ∷ codes " " ∷ phase ∷ codes " drawn by" ∷ rest ∷ []))

-- a name that a power may have: letters alone, and one at least
record IsNameOf (name : List ℕ) : Type 0 where
  letters : list_all is_ascii_lowercase name ≡ true
  some : 1 ≤ length name

name_facts : (m : Chart) (r : ℕ) → IsMap m → r < length m.realms → IsNameOf (realm m r).name
name_facts m r map low =
    let name : List ℕ = (realm m r).name in
    let whole = and_parts (is_power_name name) (list_all (λ p. is_centre m p) (realm m r).home && list_all (λ u. is_unit m u) (realm m r).units) (map.realms r low) in
    let least = and_parts (nat_le 1 (length name)) (nat_le (length name) 16 && (list_all is_ascii_lowercase name && not (is_taken name))) whole.0 in
    let most = and_parts (nat_le (length name) 16) (list_all is_ascii_lowercase name && not (is_taken name)) least.1 in
    let letters = and_parts (list_all is_ascii_lowercase name) (not (is_taken name)) most.1 in
    record { letters = letters.0; some = leb-true 1 (length name) least.0 }

name_lacks : (mark : ℕ) (name : List ℕ) → is_ascii_lowercase mark ≡ false → IsNameOf name → lacks mark name ≡ true
name_lacks mark name fails is = lacks_by is_ascii_lowercase mark fails name is.letters

-- no name is DUE
no_due : (name : List ℕ) → IsNameOf name → bytes_eq name (codes "DUE") ≡ false
no_due [] is = refl
no_due (x ∷ name) is =
    let first = and_parts (is_ascii_lowercase x) (list_all is_ascii_lowercase name) is.letters in
    go (x == 68) refl first.0
  where
    go : (t : Bool) → (x == 68) ≡ t → is_ascii_lowercase x ≡ true → (t && bytes_eq name (codes "UE")) ≡ false
    go true is lower =
        let same : x ≡ 68 = eqb-true x 68 is in
        let no : false ≡ true = sym (ap is_ascii_lowercase same) ∙ lower in absurd (false≢true no)
    go false is lower = refl

-- the names are words, and then come the terms
abbrev pub names_of : Chart → List ℕ → List (List ℕ)
names_of m powers = map (λ r. (realm m r).name) powers

name_words : (m : Chart) (w : List ℕ) (powers rest : List ℕ) → IsMap m → lacks 32 w ≡ true → AllByRecursion (λ r. r < length m.realms) powers
    → words_in (w ++ (names_text m powers ++ (codes " DUE " ++ rest))) ≡ w ∷ (names_of m powers ++ codes "DUE" ∷ words_in rest)
name_words m w [] rest map free of = word_then w (codes "DUE " ++ rest) free
name_words m w (r ∷ rs) rest map free of =
    let name : List ℕ = (realm m r).name in
    ap (λ t. words_in (w ++ t)) (append_assoc (codes " " ++ name) (names_text m rs) (codes " DUE " ++ rest))
    ∙ word_then w (name ++ (names_text m rs ++ (codes " DUE " ++ rest))) free
    ∙ ap (λ ws. w ∷ ws) (name_words m name rs rest map (name_lacks 32 name refl (name_facts m r map of.0)) of.1)

terms_begin : (p : Public) → (rest : List ℕ) × (terms_text p ≡ codes " DUE " ++ rest)
terms_begin p = (_, terms_glued p)

-- what follows the head is read as the names, up to the terms
pub draw_words : (m : Chart) (powers : List ℕ) (p : Public) → IsMap m → AllByRecursion (λ r. r < length m.realms) powers
    → (rest : List (List ℕ)) × (words_in (draw_rest m powers p) ≡ [] ∷ (names_of m powers ++ codes "DUE" ∷ rest))
draw_words m powers p map of =
    let begin = terms_begin (public_drawn powers p) in (
      words_in (begin.0 ++ draw_tail m p),
      ap (λ t. words_in (names_text m powers ++ (t ++ draw_tail m p))) begin.1
          ∙ name_words m [] powers (begin.0 ++ draw_tail m p) map refl of,
    )

-- whether a number is among these
abbrev pub is_in : ℕ → List ℕ → Bool
is_in r [] = false
is_in r (x ∷ xs) = (x == r) || is_in r xs

-- two powers of a map have two names
names_apart : (m : Chart) (q r : ℕ) → IsMap m → q < length m.realms → r < length m.realms → (realm m q).name ≡ (realm m r).name → q ≡ r
names_apart m q r map low small same = let e : Some q ≡ Some r = sym (map.names_found q low) ∙ ap (power_of m) same ∙ map.names_found r small in cc

same_name : (m : Chart) (q r : ℕ) → IsMap m → q < length m.realms → r < length m.realms → bytes_eq (realm m q).name (realm m r).name ≡ (q == r)
same_name m q r map low small =
    let names = bytes_eq-Decides (realm m q).name (realm m r).name in
    one_answer {P = q ≡ r} (bytes_eq (realm m q).name (realm m r).name) (q == r)
    ((λ h. names_apart m q r map low small (names.0 h)), (λ same. names.1 (ap (λ n. (realm m n).name) same)))
    ((λ h. eqb-true q r h), (λ same. eq-eqb q r same))

-- a power is named just where it is among those who are
named_so : (m : Chart) (powers : List ℕ) (rest : List (List ℕ)) (r : ℕ) → IsMap m → AllByRecursion (λ q. q < length m.realms) powers → r < length m.realms
    → is_named (realm m r).name (names_of m powers ++ codes "DUE" ∷ rest) ≡ is_in r powers
named_so m [] rest r map of low = refl
named_so m (q ∷ qs) rest r map of low =
    rw (no_due (realm m q).name (name_facts m q map of.0), same_name m q r map of.0 low, named_so m qs rest r map of.1 low) refl

named_first : (m : Chart) (powers : List ℕ) (rest : List (List ℕ)) (r : ℕ) → IsMap m → AllByRecursion (λ q. q < length m.realms) powers → r < length m.realms
    → is_named (realm m r).name ([] ∷ (names_of m powers ++ codes "DUE" ∷ rest)) ≡ is_in r powers
named_first m powers rest r map of low =
    let name : List ℕ = (realm m r).name in
    let other : bytes_eq [] name ≡ false = no_empty name (name_facts m r map low) in
    ap (λ t. t || is_named name (names_of m powers ++ codes "DUE" ∷ rest)) other ∙ named_so m powers rest r map of low
  where
    no_empty : (name : List ℕ) → IsNameOf name → bytes_eq [] name ≡ false
    no_empty [] is = absurd (omega (arith, is.some))
    no_empty (x ∷ name) is = refl

-- ---- numbers that pass a test, in order

unequal : (x r : ℕ) → x < r → (x == r) ≡ false
unequal x r low = grind (arith, nat_tests)

-- each is from a number on
abbrev AreFrom : ℕ → List ℕ → Type 0
AreFrom from xs = AllByRecursion (λ x. from ≤ x) xs

after_first : (x : ℕ) (xs : List ℕ) → list_all (λ q. nat_lt x q) xs ≡ true → AreFrom (x + 1) xs
after_first x [] all = tt
after_first x (y ∷ ys) all =
    let parts = and_parts (nat_lt x y) (list_all (λ q. nat_lt x q) ys) all in
    let low : x < y = ltb-true x y parts.0 in
    (omega (arith, low), after_first x ys parts.1)

not_in : (from : ℕ) (xs : List ℕ) → AreFrom (from + 1) xs → is_in from xs ≡ false
not_in from [] all = refl
not_in from (x ∷ xs) all =
    let other : (x == from) ≡ false = grind (arith, nat_tests, all.0) in
    rw (other, not_in from xs all.1) refl

below_more : (from count : ℕ) (xs : List ℕ) → AllByRecursion (λ x. x < from + suc count) xs → AllByRecursion (λ x. x < from + 1 + count) xs
below_more from count [] all = tt
below_more from count (x ∷ xs) all = (omega (arith, all.0), below_more from count xs all.1)

from_more : (from other : ℕ) (xs : List ℕ) → from ≤ other → AreFrom other xs → AreFrom from xs
from_more from other [] le all = tt
from_more from other (x ∷ xs) le all = (omega (arith, le, all.0), from_more from other xs le all.1)

-- ascending numbers are what a test that just they pass leaves of a range that has them
pub filtered : (p : ℕ → Bool) (from count : ℕ) (xs : List ℕ) → AreFrom from xs → AllByRecursion (λ x. x < from + count) xs → are_ascending xs ≡ true
    → ((r : ℕ) → from ≤ r → r < from + count → p r ≡ is_in r xs) → filter p (range_with_len from count) ≡ xs
filtered p from zero [] low high ascend passes = refl
filtered p from zero (x ∷ xs) low high ascend passes = absurd (omega (arith, low.0, high.0))
filtered p from (suc count) [] low high ascend passes =
    let out : p from ≡ false = passes from (omega arith) (omega arith) in
    ap (λ t. cond t (from ∷ filter p (range_with_len (from + 1) count)) (filter p (range_with_len (from + 1) count))) out
    ∙ filtered p (from + 1) count [] tt tt refl (λ r a b. passes r (omega (arith, a)) (omega (arith, b)))
filtered p from (suc count) (x ∷ xs) low high ascend passes =
    by (x == from) refl (λ ys a b c d. filtered p (from + 1) count ys a b c d)
  where
    parts : (list_all (λ q. nat_lt x q) xs ≡ true) × (are_ascending xs ≡ true)
    parts = and_parts (list_all (λ q. nat_lt x q) xs) (are_ascending xs) ascend

    here : p from ≡ is_in from (x ∷ xs)
    here = passes from (omega arith) (omega arith)

    by : (t : Bool) → (x == from) ≡ t
        → ((ys : List ℕ) → AreFrom (from + 1) ys → AllByRecursion (λ x. x < from + 1 + count) ys → are_ascending ys ≡ true
        → ((r : ℕ) → from + 1 ≤ r → r < from + 1 + count → p r ≡ is_in r ys) → filter p (range_with_len (from + 1) count) ≡ ys)
        → filter p (from ∷ range_with_len (from + 1) count) ≡ x ∷ xs
    by true is rest =
        let same : x ≡ from = eqb-true x from is in
        let passed : p from ≡ true = here ∙ ap (λ t. t || is_in from xs) is in
        let others : filter p (range_with_len (from + 1) count) ≡ xs =
        rest xs (subst (λ n. AreFrom (n + 1) xs) same (after_first x xs parts.0)) (below_more from count xs high.1) parts.1
        (λ r a b. passes r (omega (arith, a)) (omega (arith, b)) ∙ ap (λ t. t || is_in r xs) (unequal x r (omega (arith, same, a)))) in
        ap (λ t. cond t (from ∷ filter p (range_with_len (from + 1) count)) (filter p (range_with_len (from + 1) count))) passed
        ∙ ap₂ (λ y ys. y ∷ ys) (sym same) others
    by false is rest =
        let other = eqb-false x from is in
        let far : AreFrom (from + 1) (x ∷ xs) = (omega (arith, low.0, other), from_more (from + 1) (x + 1) xs (omega (arith, low.0)) (after_first x xs parts.0)) in
        let out : p from ≡ false = here ∙ not_in from (x ∷ xs) far in
        ap (λ t. cond t (from ∷ filter p (range_with_len (from + 1) count)) (filter p (range_with_len (from + 1) count))) out
        ∙ rest (x ∷ xs) far (below_more from count (x ∷ xs) high) ascend (λ r a b. passes r (omega (arith, a)) (omega (arith, b)))

-- a number that isn't among those that pass, or is
passes_all : (q : ℕ → Bool) (xs : List ℕ) (r : ℕ) → AllByRecursion (λ x. q x ≡ true) xs → is_in r xs ≡ true → q r ≡ true
passes_all q [] r all is = absurd (false≢true is)
passes_all q (x ∷ xs) r all is = by (x == r) refl is (passes_all q xs r all.1)
  where
    by : (t : Bool) → (x == r) ≡ t → (t || is_in r xs) ≡ true → (is_in r xs ≡ true → q r ≡ true) → q r ≡ true
    by true at is rest = sym (ap q (eqb-true x r at)) ∙ all.0
    by false at is rest = rest is

both_pass : (q : ℕ → Bool) (xs : List ℕ) (r : ℕ) → AllByRecursion (λ x. q x ≡ true) xs → (is_in r xs && q r) ≡ is_in r xs
both_pass q xs r all = by (is_in r xs) (passes_all q xs r all)
  where
    by : (t : Bool) → (t ≡ true → q r ≡ true) → (t && q r) ≡ t
    by true passes = passes refl
    by false passes = refl

all_from_zero : (xs : List ℕ) → AreFrom 0 xs
all_from_zero [] = tt
all_from_zero (x ∷ xs) = (omega arith, all_from_zero xs)

-- those who share by the words of their paper
pub shared_so : (m : Chart) (b : Position) (set : List ℕ) (rest : List (List ℕ)) → IsMap m → AllByRecursion (λ r. r < length m.realms) set → are_ascending set ≡ true
    → AllByRecursion (λ r. survives m b r ≡ true) set → sharers m b ([] ∷ (names_of m set ++ codes "DUE" ∷ rest)) ≡ set
shared_so m b set rest map of ascend survive =
    let no_more : length m.realms ≡ 0 + length m.realms = omega arith in
    filtered (is_sharer m b ([] ∷ (names_of m set ++ codes "DUE" ∷ rest))) 0 (length m.realms) set (all_from_zero set)
    (subst (λ n. AllByRecursion (λ x. x < n) set) no_more of) ascend
    (λ r a low. ap (λ t. t && survives m b r) (named_first m set rest r map of (omega (arith, low))) ∙ both_pass (survives m b) set r survive)

pub sharers_of : (m : Chart) (p : Public) (set : List ℕ) → IsMap m → IsVoteOf m (For set) → AllByRecursion (λ r. survives m p.board r ≡ true) set
    → sharers m p.board (words_in (draw_rest m set p)) ≡ set
sharers_of m p set map named survive =
    let words = draw_words m set p map named.0 in
    ap (sharers m p.board) words.1 ∙ shared_so m p.board set words.0 map named.0 named.1 survive
