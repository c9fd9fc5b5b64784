-- Rows that are numbered from 1 are found by their numbers.
use Rattle.std.proofs.Common.{◌≡◌, ℕ, zero, suc, ◌+◌, ◌-◌, ◌≤◌, ◌==◌, true, false, List, [], ◌∷◌, ◌++◌, map, filter, find, take, drop, length, option_map, refl, sym, ap, ap₂, subst, ◌∙◌, arith}
use Rattle.std.proofs.lemmas.Bool.Decides.{nat_tests}
use Rattle.std.specs.List.{AllByRecursion}
use Rattle.sqlite_keyed.proofs.ListLemmas.{all_of, all_weaker, filter_none}
use Rattle.dip_map.specs.Charts.{Chart}
use Rattle.dip_desk_state.specs.State.{paper_numbered}
use Rattle.dip_store_tables.specs.Counting.{counted}
use Rattle.dip_store_tables.specs.Looking.{is_within, PageIsFound, PaperIsFound}
use Rattle.dip_store_tables.specs.Reading.{item_of}
use Rattle.dip_store_rows.specs.Tables.{BoxRow, PaperRow, is_box, is_paper_in}
use Rattle.dip_store_tables.proofs.Lists.{filter_on, none_found}

-- the numbers from one on, so many
abbrev pub from : ℕ → ℕ → List ℕ
from i zero = []
from i (suc n) = i ∷ from (suc i) n

pub from_more : (i n : ℕ) → from i n ++ (i + n) ∷ [] ≡ from i (suc n)
from_more i zero = let e : i + 0 ≡ i = omega arith in ap (λ k. k ∷ []) e
from_more i (suc n) = let e : i + suc n ≡ suc i + n = omega arith in ap (λ ks. i ∷ ks) (ap (λ k. from (suc i) n ++ k ∷ []) e ∙ from_more (suc i) n)

pub counted_from : (n : ℕ) → counted n ≡ from 1 n
counted_from zero = refl
counted_from (suc n) = let e : suc n ≡ 1 + n = omega arith in ap₂ (λ ks k. ks ++ k ∷ []) (counted_from n) e ∙ from_more 1 n

-- a number below a page, none of an empty page, the first of a page, and those after it
too_low : (i k most : ℕ) → is_within (i + suc k) most i ≡ false
too_low i k most = grind (arith, nat_tests)

nothing_within : (f n : ℕ) → is_within f 0 n ≡ false
nothing_within f n = grind (arith, nat_tests)

is_first : (i most : ℕ) → is_within (i + 0) (suc most) i ≡ true
is_first i most = grind (arith, nat_tests)

same_page : (i most n : ℕ) → suc i ≤ n → is_within (i + 0) (suc most) n ≡ is_within (suc i + 0) most n
same_page i most n low = grind (arith, nat_tests, low)

module _ {A : Type 0} (number : A → ℕ) where
  abbrev AreFrom : ℕ → List A → Type 0
  AreFrom i xs = map number xs ≡ from i (length xs)

  as_from : (n : ℕ) (xs : List A) → map number xs ≡ counted n → AreFrom 1 xs
  as_from n xs e = e ∙ counted_from n ∙ ap (from 1) (long n xs (e ∙ counted_from n))
    where
      count_from : (i k : ℕ) → length (from i k) ≡ k
      count_from i zero = refl
      count_from i (suc k) = ap suc (count_from (suc i) k)

      count_map : (ys : List A) → length (map number ys) ≡ length ys
      count_map [] = refl
      count_map (y ∷ ys) = ap suc (count_map ys)

      long : (k : ℕ) (ys : List A) → map number ys ≡ from 1 k → k ≡ length ys
      long k ys same = sym (count_from 1 k) ∙ ap length (sym same) ∙ count_map ys

  first_number : (i : ℕ) (x : A) (xs : List A) → AreFrom i (x ∷ xs) → (number x ≡ i) × AreFrom (suc i) xs
  first_number i x xs e = (cc, cc)

  -- no number is less than the first
  not_below : (i : ℕ) (xs : List A) → AreFrom i xs → AllByRecursion (λ x. i ≤ number x) xs
  not_below i [] e = tt
  not_below i (x ∷ xs) e =
      let parts = first_number i x xs e in
      let here : i ≤ number x = subst (λ n. i ≤ n) (sym parts.0) (omega arith) in
      (here, all_weaker (λ y. suc i ≤ number y) (λ y. i ≤ number y) (λ y low. omega (arith, low)) xs (not_below (suc i) xs parts.1))

  -- the page that begins after so many rows
  page_rows : (k most i : ℕ) (xs : List A) → AreFrom i xs → filter (λ x. is_within (i + k) most (number x)) xs ≡ take most (drop k xs)
  page_rows zero zero i [] e = refl
  page_rows zero (suc most) i [] e = refl
  page_rows (suc k) zero i [] e = refl
  page_rows (suc k) (suc most) i [] e = refl
  page_rows (suc k) most i (x ∷ xs) e =
      let parts = first_number i x xs e in
      let out : is_within (i + suc k) most (number x) ≡ false = subst (λ n. is_within (i + suc k) most n ≡ false) (sym parts.0) (too_low i k most) in
      let same : i + suc k ≡ suc i + k = omega arith in
      rw out (ap (λ f. filter (λ x. is_within f most (number x)) xs) same ∙ page_rows k most (suc i) xs parts.1)
  page_rows zero zero i (x ∷ xs) e = filter_none (λ x. is_within (i + 0) 0 (number x)) (x ∷ xs) (all_of (λ x. is_within (i + 0) 0 (number x) ≡ false) (λ x. nothing_within (i + 0) (number x)) (x ∷ xs))
  page_rows zero (suc most) i (x ∷ xs) e =
      let parts = first_number i x xs e in
      let here : is_within (i + 0) (suc most) (number x) ≡ true = subst (λ n. is_within (i + 0) (suc most) n ≡ true) (sym parts.0) (is_first i most) in
      rw here (ap (λ ys. x ∷ ys)
      (filter_on (λ y. is_within (i + 0) (suc most) (number y)) (λ y. is_within (suc i + 0) most (number y)) xs
      (all_weaker (λ y. suc i ≤ number y) (λ y. is_within (i + 0) (suc most) (number y) ≡ is_within (suc i + 0) most (number y)) (λ y low. same_page i most (number y) low) xs (not_below (suc i) xs parts.1))
      ∙ page_rows zero most (suc i) xs parts.1))

  -- the row of a number
  numbered_row : (show : A → List ℕ) (i n : ℕ) (xs : List A) → AreFrom (suc i) xs → paper_numbered n (map show xs) ≡ option_map show (find (λ x. number x == i + n) xs)
  numbered_row show i zero [] e = refl
  numbered_row show i (suc zero) [] e = refl
  numbered_row show i (suc (suc n)) [] e = refl
  numbered_row show i zero (x ∷ xs) e =
      sym (ap (option_map show) (none_found (λ y. number y == i + 0) (x ∷ xs)
      (all_weaker (λ y. suc i ≤ number y) (λ y. (number y == i + 0) ≡ false) (λ y low. grind (arith, nat_tests, low)) (x ∷ xs) (not_below (suc i) (x ∷ xs) e))))
  numbered_row show i (suc zero) (x ∷ xs) e =
      let parts = first_number (suc i) x xs e in
      let here : (number x == i + 1) ≡ true = subst (λ n. (n == i + 1) ≡ true) (sym parts.0) (grind (arith, nat_tests)) in
      rw here refl
  numbered_row show i (suc (suc n)) (x ∷ xs) e =
      let parts = first_number (suc i) x xs e in
      let out : (number x == i + suc (suc n)) ≡ false = subst (λ k. (k == i + suc (suc n)) ≡ false) (sym parts.0) (grind (arith, nat_tests)) in
      let same : suc i + suc n ≡ i + suc (suc n) = omega arith in
      rw out (numbered_row show (suc i) (suc n) xs parts.1 ∙ ap (λ k. option_map show (find (λ x. number x == k) xs)) same)

map_page : {A B : Type 0} (f : A → B) (most k : ℕ) (xs : List A) → take most (drop k (map f xs)) ≡ map f (take most (drop k xs))
map_page f zero zero [] = refl
map_page f zero (suc k) [] = refl
map_page f (suc most) zero [] = refl
map_page f (suc most) (suc k) [] = refl
map_page f most (suc k) (x ∷ xs) = map_page f most k xs
map_page f zero zero (x ∷ xs) = refl
map_page f (suc most) zero (x ∷ xs) = ap (λ ys. f x ∷ ys) (map_page f most zero xs)

pub page_is_found : (m : Chart) → PageIsFound m
page_is_found m t s first most counts least =
    let rows = filter (is_box s.game s.power) t.boxes in
    let begin : 1 + (first - 1) ≡ first = omega (arith, least) in
    map_page item_of most (first - 1) rows
    ∙ ap (map item_of) (sym (page_rows (λ (b : BoxRow). b.number) (first - 1) most 1 rows (as_from (λ (b : BoxRow). b.number) s.items rows counts))
    ∙ ap (λ f. filter (λ (b : BoxRow). is_within f most b.number) rows) begin)

pub paper_is_found : (m : Chart) → PaperIsFound m
paper_is_found m t g n counts =
    let rows = filter (is_paper_in g.name) t.papers in
    numbered_row (λ (p : PaperRow). p.number) (λ (p : PaperRow). p.body) 0 n rows (as_from (λ (p : PaperRow). p.number) g.papers rows counts)
    ∙ ap (λ k. option_map (λ (p : PaperRow). p.body) (find (λ (p : PaperRow). p.number == k) rows)) (let e : 0 + n ≡ n = omega arith in e)
