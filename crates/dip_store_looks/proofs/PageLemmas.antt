-- The items that a page reads, one by one, are what its inbox has.
use Rattle.std.proofs.Common.{◌≡◌, ℕ, zero, suc, pos, ◌+◌, ◌-◌, ◌<◌, ◌≤◌, ◌==◌, Bool, true, false, min, bytes_eq, Option, None, Some, List, [], ◌∷◌, ◌++◌, map, filter, find, take, drop, length, option_map, refl, sym, ap, subst, ◌∙◌, inl, inr, arith}
use Rattle.std.specs.List.{AllByRecursion}
use Rattle.std.proofs.lemmas.Bool.{cases_Bool}
use Rattle.std.proofs.lemmas.Bool.Decides.{nat_tests}
use Rattle.std.proofs.lemmas.List.{length-drop, take_min}
use Rattle.sqlite.specs.declared.types.Value.TheVariants.{Int}
use Rattle.sqlite.specs.Order.{Row, column}
use Rattle.dip_map.specs.Charts.{Chart}
use Rattle.dip_desk_state.specs.Records.{Item}
use Rattle.dip_store_sql.specs.Rows.{number_in}
use Rattle.dip_store_sql.specs.Showing.{is_item, show_item, show_seat}
use Rattle.dip_store_tables.specs.Counting.{AreCounted, counted, item_numbers}
use Rattle.dip_store_tables.specs.Looking.{PageIsFound}
use Rattle.dip_store_tables.specs.Reading.{item_of, items_of}
use Rattle.dip_store_tables.specs.Tables.{BoxRow, SeatRow, Tables, is_box, is_seat}
use Rattle.dip_store_looks.specs.Asked.{page_in}
use Rattle.dip_store_looks.specs.Shown.{shown_item}
use Rattle.dip_store_looks.proofs.OwnLemmas.{found_seat}
use Rattle.dip_store_tables.proofs.Pages.{counted_from, from}

length_from : (i n : ℕ) → length (from i n) ≡ n
length_from i zero = refl
length_from i (suc n) = ap suc (length_from (suc i) n)

abbrev numbers : List BoxRow → List ℕ
numbers bs = map (λ (b : BoxRow). b.number) bs

length_numbers : (bs : List BoxRow) → length (numbers bs) ≡ length bs
length_numbers [] = refl
length_numbers (b ∷ bs) = ap suc (length_numbers bs)

length_items : (bs : List BoxRow) → length (map item_of bs) ≡ length bs
length_items [] = refl
length_items (b ∷ bs) = ap suc (length_items bs)

abbrev AreFrom : ℕ → List BoxRow → Type 0
AreFrom i bs = numbers bs ≡ from i (length bs)

as_from : (n : ℕ) (bs : List BoxRow) → numbers bs ≡ counted n → AreFrom 1 bs
as_from n bs e = let all = e ∙ counted_from n in all ∙ ap (from 1) (sym (length_from 1 n) ∙ ap length (sym all) ∙ length_numbers bs)

-- an item of a number is the one of that number in its box
item_in_box : (game power : List ℕ) (n : ℕ) (bs : List BoxRow)
    → find (is_item game power n) bs ≡ find (λ (b : BoxRow). b.number == n) (filter (is_box game power) bs)
item_in_box game power n [] = refl
item_in_box game power n (b ∷ bs) = elim (cases_Bool (bytes_eq b.game game)) [
  | inr off ↦ rw off (item_in_box game power n bs)
  | inl at ↦ elim (cases_Bool (bytes_eq b.power power)) [
    | inr off ↦ rw at (rw off (item_in_box game power n bs))
    | inl of ↦ elim (cases_Bool (b.number == n)) [
      | inl hit ↦ rw at (rw of (rw hit refl))
      | inr off ↦ rw at (rw of (rw off (item_in_box game power n bs)))
    ]
  ]
]

not_number : (k n : ℕ) → suc n ≤ k → (n == k) ≡ false
not_number k n low = grind (arith, nat_tests, low)

one_number : (n : ℕ) → (n == n) ≡ true
one_number n = grind (arith, nat_tests)

first_number : (i : ℕ) (b : BoxRow) (bs : List BoxRow) → AreFrom i (b ∷ bs) → (b.number ≡ i) × AreFrom (suc i) bs
first_number i b bs e = (cc, cc)

abbrev numbered : ℕ → List BoxRow → Option BoxRow
numbered n bs = find (λ (b : BoxRow). b.number == n) bs

-- one that isn't the first is found after it
after_first : (i n : ℕ) (b : BoxRow) (bs : List BoxRow) → AreFrom i (b ∷ bs) → suc i ≤ n → numbered n (b ∷ bs) ≡ numbered n bs
after_first i n b bs e low =
    let out : (b.number == n) ≡ false = subst (λ k. (k == n) ≡ false) (sym (first_number i b bs e).0) (not_number n i low) in
    rw out refl

-- one item more, of the next number
next_item : (j k i : ℕ) (bs : List BoxRow) (x : Item) → AreFrom i bs → Some x ≡ option_map item_of (numbered (i + (k + j)) bs)
    → take (suc j) (drop k (map item_of bs)) ≡ take j (drop k (map item_of bs)) ++ x ∷ []
next_item j k i [] x e is = absurd (cc)
next_item j (suc k) i (b ∷ bs) x e is =
    let low : suc i ≤ i + (suc k + j) = omega arith in
    let same : i + (suc k + j) ≡ suc i + (k + j) = omega arith in
    next_item j k (suc i) bs x (first_number i b bs e).1
    (is ∙ ap (option_map item_of) (after_first i (i + (suc k + j)) b bs e low ∙ ap (λ n. numbered n bs) same))
next_item zero zero i (b ∷ bs) x e is =
    let same : i + 0 ≡ i = omega arith in
    let hit : (b.number == i + 0) ≡ true = subst (λ n. (n == i + 0) ≡ true) (same ∙ sym (first_number i b bs e).0) (one_number (i + 0)) in
    let mine : Some x ≡ Some (item_of b) = is ∙ (rw hit refl) in
    let one : x ≡ item_of b = cc in
    ap (λ y. y ∷ []) (sym one)
next_item (suc j) zero i (b ∷ bs) x e is =
    let low : suc i ≤ i + (0 + suc j) = omega arith in
    let same : i + (0 + suc j) ≡ suc i + (0 + j) = omega arith in
    ap (λ ys. item_of b ∷ ys) (next_item j zero (suc i) bs x (first_number i b bs e).1
    (is ∙ ap (option_map item_of) (after_first i (i + (0 + suc j)) b bs e low ∙ ap (λ n. numbered n bs) same)))

pub item_more : (boxes : List BoxRow) (game power : List ℕ) (skipped j n : ℕ) (x : Item) → item_numbers boxes game power ≡ counted n
    → Some x ≡ option_map item_of (find (is_item game power (skipped + j + 1)) boxes)
    → take (suc j) (drop skipped (items_of boxes game power)) ≡ take j (drop skipped (items_of boxes game power)) ++ x ∷ []
item_more boxes game power skipped j n x counts is =
    let rows = filter (is_box game power) boxes in
    let same : skipped + j + 1 ≡ 1 + (skipped + j) = omega arith in
    next_item j skipped 1 rows x (as_from n rows counts)
    (is ∙ ap (option_map item_of) (item_in_box game power (skipped + j + 1) boxes ∙ ap (λ i. numbered i rows) same))

-- an item that is found is what its row shows
pub item_shown : (boxes : List BoxRow) (game power : List ℕ) (n : ℕ) (row : Row)
    → Some row ≡ option_map show_item (find (is_item game power n) boxes)
    → Some (item_of (shown_item row)) ≡ option_map item_of (find (is_item game power n) boxes)
item_shown boxes game power n row is = by_item (find (is_item game power n) boxes) is
  where
    by_item : (o : Option BoxRow) → Some row ≡ option_map show_item o → Some (item_of (shown_item row)) ≡ option_map item_of o
    by_item None bad = absurd (cc)
    by_item (Some b) same = let one : row ≡ show_item b = cc in ap (λ r. Some (item_of (shown_item r))) one

-- an item of each number that a seat counts is there
number_there : (i k : ℕ) (bs : List BoxRow) → AreFrom i bs → i ≤ k → k < i + length bs → numbered k bs ≡ None → ⊥
number_there i k [] e least low = λ none. omega (arith, least, low)
number_there i k (b ∷ bs) e least low = elim (cases_Bool (b.number == k)) [
  | inl hit ↦ rw hit (λ is. absurd (cc))
  | inr off ↦ rw off (λ is.
      let first = first_number i b bs e in
      let away : i ≡ k → ⊥ = (λ same. let hit : (b.number == k) ≡ true = subst (λ j. (j == k) ≡ true) (sym (first.0 ∙ same)) (one_number k) in let bad = sym off ∙ hit in cc) in
      let next : suc i ≤ k = omega (arith, least, away) in
      number_there (suc i) k bs first.1 next (omega (arith, low)) is)
]

pub item_there : (boxes : List BoxRow) (game power : List ℕ) (k n : ℕ) → item_numbers boxes game power ≡ counted n → 0 < k → k ≤ n
    → None ≡ option_map show_item (find (is_item game power k) boxes) → ⊥
item_there boxes game power k n counts some low none =
    let rows = filter (is_box game power) boxes in
    let long : length rows ≡ n = sym (length_numbers rows) ∙ ap length (counts ∙ counted_from n) ∙ length_from 1 n in
    number_there 1 k rows (as_from n rows counts) (omega (arith, some)) (omega (arith, low, long))
    (sym (item_in_box game power k boxes) ∙ not_shown (find (is_item game power k) boxes) none)
  where
    not_shown : (o : Option BoxRow) → None ≡ option_map show_item o → o ≡ None
    not_shown None is = refl
    not_shown (Some b) is = absurd (cc)

-- what holds of each record holds of the one that is found
all_found : {A : Type 0} (P : A → Type 0) (p : A → Bool) (xs : List A) (x : A) → AllByRecursion P xs → find p xs ≡ Some x → P x
all_found P p [] x all = λ is. absurd (cc)
all_found P p (y ∷ ys) x all = elim (cases_Bool (p y)) [
  | inl hit ↦ rw hit (λ is. let same : y ≡ x = cc in subst P same all.0)
  | inr off ↦ rw off (λ is. all_found P p ys x all.1 is)
]

long : (boxes : List BoxRow) (name power : List ℕ) (n : ℕ) → item_numbers boxes name power ≡ counted n → length (items_of boxes name power) ≡ n
long boxes name power n counts =
    let rows = filter (is_box name power) boxes in
    length_items rows ∙ sym (length_numbers rows) ∙ ap length (counts ∙ counted_from n) ∙ length_from 1 n

-- no more are read than there are
page_ends : (box : List Item) (k most count : ℕ) → length box ≡ count → take (min most (count - k)) (drop k box) ≡ take most (drop k box)
page_ends box k most count is =
    let rest : count - k ≡ length (drop k box) = ap (λ n. n - k) (sym is) ∙ sym (length-drop k box) in
    ap (λ n. take (min most n) (drop k box)) rest ∙ take_min most (drop k box)

-- a page has no more items than there are after those that it skips
pub page_low : (most count skipped many : ℕ) → many ≡ min most (count - skipped) → many ≤ count - skipped
page_low most count skipped many is = omega (arith, is)

-- the seat that is found counts its items
pub seat_counts : (m : Chart) (t : Tables) (name power : List ℕ) (count : ℕ) (row : Row) → AreCounted t
    → Some row ≡ option_map show_seat (find (is_seat name power) t.seats) → column row 6 ≡ Int (pos count)
    → item_numbers t.boxes name power ≡ counted count
seat_counts m t name power count row all shown counts = by_seat (find (is_seat name power) t.seats) refl
  where
    by_seat : (o : Option SeatRow) → find (is_seat name power) t.seats ≡ o → item_numbers t.boxes name power ≡ counted count
    by_seat None none = absurd (let bad = shown ∙ ap (option_map show_seat) none in cc)
    by_seat (Some s) found =
        let same : row ≡ show_seat s = (let both = shown ∙ ap (option_map show_seat) found in cc) in
        let named = found_seat m name power t.seats s found in
        let here = all_found (λ (s : SeatRow). item_numbers t.boxes s.game s.power ≡ counted s.items) (is_seat name power) t.seats s all.items found in
        let has : count ≡ s.items = ap number_in (sym counts ∙ ap (λ r. column r 6) same) in
        ap (λ g. item_numbers t.boxes g power) (sym named.0) ∙ ap (λ p. item_numbers t.boxes s.game p) (sym named.1) ∙ here ∙ ap counted (sym has)

-- a page that is read of the seat that is found is its page
pub page_is : (m : Chart) → PageIsFound m → (t : Tables) (name power : List ℕ) (first most count skipped many : ℕ) (row : Row) (items : List Item) → AreCounted t
    → Some row ≡ option_map show_seat (find (is_seat name power) t.seats)
    → column row 6 ≡ Int (pos count) → skipped ≡ first - 1 → many ≡ min most (count - skipped)
    → ((n : ℕ) → item_numbers t.boxes name power ≡ counted n → items ≡ take many (drop skipped (items_of t.boxes name power)))
    → Some items ≡ option_map (page_in t.boxes first most) (find (is_seat name power) t.seats)
page_is m law t name power first most count skipped many row items all shown counts skips reads read = by_seat (find (is_seat name power) t.seats) refl
  where
    of_seat : (s : SeatRow) → find (is_seat name power) t.seats ≡ Some s → row ≡ show_seat s → items ≡ page_in t.boxes first most s
    of_seat s found same =
        let named = found_seat m name power t.seats s found in
        let here = all_found (λ (s : SeatRow). item_numbers t.boxes s.game s.power ≡ counted s.items) (is_seat name power) t.seats s all.items found in
        let in_game = subst (λ g. item_numbers t.boxes g s.power ≡ counted s.items) named.0 here in
        let in_box = subst (λ p. item_numbers t.boxes name p ≡ counted s.items) named.1 in_game in
        let has : count ≡ s.items = ap number_in (sym counts ∙ ap (λ r. column r 6) same) in
        let ends = page_ends (items_of t.boxes name power) skipped most s.items (long t.boxes name power s.items in_box) in
        let as_many : many ≡ min most (s.items - skipped) = reads ∙ ap (λ n. min most (n - skipped)) has in
        let mine : items_of t.boxes name power ≡ items_of t.boxes s.game s.power = ap (λ g. items_of t.boxes g power) (sym named.0) ∙ ap (λ p. items_of t.boxes s.game p) (sym named.1) in
        let begin : skipped ≡ (1 + (first - 1)) - 1 = skips ∙ (let e : first - 1 ≡ (1 + (first - 1)) - 1 = omega arith in e) in
        let least : 1 ≤ 1 + (first - 1) = omega arith in
        read s.items in_box ∙ ap (λ k. take k (drop skipped (items_of t.boxes name power))) as_many ∙ ends
        ∙ ap (λ box. take most (drop skipped box)) mine
        ∙ ap (λ i. take most (drop i (items_of t.boxes s.game s.power))) begin
        ∙ law t s (1 + (first - 1)) most here least

    by_seat : (o : Option SeatRow) → find (is_seat name power) t.seats ≡ o → Some items ≡ option_map (page_in t.boxes first most) (find (is_seat name power) t.seats)
    by_seat None none = absurd (let bad = shown ∙ ap (option_map show_seat) none in cc)
    by_seat (Some s) found =
        let same : row ≡ show_seat s = (let both = shown ∙ ap (option_map show_seat) found in cc) in
        ap Some (of_seat s found same) ∙ sym (ap (option_map (page_in t.boxes first most)) found)
