-- A row by its keys is the row of its number among those of a game or a seat.
use Rattle.std.proofs.Common.{◌≡◌, inl, inr, ℕ, ◌==◌, ◌&&◌, List, [], ◌∷◌, filter, Bool, true, false, bytes_eq, refl}
use Rattle.std.specs.List.{find}
use Rattle.std.proofs.lemmas.Bool.{cases_Bool}
use Rattle.dip_store_rows.specs.Tables.{BoxRow, PaperRow, is_box, is_paper_in}
use Rattle.dip_store_sql.specs.Showing.{is_item, is_numbered}

find_in : {A : Type 0} (p q r : A → Bool) → ((x : A) → r x ≡ (p x && q x)) → (xs : List A) → find r xs ≡ find q (filter p xs)
find_in p q r told [] = refl
find_in p q r told (x ∷ xs) = elim (cases_Bool (p x)) [
  | inl e ↦ elim (cases_Bool (q x)) [
    | inl f ↦ rw (told x, e, f) refl
    | inr f ↦ rw (told x, e, f) (find_in p q r told xs)
  ]
  | inr e ↦ rw (told x, e) (find_in p q r told xs)
]

grouped : (a b c : Bool) → (a && (b && c)) ≡ ((a && b) && c)
grouped true b c = refl
grouped false b c = refl

pub paper_by_number : (game : List ℕ) (number : ℕ) (papers : List PaperRow) → find (is_numbered game number) papers ≡ find (λ p. p.number == number) (filter (is_paper_in game) papers)
paper_by_number game number papers = find_in (is_paper_in game) (λ p. p.number == number) (is_numbered game number) (λ p. refl) papers

pub item_by_number : (game power : List ℕ) (number : ℕ) (boxes : List BoxRow) → find (is_item game power number) boxes ≡ find (λ b. b.number == number) (filter (is_box game power) boxes)
item_by_number game power number boxes =
    find_in (is_box game power) (λ b. b.number == number) (is_item game power number) (λ b. grouped (bytes_eq b.game game) (bytes_eq b.power power) (b.number == number)) boxes
