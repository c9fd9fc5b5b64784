-- What the ballots say where some are changed.
use Rattle.std.proofs.Common.{◌≡◌, ℕ, Bool, true, false, cond, ◌&&◌, ◌||◌, List, [], ◌∷◌, ◌++◌, find, Option, Some, None, option_map, is_some, bytes_eq, codes, refl, sym, ap, ap₂, subst, ◌∙◌, inl, inr}
use Rattle.std.specs.List.{AllByRecursion, list_any}
use Rattle.std.proofs.lemmas.Bool.{cases_Bool}
use Rattle.sqlite_keyed.specs.Lists.{delete_where, update_where}
use Rattle.sqlite_keyed.proofs.SliceLemmas.{any_is_found}
use Rattle.dip_map.specs.Charts.{Chart, IsMap}
use Rattle.dip_desk_state.proofs.KeyedLemmas.{names_tell}
use Rattle.dip_desk_state.specs.Records.{Vote, No}
use Rattle.dip_desk_state.specs.Writable.{IsVoteOf}
use Rattle.dip_store_rows.specs.Tables.{BallotRow, is_ballot, is_ballot_in}
use Rattle.dip_store_tables.specs.Votes.{vote_in, vote_of, vote_on}
use Rattle.dip_store_tables.specs.Writing.{ballot_noted}
use Rattle.dip_store_tables.specs.Coding.{HasBallot}
use Rattle.dip_store_tables.proofs.Seats.{both_same, keys_turned, name_turned}
use Rattle.dip_store_tables.proofs.VoteLemmas.{vote_back}

module _ {A : Type 0} (p q : A → Bool) (f : A → A) where
  -- the first that passes, where all that pass are changed
  pub found_changed : ((x : A) → p (f x) ≡ p x) → (xs : List A) → find p (update_where p f xs) ≡ option_map f (find p xs)
  found_changed keeps [] = refl
  found_changed keeps (x ∷ xs) = elim (cases_Bool (p x)) [
    | inl e ↦ rw (e, keeps x ∙ e) refl
    | inr e ↦ rw (e, e) (found_changed keeps xs)
  ]

  -- the first that passes another test, which those that are changed never pass
  pub found_far : ((x : A) → p x ≡ true → q x ≡ false) → ((x : A) → q (f x) ≡ q x) → (xs : List A) → find q (update_where p f xs) ≡ find q xs
  found_far apart keeps [] = refl
  found_far apart keeps (x ∷ xs) = elim (cases_Bool (p x)) [
    | inl e ↦ rw (e, keeps x ∙ apart x e, apart x e) (found_far apart keeps xs)
    | inr e ↦ rw e (ap (λ o. cond (q x) (Some x) o) (found_far apart keeps xs))
  ]

  pub any_far : ((x : A) → q (f x) ≡ q x) → (xs : List A) → list_any q (update_where p f xs) ≡ list_any q xs
  any_far keeps [] = refl
  any_far keeps (x ∷ xs) = elim (cases_Bool (p x)) [
    | inl e ↦ rw e (ap₂ ◌||◌ (keeps x) (any_far keeps xs))
    | inr e ↦ rw e (ap (λ b. q x || b) (any_far keeps xs))
  ]

  -- and where those are taken out
  pub found_left : ((x : A) → p x ≡ true → q x ≡ false) → (xs : List A) → find q (delete_where p xs) ≡ find q xs
  found_left apart [] = refl
  found_left apart (x ∷ xs) = elim (cases_Bool (p x)) [
    | inl e ↦ rw (e, apart x e) (found_left apart xs)
    | inr e ↦ rw e (ap (λ o. cond (q x) (Some x) o) (found_left apart xs))
  ]

  pub any_left : ((x : A) → p x ≡ true → q x ≡ false) → (xs : List A) → list_any q (delete_where p xs) ≡ list_any q xs
  any_left apart [] = refl
  any_left apart (x ∷ xs) = elim (cases_Bool (p x)) [
    | inl e ↦ rw (e, apart x e) (any_left apart xs)
    | inr e ↦ rw e (ap (λ b. q x || b) (any_left apart xs))
  ]

-- what stands after and doesn't pass is not found
pub found_before : {A : Type 0} (q : A → Bool) (xs ys : List A) → AllByRecursion (λ y. q y ≡ false) ys → find q (xs ++ ys) ≡ find q xs
found_before q [] [] none = refl
found_before q [] (y ∷ ys) none = rw none.0 (found_before q [] ys none.1)
found_before q (x ∷ xs) ys none = ap (λ o. cond (q x) (Some x) o) (found_before q xs ys none)

-- a changed ballot keeps its key
pub noted_key : (m : Chart) (v : Vote) (name power : List ℕ) (b : BallotRow) → is_ballot name power (ballot_noted m v b) ≡ is_ballot name power b
noted_key m v name power b = refl

-- ballots of two seats
pub keys_far : (name power n p : List ℕ) → (bytes_eq n name && bytes_eq p power) ≡ false → (b : BallotRow) → is_ballot name power b ≡ true → is_ballot n p b ≡ false
keys_far name power n p far b mine =
    let same = both_same b.game b.power name power mine in
    let turned = keys_turned n p name power far in
    subst (λ g. (bytes_eq g n && bytes_eq b.power p) ≡ false) (sym same.0) (subst (λ q. (bytes_eq name n && bytes_eq q p) ≡ false) (sym same.1) turned)

pub game_far : (name n p : List ℕ) → bytes_eq n name ≡ false → (b : BallotRow) → is_ballot_in name b ≡ true → is_ballot n p b ≡ false
game_far name n p far b mine =
    ap (λ g. bytes_eq g n && bytes_eq b.power p) (names_tell.same b.game name mine) ∙ ap (λ c. c && bytes_eq b.power p) (name_turned n name far)

module _ (m : Chart) (ok : IsMap m) where
  there : (o : Option BallotRow) → is_some o ≡ true → (v : Vote) → IsVoteOf m v → vote_on m (option_map (ballot_noted m v) o) ≡ v
  there None none v of_map = absurd (let bad = none in cc)
  there (Some b) some v of_map = vote_back m ok v of_map

  -- a seat's vote after a change of it
  pub vote_changed : (v : Vote) → IsVoteOf m v → (name power : List ℕ) (ballots : List BallotRow) → HasBallot ballots name power
      → vote_in m (update_where (is_ballot name power) (ballot_noted m v) ballots) name power ≡ v
  vote_changed v of_map name power ballots has =
      ap (vote_on m) (found_changed (is_ballot name power) (is_ballot name power) (ballot_noted m v) (noted_key m v name power) ballots)
      ∙ there (find (is_ballot name power) ballots) (sym (any_is_found (is_ballot name power) ballots) ∙ has) v of_map

-- and after a change of another's
pub vote_far : (m : Chart) (v : Vote) (name power n p : List ℕ) → (bytes_eq n name && bytes_eq p power) ≡ false → (ballots : List BallotRow)
    → vote_in m (update_where (is_ballot name power) (ballot_noted m v) ballots) n p ≡ vote_in m ballots n p
vote_far m v name power n p far ballots =
    ap (vote_on m) (found_far (is_ballot name power) (is_ballot n p) (ballot_noted m v) (keys_far name power n p far) (noted_key m v n p) ballots)

-- where each ballot of a seat says NO, or there is none, its vote is no draw
pub says_no : (m : Chart) (name power : List ℕ) (ballots : List BallotRow) → AllByRecursion (λ b. is_ballot name power b ≡ true → b.names ≡ codes "NO") ballots
    → vote_in m ballots name power ≡ No
says_no m name power [] all = refl
says_no m name power (b ∷ bs) all = elim (cases_Bool (is_ballot name power b)) [
  | inl e ↦ rw e (ap (vote_of m) (all.0 e))
  | inr e ↦ rw e (says_no m name power bs all.1)
]
