-- What printing leaves: the text that stood, which may be cut off from what was printed after it.
use Rattle.std.proofs.Common.{◌≡◌, ℕ, List, length, take, refl, sym, ap, subst, ◌∙◌, Result, Ok, Err}
use Rattle.std.specs.Prelude.{OnErr}
use Rattle.std.specs.Str.{IsUtf8, IsCharBoundary}
use Rattle.std.proofs.lemmas.List.{take_at}
use Rattle.std.proofs.lemmas.List.Prefix.{front_fits}
use Rattle.std.proofs.lemmas.Str.{IsCharBoundary-from_take}
use Rattle.dip_orders.specs.Texts.{Extends}

front_stood : (xs ys : List ℕ) → Extends xs ys → take (length xs) ys ≡ xs
front_stood xs ys e = ap (take (length xs)) e.same ∙ take_at xs e.rest (length xs) refl

-- a text ends where what was printed begins
pub may_be_cut : (xs ys : List ℕ) → IsUtf8 xs → IsUtf8 ys → Extends xs ys → IsCharBoundary ys (length xs)
may_be_cut xs ys u v e = IsCharBoundary-from_take ys (length xs) v (front_fits ys xs e.rest e.same) (subst (λ t. IsUtf8 t) (sym (front_stood xs ys e)) u)

on_err : {T E P : Type 0} (r : Result T E) → P → OnErr r P
on_err (Ok x) p = tt
on_err (Err e) p = p

-- what is cut where it ended is as it was
pub cut_back : {T E : Type 0} (r : Result T E) (n : ℕ) (xs ys zs : List ℕ) → n ≡ length xs → Extends xs ys → zs ≡ take n ys → OnErr r (zs ≡ xs)
cut_back r n xs ys zs ends e cut = on_err r (cut ∙ (ap (λ k. take k ys) ends ∙ front_stood xs ys e))
