-- Bodies that are one letter.
use Rattle.std.proofs.Common.{◌≡◌, ◌⊎◌, inl, inr, subst, Bor, ℕ, List, ◌++◌, replicate, sym, ap, ◌∙◌, append-nil}
use Rattle.sha2.specs.Sha256.{sha256}
use Rattle.dip_letters.specs.Input.{IsNext, IsSameNext, IsTaken, Skips}
use Rattle.dip_letters.specs.Letters.{Fits, spelling}
use Rattle.dip_letters.specs.Notes.{Note}
use Rattle.dip_letters.specs.Views.{note}
use Rattle.dip_letters.specs.declared.letters.Letter.{Letter}
use Rattle.dip_letters.specs.declared.letters.LetterFault.{LetterFault}
use Rattle.dip_letters.specs.declared.letters.LetterFault.TheVariants.{Malformed, TooLong}
use Rattle.dip_letters.specs.declared.letters.Next.{Next}
use Rattle.dip_letters.specs.declared.letters.Next.TheVariants.{Taken, Fault, End}
use Rattle.dip_letters.proofs.AgainLemmas.{letter_starts, not_long, only_blank, same_next, spelling_unique, text_settles}
use Rattle.dip_desk_machine.specs.Mail.{Mail, mail}
use Rattle.dip_http.specs.Answering.{IsOneLetter}

-- a letter after empty lines is what stands next
found : (body : List ℕ) (n : Note) (rest : List ℕ) (next : Next) → Fits n → Skips body (spelling n ++ rest) → IsNext body next → IsTaken n rest next
found body n rest (Taken l r) fits skips is =
    let at = text_settles body (spelling (note l) ++ r.now) (spelling n ++ rest) (letter_starts (note l) r.now) (letter_starts n rest) is.1 skips in
    let same = spelling_unique (note l) n r.now rest is.0.fits fits at in
    (is.0, same.0, same.1)
found body n rest (Fault TooLong r) fits skips is =
    not_long n rest is.0 fits (text_settles body is.0 (spelling n ++ rest) is.1 (letter_starts n rest) is.2 skips) is.3
found body n rest (Fault Malformed r) fits skips is =
    is.4 n rest fits (text_settles body is.0 (spelling n ++ rest) is.1 (letter_starts n rest) is.2 skips)
found body n rest End fits skips is = only_blank skips.blank is.blank (spelling n ++ rest) (letter_starts n rest) (sym skips.is ∙ is.is)

pub skips_to : (body : List ℕ) (n : Mail) → (one : IsOneLetter body n) → Skips body (spelling n.note ++ replicate one.after 10)
skips_to body n one = record { blank = one.before; is = one.is }

-- a letter with nothing but empty lines after it
pub is_one : (body : List ℕ) (l : Letter) (r : _) → IsNext body (Taken l r) → IsNext r.now End → IsOneLetter body (mail l)
is_one body l r is end = record {
  fits = is.0.fits;
  sum = ap sha256 is.0.bytes;
  before = is.1.blank;
  after = end.blank;
  is = is.1.is ∙ ap (λ (t : List ℕ). replicate is.1.blank 10 ++ (spelling (note l) ++ t)) (end.is ∙ append-nil (replicate end.blank 10));
}

-- no letter stands there
pub no_letter_at_fault : (body : List ℕ) (f : _) (r : _) → IsNext body (Fault f r) → (n : Mail) → IsOneLetter body n → ⊥
no_letter_at_fault body f r is n one = found body n.note (replicate one.after 10) (Fault f r) one.fits (skips_to body n one) is

pub no_letter_at_end : (body : List ℕ) → IsNext body End → (n : Mail) → IsOneLetter body n → ⊥
no_letter_at_end body is n one = found body n.note (replicate one.after 10) End one.fits (skips_to body n one) is

-- something else stands after the letter
pub more_after : (body : List ℕ) (l : Letter) (r : _) (next : Next) → IsNext body (Taken l r) → IsNext r.now next → (n : Mail) → IsOneLetter body n → IsSameNext End next
more_after body l r next is goes_on n one =
    let there = found body n.note (replicate one.after 10) (Taken l r) one.fits (skips_to body n one) is in
    same_next r.now End next (record { blank = one.after; is = there.2 ∙ sym (append-nil (replicate one.after 10)) }) goes_on

-- so no body is one letter that begins with none
pub none_in_front : (body : List ℕ) (next : Next) → IsNext body next → ((f : LetterFault) × (r : Bor (List ℕ)) × (next ≡ Fault f r)) ⊎ (next ≡ End) → (n : Mail) → IsOneLetter body n → ⊥
none_in_front body next is (inl e) n one = no_letter_at_fault body e.0 e.1 (subst (IsNext body) e.2 is) n one
none_in_front body next is (inr e) n one = no_letter_at_end body (subst (IsNext body) e is) n one

-- nor one that goes on after it
pub none_after : (body : List ℕ) (l : Letter) (r : Bor (List ℕ)) (next : Next) → IsNext body (Taken l r) → IsNext r.now next
    → ((x : Letter) × (y : Bor (List ℕ)) × (next ≡ Taken x y)) ⊎ ((f : LetterFault) × (y : Bor (List ℕ)) × (next ≡ Fault f y)) → (n : Mail) → IsOneLetter body n → ⊥
none_after body l r next is goes_on (inl e) n one = subst (IsSameNext End) e.2 (more_after body l r next is goes_on n one)
none_after body l r next is goes_on (inr e) n one = subst (IsSameNext End) e.2 (more_after body l r next is goes_on n one)
