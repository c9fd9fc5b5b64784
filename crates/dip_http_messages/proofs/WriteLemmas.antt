-- What was written.
use Rattle.std.proofs.Common.{◌≡◌, ◌+◌, ◌≤◌, ℕ, List, ◌++◌, Option, length, take, sym, subst, ◌∙◌, length-append, length-take, take-take, arith, Result, Ok, Err}
use Rattle.std.proofs.Math.Seq.{take-append-add}
use Rattle.std.specs.Prelude.{OnErr, OnOk}
use Rattle.dip_http_messages.specs.Answers.{IsPart}
use Rattle.std.proofs.lemmas.List.{take_all, take-append-le}
use Rattle.std.specs.Io.KnownBytes.{Appends}
use Rattle.std.proofs.KnownBytes.{Appends-trans}

within_take : (n : ℕ) (text : List ℕ) → length (take n text) ≤ length text
within_take n text = omega (arith, length-take n text)

take_of_length : (n : ℕ) (text : List ℕ) → take (length (take n text)) text ≡ take n text
take_of_length n text =
    sym (take-take (length (take n text)) n text (omega (arith, length-take n text))) ∙ take_all (length (take n text)) (take n text) (omega arith)

-- as many bytes of a text as a size tells, or all of them, are a beginning of it
pub part_of : (a b : Option (List ℕ)) (text : List ℕ) → ((size : ℕ) × Appends a b (take size text)) → IsPart a b text
part_of a b text told = record {
  size = length (take told.0 text);
  within = within_take told.0 text;
  written = subst (λ (t : List ℕ). Appends a b t) (sym (take_of_length told.0 text)) told.1;
}

-- a beginning of the first text
pub part_first : (a b : Option (List ℕ)) (text rest : List ℕ) → IsPart a b text → IsPart a b (text ++ rest)
part_first a b text rest part = record {
  size = part.size;
  within = let w = part.within in omega (arith, length-append text rest);
  written = subst (λ (t : List ℕ). Appends a b t) (sym (take-append-le part.size text rest part.within)) part.written;
}

-- a text, and a beginning of the next
pub part_later : (a b c : Option (List ℕ)) (front text : List ℕ) → Appends a b front → IsPart b c text → IsPart a c (front ++ text)
part_later a b c front text first part = record {
  size = length front + part.size;
  within = let w = part.within in omega (arith, length-append front text);
  written = subst (λ (t : List ℕ). Appends a c t) (sym (take-append-add front text part.size)) (Appends-trans a b c _ _ first part.written);
}

pub part_weaker : {E : Type 0} (r : Result (Unit {0}) E) (P Q : Type 0) → (P → Q) → OnErr r P → OnErr r Q
part_weaker (Ok u) P Q f h = tt
part_weaker (Err e) P Q f h = f h

pub whole_stronger : {E : Type 0} (r : Result (Unit {0}) E) (P Q : Type 0) → (P → Q) → OnOk r P → OnOk r Q
whole_stronger (Ok u) P Q f h = f h
whole_stronger (Err e) P Q f h = tt
