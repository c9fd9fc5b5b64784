-- What is read of an input, and what of it is used.
use Rattle.std.proofs.Common.{◌≡◌, ◌≤◌, ◌<◌, ◌++◌, ℕ, Bool, true, false, List, [], ◌∷◌, Option, None, Some, ap, sym, subst, ◌∙◌, ◌⊎◌, inl, inr, ◌+◌, ◌-◌, arith}
use Rattle.std.proofs.lemmas.List.{append-nil, append_assoc}
use Rattle.std.specs.Io.KnownBytes.{Consumes, Keeps}
use Rattle.dip_check_papers.specs.PaperTexts.{text_of}
use Rattle.dip_check_runs.specs.Input.{AreEmptyLines, EndsOnce, HasUsed, IsRead, closing}
use Rattle.dip_check_runs.specs.declared.input.Ahead.{Ahead}

-- each byte of empty lines is LF
pub lines_hold : (a : List ℕ) (x : ℕ) (b : List ℕ) → AreEmptyLines (a ++ x ∷ b) → x ≡ 10
lines_hold [] x b empty = empty.0
lines_hold (y ∷ a) x b empty = lines_hold a x b empty.1

-- so a line `END` is no empty one
pub no_lines : (bytes : List ℕ) → EndsOnce bytes → AreEmptyLines bytes → ⊥
no_lines bytes cut empty =
    let lf : 69 ≡ 10 = lines_hold (text_of cut.inner) 69 (78 ∷ 68 ∷ 10 ∷ []) (subst (λ (l : List ℕ). AreEmptyLines l) cut.is empty) in
    absurd (omega (arith, lf))

-- what is read twice is read
pub consumes_more : (a b c : Option (List ℕ)) (x y : List ℕ) → Consumes a b x → Consumes b c y → Consumes a c (x ++ y)
consumes_more None b c x y first second = tt
consumes_more (Some xs) None c x y first second = absurd first
consumes_more (Some xs) (Some ys) None x y first second = absurd second
consumes_more (Some xs) (Some ys) (Some zs) x y first second = first ∙ ap (λ (r : List ℕ). x ++ r) second ∙ sym (append_assoc x y zs)

-- nothing is read
pub consumes_none : (a b : Option (List ℕ)) → Keeps a b → Consumes a b []
consumes_none None b keeps = tt
consumes_none (Some xs) None keeps = absurd keeps
consumes_none (Some xs) (Some ys) keeps = sym keeps

-- a piece more is read
pub read_more : (known now later : Option (List ℕ)) (used bytes : List ℕ) (old new : Ahead) → old.ended ≡ false → new.ended ≡ false
    → new.bytes.items ≡ old.bytes.items ++ bytes → Consumes now later bytes → IsRead known now used old → IsRead known later used new
read_more known now later used bytes old new goes still items more r = record {
  read = r.read ++ bytes;
  consumed = consumes_more known now later r.read bytes r.consumed more;
  parts =
      let before : closing old.ended ≡ [] = ap closing goes in
      let after : closing new.ended ≡ [] = ap closing still in
      let so_far : r.read ≡ used ++ old.bytes.items = sym (append-nil r.read) ∙ ap (λ (l : List ℕ). r.read ++ l) (sym before) ∙ r.parts in
      ap (λ (l : List ℕ). (r.read ++ bytes) ++ l) after ∙ append-nil (r.read ++ bytes) ∙ ap (λ (l : List ℕ). l ++ bytes) so_far
      ∙ append_assoc used old.bytes.items bytes ∙ ap (λ (l : List ℕ). used ++ l) (sym items);
  end = λ yes. cc;
}

-- of an input that hasn't ended, or may not have, these bytes are used
pub record IsUsed (known left : Option (List ℕ)) (used : List ℕ) : Type 0 where
  pub input : List ℕ
  pub consumed : Consumes known left input
  pub rest : List ℕ
  pub parts : input ≡ used ++ rest

pub used_open : (known left : Option (List ℕ)) (used : List ℕ) (ahead : Ahead) → ahead.ended ≡ false → IsRead known left used ahead → IsUsed known left used
used_open known left used ahead goes r = record {
  input = r.read;
  consumed = r.consumed;
  rest = ahead.bytes.items;
  parts = sym (append-nil r.read) ∙ ap (λ (l : List ℕ). r.read ++ l) (sym (ap closing goes)) ∙ r.parts;
}

pub used_more : (known now later : Option (List ℕ)) (used bytes : List ℕ) → Consumes now later bytes → IsUsed known now used → IsUsed known later used
used_more known now later used bytes more u = record {
  input = u.input ++ bytes;
  consumed = consumes_more known now later u.input bytes u.consumed more;
  rest = u.rest ++ bytes;
  parts = ap (λ (l : List ℕ). l ++ bytes) u.parts ∙ append_assoc used u.rest bytes;
}

-- whether it has ended or not
pub used_part : (known left : Option (List ℕ)) (used : List ℕ) → IsUsed known left used → HasUsed known left used
used_part known left used u = record {
  input = u.input;
  consumed = u.consumed;
  ended = false;
  end = λ yes. cc;
  rest = u.rest;
  parts = append-nil u.input ∙ u.parts;
}

-- what was read ahead isn't used yet
pub used_read : (known left : Option (List ℕ)) (used : List ℕ) (ahead : Ahead) → IsRead known left used ahead → HasUsed known left used
used_read known left used ahead r =
    record { input = r.read; consumed = r.consumed; ended = ahead.ended; end = r.end; rest = ahead.bytes.items; parts = r.parts }

-- or all of it is
pub used_ahead : (known left : Option (List ℕ)) (used front : List ℕ) (ahead : Ahead) → front ≡ ahead.bytes.items → IsRead known left used ahead
    → HasUsed known left (used ++ front)
used_ahead known left used front ahead same r = record {
  input = r.read;
  consumed = r.consumed;
  ended = ahead.ended;
  end = r.end;
  rest = [];
  parts = r.parts ∙ ap (λ (l : List ℕ). used ++ l) (sym same) ∙ sym (append-nil (used ++ front));
}

-- the first bytes ahead are used
pub read_front : (known left : Option (List ℕ)) (used front : List ℕ) (old new : Ahead) → new.ended ≡ old.ended → old.bytes.items ≡ front ++ new.bytes.items
    → IsRead known left used old → IsRead known left (used ++ front) new
read_front known left used front old new same items r = record {
  read = r.read;
  consumed = r.consumed;
  parts = ap (λ (b : Bool). r.read ++ closing b) same ∙ r.parts ∙ ap (λ (l : List ℕ). used ++ l) items ∙ sym (append_assoc used front new.bytes.items);
  end = λ yes. r.end (sym same ∙ yes);
}

-- an input that hasn't ended has so many bytes to come
abbrev pub left_to_read : Bool → ℕ → ℕ
left_to_read true size = 0
left_to_read false size = 1 + (1048577 - size)

fewer_after : (old new : ℕ) → old ≤ 1048576 → old < new → 1 + (1048577 - new) < 1 + (1048577 - old)
fewer_after old new few more = omega arith

none_after : (old : ℕ) → 0 < 1 + (1048577 - old)
none_after old = omega arith

pub fewer_to_read : (before after : Bool) (old new : ℕ) → before ≡ false → old ≤ 1048576 → (after ≡ true) ⊎ (old < new)
    → left_to_read after new < left_to_read before old
fewer_to_read true after old new goes few near = cc
fewer_to_read false true old new goes few near = none_after old
fewer_to_read false false old new goes few (inl ends) = cc
fewer_to_read false false old new goes few (inr more) = fewer_after old new few more
