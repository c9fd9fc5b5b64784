-- Slashes in matchit's words and in those of this crate.
use Rattle.std.proofs.Common.{◌≡◌, ◌≢◌, ◌<◌, ◌-◌, ℕ, suc, List, [], ◌∷◌, ◌++◌, Bool, true, false, cond, not, ◌==◌, ◌&&◌, length, drop, refl, ap, ◌∙◌, arith, if◌then◌else◌, length-append}
use Rattle.std.specs.List.{ends_with}
use Rattle.std.specs.Str.{bytes_eq}
use Rattle.std.specs.Prelude.{nat_eq, ltb}
use Rattle.std.proofs.lemmas.Bool.Decides.{nat_tests}
use Rattle.matchit.specs.Seek.{has_slash, cuts}
use Rattle.matchit.specs.Seek as seeks
use Rattle.dip_http_messages.specs.Places.{segment, from_slash, is_empty}

-- one slash
abbrev pub slash_text : List ℕ
slash_text = 47 ∷ []

head_no : (t h : Bool) → cond t true h ≡ false → (t ≡ false) × (h ≡ false)
head_no true h e = absurd (cc)
head_no false h e = (refl, e)

pub no_slash : (text : List ℕ) → has_slash text ≡ false → (seeks.segment text ≡ text) × (segment text ≡ text) × (from_slash text ≡ [])
no_slash [] e = (refl, refl, refl)
no_slash (b ∷ text) e =
    let h = head_no (b == 47) (has_slash text) e in
    let rest = no_slash text h.1 in
    let one : (b == 47) ≡ false = h.0 in
    (rw one (ap (λ t. b ∷ t) rest.0), rw one (ap (λ t. b ∷ t) rest.1), rw one rest.2)

pub with_slash : (text : List ℕ) → has_slash text ≡ true → (seeks.segment text ≡ segment text ++ slash_text) × (text ≡ segment text ++ from_slash text) × (from_slash text ≢ [])
with_slash [] e = absurd (cc)
with_slash (b ∷ text) e =
    (elim (b == 47) as (λ t. (b == 47) ≡ t → cond t true (has_slash text) ≡ true → (cond t (b ∷ []) (b ∷ seeks.segment text) ≡ (if t then [] else b ∷ segment text) ++ slash_text) × (b ∷ text ≡ (if t then [] else b ∷ segment text) ++ (if t then b ∷ text else from_slash text)) × ((if t then b ∷ text else from_slash text) ≢ [])) [
      | true ↦ λ is h. let same : b ≡ 47 = grind (arith, nat_tests) in (ap (λ x. x ∷ []) same, refl, λ bad. cc)
      | false ↦ λ is h. let rest = with_slash text h in (ap (λ t. b ∷ t) rest.0, ap (λ t. b ∷ t) rest.1, rest.2)
    ]) refl e

pub sub_one : (n : ℕ) → suc n - 1 ≡ n
sub_one n = omega arith

no_end_more : (b : ℕ) (text : List ℕ) → has_slash (b ∷ text) ≡ false → ends_with nat_eq (b ∷ text) slash_text ≡ false
no_end_more b [] e =
    let one = (head_no (b == 47) false e).0 in
    let two : nat_eq 47 b ≡ false = grind (arith, nat_tests) in
    let end : drop (length (b ∷ []) - 1) (b ∷ []) ≡ b ∷ [] = ap (λ n. drop n (b ∷ [])) (sub_one 0) in
    ap (λ (t : List ℕ). bytes_eq slash_text t) end ∙ ap (λ t. t && true) two
no_end_more b (c ∷ text) e =
    let h = head_no (b == 47) (has_slash (c ∷ text)) e in
    let got = no_end_more c text h.1 in
    let rest = rw sub_one at got in
    rw sub_one rest

no_end : (text : List ℕ) → has_slash text ≡ false → ends_with nat_eq text slash_text ≡ false
no_end [] e = refl
no_end (b ∷ text) e = no_end_more b text e

and_no : (a b : Bool) → b ≡ false → (a && b) ≡ false
and_no true b e = e
and_no false b e = refl

pub cuts_no_slash : (text : List ℕ) → has_slash text ≡ false → cuts (seeks.segment text) slash_text ≡ false
cuts_no_slash text e = rw (no_slash text e).0 (and_no _ _ (no_end text e))

drop_front : (a b : List ℕ) → drop (length a) (a ++ b) ≡ b
drop_front [] b = refl
drop_front (x ∷ a) b = drop_front a b

length_more : (a : List ℕ) → length (a ++ slash_text) - 1 ≡ length a
length_more a = omega (arith, length-append a slash_text)

ends_so : (a : List ℕ) → ends_with nat_eq (a ++ slash_text) slash_text ≡ true
ends_so a = rw (length_more a, drop_front a slash_text) refl

longer : (a : List ℕ) → ltb 1 (length (a ++ slash_text)) ≡ not (is_empty a)
longer [] = refl
longer (x ∷ a) = let n : 1 < length (x ∷ a ++ slash_text) = omega (arith, length-append a slash_text) in grind (arith, nat_tests)

and_true : (a b : Bool) → b ≡ true → (a && b) ≡ a
and_true true b e = e
and_true false b e = refl

pub cuts_slash : (text : List ℕ) → has_slash text ≡ true → cuts (seeks.segment text) slash_text ≡ not (is_empty (segment text))
cuts_slash text e = rw (with_slash text e).0 (and_true _ _ (ends_so (segment text)) ∙ longer (segment text))

pub segment_plain : (text : List ℕ) → has_slash (segment text) ≡ false
segment_plain [] = refl
segment_plain (b ∷ text) =
    (elim (b == 47) as (λ t. (b == 47) ≡ t → has_slash (if t then [] else b ∷ segment text) ≡ false)
    [ true ↦ λ e. refl | false ↦ λ e. rw e (segment_plain text) ]) refl

pub segment_rest : (text : List ℕ) → text ≡ segment text ++ from_slash text
segment_rest [] = refl
segment_rest (b ∷ text) =
    elim (b == 47) as (λ t. b ∷ text ≡ (if t then [] else b ∷ segment text) ++ (if t then b ∷ text else from_slash text))
    [ true ↦ refl | false ↦ ap (λ t. b ∷ t) (segment_rest text) ]
