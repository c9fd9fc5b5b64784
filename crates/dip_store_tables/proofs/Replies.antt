-- A printed reply is read back: its lines stand after the first end of line, and before END.
use Rattle.std.proofs.Common.{◌≡◌, ℕ, zero, suc, ◌/◌, ◌%◌, ◌+◌, ◌-◌, ◌==◌, Bool, true, false, cond, not, nat_lt, List, [], ◌∷◌, ◌++◌, length, refl, ap, ◌∙◌, append_assoc, length-append, codes, Some, arith}
use Rattle.std.specs.List.{list_all}
use Rattle.std.specs.Fmt.{decimal, digits, digits_onto, digit_glyph}
use Rattle.std.proofs.lemmas.Bool.{eq-eqb, and_parts, not-true}
use Rattle.std.proofs.lemmas.Bool.Decides.{nat_tests}
use Rattle.std.proofs.lemmas.List.{take_at}
use Rattle.dip_desk_state.specs.Records.{Kept}
use Rattle.dip_store_tables.specs.Reading.{kept_of, reply_lines, without_end}
use Rattle.dip_store_tables.specs.Texts.{behind}
use Rattle.dip_desk_state.specs.Writable.{Lacks}
use Rattle.dip_store_tables.specs.Writing.{as_printed, whole_reply}

pub behind_first : (b : ℕ) (w rest : List ℕ) → Lacks b w → behind b (w ++ b ∷ rest) ≡ rest
behind_first b [] rest lacks = rw (eq-eqb b b refl) refl
behind_first b (x ∷ w) rest lacks = rw lacks.0 (behind_first b w rest lacks.1)

lacks_both : (b : ℕ) (v w : List ℕ) → Lacks b v → Lacks b w → Lacks b (v ++ w)
lacks_both b [] w first second = second
lacks_both b (x ∷ v) w first second = (first.0, lacks_both b v w first.1 second)

pub tested : (b : ℕ) (w : List ℕ) → list_all (λ x. not (x == b)) w ≡ true → Lacks b w
tested b [] all = tt
tested b (x ∷ w) all = let parts = and_parts _ _ all in (not-true _ parts.0, tested b w parts.1)

-- digits are no line end
glyph_lacks : (d : ℕ) → (digit_glyph false d == 10) ≡ false
glyph_lacks d = either (nat_lt d 10)
  where
    either : (b : Bool) → (cond b (48 + d) (87 + d) == 10) ≡ false
    either true = grind (arith, nat_tests)
    either false = grind (arith, nat_tests)

digits_lack : (k n : ℕ) (acc : List ℕ) → Lacks 10 acc → Lacks 10 (digits_onto k 10 false n acc)
digits_lack zero n acc lacks = lacks
digits_lack (suc k) n acc lacks =
    let more : Lacks 10 (digit_glyph false (n % 10) ∷ acc) = (glyph_lacks (n % 10), lacks) in
    either (n / 10 == 0) _ _ more (digits_lack k (n / 10) (digit_glyph false (n % 10) ∷ acc) more)
  where
    either : (b : Bool) (xs ys : List ℕ) → Lacks 10 xs → Lacks 10 ys → Lacks 10 (cond b xs ys)
    either true xs ys first second = first
    either false xs ys first second = second

number_lacks : (n : ℕ) → Lacks 10 (decimal n)
unfolding digits
number_lacks n = digits_lack 64 n [] tt

-- a reply's head, but for its line end
abbrev title : List ℕ → List ℕ → ℕ → List ℕ
title game sender n = codes "REPLY " ++ game ++ codes " " ++ sender ++ codes " " ++ decimal n

title_lacks : (game sender : List ℕ) (n : ℕ) → Lacks 10 game → Lacks 10 sender → Lacks 10 (title game sender n)
title_lacks game sender n plain plain_sender =
    let one = codes "REPLY " ++ game in
    let two = one ++ codes " " ++ sender in
    let first = lacks_both 10 one (codes " ") (lacks_both 10 (codes "REPLY ") game (tested 10 (codes "REPLY ") refl) plain) (refl, tt) in
    let second = lacks_both 10 two (codes " ") (lacks_both 10 (one ++ codes " ") sender first plain_sender) (refl, tt) in
    lacks_both 10 (two ++ codes " ") (decimal n) second (number_lacks n)

pub ended_back : (text : List ℕ) → without_end (text ++ codes "END\n") ≡ text
ended_back text =
    let four : length (codes "END\n") ≡ 4 = refl in
    take_at text (codes "END\n") (length (text ++ codes "END\n") - 4) (omega (arith, length-append text (codes "END\n"), four))

pub lines_back : (game sender : List ℕ) (k : Kept) → Lacks 10 game → Lacks 10 sender → reply_lines (whole_reply game sender k) ≡ k.reply
lines_back game sender k plain plain_sender =
    let line = title game sender k.number in
    ap reply_lines (append_assoc (line ++ 10 ∷ []) k.reply (codes "END\n") ∙ append_assoc line (10 ∷ []) (k.reply ++ codes "END\n"))
    ∙ ap without_end (behind_first 10 line (k.reply ++ codes "END\n") (title_lacks game sender k.number plain plain_sender))
    ∙ ended_back k.reply

-- a letter that was kept is read back from its columns
pub printed_back : (game sender : List ℕ) (k : Kept) → Lacks 10 game → Lacks 10 sender → (k.number == 0) ≡ false
    → kept_of k.number k.sum (as_printed game sender k).reply ≡ Some k
printed_back game sender k plain plain_sender numbered =
    rw numbered (ap (λ (lines : List ℕ). Some (record k { reply = lines })) (lines_back game sender k plain plain_sender))
