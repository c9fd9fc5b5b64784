-- What is judged by what its text was compared with.
use Rattle.std.proofs.Common.{◌≡◌, ◌≢◌, ◌<◌, ◌≤◌, ◌&&◌, ◌⊎◌, ℕ, true, false, not, List, [], ◌∷◌, ◌++◌, length, refl, sym, ap, ap₂, subst, ◌∙◌, inl, inr, codes, arith}
use Rattle.std.specs.List.{AllByRecursion, list_all}
use Rattle.std.specs.Fmt.{decimal}
use Rattle.std.specs.Str.{bytes_eq}
use Rattle.std.proofs.lemmas.Slice.Eq.{bytes_eq-Decides}
use Rattle.std.proofs.lemmas.Bool.{and_parts, false≢true}
use Rattle.dip_letters.specs.Letters.{FitsNotice}
use Rattle.dip_letters.specs.Notes.{NoticeRequest}
use Rattle.dip_letters.specs.Notes.NoticeRequest.{Announce, Close, Pause, Period, Resume}
use Rattle.dip_letters.specs.Words.{has_length, is_text}
use Rattle.dip_map.specs.Boards.{IsOf}
use Rattle.dip_map.specs.Charts.{Chart}
use Rattle.dip_desk_games.specs.Noting.{is_announcement}
use Rattle.dip_desk_games.specs.Ticking.{is_over}
use Rattle.dip_desk_state.specs.Bounds.{most_papers}
use Rattle.dip_desk_state.specs.Records.{Public}
use Rattle.dip_names.specs.Forms.{is_printable}
use Rattle.dip_reports.specs.Texts.{notice_lines}
use Rattle.dip_check_papers.specs.Checks.{IsAnnounced, IsCommand, IsCompared, IsJudgedNext, IsJudgedFirst, IsNoted}
use Rattle.dip_check_papers.specs.Differing.{first_other}
use Rattle.dip_check_papers.specs.Games.{IsNext, IsNotice, IsOpening}
use Rattle.dip_check_papers.specs.Parts.{lines_in, told_in}
use Rattle.dip_check_papers.specs.declared.verdict.Verdict.{Verdict}
use Rattle.dip_check_papers.specs.declared.verdict.Verdict.TheVariants.{Right, Wrong}
use Rattle.dip_check_papers.proofs.WordLemmas.{lacks, lacks_by, number_lacks}
use Rattle.dip_check_papers.proofs.PaperLemmas.{notice_told}

-- a text that may come next where it is the wanted one, and each paper's text is the wanted one
pub judged_where_wanted : (m : Chart) (p : Public) (text wanted : List ℕ) (after : Public) (IsPaper : Public → Type 0) (v : Verdict)
    → IsCompared text wanted after v → (text ≡ wanted → IsNext m p text after) → ((new : Public) → IsPaper new → text ≡ wanted)
    → IsOf m after.board → IsJudgedNext m p text IsPaper v
judged_where_wanted m p text wanted after IsPaper (Right new) c next only of =
    (subst (IsNext m p text) (sym c.1) (next c.0), subst (λ (q : Public). IsOf m q.board) (sym c.1) of)
judged_where_wanted m p text wanted after IsPaper (Wrong fault) c next only of = λ new paper. c.0 (only new paper)

-- a text that may come first where it is the wanted one, where each opening's text is the wanted one, and none is like it further
pub judged_first_where_wanted : (m : Chart) (text wanted : List ℕ) (after : Public) (v : Verdict) → IsCompared text wanted after v
    → (text ≡ wanted → IsOpening m text after) → ((new : Public) → IsOpening m text new → text ≡ wanted)
    → ((paper : List ℕ) (new : Public) → IsOpening m paper new → first_other text paper ≤ first_other text wanted) → IsOf m after.board
    → IsJudgedFirst m text v
judged_first_where_wanted m text wanted after (Right new) c first only furthest of =
    (subst (IsOpening m text) (sym c.1) (first c.0), subst (λ (q : Public). IsOf m q.board) (sym c.1) of)
judged_first_where_wanted m text wanted after (Wrong fault) c first only furthest of = ((λ new paper. c.0 (only new paper)), λ paper new h. omega (arith, c.1, furthest paper new h))

-- where there are fewer papers, what is wrong is wrong
pub judged_fewer : (m : Chart) (p : Public) (text : List ℕ) (Many Few : Public → Type 0) (v : Verdict) → ((new : Public) → Few new → Many new)
    → IsJudgedNext m p text Many v → IsJudgedNext m p text Few v
judged_fewer m p text Many Few (Right new) fewer j = j
judged_fewer m p text Many Few (Wrong fault) fewer j = λ new few. j new (fewer new few)

-- ---- notices

text_lacks : (text : List ℕ) → is_text text ≡ true → lacks 10 text ≡ true
text_lacks text is =
    let parts = and_parts (has_length 0 200 text) (list_all is_printable text) is in
    lacks_by is_printable 10 refl text parts.1

texts_lack : (ts : List (List ℕ)) → AllByRecursion (λ t. is_text t ≡ true) ts → AllByRecursion (λ l. lacks 10 l ≡ true) ts
texts_lack [] all = tt
texts_lack (t ∷ ts) all = (text_lacks t all.0, texts_lack ts all.1)

-- what a notice tells has lines
lines_lack : (n : NoticeRequest) → FitsNotice n → AllByRecursion (λ l. lacks 10 l ≡ true) (notice_lines n)
lines_lack Pause fits = (refl, tt)
lines_lack Resume fits = (refl, tt)
lines_lack (Period period) fits = (number_lacks 10 period refl (omega (arith, fits.1)), tt)
lines_lack (Announce text) fits = texts_lack text fits.2
lines_lack Close fits = (refl, tt)

-- a notice's text tells just what it makes known
pub told_by : (m : Chart) (p : Public) (n : NoticeRequest) (text : List ℕ) (new : Public) → p.papers < most_papers → FitsNotice n → IsNoted m p n text new
    → told_in (lines_in text) ≡ notice_lines n
told_by m p n text new room fits noted =
    let low : new.papers < 18446744073709551616 = subst (λ (q : Public). q.papers < 18446744073709551616) (sym noted.after) (omega (arith, room)) in
    ap (λ t. told_in (lines_in t)) noted.told ∙ notice_told m n new low (lines_lack n fits)

one_line : (n : NoticeRequest) → is_announcement n ≡ false → length (notice_lines n) ≡ 1
one_line Pause kind = refl
one_line Resume kind = refl
one_line (Period period) kind = refl
one_line (Announce text) kind = cc
one_line Close kind = refl

-- a notice is an announcement or a command
pub either : (m : Chart) (p : Public) (n : NoticeRequest) (text : List ℕ) (new : Public) (lines : List (List ℕ)) → lines ≡ notice_lines n → FitsNotice n
    → IsNoted m p n text new → IsAnnounced m p lines text new ⊎ IsCommand n
either m p Pause text new lines is fits noted = inr (record { fits = fits; kind = refl })
either m p Resume text new lines is fits noted = inr (record { fits = fits; kind = refl })
either m p (Period period) text new lines is fits noted = inr (record { fits = fits; kind = refl })
either m p (Announce text') text new lines is fits noted = inl (subst (λ ls. IsAnnounced m p ls text new) (sym is) (fits, noted))
either m p Close text new lines is fits noted = inr (record { fits = fits; kind = refl })

pub noted_of : (m : Chart) (p : Public) (text : List ℕ) (new : Public) (h : IsNotice m p text new) → IsNoted m p h.notice text new
noted_of m p text new h = record { after = h.after; told = h.told }

-- where no command can stand beside it, a notice is an announcement
pub announced_alone : (m : Chart) (p : Public) (text : List ℕ) (lines : List (List ℕ)) (v : Verdict) → p.papers < most_papers
    → lines ≡ told_in (lines_in text)
    → ((n : NoticeRequest) → IsCommand n → notice_lines n ≡ lines → (is_over p.status && not (is_announcement n)) ≡ false → ⊥)
    → IsJudgedNext m p text (IsAnnounced m p lines text) v → IsJudgedNext m p text (IsNotice m p text) v
announced_alone m p text lines v room is none j =
    judged_fewer m p text (IsAnnounced m p lines text) (IsNotice m p text) v (λ new h.
    let says : lines ≡ notice_lines h.notice = is ∙ told_by m p h.notice text new room h.fits (noted_of m p text new h) in
    elim (either m p h.notice text new lines says h.fits (noted_of m p text new h)) [
      | inl a ↦ a
      | inr c ↦ absurd (none h.notice c (sym says) h.taken)
    ]) j

-- beside one command, a notice is an announcement or that command
pub announced_or_not : (m : Chart) (p : Public) (text : List ℕ) (lines : List (List ℕ)) (told : NoticeRequest) (v : Verdict) → p.papers < most_papers
    → lines ≡ told_in (lines_in text) → ((n : NoticeRequest) → IsCommand n → notice_lines n ≡ lines → told ≡ n)
    → IsJudgedNext m p text (λ new. IsAnnounced m p lines text new ⊎ IsNoted m p told text new) v → IsJudgedNext m p text (IsNotice m p text) v
announced_or_not m p text lines told v room is only j =
    judged_fewer m p text (λ new. IsAnnounced m p lines text new ⊎ IsNoted m p told text new) (IsNotice m p text) v (λ new h.
    let noted : IsNoted m p h.notice text new = noted_of m p text new h in
    let says : lines ≡ notice_lines h.notice = is ∙ told_by m p h.notice text new room h.fits noted in
    elim (either m p h.notice text new lines says h.fits noted) [
      | inl a ↦ inl a
      | inr c ↦ inr (subst (λ n. IsNoted m p n text new) (sym (only h.notice c (sym says))) noted)
    ]) j

-- a command has one line
pub several : (p : Public) (n : NoticeRequest) (lines : List (List ℕ)) → IsCommand n → notice_lines n ≡ lines → length lines ≢ 1 → ⊥
several p n lines c is many = many (sym (ap length is) ∙ one_line n c.kind)

-- in a game that is over there is no command
pub over : (p : Public) (n : NoticeRequest) → IsCommand n → is_over p.status ≡ true → (is_over p.status && not (is_announcement n)) ≡ false → ⊥
over p n c is taken = let no : (true && not false) ≡ false = ap₂ (λ a b. a && not b) (sym is) (sym c.kind) ∙ taken in false≢true (sym no)

-- ---- the lines of commands

one_same : {A : Type 0} (x y : A) → x ∷ [] ≡ y ∷ [] → x ≡ y
one_same x y e = cc

other_line : (a b : List ℕ) → bytes_eq a b ≡ false → a ∷ [] ≡ b ∷ [] → ⊥
other_line a b other is = false≢true (sym other ∙ (bytes_eq-Decides a b).1 (one_same a b is))

pub pause_line : (n : NoticeRequest) → IsCommand n → notice_lines n ≡ codes "paused" ∷ [] → Pause ≡ n
pause_line Pause c is = refl
pause_line Resume c is = absurd (other_line (codes "resumed") (codes "paused") refl is)
pause_line (Period period) c is = absurd (other_line (codes "period " ++ decimal period) (codes "paused") refl is)
pause_line (Announce text) c is = absurd (false≢true (sym c.kind))
pause_line Close c is = absurd (other_line (codes "closed") (codes "paused") refl is)

pub resume_line : (n : NoticeRequest) → IsCommand n → notice_lines n ≡ codes "resumed" ∷ [] → Resume ≡ n
resume_line Pause c is = absurd (other_line (codes "paused") (codes "resumed") refl is)
resume_line Resume c is = refl
resume_line (Period period) c is = absurd (other_line (codes "period " ++ decimal period) (codes "resumed") refl is)
resume_line (Announce text) c is = absurd (false≢true (sym c.kind))
resume_line Close c is = absurd (other_line (codes "closed") (codes "resumed") refl is)

pub close_line : (n : NoticeRequest) → IsCommand n → notice_lines n ≡ codes "closed" ∷ [] → Close ≡ n
close_line Pause c is = absurd (other_line (codes "paused") (codes "closed") refl is)
close_line Resume c is = absurd (other_line (codes "resumed") (codes "closed") refl is)
close_line (Period period) c is = absurd (other_line (codes "period " ++ decimal period) (codes "closed") refl is)
close_line (Announce text) c is = absurd (false≢true (sym c.kind))
close_line Close c is = refl

-- a command with another line names a period
pub record IsPeriodLine (n : NoticeRequest) (line : List ℕ) : Type 0 where
  pub period : ℕ
  pub is : n ≡ Period period
  pub says : line ≡ codes "period " ++ decimal period
  pub least : 1 ≤ period
  pub most : period ≤ 999999

pub period_line : (n : NoticeRequest) (line : List ℕ) → IsCommand n → notice_lines n ≡ line ∷ [] → line ≢ codes "paused" → line ≢ codes "resumed"
    → line ≢ codes "closed" → IsPeriodLine n line
period_line Pause line c is a b d = absurd (a (sym (one_same _ _ is)))
period_line Resume line c is a b d = absurd (b (sym (one_same _ _ is)))
period_line (Period period) line c is a b d = record { period = period; is = refl; says = sym (one_same _ _ is); least = c.fits.0; most = c.fits.1 }
period_line (Announce text) line c is a b d = absurd (false≢true (sym c.kind))
period_line Close line c is a b d = absurd (d (sym (one_same _ _ is)))
