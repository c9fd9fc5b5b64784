-- A text and the public part before it leave one public part at most.
use Rattle.std.proofs.Common.{◌≡◌, ◌<◌, ◌≤◌, ◌+◌, ◌==◌, ◌^◌, ◌≢◌, inl, inr, ◌⊎◌, ℕ, Bool, true, false, not, List, [], ◌∷◌, ◌++◌, codes, Option, Some, refl, sym, ap, ap₂, subst, ◌∙◌, append_assoc, arith}
use Rattle.std.specs.Fmt.{decimal}
use Rattle.std.proofs.lemmas.Bool.{cases_Bool, false≢true}
use Rattle.std.proofs.lemmas.Bool.Decides.{nat_tests}
use Rattle.std.proofs.lemmas.Fmt.{decimal_injective}
use Rattle.std.proofs.lemmas.List.{append_cancel_left}
use Rattle.dip_letters.specs.Letters.{FitsNotice}
use Rattle.dip_letters.specs.Lines.{Lacks, cut_at}
use Rattle.dip_letters.specs.Notes.{NoticeRequest}
use Rattle.dip_letters.specs.Notes.NoticeRequest.{Announce, Close, Pause, Period, Resume}
use Rattle.dip_letters.proofs.LineLemmas.{cut_again}
use Rattle.dip_map.specs.Boards.{IsOf, Position}
use Rattle.dip_map.specs.Charts.{Chart, IsMap}
use Rattle.dip_turn.specs.Laws.{IsSame, PhasesHaveOneResult}
use Rattle.dip_turn.specs.Reports.{IsPlayed}
use Rattle.dip_turn.specs.Course.{Course}
use Rattle.dip_turn.specs.Course.TheVariants.{GoesOn, Won as WonBy, Ended as AtAnEnd}
use Rattle.dip_turn_phases.specs.declared.report.Report.{Report}
use Rattle.dip_turn_papers.specs.Papers.{paper_text}
use Rattle.dip_desk_state.specs.Bounds.{most_papers}
use Rattle.dip_desk_state.specs.Records.{Public, Status, Running, Paused, Closed, Ended, Won, Drawn}
use Rattle.dip_reports.specs.Texts.{board_lines, game_line, intent_text, marked_lines, notice_lines, notice_paper, paper_end, paper_title, phase_text, terms_text, yes_or_no}
use Rattle.dip_desk_state.specs.Texts.{status_text}
use Rattle.dip_desk_games.specs.Drawing.{public_drawn}
use Rattle.dip_desk_games.specs.Noting.{is_announcement, public_noted}
use Rattle.dip_desk_games.specs.Ticking.{public_played}
use Rattle.dip_check_papers.specs.Checks.{IsCommand}
use Rattle.dip_check_papers.specs.Games.{IsDraw, IsNext, IsNotice, IsOpening, IsPhase}
use Rattle.dip_check_papers.specs.Laws.{OpeningsHaveOneAnswer, PapersHaveOneAnswer}
use Rattle.dip_check_papers.specs.Parts.{game_line_in, lines_in, words_in}
use Rattle.dip_check_papers.specs.Printed.{StandFor}
use Rattle.dip_check_papers.specs.Shared.{draw_head, sharers}
use Rattle.dip_check_papers.proofs.DrawLemmas.{draw_begins, draw_rest, sharers_of}
use Rattle.dip_check_papers.proofs.GameTexts.{due_head, due_in, due_tail, tail_no_u}
use Rattle.dip_check_papers.proofs.Judged.{close_line, noted_of, pause_line, resume_line, told_by}
use Rattle.dip_check_papers.proofs.Judging.{Reads, phase_reads, stand_for}
use Rattle.dip_check_papers.proofs.KindsApart.{notice_or_draw, phase_or_draw, phase_or_notice}
use Rattle.dip_check_papers.proofs.LineLemmas.{lacks_by, no_mark}
use Rattle.dip_check_papers.proofs.MovesBack.{OrderLaws}
use Rattle.dip_check_papers.proofs.NameTexts.{number_all}
use Rattle.dip_check_papers.proofs.OpeningLemmas.{AreSaid, opening_read, same_opening}
use Rattle.dip_check_papers.proofs.PaperLemmas.{some_same}

-- ---- numbers that texts print

no_space : (b : ℕ) → not (b == 32) ≡ true → b ≢ 32
no_space b h same = grind (arith, nat_tests)

cut_number : (n : ℕ) (rest : List ℕ) → cut_at 32 (decimal n ++ 32 ∷ rest) ≡ Some (decimal n, rest)
cut_number n rest =
    cut_again 32 (decimal n) rest (lacks_by (λ b. not (b == 32)) 32 no_space (decimal n) (number_all (λ b. not (b == 32)) (λ d low. grind (arith, nat_tests)) n))

-- numbers before a space in one text are one
same_number : (n k : ℕ) (a c : List ℕ) → n < 2 ^ 64 → k < 2 ^ 64 → decimal n ++ 32 ∷ a ≡ decimal k ++ 32 ∷ c → n ≡ k
same_number n k a c low small same =
    let cuts : ◌≡◌ {A = Option (List ℕ × List ℕ)} (Some (decimal n, a)) (Some (decimal k, c)) = sym (cut_number n a) ∙ ap (cut_at 32) same ∙ cut_number k c in
    decimal_injective n k low small (ap (λ (p : List ℕ × List ℕ). p.0) (some_same {A = List ℕ × List ℕ} (decimal n, a) (decimal k, c) cuts))

-- what is after the last mark in one text is one
same_end : (mark : ℕ) (a c s t : List ℕ) → Lacks mark s → Lacks mark t → a ++ mark ∷ s ≡ c ++ mark ∷ t → s ≡ t
same_end mark [] [] s t one two same = cc
same_end mark [] (x ∷ c) s t one two same = let rest : s ≡ c ++ mark ∷ t = cc in absurd (no_mark mark c t (subst (Lacks mark) rest one))
same_end mark (x ∷ a) [] s t one two same = let rest : a ++ mark ∷ s ≡ t = cc in absurd (no_mark mark a s (subst (Lacks mark) (sym rest) two))
same_end mark (x ∷ a) (y ∷ c) s t one two same = let rest : a ++ mark ∷ s ≡ c ++ mark ∷ t = cc in same_end mark a c s t one two rest

-- ---- a phase

module _ (m : Chart) (laws : IsMap m) where
  -- papers of phases with one text print one due tick
  same_due : (r s : Report) (a c : Public) → a.due < 2 ^ 64 → c.due < 2 ^ 64 → paper_text m r a ≡ paper_text m s c → a.due ≡ c.due
  same_due r s a c low small same =
      let ends : codes "E " ++ (decimal a.due ++ 32 ∷ due_tail m a) ≡ codes "E " ++ (decimal c.due ++ 32 ∷ due_tail m c) =
      same_end 85 (due_head m r a) (due_head m s c) (codes "E " ++ (decimal a.due ++ 32 ∷ due_tail m a)) (codes "E " ++ (decimal c.due ++ 32 ∷ due_tail m c)) (tail_no_u m a laws) (tail_no_u m c laws)
      (sym (due_in m r a) ∙ same ∙ due_in m s c) in
      same_number a.due c.due (due_tail m a) (due_tail m c) low small
      (append_cancel_left (codes "E ") (decimal a.due ++ 32 ∷ due_tail m a) (decimal c.due ++ 32 ∷ due_tail m c) ends)

-- two ticks leave one public part, where they are one or the game is over
pub same_part : (p : Public) (t k : ℕ) (board : Position) (course : Course) → (course ≡ GoesOn → t ≡ k) → public_played t p board course ≡ public_played k p board course
same_part p t k board GoesOn same = ap (λ (n : ℕ). public_played n p board GoesOn) (same refl)
same_part p t k board (WonBy power) same = refl
same_part p t k board AtAnEnd same = refl

module _ (l : OrderLaws) (one_result : PhasesHaveOneResult) (m : Chart) (p : Public) (text : List ℕ) (laws : IsMap m) (of : IsOf m p.board) (short : p.period ≤ 999999) where
  same_phase : (a c : Public) → IsPhase m p text a → IsPhase m p text c → a ≡ c
  same_phase a c h k =
      let x = h.brought in
      let y = k.brought in
      let reads : Reads m p.board x.orders text = phase_reads l m p text laws of a h in
      let stands : StandFor m p.board y.orders reads.read = stand_for l m p text laws of c k reads.read reads.is in
      let one : IsPlayed m p.board reads.read x.board h.report = reads.stands.alike x.board h.report x.played in
      let two : IsPlayed m p.board reads.read y.board k.report = stands.alike y.board k.report y.played in
      let same : IsSame x.board y.board h.report k.report = one_result m p.board reads.read x.board y.board h.report k.report one two in
      let texts : paper_text m h.report (public_played x.tick p x.board h.report.course) ≡ paper_text m k.report (public_played y.tick p y.board k.report.course) =
      sym (x.told ∙ ap (paper_text m h.report) x.after) ∙ y.told ∙ ap (paper_text m k.report) y.after in
      x.after ∙ same_part p x.tick y.tick x.board h.report.course (λ goes.
      let first : (public_played x.tick p x.board h.report.course).due ≡ x.tick + p.period = ap (λ (course : Course). (public_played x.tick p x.board course).due) goes in
      let second : (public_played y.tick p y.board k.report.course).due ≡ y.tick + p.period = ap (λ (course : Course). (public_played y.tick p y.board course).due) (sym same.course ∙ goes) in
      let due = same_due m laws h.report k.report (public_played x.tick p x.board h.report.course) (public_played y.tick p y.board k.report.course)
      (omega (arith, first, x.ticks.timely, short)) (omega (arith, second, y.ticks.timely, short)) texts in
      omega (arith, first, second, due))
      ∙ ap₂ (λ (board : Position) (course : Course). public_played y.tick p board course) same.board same.course ∙ sym y.after

-- ---- a notice

-- what stands before the status in a paper's end, and after it
abbrev end_head : Public → List ℕ
end_head p = codes "GAME " ++ (p.game ++ (codes " " ++ (phase_text p.board.phase ++ codes " ")))

abbrev end_tail : Chart → Public → List ℕ
end_tail m p = codes "\n" ++ (board_lines m p.board ++ codes "END\n")

end_parts : (m : Chart) (p : Public) → paper_end m p ≡ end_head p ++ (status_text m p.status ++ (terms_text p ++ end_tail m p))
unfolding game_line
end_parts m p = parts (codes "GAME ") p.game (phase_text p.board.phase) (status_text m p.status) (terms_text p) (board_lines m p.board) (codes "END\n")
  where
    parts : (g a f s t b e : List ℕ) → (g ++ a ++ codes " " ++ f ++ codes " " ++ s ++ t ++ codes "\n") ++ b ++ e ≡ (g ++ (a ++ (codes " " ++ (f ++ codes " ")))) ++ (s ++ (t ++ (codes "\n" ++ (b ++ e))))
    parts g a f s t b e = simp append_assoc

-- what stands before the period in the terms, and after it
abbrev before_period : Public → List ℕ
before_period p = codes " DUE " ++ (decimal p.due ++ codes " PERIOD ")

abbrev after_period : Public → List ℕ → List ℕ
after_period p rest = codes "GREY " ++ (yes_or_no p.grey ++ (intent_text p.board.intent ++ (codes " PAPERS " ++ (decimal p.papers ++ rest))))

terms_parts : (p : Public) (rest : List ℕ) → terms_text p ++ rest ≡ before_period p ++ (decimal p.period ++ 32 ∷ after_period p rest)
unfolding terms_text
terms_parts p rest = parts (codes " DUE ") (decimal p.due) (codes " PERIOD ") (decimal p.period) (yes_or_no p.grey) (intent_text p.board.intent) (decimal p.papers) rest
  where
    parts : (a d b n g i k r : List ℕ) → (a ++ d ++ b ++ n ++ codes " GREY " ++ g ++ i ++ codes " PAPERS " ++ k) ++ r ≡ (a ++ (d ++ b)) ++ (n ++ (codes " GREY " ++ (g ++ (i ++ (codes " PAPERS " ++ (k ++ r))))))
    parts a d b n g i k r = simp append_assoc

-- the letter with which a text begins
begins : ℕ → List ℕ → Bool
begins b [] = false
begins b (x ∷ xs) = x == b

is_paused : (m : Chart) (s : Status) (a c : List ℕ) → status_text m Paused ++ a ≡ status_text m s ++ c → Paused ≡ s
unfolding status_text begins
is_paused m Running a c same = absurd (false≢true (sym (ap (begins 112) same)))
is_paused m Paused a c same = refl
is_paused m Closed a c same = absurd (false≢true (sym (ap (begins 112) same)))
is_paused m Ended a c same = absurd (false≢true (sym (ap (begins 112) same)))
is_paused m (Won power) a c same = absurd (false≢true (sym (ap (begins 112) same)))
is_paused m (Drawn powers) a c same = absurd (false≢true (sym (ap (begins 112) same)))

is_running : (m : Chart) (s : Status) (a c : List ℕ) → status_text m Running ++ a ≡ status_text m s ++ c → Running ≡ s
unfolding status_text begins
is_running m Running a c same = refl
is_running m Paused a c same = absurd (false≢true (sym (ap (begins 114) same)))
is_running m Closed a c same = absurd (false≢true (sym (ap (begins 114) same)))
is_running m Ended a c same = absurd (false≢true (sym (ap (begins 114) same)))
is_running m (Won power) a c same = absurd (false≢true (sym (ap (begins 114) same)))
is_running m (Drawn powers) a c same = absurd (false≢true (sym (ap (begins 114) same)))

is_closed : (m : Chart) (s : Status) (a c : List ℕ) → status_text m Closed ++ a ≡ status_text m s ++ c → Closed ≡ s
unfolding status_text begins
is_closed m Running a c same = absurd (false≢true (sym (ap (begins 99) same)))
is_closed m Paused a c same = absurd (false≢true (sym (ap (begins 99) same)))
is_closed m Closed a c same = refl
is_closed m Ended a c same = absurd (false≢true (sym (ap (begins 99) same)))
is_closed m (Won power) a c same = absurd (false≢true (sym (ap (begins 99) same)))
is_closed m (Drawn powers) a c same = absurd (false≢true (sym (ap (begins 99) same)))

module _ (m : Chart) (p : Public) (short : p.period ≤ 999999) where
  -- what is after the status's place in the end of a notice's paper
  abbrev ends : NoticeRequest → List ℕ
  ends n = status_text m (public_noted n p).status ++ (terms_text (public_noted n p) ++ end_tail m (public_noted n p))

  -- a command and an announcement with one end change the same
  as_announced : (n : NoticeRequest) (lines : List (List ℕ)) → FitsNotice n → ends n ≡ ends (Announce lines) → public_noted n p ≡ public_noted (Announce lines) p
  as_announced Pause lines fits same = ap (λ (s : Status). record p { status = s; papers = p.papers + 1 })
      (is_paused m p.status (terms_text (public_noted Pause p) ++ end_tail m (public_noted Pause p)) (terms_text (public_noted (Announce lines) p) ++ end_tail m (public_noted (Announce lines) p)) same)
  as_announced Resume lines fits same = ap (λ (s : Status). record p { status = s; papers = p.papers + 1 })
      (is_running m p.status (terms_text (public_noted Resume p) ++ end_tail m (public_noted Resume p)) (terms_text (public_noted (Announce lines) p) ++ end_tail m (public_noted (Announce lines) p)) same)
  as_announced (Period period) lines fits same =
      let one = public_noted (Period period) p in
      let two = public_noted (Announce lines) p in
      let terms : terms_text one ++ end_tail m one ≡ terms_text two ++ end_tail m two = append_cancel_left (status_text m p.status) (terms_text one ++ end_tail m one) (terms_text two ++ end_tail m two) same in
      let periods : decimal period ++ 32 ∷ after_period one (end_tail m one) ≡ decimal p.period ++ 32 ∷ after_period two (end_tail m two) =
      append_cancel_left (before_period p) (decimal period ++ 32 ∷ after_period one (end_tail m one)) (decimal p.period ++ 32 ∷ after_period two (end_tail m two))
      (sym (terms_parts one (end_tail m one)) ∙ terms ∙ terms_parts two (end_tail m two)) in
      ap (λ (k : ℕ). record p { period = k; papers = p.papers + 1 })
      (same_number period p.period (after_period one (end_tail m one)) (after_period two (end_tail m two)) (omega (arith, fits.1)) (omega (arith, short)) periods)
  as_announced (Announce text) lines fits same = refl
  as_announced Close lines fits same = ap (λ (s : Status). record p { status = s; papers = p.papers + 1 })
      (is_closed m p.status (terms_text (public_noted Close p) ++ end_tail m (public_noted Close p)) (terms_text (public_noted (Announce lines) p) ++ end_tail m (public_noted (Announce lines) p)) same)

  -- two commands of one line are one
  same_command : (n k : NoticeRequest) → IsCommand n → IsCommand k → notice_lines n ≡ notice_lines k → n ≡ k
  same_command Pause k c d same = pause_line k d (sym same)
  same_command Resume k c d same = resume_line k d (sym same)
  same_command (Period period) Pause c d same = sym (pause_line (Period period) c same)
  same_command (Period period) Resume c d same = sym (resume_line (Period period) c same)
  same_command (Period period) (Period other) c d same =
      let texts : codes "period " ++ decimal period ≡ codes "period " ++ decimal other = cc in
      ap Period (decimal_injective period other (omega (arith, c.fits.1)) (omega (arith, d.fits.1)) (append_cancel_left (codes "period ") (decimal period) (decimal other) texts))
  same_command (Period period) (Announce text) c d same = absurd (false≢true (sym d.kind))
  same_command (Period period) Close c d same = sym (close_line (Period period) c same)
  same_command (Announce text) k c d same = absurd (false≢true (sym c.kind))
  same_command Close k c d same = close_line k d (sym same)

  same_noted : (n k : NoticeRequest) → FitsNotice n → FitsNotice k → notice_lines n ≡ notice_lines k → ends n ≡ ends k → public_noted n p ≡ public_noted k p
  same_noted n k fits fit lines same = elim (cases_Bool (is_announcement n)) [
    | inl announced ↦ by n k fit announced same
    | inr command ↦ elim (cases_Bool (is_announcement k)) [
      | inl announced ↦ sym (by k n fits announced (sym same))
      | inr other ↦ ap (λ (x : NoticeRequest). public_noted x p) (same_command n k (record { fits = fits; kind = command }) (record { fits = fit; kind = other }) lines)
    ]
  ]
    where
      by : (x y : NoticeRequest) → FitsNotice y → is_announcement x ≡ true → ends x ≡ ends y → public_noted x p ≡ public_noted y p
      by Pause y fit is same = absurd (false≢true is)
      by Resume y fit is same = absurd (false≢true is)
      by (Period period) y fit is same = absurd (false≢true is)
      by (Announce text) y fit is same = sym (as_announced y text fit (sym same))
      by Close y fit is same = absurd (false≢true is)

  same_notice : (text : List ℕ) (a c : Public) → p.papers < most_papers → IsNotice m p text a → IsNotice m p text c → a ≡ c
  same_notice text a c room h k =
      let n = h.notice in
      let o = k.notice in
      let one = public_noted n p in
      let two = public_noted o p in
      let lines : notice_lines n ≡ notice_lines o = sym (told_by m p n text a room h.fits (noted_of m p text a h)) ∙ told_by m p o text c room k.fits (noted_of m p text c k) in
      let head : NoticeRequest → List ℕ = λ x. paper_title (p.papers + 1) (codes "notice") ++ marked_lines (notice_lines x) in
      let texts : head n ++ paper_end m one ≡ head n ++ paper_end m two =
      sym (h.told ∙ ap (notice_paper m n) h.after) ∙ k.told ∙ ap (notice_paper m o) k.after ∙ ap (λ (ls : List (List ℕ)). paper_title (p.papers + 1) (codes "notice") ++ marked_lines ls ++ paper_end m two) (sym lines) in
      let last : paper_end m one ≡ paper_end m two = append_cancel_left (head n) (paper_end m one) (paper_end m two) texts in
      let both : ends n ≡ ends o = append_cancel_left (end_head one) (ends n) (ends o) (sym (end_parts m one) ∙ last ∙ end_parts m two) in
      h.after ∙ same_noted n o h.fits k.fits lines both ∙ sym k.after

-- ---- a draw

same_draw : (m : Chart) (p : Public) (text : List ℕ) (a c : Public) → IsMap m → IsDraw m p text a → IsDraw m p text c → a ≡ c
same_draw m p text a c laws h k =
    let one : text ≡ draw_head p ++ draw_rest m h.powers p = h.told ∙ ap (λ (q : Public). paper_title q.papers (codes "draw") ++ paper_end m q) h.after ∙ draw_begins m h.powers p in
    let two : text ≡ draw_head p ++ draw_rest m k.powers p = k.told ∙ ap (λ (q : Public). paper_title q.papers (codes "draw") ++ paper_end m q) k.after ∙ draw_begins m k.powers p in
    let rests : draw_rest m h.powers p ≡ draw_rest m k.powers p = append_cancel_left (draw_head p) (draw_rest m h.powers p) (draw_rest m k.powers p) (sym one ∙ two) in
    let powers : h.powers ≡ k.powers =
    sym (sharers_of m p h.powers laws h.named h.survive) ∙ ap (λ (t : List ℕ). sharers m p.board (words_in t)) rests ∙ sharers_of m p k.powers laws k.named k.survive in
    h.after ∙ ap (λ (s : List ℕ). public_drawn s p) powers ∙ sym k.after

-- ---- whatever comes next

pub papers_have_one_answer : OrderLaws → PhasesHaveOneResult → (m : Chart) → IsMap m → PapersHaveOneAnswer m
papers_have_one_answer l one_result m laws p one other text of short h k = by h.kind k.kind
  where
    by : IsPhase m p text one ⊎ (IsNotice m p text one ⊎ IsDraw m p text one) → IsPhase m p text other ⊎ (IsNotice m p text other ⊎ IsDraw m p text other) → one ≡ other
    by (inl a) (inl c) = same_phase l one_result m p text laws of short one other a c
    by (inl a) (inr (inl c)) = absurd (phase_or_notice m p text one other a c)
    by (inl a) (inr (inr c)) = absurd (phase_or_draw m p text one other a c)
    by (inr (inl a)) (inl c) = absurd (phase_or_notice m p text other one c a)
    by (inr (inl a)) (inr (inl c)) = same_notice m p short text one other h.room a c
    by (inr (inl a)) (inr (inr c)) = absurd (notice_or_draw m p text one other a c)
    by (inr (inr a)) (inl c) = absurd (phase_or_draw m p text other one c a)
    by (inr (inr a)) (inr (inl c)) = absurd (notice_or_draw m p text other one c a)
    by (inr (inr a)) (inr (inr c)) = same_draw m p text one other laws a c

-- ---- an opening

pub openings_have_one_answer : (m : Chart) → OpeningsHaveOneAnswer m
openings_have_one_answer m one other text h k =
    let words = words_in (game_line_in (lines_in text)) in
    let a : AreSaid words h.game h.due h.period h.grey h.intent = opening_read m text one h in
    let c : AreSaid words k.game k.due k.period k.grey k.intent = opening_read m text other k in
    let dues : decimal h.due ≡ decimal k.due = some_same (decimal h.due) (decimal k.due) (sym a.tick ∙ c.tick) in
    let periods : decimal h.period ≡ decimal k.period = some_same (decimal h.period) (decimal k.period) (sym a.ticks ∙ c.ticks) in
    h.after ∙ same_opening m h.game k.game h.due k.due h.period k.period h.grey k.grey h.intent k.intent (sym a.named ∙ c.named)
    (decimal_injective h.due k.due (omega (arith, h.timely)) (omega (arith, k.timely)) dues)
    (decimal_injective h.period k.period (omega (arith, h.most)) (omega (arith, k.most)) periods)
    (sym a.says_grey ∙ c.says_grey) (sym a.says_intent ∙ c.says_intent) ∙ sym k.after

-- ---- periods

pub opening_period : (m : Chart) (text : List ℕ) (new : Public) → IsOpening m text new → new.period ≤ 999999
opening_period m text new h = let is : new.period ≡ h.period = ap (λ (q : Public). q.period) h.after in omega (arith, is, h.most)

noted_period : (n : NoticeRequest) (p : Public) → FitsNotice n → p.period ≤ 999999 → (public_noted n p).period ≤ 999999
noted_period Pause p fits short = short
noted_period Resume p fits short = short
noted_period (Period period) p fits short = fits.1
noted_period (Announce text) p fits short = short
noted_period Close p fits short = short

pub next_period : (m : Chart) (p : Public) (text : List ℕ) (new : Public) → IsNext m p text new → p.period ≤ 999999 → new.period ≤ 999999
next_period m p text new h short = by h.kind
  where
    by : IsPhase m p text new ⊎ (IsNotice m p text new ⊎ IsDraw m p text new) → new.period ≤ 999999
    by (inl a) = let is : new.period ≡ p.period = ap (λ (q : Public). q.period) a.brought.after in omega (arith, is, short)
    by (inr (inl a)) = let is : new.period ≡ (public_noted a.notice p).period = ap (λ (q : Public). q.period) a.after in omega (arith, is, noted_period a.notice p a.fits short)
    by (inr (inr a)) = let is : new.period ≡ p.period = ap (λ (q : Public). q.period) a.after in omega (arith, is, short)
