-- Papers and the titles that they begin with.
use Rattle.std.proofs.Common.{◌≡◌, ℕ, true, false, List, [], ◌∷◌, ◌++◌, codes, drop, length, refl, ap, ◌∙◌}
use Rattle.std.specs.Fmt.{decimal}
use Rattle.std.proofs.Math.Seq.{drop-append_seam}
use Rattle.std.proofs.lemmas.List.{append_assoc}
use Rattle.dip_letters.specs.Notes.{NoticeRequest}
use Rattle.dip_map.specs.Charts.{Chart}
use Rattle.dip_map.specs.declared.boards.Phase.{Phase}
use Rattle.dip_map.specs.declared.boards.Season.{Season}
use Rattle.dip_map.specs.declared.boards.Season.TheVariants.{SpringMoves, SpringRetreats, FallMoves, FallRetreats, Winter}
use Rattle.dip_desk_state.specs.Records.{Public}
use Rattle.dip_reports.specs.Texts.{board_lines, draw_paper, game_line, marked_lines, notice_lines, notice_paper, paper_end, paper_title, phase_text}
use Rattle.dip_turn_phases.specs.declared.report.Report.{Report}
use Rattle.dip_turn_papers.specs.Papers.{account_text, centre_line, paper_text, title}
use Rattle.dip_desk_machine.specs.Titles.{is_capital, names_phase}
use Rattle.std.specs.Prelude.{flat_map}

abbrev front : ℕ → List ℕ
front n = codes "PAPER " ++ decimal n ++ codes " "

-- it begins with the number's title, and then with this byte
abbrev Begins : List ℕ → ℕ → ℕ → Type 0
Begins paper n b = (rest : List ℕ) × (paper ≡ front n ++ b ∷ rest)

more : (paper zs : List ℕ) (n b : ℕ) → Begins paper n b → Begins (paper ++ zs) n b
more paper zs n b it = (it.0 ++ zs, ap (λ (xs : List ℕ). xs ++ zs) it.1 ∙ append_assoc (front n) (b ∷ it.0) zs)

told : (paper : List ℕ) (n b : ℕ) → Begins paper n b → names_phase n paper ≡ is_capital (b ∷ [])
told paper n b it =
    ap (names_phase n) it.1
    ∙ ap (λ (xs : List ℕ). is_capital (drop 1 (drop (length (decimal n)) xs))) (append_assoc (decimal n) (codes " ") (b ∷ it.0))
    ∙ ap (λ (xs : List ℕ). is_capital (drop 1 xs)) (drop-append_seam (decimal n) (codes " " ++ b ∷ it.0))

-- a phase's name begins with its season
abbrev BeginsPhase : List ℕ → ℕ → Type 0
BeginsPhase paper n = (b : ℕ) × (is_capital (b ∷ []) ≡ true) × Begins paper n b

phase_begins : (n : ℕ) (p : Phase) → BeginsPhase (title n p) n
unfolding phase_text
phase_begins n p = go p.season p.year
  where
    by : (b : ℕ) (name : List ℕ) → is_capital (b ∷ []) ≡ true → BeginsPhase ((front n ++ (b ∷ name)) ++ codes "\n") n
    by b name is = (b, is, more (front n ++ (b ∷ name)) (codes "\n") n b (name, refl))

    go : (s : Season) (y : ℕ) → BeginsPhase (title n (record { year = y; season = s })) n
    go SpringMoves y = by 83 (decimal y ++ codes "M") refl
    go SpringRetreats y = by 83 (decimal y ++ codes "R") refl
    go FallMoves y = by 70 (decimal y ++ codes "M") refl
    go FallRetreats y = by 70 (decimal y ++ codes "R") refl
    go Winter y = by 87 (decimal y ++ codes "A") refl

pub phase_told : (m : Chart) (r : Report) (p : Public) → names_phase p.papers (paper_text m r p) ≡ true
unfolding paper_text
phase_told m r p =
    let it = phase_begins p.papers r.phase in
    let n = p.papers in
    told _ n it.0 (more _ (codes "END\n") n it.0 (more _ (board_lines m p.board) n it.0 (more _ (game_line m p) n it.0 (more _ (flat_map (centre_line m) r.centres.items) n it.0 (more _ (account_text m r.account) n it.0 it.2))))) ∙ it.1

pub draw_told : (m : Chart) (p : Public) → names_phase p.papers (draw_paper m p) ≡ false
draw_told m p = told (draw_paper m p) p.papers 100 (more (paper_title p.papers (codes "draw")) (paper_end m p) p.papers 100 (more (front p.papers ++ codes "draw") (codes "\n") p.papers 100 (codes "raw", refl)))

pub notice_told : (m : Chart) (notice : NoticeRequest) (p : Public) → names_phase p.papers (notice_paper m notice p) ≡ false
notice_told m notice p =
    told (notice_paper m notice p) p.papers 110 (more (paper_title p.papers (codes "notice") ++ marked_lines (notice_lines notice)) (paper_end m p) p.papers 110
    (more (paper_title p.papers (codes "notice")) (marked_lines (notice_lines notice)) p.papers 110 (more (front p.papers ++ codes "notice") (codes "\n") p.papers 110 (codes "otice", refl))))
