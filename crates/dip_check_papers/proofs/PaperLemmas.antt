-- What the lines of a paper say: the marked lines of a notice, and the game line.
use Rattle.std.proofs.Common.{◌≡◌, ◌<◌, ◌^◌, ℕ, true, List, [], ◌∷◌, ◌++◌, Some, None, refl, ap, ◌∙◌, append_assoc, codes}
use Rattle.std.specs.Fmt.{decimal}
use Rattle.std.specs.List.{AllByRecursion, onto_first}
use Rattle.dip_map.specs.Charts.{Chart}
use Rattle.dip_letters.specs.Notes.{NoticeRequest}
use Rattle.dip_letters.specs.Reading.{after_name}
use Rattle.dip_letters.proofs.NameLemmas.{after_again}
use Rattle.dip_desk_state.specs.Records.{Public}
use Rattle.dip_reports.specs.Texts.{game_line, marked_line, marked_lines, notice_lines, notice_paper, paper_end, paper_title}
use Rattle.dip_check_papers.specs.Parts.{lines_in, told_in}
use Rattle.dip_check_papers.proofs.WordLemmas.{lacks, lacks_both, number_lacks, part_again}

-- a line that begins as a game line does is the last that counts
begun : (parts : List (List ℕ)) → told_in (onto_first 71 (onto_first 65 (onto_first 77 (onto_first 69 (onto_first 32 parts))))) ≡ []
begun [] = refl
begun (l ∷ ls) = refl

end_tells : (m : Chart) (p : Public) → told_in (lines_in (paper_end m p)) ≡ []
unfolding game_line
end_tells m p = begun _

one_told : (l rest : List ℕ) → lacks 10 l ≡ true → told_in (lines_in (marked_line l ++ rest)) ≡ l ∷ told_in (lines_in rest)
one_told l rest free =
    ap (λ text. told_in (lines_in text)) (append_assoc (codes "> " ++ l) (codes "\n") rest)
    ∙ ap told_in (part_again 10 (codes "> " ++ l) rest free)

all_told : (m : Chart) (p : Public) (ls : List (List ℕ)) → AllByRecursion (λ l. lacks 10 l ≡ true) ls
    → told_in (lines_in (marked_lines ls ++ paper_end m p)) ≡ ls
all_told m p [] free = end_tells m p
all_told m p (l ∷ ls) free =
    ap (λ text. told_in (lines_in text)) (append_assoc (marked_line l) (marked_lines ls) (paper_end m p))
    ∙ one_told l (marked_lines ls ++ paper_end m p) free.0
    ∙ ap (λ others. l ∷ others) (all_told m p ls free.1)

-- the first line of a paper that tells of no phase
pub title_again : (number : ℕ) (kind rest : List ℕ) → number < 2 ^ 64 → lacks 10 kind ≡ true
    → lines_in (paper_title number kind ++ rest) ≡ (codes "PAPER " ++ decimal number ++ codes " " ++ kind) ∷ lines_in rest
title_again number kind rest low free =
    ap lines_in (append_assoc (codes "PAPER " ++ decimal number ++ codes " " ++ kind) (codes "\n") rest)
    ∙ part_again 10 (codes "PAPER " ++ decimal number ++ codes " " ++ kind) rest
    (lacks_both 10 (codes "PAPER " ++ decimal number ++ codes " ") kind
    (lacks_both 10 (codes "PAPER " ++ decimal number) (codes " ") (number_lacks 10 number refl low) refl) free)

-- the paper of a notice tells its lines
pub notice_told : (m : Chart) (notice : NoticeRequest) (p : Public) → p.papers < 2 ^ 64 → AllByRecursion (λ l. lacks 10 l ≡ true) (notice_lines notice)
    → told_in (lines_in (notice_paper m notice p)) ≡ notice_lines notice
notice_told m notice p low free =
    let lines : List (List ℕ) = notice_lines notice in
    ap (λ text. told_in (lines_in text)) (append_assoc (paper_title p.papers (codes "notice")) (marked_lines lines) (paper_end m p))
    ∙ ap told_in (title_again p.papers (codes "notice") (marked_lines lines ++ paper_end m p) low refl)
    ∙ all_told m p lines free

-- ---- what follows a name

pub some_same : {A : Type 0} (x y : A) → Some x ≡ Some y → x ≡ y
some_same x y e = cc

none_some : {A : Type 0} (y : A) → None ≡ Some y → ⊥
none_some y e = cc

-- what is stripped of a name is what stands after it
pub rest_same : (name text rest after : List ℕ) → Some rest ≡ after_name name text → text ≡ name ++ after → rest ≡ after
rest_same name text rest after is told = some_same rest after (is ∙ ap (after_name name) told ∙ after_again name after)

-- a text that begins with a name has something after it
pub rest_some : (name text after : List ℕ) → None ≡ after_name name text → text ≡ name ++ after → ⊥
rest_some name text after is told = none_some after (is ∙ ap (after_name name) told ∙ after_again name after)
