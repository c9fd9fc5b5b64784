-- What a run over papers tells.
use Rattle.std.specs.Prelude.{ℕ, zero, suc, ◌==◌, ◌+◌, ◌++◌, take, List, [], ◌∷◌, codes, string_bytes, if◌then◌else◌}
use Rattle.std.specs.Fmt.{decimal}
use Rattle.std.specs.List.{count_by}
use Rattle.dip_check_papers.specs.declared.verdict.Wanted.{Wanted}
use Rattle.dip_check_papers.specs.declared.verdict.Wanted.TheVariants.{Line, OrderOf, AnOrder, AText, AGameLine, NoLine}
use Rattle.dip_check_runs.specs.declared.saying.Said.{Said}
use Rattle.dip_check_runs.specs.declared.saying.Said.TheVariants.{Right, Wrong, NoText}

-- the first line of some bytes, up to so many of it
abbrev pub line_front : ℕ → List ℕ → List ℕ
line_front zero bytes = []
line_front (suc n) [] = []
line_front (suc n) (b ∷ bs) = if b == 10 then [] else b ∷ line_front n bs

-- the title of a paper: its first line, shortened
abbrev pub title_in : List ℕ → List ℕ
title_in paper = line_front 80 paper

-- what a line should be, in words
abbrev pub wanted_words : Wanted → List ℕ
wanted_words (Line line) = string_bytes line
wanted_words (OrderOf unit) = codes "an order of " ++ (string_bytes unit ++ codes " that can be given there, and what became of it")
wanted_words AnOrder = codes "an order that can be given there, and what became of it"
wanted_words AText = codes "a line of an announcement: > and a space, and up to 200 printable characters"
wanted_words AGameLine = codes "a game line"
wanted_words NoLine = codes "nothing: the paper should end before it"

-- after the title of a wrong paper: the line, what it is and what it should be
unfoldable pub wrong_text : ℕ → List ℕ → List ℕ → List ℕ
wrong_text line is should = codes " wrong: line " ++ (decimal line ++ (codes "\nis: " ++ (is ++ (codes "\nshould be: " ++ (should
    ++ codes "\npapers after it weren't checked\n")))))

-- after the title of a paper, by what is said of it
abbrev pub verdict_text : Said → List ℕ
verdict_text (Right new) = codes " right\n"
verdict_text (Wrong fault) = wrong_text fault.line (string_bytes fault.is) (wanted_words fault.wanted)
verdict_text (NoText line) = wrong_text line (codes "bytes that are no UTF-8") (codes "text")

-- what is told of a paper of which that is said
abbrev pub said_text : List ℕ → Said → List ℕ
said_text paper said = title_in paper ++ verdict_text said

-- what is told of a paper that is right
abbrev pub right_text : List ℕ → List ℕ
right_text paper = title_in paper ++ codes " right\n"

-- what is told of a game of so many papers
unfoldable pub count_text : ℕ → List ℕ
count_text papers = decimal papers ++ (if papers == 1 then codes " paper right\n" else codes " papers right\n")

-- what is told of an input without a paper
abbrev pub empty_text : List ℕ
empty_text = codes "no paper: the input is empty\n"

-- what is told where the input has so many papers, and not the one of this number
unfoldable pub missing_text : ℕ → ℕ → List ℕ
missing_text number papers = codes "no paper " ++ (decimal number ++ (codes ": the input has " ++ (decimal papers ++ codes "\n")))

-- the line, counted from 1, in which the byte after these stands
abbrev pub line_after : List ℕ → ℕ
line_after bytes = count_by (λ b. b == 10) bytes + 1

-- what is told of a paper that is longer than may be: the line that goes past the most bytes
unfoldable pub too_long_text : List ℕ → List ℕ
too_long_text paper = title_in paper ++ (codes " is too long: line " ++ (decimal (line_after (take 1048576 paper)) ++ codes " goes past 1048576 bytes\n"))

-- what is told of a paper that plays no phase
abbrev pub no_phase_text : List ℕ → List ℕ
no_phase_text paper = title_in paper ++ codes " plays no phase, so there is nothing to explain\n"
