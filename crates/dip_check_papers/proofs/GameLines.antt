-- The words of the game line.
use Rattle.std.proofs.Common.{◌≡◌, ◌<◌, ◌==◌, ◌^◌, ◌≤◌, ◌&&◌, ◌||◌, not, nat_le, ℕ, Bool, true, false, cond, length, List, [], ◌∷◌, ◌++◌, Some, slice_get, slice_index, refl, ap, ◌∙◌, append_assoc, codes, arith}
use Rattle.std.specs.Fmt.{decimal}
use Rattle.std.specs.List.{list_all}
use Rattle.std.specs.Str.{bytes_eq}
use Rattle.std.specs.Char.{is_ascii_digit}
use Rattle.std.proofs.lemmas.Bool.{and_parts, leb-true}
use Rattle.std.proofs.lemmas.Bool.Decides.{nat_tests}
use Rattle.dip_map.specs.Charts.{Chart}
use Rattle.dip_letters.specs.Words.{has_length, is_digit, is_game, is_lower}
use Rattle.dip_map.specs.declared.boards.Phase.{Phase}
use Rattle.dip_map.specs.declared.boards.Season.{Season}
use Rattle.dip_map.specs.declared.boards.Season.TheVariants.{SpringMoves, SpringRetreats, FallMoves, FallRetreats, Winter}
use Rattle.dip_desk_state.specs.Records.{Public, Running}
use Rattle.dip_reports.specs.Texts.{board_lines, game_line, intent_text, opening_paper, paper_end, phase_text, terms_text, yes_or_no}
use Rattle.dip_desk_state.specs.Texts.{status_text}
use Rattle.dip_check_papers.specs.Parts.{game_line_in, is_yes, lines_in, word_after, words_in}
use Rattle.dip_check_papers.proofs.WordLemmas.{lacks, lacks_both, lacks_by, last_part, number_lacks, other_than_number, other_word, part_again}

-- texts, one after the other, bound from the left and from the right
abbrev pub glue : List ℕ → List (List ℕ) → List ℕ
glue text [] = text
glue text (t ∷ ts) = glue (text ++ t) ts

abbrev pub flat : List ℕ → List (List ℕ) → List ℕ
flat text [] = text
flat text (t ∷ ts) = text ++ flat t ts

pub glued : (text : List ℕ) (ts : List (List ℕ)) → glue text ts ≡ flat text ts
glued text [] = refl
glued text (t ∷ []) = refl
glued text (t ∷ u ∷ ts) = glued (text ++ t) (u ∷ ts) ∙ append_assoc text t (flat u ts)

pub word_then : (w r : List ℕ) → lacks 32 w ≡ true → words_in (w ++ 32 ∷ r) ≡ w ∷ words_in r
word_then w r free = part_again 32 w r free

-- the words of the terms from the answer on grey press on
abbrev pub with_intent : Bool → List (List ℕ) → List (List ℕ)
with_intent true words = codes "INTENT" ∷ codes "YES" ∷ words
with_intent false words = words

grey_words : (grey intent : Bool) (papers : ℕ) → papers < 2 ^ 64
    → words_in (yes_or_no grey ++ (intent_text intent ++ (codes " PAPERS " ++ decimal papers)))
    ≡ yes_or_no grey ∷ with_intent intent (codes "PAPERS" ∷ decimal papers ∷ [])
grey_words true true papers low = ap (λ ws. codes "YES" ∷ codes "INTENT" ∷ codes "YES" ∷ codes "PAPERS" ∷ ws) (last_part 32 (decimal papers) (number_lacks 32 papers refl low))
grey_words true false papers low = ap (λ ws. codes "YES" ∷ codes "PAPERS" ∷ ws) (last_part 32 (decimal papers) (number_lacks 32 papers refl low))
grey_words false true papers low = ap (λ ws. codes "NO" ∷ codes "INTENT" ∷ codes "YES" ∷ codes "PAPERS" ∷ ws) (last_part 32 (decimal papers) (number_lacks 32 papers refl low))
grey_words false false papers low = ap (λ ws. codes "NO" ∷ codes "PAPERS" ∷ ws) (last_part 32 (decimal papers) (number_lacks 32 papers refl low))

-- `DUE`, `PERIOD`, `GREY`, `INTENT` where that is on, and `PAPERS`, each with its value
abbrev pub terms_words : Public → List (List ℕ)
terms_words p = codes "DUE" ∷ decimal p.due ∷ codes "PERIOD" ∷ decimal p.period ∷ codes "GREY" ∷ yes_or_no p.grey
    ∷ with_intent p.board.intent (codes "PAPERS" ∷ decimal p.papers ∷ [])

-- numbers that are printed and read in 64 bits
pub record AreShort (p : Public) : Type 0 where
  pub due : p.due < 2 ^ 64
  pub period : p.period < 2 ^ 64
  pub papers : p.papers < 2 ^ 64

abbrev pub terms_flat : Public → List ℕ
terms_flat p = flat (codes " DUE ") (decimal p.due ∷ codes " PERIOD " ∷ decimal p.period ∷ codes " GREY " ∷ yes_or_no p.grey ∷ intent_text p.board.intent ∷ codes " PAPERS " ∷ decimal p.papers ∷ [])

pub terms_glued : (p : Public) → terms_text p ≡ terms_flat p
unfolding terms_text
terms_glued p = glued (codes " DUE ") (decimal p.due ∷ codes " PERIOD " ∷ decimal p.period ∷ codes " GREY " ∷ yes_or_no p.grey ∷ intent_text p.board.intent ∷ codes " PAPERS " ∷ decimal p.papers ∷ [])

-- a word, and the terms after it
pub then_terms : (w : List ℕ) (p : Public) → lacks 32 w ≡ true → AreShort p → words_in (w ++ terms_text p) ≡ w ∷ terms_words p
then_terms w p free short =
    ap (λ t. words_in (w ++ t)) (terms_glued p)
    ∙ word_then w (codes "DUE " ++ (decimal p.due ++ (codes " PERIOD " ++ (decimal p.period ++ (codes " GREY " ++ (yes_or_no p.grey ++ (intent_text p.board.intent ++ (codes " PAPERS " ++ decimal p.papers)))))))) free
    ∙ ap (λ ws. w ∷ codes "DUE" ∷ ws) (word_then (decimal p.due) (codes "PERIOD " ++ (decimal p.period ++ (codes " GREY " ++ (yes_or_no p.grey ++ (intent_text p.board.intent ++ (codes " PAPERS " ++ decimal p.papers)))))) (number_lacks 32 p.due refl short.due))
    ∙ ap (λ ws. w ∷ codes "DUE" ∷ decimal p.due ∷ codes "PERIOD" ∷ ws) (word_then (decimal p.period) (codes "GREY " ++ (yes_or_no p.grey ++ (intent_text p.board.intent ++ (codes " PAPERS " ++ decimal p.papers)))) (number_lacks 32 p.period refl short.period))
    ∙ ap (λ ws. w ∷ codes "DUE" ∷ decimal p.due ∷ codes "PERIOD" ∷ decimal p.period ∷ codes "GREY" ∷ ws) (grey_words p.grey p.board.intent p.papers short.papers)

framed : (mark first last n : ℕ) → not (first == mark) ≡ true → not (last == mark) ≡ true → lacks mark (decimal n) ≡ true → lacks mark (first ∷ (decimal n ++ last ∷ [])) ≡ true
framed mark first last n one other free =
    let end : lacks mark (last ∷ []) ≡ true = rw other refl in
    let rest : lacks mark (decimal n ++ last ∷ []) ≡ true = lacks_both mark (decimal n) (last ∷ []) free end in
    rw (one, rest) refl

-- a byte before the letters is none of them
letter_other : (mark letter : ℕ) → mark < 48 → 65 ≤ letter → not (letter == mark) ≡ true
letter_other mark letter low high = grind (arith, nat_tests)

-- a phase is one word in one line
pub phase_lacks : (mark : ℕ) (phase : Phase) → mark < 48 → is_ascii_digit mark ≡ false → phase.year < 2 ^ 64 → lacks mark (phase_text phase) ≡ true
unfolding phase_text
phase_lacks mark phase small fails low = by phase.season
  where
    year : lacks mark (decimal phase.year) ≡ true
    year = number_lacks mark phase.year fails low

    by : (season : Season) → lacks mark (phase_text (record { year = phase.year; season = season })) ≡ true
    by SpringMoves = framed mark 83 77 phase.year (letter_other mark 83 small (omega arith)) (letter_other mark 77 small (omega arith)) year
    by SpringRetreats = framed mark 83 82 phase.year (letter_other mark 83 small (omega arith)) (letter_other mark 82 small (omega arith)) year
    by FallMoves = framed mark 70 77 phase.year (letter_other mark 70 small (omega arith)) (letter_other mark 77 small (omega arith)) year
    by FallRetreats = framed mark 70 82 phase.year (letter_other mark 70 small (omega arith)) (letter_other mark 82 small (omega arith)) year
    by Winter = framed mark 87 65 phase.year (letter_other mark 87 small (omega arith)) (letter_other mark 65 small (omega arith)) year

answer_lacks : (rest : List ℕ) (grey intent : Bool) → lacks 10 rest ≡ true → lacks 10 (yes_or_no grey ++ (intent_text intent ++ rest)) ≡ true
answer_lacks rest true true free = free
answer_lacks rest true false free = free
answer_lacks rest false true free = free
answer_lacks rest false false free = free

-- the terms stand in one line
pub terms_lack : (p : Public) → AreShort p → lacks 10 (terms_text p) ≡ true
terms_lack p short =
    let papers : lacks 10 (codes " PAPERS " ++ decimal p.papers) ≡ true = number_lacks 10 p.papers refl short.papers in
    let answers : lacks 10 (yes_or_no p.grey ++ (intent_text p.board.intent ++ (codes " PAPERS " ++ decimal p.papers))) ≡ true = answer_lacks (codes " PAPERS " ++ decimal p.papers) p.grey p.board.intent papers in
    let period : lacks 10 (decimal p.period ++ (codes " GREY " ++ (yes_or_no p.grey ++ (intent_text p.board.intent ++ (codes " PAPERS " ++ decimal p.papers))))) ≡ true =
    lacks_both 10 (decimal p.period) (codes " GREY " ++ (yes_or_no p.grey ++ (intent_text p.board.intent ++ (codes " PAPERS " ++ decimal p.papers)))) (number_lacks 10 p.period refl short.period) answers in
    ap (lacks 10) (terms_glued p) ∙ lacks_both 10 (decimal p.due) (codes " PERIOD " ++ (decimal p.period ++ (codes " GREY " ++ (yes_or_no p.grey ++ (intent_text p.board.intent ++ (codes " PAPERS " ++ decimal p.papers))))))
    (number_lacks 10 p.due refl short.due) period

-- the game line without its LF
abbrev pub line_text : Chart → Public → List ℕ
line_text m p = codes "GAME " ++ p.game ++ codes " " ++ phase_text p.board.phase ++ codes " " ++ status_text m p.status ++ terms_text p

pub line_lacks : (m : Chart) (p : Public) → lacks 10 p.game ≡ true → p.board.phase.year < 2 ^ 64 → lacks 10 (status_text m p.status) ≡ true → AreShort p → lacks 10 (line_text m p) ≡ true
line_lacks m p game year status short =
    lacks_both 10 (codes "GAME " ++ p.game ++ codes " " ++ phase_text p.board.phase ++ codes " " ++ status_text m p.status) (terms_text p)
    (lacks_both 10 (codes "GAME " ++ p.game ++ codes " " ++ phase_text p.board.phase ++ codes " ") (status_text m p.status)
    (lacks_both 10 (codes "GAME " ++ p.game ++ codes " " ++ phase_text p.board.phase) (codes " ")
    (lacks_both 10 (codes "GAME " ++ p.game ++ codes " ") (phase_text p.board.phase)
    (lacks_both 10 (codes "GAME " ++ p.game) (codes " ") game refl)
    (phase_lacks 10 p.board.phase (omega arith) refl year)) refl) status) (terms_lack p short)

-- a paper's end begins with the game line
pub game_line_found : (m : Chart) (p : Public) → lacks 10 (line_text m p) ≡ true → game_line_in (lines_in (paper_end m p)) ≡ line_text m p
unfolding game_line
game_line_found m p free =
    ap (λ text. game_line_in (lines_in text)) (append_assoc (line_text m p ++ codes "\n") (board_lines m p.board) (codes "END\n")
    ∙ append_assoc (line_text m p) (codes "\n") (board_lines m p.board ++ codes "END\n"))
    ∙ ap game_line_in (part_again 10 (line_text m p) (board_lines m p.board ++ codes "END\n") free)

-- `GAME`, the game's name, the phase, and then the words of its status and its terms
pub line_words : (m : Chart) (p : Public) → lacks 32 p.game ≡ true → p.board.phase.year < 2 ^ 64
    → words_in (line_text m p) ≡ codes "GAME" ∷ p.game ∷ phase_text p.board.phase ∷ words_in (status_text m p.status ++ terms_text p)
line_words m p game year =
    ap words_in (glued (codes "GAME " ++ p.game) (codes " " ∷ phase_text p.board.phase ∷ codes " " ∷ status_text m p.status ∷ terms_text p ∷ []))
    ∙ ap (λ ws. codes "GAME" ∷ ws) (word_then p.game (phase_text p.board.phase ++ (codes " " ++ (status_text m p.status ++ terms_text p))) game)
    ∙ ap (λ ws. codes "GAME" ∷ p.game ∷ ws) (word_then (phase_text p.board.phase) (status_text m p.status ++ terms_text p) (phase_lacks 32 p.board.phase (omega arith) refl year))

-- a game's name is one word in one line
pub game_lacks : (mark : ℕ) (game : List ℕ) → (is_lower mark || is_digit mark) ≡ false → is_game game ≡ true → lacks mark game ≡ true
game_lacks mark game fails is =
    let parts = and_parts (has_length 1 16 game) (is_lower (slice_index game 0) && list_all (λ b. is_lower b || is_digit b) game) is in
    let rest = and_parts (is_lower (slice_index game 0)) (list_all (λ b. is_lower b || is_digit b) game) parts.1 in
    lacks_by (λ b. is_lower b || is_digit b) mark fails game rest.1

-- a game's name is no word that doesn't begin with a small letter
pub other_than_game : (game : List ℕ) (b : ℕ) (name : List ℕ) → is_game game ≡ true → is_lower b ≡ false → bytes_eq game (b ∷ name) ≡ false
other_than_game game b name is fails =
    let parts = and_parts (has_length 1 16 game) (is_lower (slice_index game 0) && list_all (λ b. is_lower b || is_digit b) game) is in
    let rest = and_parts (is_lower (slice_index game 0)) (list_all (λ b. is_lower b || is_digit b) game) parts.1 in
    let least = and_parts (nat_le 1 (length game)) (nat_le (length game) 16) parts.0 in
    let some : 1 ≤ length game = leb-true 1 (length game) least.0 in
    other_word is_lower game b name (omega (arith, some)) rest.0 fails

-- a word that isn't the one
pub skipped : (name w : List ℕ) (ws : List (List ℕ)) → bytes_eq w name ≡ false → word_after name (w ∷ ws) ≡ word_after name ws
skipped name w ws other = ap (λ t. cond t (slice_get ws 0) (word_after name ws)) other

pub opening_words : (m : Chart) (p : Public) → is_game p.game ≡ true → p.board.phase.year < 2 ^ 64 → p.status ≡ Running → AreShort p
    → words_in (game_line_in (lines_in (opening_paper m p))) ≡ codes "GAME" ∷ p.game ∷ phase_text p.board.phase ∷ codes "running" ∷ terms_words p
unfolding status_text
opening_words m p is year running short =
    let says : status_text m p.status ≡ codes "running" = ap (status_text m) running in
    let word : lacks 10 (status_text m p.status) ≡ true = ap (lacks 10) says in
    ap words_in (game_line_found m p (line_lacks m p (game_lacks 10 p.game refl is) year word short))
    ∙ line_words m p (game_lacks 32 p.game refl is) year
    ∙ ap (λ ws. codes "GAME" ∷ p.game ∷ phase_text p.board.phase ∷ ws) (ap (λ t. words_in (t ++ terms_text p)) says ∙ then_terms (codes "running") p refl short)

-- what is read in the opening's game line
pub opening_due : (game phase : List ℕ) (p : Public) → is_game game ≡ true → bytes_eq phase (codes "DUE") ≡ false
    → word_after (codes "DUE") (codes "GAME" ∷ game ∷ phase ∷ codes "running" ∷ terms_words p) ≡ Some (decimal p.due)
opening_due game phase p is other =
    skipped (codes "DUE") game (phase ∷ codes "running" ∷ terms_words p) (other_than_game game 68 (codes "UE") is refl)
    ∙ skipped (codes "DUE") phase (codes "running" ∷ terms_words p) other

pub opening_period : (game phase : List ℕ) (p : Public) → is_game game ≡ true → bytes_eq phase (codes "PERIOD") ≡ false → AreShort p
    → word_after (codes "PERIOD") (codes "GAME" ∷ game ∷ phase ∷ codes "running" ∷ terms_words p) ≡ Some (decimal p.period)
opening_period game phase p is other short =
    skipped (codes "PERIOD") game (phase ∷ codes "running" ∷ terms_words p) (other_than_game game 80 (codes "ERIOD") is refl)
    ∙ skipped (codes "PERIOD") phase (codes "running" ∷ terms_words p) other
    ∙ skipped (codes "PERIOD") (decimal p.due) (codes "PERIOD" ∷ decimal p.period ∷ codes "GREY" ∷ yes_or_no p.grey
    ∷ with_intent p.board.intent (codes "PAPERS" ∷ decimal p.papers ∷ [])) (other_than_number p.due 80 (codes "ERIOD") short.due refl)

pub opening_grey : (game phase : List ℕ) (p : Public) → is_game game ≡ true → bytes_eq phase (codes "GREY") ≡ false → AreShort p
    → word_after (codes "GREY") (codes "GAME" ∷ game ∷ phase ∷ codes "running" ∷ terms_words p) ≡ Some (yes_or_no p.grey)
opening_grey game phase p is other short =
    skipped (codes "GREY") game (phase ∷ codes "running" ∷ terms_words p) (other_than_game game 71 (codes "REY") is refl)
    ∙ skipped (codes "GREY") phase (codes "running" ∷ terms_words p) other
    ∙ skipped (codes "GREY") (decimal p.due) (codes "PERIOD" ∷ decimal p.period ∷ codes "GREY" ∷ yes_or_no p.grey
    ∷ with_intent p.board.intent (codes "PAPERS" ∷ decimal p.papers ∷ [])) (other_than_number p.due 71 (codes "REY") short.due refl)
    ∙ skipped (codes "GREY") (decimal p.period) (codes "GREY" ∷ yes_or_no p.grey
    ∷ with_intent p.board.intent (codes "PAPERS" ∷ decimal p.papers ∷ [])) (other_than_number p.period 71 (codes "REY") short.period refl)

intent_read : (grey intent : Bool) (papers : ℕ) → papers < 2 ^ 64
    → is_yes (word_after (codes "INTENT") (yes_or_no grey ∷ with_intent intent (codes "PAPERS" ∷ decimal papers ∷ []))) ≡ intent
intent_read true true papers low = refl
intent_read true false papers low = ap is_yes (skipped (codes "INTENT") (decimal papers) [] (other_than_number papers 73 (codes "NTENT") low refl))
intent_read false true papers low = refl
intent_read false false papers low = ap is_yes (skipped (codes "INTENT") (decimal papers) [] (other_than_number papers 73 (codes "NTENT") low refl))

pub opening_intent : (game phase : List ℕ) (p : Public) → is_game game ≡ true → bytes_eq phase (codes "INTENT") ≡ false → AreShort p
    → is_yes (word_after (codes "INTENT") (codes "GAME" ∷ game ∷ phase ∷ codes "running" ∷ terms_words p)) ≡ p.board.intent
opening_intent game phase p is other short =
    ap is_yes (skipped (codes "INTENT") game (phase ∷ codes "running" ∷ terms_words p) (other_than_game game 73 (codes "NTENT") is refl)
    ∙ skipped (codes "INTENT") phase (codes "running" ∷ terms_words p) other
    ∙ skipped (codes "INTENT") (decimal p.due) (codes "PERIOD" ∷ decimal p.period ∷ codes "GREY" ∷ yes_or_no p.grey
    ∷ with_intent p.board.intent (codes "PAPERS" ∷ decimal p.papers ∷ [])) (other_than_number p.due 73 (codes "NTENT") short.due refl)
    ∙ skipped (codes "INTENT") (decimal p.period) (codes "GREY" ∷ yes_or_no p.grey
    ∷ with_intent p.board.intent (codes "PAPERS" ∷ decimal p.papers ∷ [])) (other_than_number p.period 73 (codes "NTENT") short.period refl))
    ∙ intent_read p.grey p.board.intent p.papers short.papers

pub yes_read : (answer : Bool) → is_yes (Some (yes_or_no answer)) ≡ answer
yes_read true = refl
yes_read false = refl
