-- The public part of a game as JSON, byte for byte.
use Rattle.std.specs.Prelude.{ℕ, List, [], ◌∷◌, ◌++◌, Bool, true, false, codes}
use Rattle.std.specs.Fmt.{decimal}
use Rattle.std.specs.Str.Lines.{lines}
use Rattle.json.specs.Print.{quoted}
use Rattle.dip_map.specs.Charts.{Chart}
use Rattle.dip_desk_state.specs.Records.{Public}
use Rattle.dip_reports.specs.Texts.{board_lines, phase_text}
use Rattle.dip_desk_state.specs.Texts.{status_text}

-- texts in quotes, with a comma between two
abbrev pub quoted_list : List (List ℕ) → List ℕ
quoted_list [] = []
quoted_list (t ∷ []) = quoted t
quoted_list (t ∷ u ∷ ts) = quoted t ++ (codes "," ++ quoted_list (u ∷ ts))

abbrev pub truth : Bool → List ℕ
truth true = codes "true"
truth false = codes "false"

-- an object with these keys, in this order; the board is its lines, each without its LF
abbrev pub state_text : Chart → Public → List ℕ
state_text m p =
    codes "{\"board\":[" ++ (quoted_list (lines (board_lines m p.board))
    ++ (codes "],\"due\":" ++ (decimal p.due
    ++ (codes ",\"game\":" ++ (quoted p.game
    ++ (codes ",\"grey\":" ++ (truth p.grey
    ++ (codes ",\"intent\":" ++ (truth p.board.intent
    ++ (codes ",\"papers\":" ++ (decimal p.papers
    ++ (codes ",\"period\":" ++ (decimal p.period
    ++ (codes ",\"phase\":" ++ (quoted (phase_text p.board.phase)
    ++ (codes ",\"status\":" ++ (quoted (status_text m p.status)
    ++ codes "}")))))))))))))))))
