-- Who shares a game by a text that is to be the paper of a draw.
use Rattle.std.specs.Prelude.{ℕ, ◌+◌, ◌&&◌, ◌||◌, Bool, false, List, [], ◌∷◌, ◌++◌, codes, filter, if◌then◌else◌}
use Rattle.std.specs.Str.{bytes_eq}
use Rattle.dip_map.specs.Boards.{Position}
use Rattle.dip_map.specs.Charts.{Chart, powers, realm}
use Rattle.dip_desk_games.specs.Drawing.{survives}
use Rattle.dip_desk_state.specs.Records.{Public}
use Rattle.dip_reports.specs.Texts.{paper_title, phase_text}

-- what the paper of a draw begins with: all before the names of those who share
abbrev pub draw_head : Public → List ℕ
draw_head p = paper_title (p.papers + 1) (codes "draw") ++ codes "GAME " ++ p.game ++ codes " " ++ phase_text p.board.phase ++ codes " drawn by"

-- whether a name is among words, before the terms
abbrev pub is_named : List ℕ → List (List ℕ) → Bool
is_named name [] = false
is_named name (w ∷ ws) = if bytes_eq w (codes "DUE") then false else (bytes_eq w name || is_named name ws)

-- whether a power survives, and its name is among words
abbrev pub is_sharer : Chart → Position → List (List ℕ) → ℕ → Bool
is_sharer m b words r = is_named (realm m r).name words && survives m b r

-- the survivors whose names are among words, by name
abbrev pub sharers : Chart → Position → List (List ℕ) → List ℕ
sharers m b words = filter (is_sharer m b words) (powers m)
