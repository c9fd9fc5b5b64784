use Rattle.std.proofs.Common.{◌≡◌, ◌++◌, drop, flat_map, string_bytes}
use Rattle.dip_explain_lines.specs.Retreats.{place_line, places_text}
use Rattle.dip_explain_lines.proofs.retreating.push_places.Given as goal

abbrev pub invariant-loop-place : goal.invariant-loop-place
invariant-loop-place l =
    string_bytes l.out ++ flat_map (place_line l.map l.board l.dislodged) (drop l.place-index l.place-items)
    ≡ string_bytes l.initial.out ++ places_text l.map l.board l.dislodged
