use Rattle.std.proofs.Common.{◌≡◌, ◌++◌, drop, flat_map, string_bytes}
use Rattle.dip_explain_lines.specs.Retreats.{retreat_text, retreats_explained}
use Rattle.dip_explain_lines.proofs.retreating.push_retreats.Given as goal

abbrev pub invariant-loop-line : goal.invariant-loop-line
invariant-loop-line l =
    string_bytes l.out ++ flat_map (retreat_text l.map l.board l.lines) (drop l.line-index l.lines)
    ≡ string_bytes l.initial.out ++ retreats_explained l.map l.board l.lines
