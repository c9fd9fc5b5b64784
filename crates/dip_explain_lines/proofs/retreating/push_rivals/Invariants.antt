use Rattle.std.proofs.Common.{◌≡◌, ◌++◌, drop, flat_map, string_bytes}
use Rattle.dip_explain_lines.specs.Retreats.{rival_text}
use Rattle.dip_explain_lines.proofs.retreating.push_rivals.Given as goal

abbrev pub invariant-loop-other : goal.invariant-loop-other
invariant-loop-other l =
    string_bytes l.out ++ flat_map (rival_text l.map) (drop l.other-index l.other-items) ≡ string_bytes l.initial.out ++ flat_map (rival_text l.map) l.other-items
