use Rattle.std.proofs.Common.{◌≡◌, ◌++◌, drop, flat_map, string_bytes}
use Rattle.dip_explain_lines.specs.Winter.{removal_text}
use Rattle.dip_explain_lines.proofs.winter.push_all_removals.Given as goal

abbrev pub invariant-loop-unit : goal.invariant-loop-unit
invariant-loop-unit l =
    string_bytes l.out ++ flat_map (removal_text l.map l.board) (drop l.unit-index l.units) ≡ string_bytes l.initial.out ++ flat_map (removal_text l.map l.board) l.units
