use Rattle.std.proofs.Common.{◌≡◌, ◌++◌, drop, flat_map, string_bytes}
use Rattle.dip_explain_lines.specs.Winter.{waiver_text}
use Rattle.dip_explain_lines.proofs.winter.push_all_waivers.Given as goal

abbrev pub invariant-loop-waiver : goal.invariant-loop-waiver
invariant-loop-waiver l =
    string_bytes l.out ++ flat_map (waiver_text l.map l.board) (drop l.waiver-index l.waivers) ≡ string_bytes l.initial.out ++ flat_map (waiver_text l.map l.board) l.waivers
