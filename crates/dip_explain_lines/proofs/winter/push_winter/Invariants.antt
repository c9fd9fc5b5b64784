use Rattle.std.proofs.Common.{◌≡◌, ◌++◌, flat_map, string_bytes}
use Rattle.dip_explain_lines.specs.Winter.{power_text, winter_explained}
use Rattle.dip_explain_lines.proofs.winter.push_winter.Given as goal

abbrev pub invariant-loop-power : goal.invariant-loop-power
invariant-loop-power l =
    string_bytes l.out ++ flat_map (power_text l.map l.board l.told) l.power-iterator ≡ string_bytes l.initial.out ++ winter_explained l.map l.board l.told
