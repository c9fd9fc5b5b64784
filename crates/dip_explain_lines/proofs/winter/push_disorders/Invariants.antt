use Rattle.std.proofs.Common.{◌≡◌, ◌++◌, drop, string_bytes}
use Rattle.dip_explain_lines.specs.Winter.{disorder_texts}
use Rattle.dip_explain_lines.proofs.winter.push_disorders.Given as goal

abbrev pub invariant-loop-unit : goal.invariant-loop-unit
invariant-loop-unit l =
    string_bytes l.out ++ disorder_texts l.map l.board l.left.items (drop l.unit-index l.gone)
    ≡ string_bytes l.initial.out ++ disorder_texts l.map l.board l.units l.gone
