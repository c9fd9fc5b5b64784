use Rattle.std.proofs.Common.{◌≡◌, ◌++◌, drop, string_bytes}
use Rattle.dip_explain_strengths.specs.Matters.{matter_of, others}
use Rattle.dip_explain_lines.specs.Sayings.{saying_text}
use Rattle.dip_explain_lines.proofs.lines.push_others.Given as goal

abbrev pub invariant-loop-p : goal.invariant-loop-p
invariant-loop-p l = string_bytes l.out ++ others (saying_text (matter_of l.case) l.saying) (drop l.p-index l.units) ≡ string_bytes l.initial.out ++ others (saying_text (matter_of l.case) l.saying) (l.units)
