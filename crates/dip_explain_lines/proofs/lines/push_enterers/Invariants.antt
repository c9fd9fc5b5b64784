use Rattle.std.proofs.Common.{◌≡◌, ◌++◌, drop, filter, flat_map, string_bytes}
use Rattle.dip_decide_rules.specs.Given.{situation_of}
use Rattle.dip_explain_strengths.specs.Matters.{here, matter_of}
use Rattle.dip_explain_lines.specs.Lines.{enterer_text, enterers, enters}
use Rattle.dip_explain_lines.proofs.lines.push_enterers.Given as goal

abbrev pub invariant-loop-n : goal.invariant-loop-n
invariant-loop-n l = string_bytes l.out ++ flat_map (enterer_text (matter_of l.case)) (filter (enters (situation_of l.case.corner.table.now) (here (matter_of l.case)) l.x) (drop l.n-index l.n-items)) ≡ string_bytes l.initial.out ++ flat_map (enterer_text (matter_of l.case)) (enterers (situation_of l.case.corner.table.now) (here (matter_of l.case)) l.x)
