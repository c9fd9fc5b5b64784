use Rattle.std.proofs.Common.{◌≡◌, ◌++◌, drop, filter, flat_map, string_bytes}
use Rattle.dip_decide_rules.specs.Given.{situation_of}
use Rattle.dip_explain_strengths.specs.Matters.{here, matter_of}
use Rattle.dip_explain_strengths.specs.StrengthTexts.{left_out_text}
use Rattle.dip_explain_strengths.specs.Strengths.{is_left_out, left_out}
use Rattle.dip_explain_strengths.proofs.cases.Case.push_all_left_out.Given as goal

abbrev pub invariant-loop-h : goal.invariant-loop-h
invariant-loop-h l = string_bytes l.out ++ flat_map (left_out_text (matter_of l.self)) (filter (is_left_out (situation_of l.self.corner.table.now) (here (matter_of l.self)) l.p) (drop l.h-index l.h-items)) ≡ string_bytes l.initial.out ++ flat_map (left_out_text (matter_of l.self)) (left_out (situation_of l.self.corner.table.now) (here (matter_of l.self)) l.p)
