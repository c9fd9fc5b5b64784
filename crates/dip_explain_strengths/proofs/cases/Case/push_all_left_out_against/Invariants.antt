use Rattle.std.proofs.Common.{◌≡◌, ◌++◌, drop, filter, flat_map, string_bytes}
use Rattle.dip_decide_rules.specs.Given.{situation_of}
use Rattle.dip_explain_strengths.specs.Matters.{here, matter_of}
use Rattle.dip_explain_strengths.specs.StrengthTexts.{left_out_against_text}
use Rattle.dip_explain_strengths.specs.Strengths.{is_left_out_against, left_out_against}
use Rattle.dip_explain_strengths.proofs.cases.Case.push_all_left_out_against.Given as goal

abbrev pub invariant-loop-h : goal.invariant-loop-h
invariant-loop-h l = string_bytes l.out ++ flat_map (left_out_against_text (matter_of l.self) l.q) (filter (is_left_out_against (situation_of l.self.corner.table.now) (here (matter_of l.self)) l.p l.q) (drop l.h-index l.h-items)) ≡ string_bytes l.initial.out ++ flat_map (left_out_against_text (matter_of l.self) l.q) (left_out_against (situation_of l.self.corner.table.now) (here (matter_of l.self)) l.p l.q)
