use Rattle.std.proofs.Common.{◌≡◌, ◌++◌, drop, filter, string_bytes}
use Rattle.dip_decide_rules.specs.Given.{situation_of}
use Rattle.dip_explain_strengths.specs.Matters.{here, matter_of, others}
use Rattle.dip_explain_strengths.specs.StrengthTexts.{backer_text}
use Rattle.dip_explain_strengths.specs.Strengths.{backers_against, backs_against}
use Rattle.dip_explain_strengths.proofs.cases.Case.push_backers_against.Given as goal

abbrev pub invariant-loop-h : goal.invariant-loop-h
invariant-loop-h l = string_bytes l.out ++ others (backer_text (matter_of l.self)) (filter (backs_against (situation_of l.self.corner.table.now) (here (matter_of l.self)) l.p l.q) (drop l.h-index l.h-items)) ≡ string_bytes l.initial.out ++ others (backer_text (matter_of l.self)) (backers_against (situation_of l.self.corner.table.now) (here (matter_of l.self)) l.p l.q)
