use Rattle.std.proofs.Common.{◌≡◌, ◌++◌, drop, filter, string_bytes}
use Rattle.dip_decide_rules.specs.Given.{situation_of}
use Rattle.dip_explain_strengths.specs.Matters.{here, matter_of, others}
use Rattle.dip_explain_strengths.specs.StrengthTexts.{backer_text}
use Rattle.dip_explain_strengths.specs.Strengths.{backers, backs}
use Rattle.dip_explain_strengths.proofs.cases.Case.push_backers.Given as goal

abbrev pub invariant-loop-h : goal.invariant-loop-h
invariant-loop-h l = string_bytes l.out ++ others (backer_text (matter_of l.self)) (filter (backs (situation_of l.self.corner.table.now) (here (matter_of l.self)) l.p) (drop l.h-index l.h-items)) ≡ string_bytes l.initial.out ++ others (backer_text (matter_of l.self)) (backers (situation_of l.self.corner.table.now) (here (matter_of l.self)) l.p)
