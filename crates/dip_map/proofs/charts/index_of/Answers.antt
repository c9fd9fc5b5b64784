use Rattle.std.proofs.Common.{rules, Ok, Err}
use Rattle.std.proofs.lemmas.Fn.{always_returns_same}
use Rattle.std.specs.Cmp.Lexicographic.{slice_cmp}
use Rattle.std.specs.Ordering.{nat_cmp}
use Rattle.dip_map.proofs.Searching.{code_is_found}
use Rattle.dip_map.proofs.charts.index_of.Goals as goal

-- the closure compares a province's code with the one that is looked for
pub returns-in-Ok : goal.returns-in-Ok
returns-in-Ok c m is same =
    code_is_found m is c.args.code.now c.args.provinces.now same (Ok c.in-Ok.index) c.in-Ok.ensures.bound
    (c.in-Ok.ensures.position (λ p. slice_cmp nat_cmp p.code c.args.code.now) (always_returns_same _ _ _ (λ a r g called. (search rules, search rules))))

pub returns-in-Err : goal.returns-in-Err
returns-in-Err c m is same =
    code_is_found m is c.args.code.now c.args.provinces.now same (Err c.in-Err.field-0) c.in-Err.ensures.bound
    (c.in-Err.ensures.position (λ p. slice_cmp nat_cmp p.code c.args.code.now) (always_returns_same _ _ _ (λ a r g called. (search rules, search rules))))
