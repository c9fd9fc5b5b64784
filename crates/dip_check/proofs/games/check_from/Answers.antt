use Rattle.std.proofs.Common.{◌≡◌, ◌<◌, ◌≤◌, ℕ, Bor, List, [], get_or, length, map, subst, sym, arith}
use Rattle.std.proofs.lemmas.List.{get_or-map, length-map}
use Rattle.dip_map.specs.Boards.{IsOf}
use Rattle.dip_desk_state.specs.Records.{Public}
use Rattle.dip_desk_state.specs.Rows as rows
use Rattle.dip_check_papers.specs.Checks.{IsJudgedPaper}
use Rattle.dip_check_papers.specs.Games.{IsNext}
use Rattle.dip_check_papers.specs.declared.verdict.Verdict.TheVariants.{Wrong}
use Rattle.dip_check.proofs.Chains.{all_right, first_wrong, none_done, one_more}
use Rattle.dip_check_papers.proofs.OneAnswer.{next_period}
use Rattle.dip_check.proofs.games.check_from.Goals as goal

abbrev texts : List (Bor (List ℕ)) → List (List ℕ)
texts ls = map {A = Bor (List ℕ)} {B = List ℕ} (λ t. t.now) ls

abbrev at : List (Bor (List ℕ)) → ℕ → Bor (List ℕ)
at ls k = get_or ls k (record { ref_ptr = (0, 0); now = [] })

paper_at : (ls : List (Bor (List ℕ))) (k : ℕ) → k < length ls → get_or (texts ls) k [] ≡ (at ls k).now
paper_at ls k low = get_or-map (λ (t : Bor (List ℕ)). t.now) ls k (record { ref_ptr = (0, 0); now = [] }) [] low

count : (ls : List (Bor (List ℕ))) → length (texts ls) ≡ length ls
count ls = length-map ls (λ (t : Bor (List ℕ)). t.now)

pub loop-number-init : goal.loop-number-init
loop-number-init c = record { of = c.requires.of_map; short = c.requires.short; stands = none_done c.args.map.now (rows.public c.args.first) }

pub returns : goal.returns
returns c =
    let past : length (texts c.args.papers.now) ≤ c.loop-number.number = omega (arith, count c.args.papers.now, c.loop-number-test.false) in
    all_right c.args.map.now (rows.public c.args.first) (texts c.args.papers.now) c.loop-number.number (rows.public c.loop-number.public) past c.loop-number.invariant.stands

pub returns-in-Wrong : goal.returns-in-Wrong
returns-in-Wrong c =
    let m = c.args.map.now in
    let k = c.loop-number.number in
    let q : Public = rows.public c.loop-number.public in
    let ls = c.args.papers.now in
    let wrong : IsJudgedPaper m q (at ls k).now (Wrong c.in-Wrong.fault) = subst (IsJudgedPaper m q (at ls k).now) c.in-Wrong.is c.in_ok-after.ensures.judged in
    first_wrong m (rows.public c.args.first) (texts ls) k q (omega (arith, count ls, c.loop-number-test.true)) c.loop-number.invariant.stands
    (λ other h. wrong other (subst (λ (t : List ℕ). IsNext m q t other) (paper_at ls k c.loop-number-test.true) h))

pub loop-number-preserved : goal.loop-number-preserved
loop-number-preserved c =
    let m = c.args.map.now in
    let k = c.loop-number.number in
    let q : Public = rows.public c.loop-number.public in
    let after : Public = rows.public c.in-Right.after in
    let ls = c.args.papers.now in
    let here = paper_at ls k c.loop-number-test.true in
    let right : IsNext m q (at ls k).now after × IsOf m c.in-Right.after.board.value = subst (IsJudgedPaper m q (at ls k).now) c.in-Right.is c.in_ok-after.ensures.judged in
    record {
      of = right.1;
      short = next_period m q (at ls k).now after right.0 c.loop-number.invariant.short;
      stands = one_more m (rows.public c.args.first) (texts ls) k q after (omega (arith, count ls, c.loop-number-test.true)) c.loop-number.invariant.stands
          (subst (λ (t : List ℕ). IsNext m q t after) (sym here) right.0)
          (λ other h. c.papers_have_one_answer.ensures.next q after other (at ls k).now c.loop-number.invariant.of c.loop-number.invariant.short right.0
          (subst (λ (t : List ℕ). IsNext m q t other) here h));
    }
