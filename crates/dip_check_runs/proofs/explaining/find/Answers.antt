use Rattle.std.proofs.Common.{ap, subst, sym, ℕ, ◌+◌, ◌∙◌}
use Rattle.dip_check_runs.specs.declared.saying.Said.{Said}
use Rattle.dip_check_runs.specs.Runs.{IsSaid}
use Rattle.dip_check_runs.proofs.RunLemmas.{all_used, comes_next, empty_front, is_found, is_missing, is_wrong, memory_reads, not_right, on_ok, reached_more, taken, through}
use Rattle.dip_check_runs.proofs.explaining.find.Goals as goal

pub returns-then-is_empty-clause-found : goal.returns-then-is_empty-clause-found
returns-then-is_empty-clause-found g c =
    let r = c.papers.invariant in
    let empty = empty_front _ _ _ c.as_slice.ensures.value c.after_empty_lines-paper.ensures c.if-is_empty.ensures in
    let all = all_used _ _ r.used _ r.papers _ r.fronts empty (c.in_ok-front.ensures.read _ _ r.read) c.in_ok-front.ensures.front in
    through _ c.found_missing.result c.or_memory.result c.or_memory.ensures.ok
    (on_ok _ _ c.found_missing.result c.found_missing.ensures (λ f. is_missing c.args.map.now c.args.number _ _ r.papers c.papers.game f r.played all))

pub returns-then-count_played-number-clause-found : goal.returns-then-count_played-number-clause-found
returns-then-count_played-number-clause-found g c =
    let r = c.papers.invariant in
    let t = taken (g.R.Read.remaining c.args.reader.now) (g.R.Read.remaining c.papers.reader) (g.R.Read.remaining c.next_front.new.reader) r.used c.as_slice.result.now
    c.after_empty_lines-paper.result.now c.papers.ahead c.next_front.new.ahead r.read (λ read. rw (c.as_slice.ensures.value) (c.in_ok-front.ensures.read _ _ read))
    c.after_empty_lines-paper.ensures in
    let comes = comes_next _ _ r.used _ c.after_empty_lines-paper.result.now r.papers r.fronts t.empty (c.skip_rest.ensures _ _ t.read) in
    let count = ap (λ (n : ℕ). n + 1) (sym c.count_played.ensures) ∙ c.if-count_played-number.true in
    through _ c.found_next.result c.or_memory-then-count_played-number.result c.or_memory-then-count_played-number.ensures.ok
    (on_ok _ _ c.found_next.result c.found_next.ensures (λ f. is_found c.args.map.now c.args.number _ _ r.papers c.papers.game _ f r.played comes count))

pub returns-in_default : goal.returns-in_default
returns-in_default g c =
    let r = c.papers.invariant in
    let t = taken (g.R.Read.remaining c.args.reader.now) (g.R.Read.remaining c.papers.reader) (g.R.Read.remaining c.next_front.new.reader) r.used c.as_slice.result.now
    c.after_empty_lines-paper.result.now c.papers.ahead c.next_front.new.ahead r.read (λ read. rw (c.as_slice.ensures.value) (c.in_ok-front.ensures.read _ _ read))
    c.after_empty_lines-paper.ensures in
    let comes = comes_next _ _ r.used _ c.after_empty_lines-paper.result.now r.papers r.fronts t.empty (c.skip_rest-in_default.ensures _ _ t.read) in
    record {
      found = through _ c.found_wrong.result c.or_memory-in_default.result c.or_memory-in_default.ensures.ok
          (on_ok _ _ c.found_wrong.result c.found_wrong.ensures
          (λ f. is_wrong c.args.map.now c.args.number _ _ r.papers c.papers.game _ _ f r.played comes c.in_ok-said.ensures.said (not_right _ c.in_default.not-Right)));
      fault = memory_reads c.or_memory-in_default.result c.or_memory-in_default.ensures.err;
    }

pub papers-preserved : goal.papers-preserved
papers-preserved g c =
    let r = c.papers.invariant in
    let t = taken (g.R.Read.remaining c.args.reader.now) (g.R.Read.remaining c.papers.reader) (g.R.Read.remaining c.next_front.new.reader) r.used c.as_slice.result.now
    c.after_empty_lines-paper.result.now c.papers.ahead c.next_front.new.ahead r.read (λ read. rw (c.as_slice.ensures.value) (c.in_ok-front.ensures.read _ _ read))
    c.after_empty_lines-paper.ensures in
    let said = subst (λ (x : Said). IsSaid c.args.map.now c.papers.game c.after_empty_lines-paper.result.now x) c.in-Right.is c.in_ok-said.ensures.said in
    reached_more c.args.map.now _ _ _ c.papers.game c.papers.ahead _ _ _ c.in-Right.new r t said
