use Rattle.std.proofs.Common.{Err, ap, inl, inr, refl, rules, subst}
use Rattle.dip_check_runs.specs.Texts.{said_text}
use Rattle.dip_check_runs.specs.declared.saying.Said.{Said}
use Rattle.std.specs.Io.KnownBytes.{Appends}
use Rattle.dip_check_runs.specs.Runs.{EndsEarly, IsSaid}
use Rattle.dip_check_runs.proofs.ExactLemmas.{end_is_exact, some_bytes, stands_more, stands_none, wrong_is_none}
use Rattle.dip_check_runs.proofs.RunLemmas.{all_used, appends_none, begins_next, checked_wrong, comes_next, empty_front, ends_all, ends_early, ends_telling, has_board, not_right, reached_more, reached_none, stops_reading, stops_telling, taken, too_long, written_more}
use Rattle.dip_check_runs.proofs.checking.check_papers.Goals as goal

pub papers-init : goal.papers-init
papers-init g c = (reached_none _ _ _ (c.nothing_ahead-ahead.ensures _), appends_none _, stands_none c.args.map.now)

pub returns-in-Err-clause-ends : goal.returns-in-Err-clause-ends
returns-in-Err-clause-ends g c =
    let r = c.papers.invariant.0 in
    ends_early c.args.map.now _ _ _ _ _ c.papers.game c.papers.ahead _ r c.papers.invariant.1
    (stops_reading c.args.map.now _ r.papers c.papers.game _ _ _ _ _
    (λ is t tells. too_long _ _ r.used _ t r.papers c.next_front.new.ahead r.fronts (c.in-Err.ensures.still (ap Err is) _ _ r.read) (c.in-Err.ensures.long (ap Err is)) refl tells)
    c.tell_stop.ensures)

pub returns-then-is_empty-clause-checked : goal.returns-then-is_empty-clause-checked
returns-then-is_empty-clause-checked g c =
    let r = c.papers.invariant.0 in
    let empty = empty_front _ _ _ c.as_slice.ensures.value c.after_empty_lines-paper.ensures c.if-is_empty.ensures in
    let all = all_used _ _ r.used _ r.papers _ r.fronts empty (c.in-Ok.ensures.read _ _ r.read) c.in-Ok.ensures.front in
    ends_all c.args.map.now _ _ _ _ _ r.papers c.papers.game c.tell_end.result r.played all c.papers.invariant.1 c.tell_end.ensures.told c.tell_end.ensures.right

pub returns-then-is_empty-clause-exact : goal.returns-then-is_empty-clause-exact
returns-then-is_empty-clause-exact g c =
    let r = c.papers.invariant.0 in
    let empty = empty_front _ _ _ c.as_slice.ensures.value c.after_empty_lines-paper.ensures c.if-is_empty.ensures in
    end_is_exact c.args.map.now c.papers_are_lines.ensures _ _ r.used _ r.papers c.papers.game _ c.tell_end.result r.played r.fronts empty (c.in-Ok.ensures.read _ _ r.read)
    c.in-Ok.ensures.front c.tell_end.ensures.right

pub returns-then-is_empty-clause-ends : goal.returns-then-is_empty-clause-ends
returns-then-is_empty-clause-ends g c =
    let r = c.papers.invariant.0 in
    let empty = empty_front _ _ _ c.as_slice.ensures.value c.after_empty_lines-paper.ensures c.if-is_empty.ensures in
    let all = all_used _ _ r.used _ r.papers _ r.fronts empty (c.in-Ok.ensures.read _ _ r.read) c.in-Ok.ensures.front in
    ends_telling c.args.map.now _ _ _ _ _ c.papers.game c.papers.ahead _ c.tell_end.result r c.papers.invariant.1
    (λ t told. inr (inr (record { left = _; all = all; told = told }))) c.tell_end.ensures.stopped

pub returns-in_err-new-clause-ends : goal.returns-in_err-new-clause-ends
returns-in_err-new-clause-ends g c =
    let r = c.papers.invariant.0 in
    let t = taken (g.R.Read.remaining c.args.reader.now) (g.R.Read.remaining c.papers.reader) (g.R.Read.remaining c.next_front.new.reader) r.used c.as_slice.result.now
    c.after_empty_lines-paper.result.now c.papers.ahead c.next_front.new.ahead r.read (λ read. rw (c.as_slice.ensures.value) (c.in-Ok.ensures.read _ _ read))
    c.after_empty_lines-paper.ensures in
    let ends : EndsEarly c.args.map.now (g.R.Read.remaining c.args.reader.now) (g.W.Write.contents c.args.writer.now) (g.W.Write.contents c.judge_next.new.writer)
    c.in_err-new.field-0.0 =
    ends_early c.args.map.now _ _ _ _ _ c.papers.game c.papers.ahead _ r c.papers.invariant.1
    (stops_telling c.args.map.now _ r.papers c.papers.game _ _ _ _
    (λ text tells. inl (record {
      paper = c.after_empty_lines-paper.result.now;
      begins = begins_next _ _ r.used _ _ r.papers _ r.fronts t;
      tells = tells;
    })) c.in_err-new.ensures.stopped) in
    search rules

pub returns-in_default : goal.returns-in_default
returns-in_default g c =
    let r = c.papers.invariant.0 in
    let t = taken (g.R.Read.remaining c.args.reader.now) (g.R.Read.remaining c.papers.reader) (g.R.Read.remaining c.next_front.new.reader) r.used c.as_slice.result.now
    c.after_empty_lines-paper.result.now c.papers.ahead c.next_front.new.ahead r.read (λ read. rw (c.as_slice.ensures.value) (c.in-Ok.ensures.read _ _ read))
    c.after_empty_lines-paper.ensures in
    let comes = comes_next _ _ r.used _ c.after_empty_lines-paper.result.now r.papers r.fronts t.empty (c.skip_rest.ensures _ _ t.read) in
    record {
      checked = checked_wrong c.args.map.now _ _ _ _ _ r.papers c.papers.game _ c.in_ok-new.field-0 r.played comes c.in_ok-new.ensures.said
          (not_right _ c.in_default.not-Right) c.papers.invariant.1 c.in_ok-new.ensures.told;
      exact =
          wrong_is_none c.args.map.now c.papers_are_lines.ensures _ _ r.used _ _ c.after_empty_lines-paper.result.now r.papers c.papers.game _ c.in_ok-new.field-0 r.played
          c.papers.invariant.2 r.fronts (c.in-Ok.ensures.read _ _ r.read) c.in-Ok.ensures.front c.as_slice.ensures.value c.after_empty_lines-paper.ensures
          (some_bytes _ c.if-is_empty.ensures) c.in_ok-new.ensures.said (not_right _ c.in_default.not-Right);
      ends = tt;
    }

pub papers-preserved : goal.papers-preserved
papers-preserved g c =
    let r = c.papers.invariant.0 in
    let t = taken (g.R.Read.remaining c.args.reader.now) (g.R.Read.remaining c.papers.reader) (g.R.Read.remaining c.next_front.new.reader) r.used c.as_slice.result.now
    c.after_empty_lines-paper.result.now c.papers.ahead c.next_front.new.ahead r.read (λ read. rw (c.as_slice.ensures.value) (c.in-Ok.ensures.read _ _ read))
    c.after_empty_lines-paper.ensures in
    let said = subst (λ (x : Said). IsSaid c.args.map.now c.papers.game c.after_empty_lines-paper.result.now x) c.in-Right.is c.in_ok-new.ensures.said in
    let told = subst (λ (x : Said). Appends (g.W.Write.contents c.papers.writer) (g.W.Write.contents c.judge_next.new.writer) (said_text c.after_empty_lines-paper.result.now x))
    c.in-Right.is c.in_ok-new.ensures.told in (
      reached_more c.args.map.now _ _ _ c.papers.game c.papers.ahead _ _ _ c.in-Right.new r t said,
      written_more _ _ _ r.papers c.after_empty_lines-paper.result.now c.papers.invariant.1 told,
      stands_more c.args.map.now c.papers_have_one_answer.ensures.next c.papers_have_one_answer.ensures.first r.papers c.papers.game c.after_empty_lines-paper.result.now c.in-Right.new
          (has_board _ _ _ _ _ r) said c.papers.invariant.2,
    )
