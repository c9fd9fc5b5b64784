use Rattle.std.proofs.Common.{rules, ◌≡◌, ◌+◌, ℕ, Err, None, Some, ap, suc, string_bytes, subst, arith, ◌∙◌}
use Rattle.std.proofs.lemmas.Result.{err_from_is_err_and}
use Rattle.dip_desk_state.specs.State.{State, paper_at}
use Rattle.dip_desk_keeper.proofs.Numbers.{found, no_more}
use Rattle.dip_desk_keeper.proofs.Parts.{all, begun, begun_more, more}
use Rattle.dip_desk_keeper.proofs.Walking.{breaks_off, broken, damages, ends_by, goes_on, goes_open, whole}
use Rattle.dip_desk_keeper.specs.declared.paper_faults.PaperFault.{PaperFault}
use Rattle.dip_desk_keeper.proofs.archive.write_all.Goals as goal

pub returns-in_err-paper : goal.returns-in_err-paper
returns-in_err-paper g c =
    let m = c.args.map.now in
    let b = g.K.Keeper.book in
    let walks = c.papers.invariant.walks in
    let p = err_from_is_err_and c.from_residual.result c.from_residual.ensures.1 in
    rw (p.1 ∙ ap (λ (f : PaperFault). Err f) p.2)
    (broken m b ℕ c.args.game.now _ _ _ c.args.keeper.now c.paper.new.self _
    (ends_by m b ℕ _ c.papers.count c.args.keeper.now c.papers.keeper c.paper.new.self walks ℕ _ _ _ c.in_err-paper.ensures)
    (λ it honest.
    let on = goes_open m b ℕ c.papers.count c.args.keeper.now c.papers.keeper walks it (c.paper.ensures.keeps.fair honest) in
    begun _ c.papers.count _ _ (c.papers.invariant.so_far it.sound on.shows).1)
    (λ it honest is.
    let on = goes_open m b ℕ c.papers.count c.args.keeper.now c.papers.keeper walks it (c.paper.ensures.keeps.fair honest) in
    absurd (c.in_err-paper.ensures.damaged on.sound honest on.shows (cc))))

pub returns-in-None : goal.returns-in-None
returns-in-None g c =
    let m = c.args.map.now in
    let b = g.K.Keeper.book in
    let game = c.args.game.now in
    let n = c.papers.count in
    let walks = c.papers.invariant.walks in
    whole m b ℕ game _ _ _ c.args.keeper.now c.paper.new.self c.from.result
    (goes_on m b ℕ _ n c.args.keeper.now c.papers.keeper c.paper.new.self walks ℕ c.from.result _ _ _ c.in_ok-paper.ensures)
    (λ it on.
    let before = c.paper.ensures.keeps.shown on.shows in
    let so_far = c.papers.invariant.so_far it.sound before in
    let one : n + 1 ≡ suc n = omega arith in
    let told = rw c.in-None.is at (c.in_ok-paper.ensures.value (walks.sound it.sound before) on.shows) in
    let none : None ≡ paper_at game (suc n) (b.content m c.args.keeper.now) =
    subst (λ (k : ℕ). None ≡ paper_at game k (b.content m c.args.keeper.now)) one (subst (λ (s : State). None ≡ paper_at game (n + 1) s) (walks.same it.sound before) told) in
    let enough = no_more game (b.content m c.args.keeper.now) n none in
    (rw c.from.ensures (omega (arith, enough, so_far.0)), all _ n _ _ enough so_far.1))

pub returns-in_err-write_paper-in-Some : goal.returns-in_err-write_paper-in-Some
returns-in_err-write_paper-in-Some g c =
    let m = c.args.map.now in
    let b = g.K.Keeper.book in
    let game = c.args.game.now in
    let n = c.papers.count in
    let walks = goes_on m b ℕ _ n c.args.keeper.now c.papers.keeper c.paper.new.self c.papers.invariant.walks ℕ 0 _ _ _ c.in_ok-paper.ensures in
    let p = err_from_is_err_and c.from_residual-in_err-write_paper-in-Some.result c.from_residual-in_err-write_paper-in-Some.ensures.1 in
    rw (p.1 ∙ ap (λ (f : PaperFault). Err f) (p.2 ∙ c.in_err-write_paper-in-Some.ensures.fault))
    (broken m b ℕ game _ _ _ c.args.keeper.now c.paper.new.self _ (breaks_off m b ℕ ℕ 0 c.args.keeper.now c.paper.new.self walks)
    (λ it honest.
    let shows = (goes_open m b ℕ 0 c.args.keeper.now c.paper.new.self walks it honest).shows in
    let before = c.paper.ensures.keeps.shown shows in
    let so_far = c.papers.invariant.so_far it.sound before in
    let one : n + 1 ≡ suc n = omega arith in
    let told = rw c.in-Some.is at (c.in_ok-paper.ensures.value (c.papers.invariant.walks.sound it.sound before) shows) in
    let some : Some (string_bytes c.in-Some.text) ≡ paper_at game (suc n) (b.content m c.args.keeper.now) =
    subst (λ (k : ℕ). Some (string_bytes c.in-Some.text) ≡ paper_at game k (b.content m c.args.keeper.now)) one
    (subst (λ (s : State). Some (string_bytes c.in-Some.text) ≡ paper_at game (n + 1) s) (c.papers.invariant.walks.same it.sound before) told) in
    let at = found game (b.content m c.args.keeper.now) n (string_bytes c.in-Some.text) some in
    let part = rw c.as_str.ensures.value at c.in_err-write_paper-in-Some.ensures.err in
    begun_more _ n _ part.0 _ _ _ at.0 at.1 so_far.1 part.1)
    (λ it honest is. absurd (cc)))

pub papers-preserved : goal.papers-preserved
papers-preserved g c = record {
  walks = search rules;
  so_far = λ sound shows.
      let m = c.args.map.now in
      let game = c.args.game.now in
      let n = c.papers.count in
      let before = c.paper.ensures.keeps.shown shows in
      let walks = c.papers.invariant.walks in
      let so_far = c.papers.invariant.so_far sound before in
      let one : n + 1 ≡ suc n = omega arith in
      let told = rw c.in-Some.is at (c.in_ok-paper.ensures.value (walks.sound sound before) shows) in
      let some : Some (string_bytes c.in-Some.text) ≡ paper_at game (suc n) (g.K.Keeper.book.content m c.args.keeper.now) =
      subst (λ (k : ℕ). Some (string_bytes c.in-Some.text) ≡ paper_at game k (g.K.Keeper.book.content m c.args.keeper.now)) one
      (subst (λ (s : State). Some (string_bytes c.in-Some.text) ≡ paper_at game (n + 1) s) (walks.same sound before) told) in
      let it = found game (g.K.Keeper.book.content m c.args.keeper.now) n (string_bytes c.in-Some.text) some in
      let part = rw c.as_str.ensures.value at c.in_ok-write_paper-in-Some.ensures.ok in
      (omega (arith, it.0), more _ n _ _ _ _ it.0 it.1 so_far.1 part);
}

pub returns : goal.returns
returns g c =
    let m = c.args.map.now in
    let b = g.K.Keeper.book in
    let walks = c.papers.invariant.walks in
    broken m b ℕ c.args.game.now _ _ _ c.args.keeper.now c.papers.keeper _ (damages m b ℕ c.papers.count c.args.keeper.now c.papers.keeper walks)
    (λ it honest.
    let on = goes_open m b ℕ c.papers.count c.args.keeper.now c.papers.keeper walks it honest in
    begun _ c.papers.count _ _ (c.papers.invariant.so_far it.sound on.shows).1)
    (λ it honest is.
    let on = goes_open m b ℕ c.papers.count c.args.keeper.now c.papers.keeper walks it honest in
    let so_far = (c.papers.invariant.so_far it.sound on.shows).0 in
    omega (arith, so_far, c.papers-test))
