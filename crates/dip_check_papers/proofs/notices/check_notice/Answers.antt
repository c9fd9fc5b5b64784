use Rattle.std.proofs.Common.{◌≡◌, ℕ, List, [], ◌∷◌, Bor, map, length, slice_index_or, refl, sym, ap, ◌∙◌, arith}
use Rattle.std.proofs.lemmas.List.{length-map}
use Rattle.dip_letters.specs.Views.{notice_request}
use Rattle.dip_desk_state.specs.Records.{Public}
use Rattle.dip_desk_state.specs.Rows as rows
use Rattle.dip_check_papers.specs.Parts.{lines_in, told_in}
use Rattle.dip_check_papers.proofs.Judged.{announced_alone, announced_or_not, over, several}
use Rattle.dip_check_papers.proofs.notices.check_notice.Goals as goal
use Rattle.dip_check_papers.proofs.notices.check_notice.Goals.{then-len-ne1-via-then-len-ne1, then-len-ne1-via-else-len-ne1+then-is_over}

abbrev texts : List (Bor (List ℕ)) → List (List ℕ)
texts ls = map {A = Bor (List ℕ)} {B = List ℕ} (λ l. l.now) ls

single : (xs : List (Bor (List ℕ))) (d : Bor (List ℕ)) → length xs ≡ 1 → texts xs ≡ (slice_index_or xs 0 d).now ∷ []
single [] d one = absurd (omega (arith, one))
single (x ∷ []) d one = refl
single (x ∷ y ∷ xs) d one = absurd (omega (arith, one))

pub returns-then-len-ne1 : goal.returns-then-len-ne1
returns-then-len-ne1 c =
    let m = c.args.map.now in
    let p : Public = rows.public c.args.before.now in
    let text : List ℕ = c.args.text.now in
    let lines : List (List ℕ) = texts c.as_slice-2.result.now in
    let is : lines ≡ told_in (lines_in text) = ap texts c.as_slice-2.ensures.value ∙ c.in_ok-told.ensures ∙ ap told_in (ap texts c.as_slice.ensures.value ∙ c.in_ok-lines.ensures) in
    let count : length lines ≡ length c.as_slice-2.result.now = length-map c.as_slice-2.result.now (λ (l : Bor (List ℕ)). l.now) in
    announced_alone m p text lines c.in_ok-announced.announced c.requires.room is
    (λ n command told taken. elim c.then-len-ne1.branch [
      | then-len-ne1-via-then-len-ne1 w ↦ several p n lines command told (λ one. w.if-len-ne1.true (c.len.ensures ∙ sym c.as_slice-2.ensures.len ∙ sym count ∙ one))
      | then-len-ne1-via-else-len-ne1+then-is_over w ↦ over p n command (sym w.is_over.ensures ∙ w.if-is_over.true) taken
    ]) c.in_ok-announced.ensures

pub returns-in-Some : goal.returns-in-Some
returns-in-Some c =
    let m = c.args.map.now in
    let p : Public = rows.public c.args.before.now in
    let text : List ℕ = c.args.text.now in
    let lines : List (List ℕ) = texts c.as_slice-2.result.now in
    let is : lines ≡ told_in (lines_in text) = ap texts c.as_slice-2.ensures.value ∙ c.in_ok-told.ensures ∙ ap told_in (ap texts c.as_slice.ensures.value ∙ c.in_ok-lines.ensures) in
    let one : length c.as_slice-2.result.now ≡ 1 = c.as_slice-2.ensures.len ∙ sym c.len.ensures ∙ c.if-len-ne1.false in
    let line : lines ≡ c.index.result.now.now ∷ [] = single c.as_slice-2.result.now c.index.result.now one
    ∙ ap (λ (x : Bor (List ℕ)). x.now ∷ []) (ap (λ (xs : List (Bor (List ℕ))). slice_index_or xs 0 c.index.result.now) c.as_slice-2.ensures.value ∙ sym c.index.ensures) in
    announced_or_not m p text lines (notice_request c.in-Some.notice) c.better.result c.requires.room is
    (λ n command told. c.in-Some.ensures.told n command (told ∙ line))
    (c.better.ensures m p text lines (notice_request c.in-Some.notice) c.in_ok-announced.ensures c.in_ok-commanded-in-Some.ensures)

pub returns : goal.returns
returns c =
    let m = c.args.map.now in
    let p : Public = rows.public c.args.before.now in
    let text : List ℕ = c.args.text.now in
    let lines : List (List ℕ) = texts c.as_slice-2.result.now in
    let is : lines ≡ told_in (lines_in text) = ap texts c.as_slice-2.ensures.value ∙ c.in_ok-told.ensures ∙ ap told_in (ap texts c.as_slice.ensures.value ∙ c.in_ok-lines.ensures) in
    let one : length c.as_slice-2.result.now ≡ 1 = c.as_slice-2.ensures.len ∙ sym c.len.ensures ∙ c.if-len-ne1.false in
    let line : lines ≡ c.index.result.now.now ∷ [] = single c.as_slice-2.result.now c.index.result.now one
    ∙ ap (λ (x : Bor (List ℕ)). x.now ∷ []) (ap (λ (xs : List (Bor (List ℕ))). slice_index_or xs 0 c.index.result.now) c.as_slice-2.ensures.value ∙ sym c.index.ensures) in
    announced_alone m p text lines c.in_ok-announced.announced c.requires.room is
    (λ n command told taken. c.in-None.ensures.told n command (told ∙ line)) c.in_ok-announced.ensures
