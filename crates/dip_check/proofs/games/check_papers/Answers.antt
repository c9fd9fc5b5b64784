use Rattle.std.proofs.Common.{◌≡◌, ◌-◌, ◌+◌, ◌∷◌, ◌∙◌, ℕ, Bor, List, [], drop, get_or, length, map, take, refl, subst, sym}
use Rattle.std.proofs.lemmas.Bool.{eq-eqb, false≢true}
use Rattle.std.proofs.lemmas.List.{take_rest}
use Rattle.dip_map.specs.Boards.{IsOf}
use Rattle.dip_desk_state.specs.Records.{Public}
use Rattle.dip_desk_state.specs.Rows as rows
use Rattle.dip_check_papers.specs.Checks.{AreJudged, IsFirstWrong, IsJudgedFirst}
use Rattle.dip_check_papers.specs.Games.{AreNext, AreOfGame, IsOpening}
use Rattle.dip_check_papers.specs.declared.verdict.Papers.TheVariants.{None as NoPapers, Wrong as WrongPaper}
use Rattle.dip_check_papers.specs.declared.verdict.Verdict.TheVariants.{Wrong}
use Rattle.dip_check.proofs.Chains.{nothing_from, opening_wrong, wrong_from}
use Rattle.dip_check.proofs.games.check_papers.Goals as goal

abbrev texts : List (Bor (List ℕ)) → List (List ℕ)
texts ls = map {A = Bor (List ℕ)} {B = List ℕ} (λ t. t.now) ls

abbrev first_of : List (Bor (List ℕ)) → Bor (List ℕ)
first_of ls = get_or ls 0 (record { ref_ptr = (0, 0); now = [] })

whole : (ls : List (Bor (List ℕ))) → (length ls ≡ 0 → ⊥) → ls ≡ first_of ls ∷ drop 1 ls
whole [] none = absurd (none refl)
whole (x ∷ xs) none = refl

pub returns-in-Wrong-2 : goal.returns-in-Wrong-2
returns-in-Wrong-2 c =
    let m = c.args.map.now in
    let ls = c.args.papers.now in
    let t : List ℕ = (first_of ls).now in
    let first : Public = rows.public c.in-Right.first in
    let k = c.in-Wrong-2.number in
    let is : ls ≡ first_of ls ∷ drop 1 ls = whole ls (λ none. false≢true (c.if-is_empty.ensures ∙ eq-eqb (length ls) 0 none)) in
    let right : IsOpening m t first × IsOf m c.in-Right.first.board.value = subst (IsJudgedFirst m t) c.in-Right.is c.in_ok-first.ensures in
    let part : AreJudged (AreNext m first) (texts (take (length ls - 1) (drop 1 ls))) (WrongPaper k c.in-Wrong-2.fault) =
    subst (AreJudged (AreNext m first) (texts (take (length ls - 1) (drop 1 ls)))) c.in-Wrong-2.is c.in_ok-public-in-Right.ensures in
    let said : AreJudged (AreNext m first) (texts (drop 1 ls)) (WrongPaper k c.in-Wrong-2.fault) =
    subst (λ (xs : List (Bor (List ℕ))). AreJudged (AreNext m first) (texts xs) (WrongPaper k c.in-Wrong-2.fault)) (take_rest ls 1) part in
    subst (λ (xs : List (Bor (List ℕ))). ((new : Public) → AreOfGame m (texts xs) new → ⊥) × IsFirstWrong (AreOfGame m) (texts xs) (k + 1)) (sym is)
    (wrong_from m t (texts (drop 1 ls)) first right.0 (λ q opens. c.papers_have_one_answer.ensures.first first q t right.0 opens) k said)

pub returns-in-None : goal.returns-in-None
returns-in-None c =
    let m = c.args.map.now in
    let ls = c.args.papers.now in
    let t : List ℕ = (first_of ls).now in
    let first : Public = rows.public c.in-Right.first in
    let right : IsOpening m t first × IsOf m c.in-Right.first.board.value = subst (IsJudgedFirst m t) c.in-Right.is c.in_ok-first.ensures in
    let part : AreJudged (AreNext m first) (texts (take (length ls - 1) (drop 1 ls))) NoPapers =
    subst (AreJudged (AreNext m first) (texts (take (length ls - 1) (drop 1 ls)))) c.in-None.is c.in_ok-public-in-Right.ensures in
    absurd (nothing_from m t (texts (take (length ls - 1) (drop 1 ls))) first right.0 (λ q opens. c.papers_have_one_answer.ensures.first first q t right.0 opens) part)

pub returns-in-Wrong : goal.returns-in-Wrong
returns-in-Wrong c =
    let m = c.args.map.now in
    let ls = c.args.papers.now in
    let t : List ℕ = (first_of ls).now in
    let is : ls ≡ first_of ls ∷ drop 1 ls = whole ls (λ none. false≢true (c.if-is_empty.ensures ∙ eq-eqb (length ls) 0 none)) in
    let wrong : IsJudgedFirst m t (Wrong c.in-Wrong.fault) = subst (IsJudgedFirst m t) c.in-Wrong.is c.in_ok-first.ensures in
    subst (λ (xs : List (Bor (List ℕ))). ((new : Public) → AreOfGame m (texts xs) new → ⊥) × IsFirstWrong (AreOfGame m) (texts xs) 1) (sym is) (opening_wrong m t (texts (drop 1 ls)) wrong.0)
