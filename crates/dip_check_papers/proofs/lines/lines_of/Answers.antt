use Rattle.std.proofs.Common.{◌≡◌, ◌++◌, ◌∷◌, [], List, ℕ, map, length, append_assoc, length-append, sym, ap, ◌∙◌, arith, rules, Bor}
use Rattle.dip_letters.specs.Lines.{split_lines}
use Rattle.dip_letters.proofs.LineLemmas.{line_takes, rest_utf8, split_first, split_none}
use Rattle.dip_check_papers.proofs.lines.lines_of.Goals as goal

mapped : (xs ys : List (Bor (List ℕ))) → map (λ (s : Bor (List ℕ)). s.now) (xs ++ ys) ≡ map (λ (s : Bor (List ℕ)). s.now) xs ++ map (λ (s : Bor (List ℕ)). s.now) ys
mapped [] ys = search rules
mapped (x ∷ xs) ys = ap (λ (t : List (List ℕ)). x.now ∷ t) (mapped xs ys)

nothing_more : (xs : List (List ℕ)) → xs ++ [] ≡ xs
nothing_more [] = search rules
nothing_more (x ∷ xs) = ap (λ (t : List (List ℕ)). x ∷ t) (nothing_more xs)

pub loop-line-smaller : goal.loop-line-smaller
loop-line-smaller c =
    let t = line_takes c.loop-line.at.now (c.in-Some.line.now, c.in-Some.rest.now) (sym c.in-Some.ensures) in
    omega (arith, ap length t.1, length-append c.in-Some.line.now (10 ∷ c.in-Some.rest.now))

pub loop-line-preserved : goal.loop-line-preserved
loop-line-preserved c = (
  ap (λ (xs : List (Bor (List ℕ))). map (λ (s : Bor (List ℕ)). s.now) xs ++ split_lines c.in-Some.rest.now) c.in_ok-push.ensures.items
      ∙ ap (λ (xs : List (List ℕ)). xs ++ split_lines c.in-Some.rest.now) (mapped c.loop-line.lines.items (c.in-Some.line ∷ []))
      ∙ append_assoc (map (λ (s : Bor (List ℕ)). s.now) c.loop-line.lines.items) (c.in-Some.line.now ∷ []) (split_lines c.in-Some.rest.now)
      ∙ ap (λ (xs : List (List ℕ)). map (λ (s : Bor (List ℕ)). s.now) c.loop-line.lines.items ++ xs) (sym (split_first c.loop-line.at.now c.in-Some.line.now c.in-Some.rest.now c.in-Some.ensures))
      ∙ c.loop-line.invariant.0,
  rest_utf8 c.loop-line.at.now c.in-Some.line.now c.in-Some.rest.now c.loop-line.invariant.1 c.in-Some.ensures,
)

pub returns : goal.returns
returns c =
    sym (ap (λ (xs : List (List ℕ)). map (λ (s : Bor (List ℕ)). s.now) c.loop-line.lines.items ++ xs) (split_none c.loop-line.at.now (sym c.in_default.ensures)) ∙ nothing_more (map (λ (s : Bor (List ℕ)). s.now) c.loop-line.lines.items))
    ∙ c.loop-line.invariant.0
