-- What was written.
use Rattle.std.proofs.Common.{◌+◌, ◌-◌, ◌≤◌, ℕ, List, Option, length, take, drop, sym, ap, subst, ◌∙◌, length-drop, arith, ◌++◌}
use Rattle.std.proofs.Math.Seq.{take-add}
use Rattle.std.proofs.lemmas.List.{take_rest}
use Rattle.std.specs.Io.KnownBytes.{Appends}
use Rattle.std.proofs.KnownBytes.{Appends-trans}

-- one write more
pub write_more : (a b c : Option (List ℕ)) (text : List ℕ) (at n : ℕ) → Appends a b (take at text) → Appends b c (take n (take (length text - at) (drop at text))) → Appends a c (take (at + n) text)
write_more a b c text at n first second =
    subst (λ (t : List ℕ). Appends a c t) (ap (λ s. take at text ++ take n s) (take_rest text at) ∙ sym (take-add at n text)) (Appends-trans a b c _ _ first second)

pub within_more : (text : List ℕ) (at n : ℕ) → at ≤ length text → n ≤ length (take (length text - at) (drop at text)) → at + n ≤ length text
within_more text at n inside bound = let rest : n ≤ length (drop at text) = rw take_rest at bound in omega (arith, length-drop at text)
