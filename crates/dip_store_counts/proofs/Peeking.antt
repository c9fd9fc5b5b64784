-- What is read, or left alone, one call after another.
use Rattle.std.proofs.Common.{◌≡◌, ◌≤◌, arith, inl, inr, Ok, Err, Result, refl, sym, ap, subst, ◌∙◌}
use Rattle.std.specs.Result.{IsErr}
use Rattle.sqlite.specs.Store.{Ghosts}
use Rattle.sqlite.specs.Effect.{Database}
use Rattle.sqlite.specs.Held.{Held, state}
use Rattle.dip_store_sql.specs.Calls.{IsKept, Selects, does_show, is_honest, tables_in}
use Rattle.dip_store_sql.specs.Rows.{tables_of}
use Rattle.dip_store_sql.proofs.Parts.{fails, went}
use Rattle.dip_store_sql.proofs.Selecting.{selects_as, selects_fails, selects_then}
use Rattle.dip_store_counts.specs.Counts.{Peeks}

module _ {S : Type 0} (g : Ghosts S) where
  pub peeks_nothing : {X E : Type 0} (a : Held S) (r : Result X E) → Peeks g a a r
  peeks_nothing a r = inr refl

  pub peeks_then : {X E Y F : Type 0} (a b c : Held S) (x : X) (r : Result Y F) → Peeks g a b (went X E x) → Peeks g b c r → Peeks g a c r
  peeks_then {X} {E} a b c x r (inl p) (inl q) = inl (selects_then g a b c x r p q)
  peeks_then {X} {E} a b c x r (inl p) (inr same) = inl (subst (λ h. Selects g a h r) (sym same) (selects_as g {X = X} {E = E} a b x r p))
  peeks_then {X} {E} a b c x r (inr same) (inl q) = inl (subst (λ h. Selects g h c r) same q)
  peeks_then {X} {E} a b c x r (inr same) (inr too) = inr (too ∙ same)

  -- what went well may yet be answered otherwise
  pub peeks_as : {X E Y F : Type 0} (a b : Held S) (x : X) (r : Result Y F) → Peeks g a b (went X E x) → Peeks g a b r
  peeks_as {X} {E} a b x r (inl p) = inl (selects_as g {X = X} {E = E} a b x r p)
  peeks_as a b x r (inr same) = inr same

  pub peeks_fails : {X E Y F : Type 0} (a b : Held S) (e : E) (f : F) → Peeks g a b (fails X E e) → Peeks g a b (fails Y F f)
  peeks_fails {X} {E} a b e f (inl p) = inl (selects_fails g {X = X} {E = E} a b e f p)
  peeks_fails a b e f (inr same) = inr same

  -- a failure that is passed on
  pub peeks_passed : {Y F Z G : Type 0} (a b : Held S) (e : F) (r : Result Z G) → IsErr r → Peeks g a b (fails Y F e) → Peeks g a b r
  peeks_passed {Y} {F} {Z} {G} a b e (Ok z) failed p = absurd (cc)
  peeks_passed {Y} {F} {Z} {G} a b e (Err d) failed p = peeks_fails {X = Y} {E = F} {Y = Z} {F = G} a b e d p

  -- two calls, of which the second failed
  pub peeks_broken : {X E Y F Z G : Type 0} (a b c : Held S) (x : X) (e : F) (r : Result Z G) → IsErr r → Peeks g a b (went X E x) → Peeks g b c (fails Y F e) → Peeks g a c r
  peeks_broken {X} {E} {Y} {F} {Z} {G} a b c x e (Ok z) failed p q = absurd (cc)
  peeks_broken {X} {E} {Y} {F} {Z} {G} a b c x e (Err d) failed p q = peeks_fails {X = Y} {E = F} {Y = Z} {F = G} a c e d (peeks_then {X = X} {E = E} {Y = Y} {F = F} a b c x (fails Y F e) p q)

  -- three calls, all of which went well
  pub peeks_all : {X E Y F Z G W H : Type 0} (a b c d : Held S) (x : X) (y : Y) (z : Z) (w : W) → Peeks g a b (went X E x) → Peeks g b c (went Y F y) → Peeks g c d (went Z G z) → Peeks g a d (went W H w)
  peeks_all {X} {E} {Y} {F} {Z} {G} {W} {H} a b c d x y z w p q r =
      peeks_as {X = Z} {E = G} {Y = W} {F = H} a d z (went W H w)
      (peeks_then {X = Y} {E = F} {Y = Z} {F = G} a c d y (went Z G z) (peeks_then {X = X} {E = E} {Y = Y} {F = F} a b c x (went Y F y) p q) r)

  -- what is kept, and what is shown, after a call that reads
  pub peeks_fair : {X E : Type 0} (a b : Held S) (r : Result X E) → Peeks g a b r → is_honest g b → is_honest g a
  peeks_fair a b r (inl s) clean = s.fair clean
  peeks_fair a b r (inr same) clean = subst (λ h. is_honest g h) same clean

  pub peeks_kept : {X E : Type 0} (a b : Held S) (x : X) → Peeks g a b (went X E x) → IsKept g a → is_honest g b → IsKept g b × (tables_in g b ≡ tables_in g a)
  peeks_kept a b x (inl s) kept clean = let up = s.ok kept clean in (s.kept kept up, ap (λ (d : Database). tables_of d.trees) (s.same kept up))
  peeks_kept a b x (inr same) kept clean = (subst (λ h. IsKept g h) (sym same) kept, ap (λ h. tables_in g h) same)

  pub peeks_shows : {X E : Type 0} (a b : Held S) (x : X) → Peeks g a b (went X E x) → IsKept g a → does_show g a → is_honest g b → does_show g b
  peeks_shows a b x (inl s) kept shows clean = s.ok kept clean
  peeks_shows a b x (inr same) kept shows clean = subst (λ h. does_show g h) (sym same) shows

  -- no fault is forgotten
  pub peeks_counts : {X E : Type 0} (a b : Held S) (x : X) → Peeks g a b (went X E x) → (state g a).faults ≤ (state g b).faults
  peeks_counts a b x (inl s) = s.counts
  peeks_counts a b x (inr same) = subst (λ h. (state g a).faults ≤ (state g h).faults) (sym same) (omega arith)
