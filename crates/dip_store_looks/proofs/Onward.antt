-- Calls that read on after others.
use Rattle.std.proofs.Common.{◌≡◌, ap, arith, inl, refl, Result}
use Rattle.sqlite.specs.declared.error.Error.{Error}
use Rattle.sqlite.specs.Effect.{Database}
use Rattle.sqlite.specs.Store.{Ghosts}
use Rattle.sqlite.specs.Held.{Held}
use Rattle.dip_store_sql.specs.Calls.{IsKept, Selects, is_honest, tables_in}
use Rattle.dip_store_sql.specs.Rows.{tables_of}
use Rattle.dip_store_sql.proofs.Parts.{went}
use Rattle.dip_store_sql.proofs.Selecting.{selects_as, selects_then}
use Rattle.dip_store_looks.specs.Asked.{SelectsOn}

module _ {S : Type 0} (g : Ghosts S) where
  pub goes_on : {X E Y F : Type 0} (a b c : Held S) (x : X) (r : Result Y F) → Selects g a b (went X E x) → SelectsOn g b c r → Selects g a c r
  goes_on a b c x r p on = on a (selects_as g a b x (went (Unit {0}) Error tt) p)

  -- after a call that went well nothing is read
  pub stays : {X E : Type 0} (a b : Held S) (x : X) → IsKept g a → Selects g a b (went X E x) → Selects g b b (went (Unit {0}) Error tt)
  stays a b x kept p = record {
    fair = λ clean. clean;
    shown = λ shows. shows;
    mode = λ idle. idle;
    counts = omega arith;
    kept = λ here shows. here;
    same = λ here shows. refl;
    ok = λ here clean. p.ok kept clean;
    closes = λ clean shows. inl shows;
    left = λ here clean db may. may;
  }

  -- what a call that went well leaves as it was
  pub leaves : {X E : Type 0} (a b : Held S) (x : X) → Selects g a b (went X E x) → IsKept g a → is_honest g b → IsKept g b × (tables_in g b ≡ tables_in g a)
  leaves a b x p kept clean =
      let shows = p.ok kept clean in
      (p.kept kept shows, ap (λ (d : Database). tables_of d.trees) (p.same kept shows))

  pub turns_on : {X E Y F : Type 0} (a b c : Held S) (x : X) (y : Y) → SelectsOn g a b (went X E x) → Selects g b c (went Y F y) → SelectsOn g a c (went X E x)
  turns_on {X} {E} {Y} {F} a b c x y on p first q = selects_as g first c y (went X E x) (selects_then g first b c x (went Y F y) (on first q) p)
