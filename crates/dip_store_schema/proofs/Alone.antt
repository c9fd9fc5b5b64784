-- Calls that change nothing, one after another.
use Rattle.std.proofs.Common.{◌≡◌, ◌⊎◌, IsTrue, Ok, Err, Result, OnOk, refl, ◌∙◌, arith, inl, inr}
use Rattle.sqlite.specs.Store.{Ghosts}
use Rattle.sqlite.specs.Held.{Held, state}
use Rattle.sqlite.specs.State.{State, HasCleanDisk, IsUnchanged}
use Rattle.sqlite.proofs.StateLemmas.{survives_then}
use Rattle.dip_store_schema.specs.Alone.{LeavesAlone}
use Rattle.dip_store_sql.proofs.Parts.{fails, went}

unchanged_itself : (a : State) → IsTrue a.is_open → IsUnchanged a a
unchanged_itself a up =
    (record { was_open = up; is_open = up; now_is = refl; committed_is = refl; mode = refl }, record { changes = refl; last_rowid = refl }, refl)

pub unchanged_then : (a b c : State) → IsUnchanged a b → IsUnchanged b c → IsUnchanged a c
unchanged_then a b c p q = (
  record { was_open = p.0.was_open; is_open = q.0.is_open; now_is = q.0.now_is ∙ p.0.now_is; committed_is = q.0.committed_is ∙ p.0.committed_is; mode = q.0.mode ∙ p.0.mode },
  record { changes = q.1.changes ∙ p.1.changes; last_rowid = q.1.last_rowid ∙ p.1.last_rowid },
  q.2 ∙ p.2,
)

shown_then : (a b c : State) → b.committed ≡ a.committed → (b.now ≡ a.now) ⊎ (b.now ≡ a.committed) → (c.now ≡ b.now) ⊎ (c.now ≡ b.committed) → (c.now ≡ a.now) ⊎ (c.now ≡ a.committed)
shown_then a b c base (inl p) (inl q) = inl (q ∙ p)
shown_then a b c base (inr p) (inl q) = inr (q ∙ p)
shown_then a b c base p (inr q) = inr (q ∙ base)

module _ {S : Type 0} (g : Ghosts S) where
  -- no call
  pub alone_itself : (a : Held S) (X E : Type 0) (x : X) → LeavesAlone g a a (went X E x)
  alone_itself a X E x = record {
    survives = record { clean = omega arith; shield = λ it. it; counts = omega arith; limit = refl; closes = λ clean up. inl up; crash = λ clean db may. inl may };
    mode = λ idle. idle;
    keeps = λ clean. record { was_open = λ up. up; committed = λ up. refl };
    shows = λ clean up. inl refl;
    same = λ clean up. unchanged_itself (state g a) up;
  }

  -- two calls
  pub alone_then : {X Y E : Type 0} (a b c : Held S) (x : X) (r : Result Y E) → LeavesAlone g a b (went X E x) → LeavesAlone g b c r → LeavesAlone g a c r
  alone_then {X} {Y} {E} a b c x r p q = record {
    survives = survives_then (state g a) (state g b) (state g c) _ _ (λ _. ⊥) (λ _ db none. none) (λ _ db none. none) p.survives q.survives;
    mode = λ idle. q.mode (p.mode idle);
    keeps = λ clean. let one = p.keeps (omega (arith, clean, q.survives.clean)) in let two = q.keeps clean in
        record { was_open = λ up. one.was_open (two.was_open up); committed = λ up. two.committed up ∙ one.committed (two.was_open up) };
    shows = λ clean up.
        let before : HasCleanDisk (state g b) = omega (arith, clean, q.survives.clean) in
        let was : IsTrue (state g b).is_open = (q.keeps clean).was_open up in
        shown_then (state g a) (state g b) (state g c) ((p.keeps before).committed was) (p.shows before was) (q.shows clean up);
    same = λ clean up. both r (q.same clean up) (λ was. p.same (omega (arith, clean, q.survives.clean)) was);
  }
    where
      both : (r : Result Y E) → OnOk r (IsUnchanged (state g b) (state g c)) → (IsTrue (state g b).is_open → IsUnchanged (state g a) (state g b)) → OnOk r (IsUnchanged (state g a) (state g c))
      both (Ok y) two one = unchanged_then _ _ _ (one two.0.was_open) two
      both (Err e) two one = tt

  -- whatever the call answers where it goes well
  pub alone_as : {X Y E : Type 0} (a b : Held S) (x : X) (y : Y) → LeavesAlone g a b (went X E x) → LeavesAlone g a b (went Y E y)
  alone_as a b x y p = record { survives = p.survives; mode = p.mode; keeps = p.keeps; shows = p.shows; same = p.same }

  pub alone_fails : {X Y E F : Type 0} (a b : Held S) (e : E) (f : F) → LeavesAlone g a b (fails X E e) → LeavesAlone g a b (fails Y F f)
  alone_fails a b e f p = record { survives = p.survives; mode = p.mode; keeps = p.keeps; shows = p.shows; same = λ clean up. tt }
