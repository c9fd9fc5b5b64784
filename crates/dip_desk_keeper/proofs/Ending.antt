-- How a step ends of a keeper that was open.
use Rattle.std.proofs.Common.{◌≡◌, ◌<◌, ◌≤◌, inl, inr, Result, Ok, Err, OnErr, IfOk, arith, refl, ℕ, zero, suc, List, [], ◌∷◌, map, get_or, length, Some, slice_get}
use Rattle.dip_map.specs.Charts.{Chart}
use Rattle.dip_desk_keeper.specs.Keeping.{Book, Ends, IsOpen, Steps}
use Rattle.dip_desk_state.specs.State.{State}
use Rattle.dip_desk_state.specs.declared.faults.KeepFault.{KeepFault}

module _ {K : Type 0} (m : Chart) (b : Book K) (old new : K) where
  -- after a call, a keeper that still shows is open
  open_still : {X R : Type 0} (say : X → R) (Step : State → R → State → Type 0) (Damage : State → Type 0) (result : Result X KeepFault)
      → Steps m b old new say Step Damage result → IsOpen m b old → b.honest new → b.shows new → IsOpen m b new
  open_still say Step Damage result h it honest shows =
      record { sound = h.keeps.sound it.sound shows; shows = shows; alone = h.settles it.sound honest shows it.alone; again = h.keeps.again it.sound honest it.shows it.again }

  pub steps_on : {X R : Type 0} (say : X → R) (Step : State → R → State → Type 0) (Damage : State → Type 0) (result : Result X KeepFault)
      → Steps m b old new say Step Damage result → IsOpen m b old → b.honest new → IfOk result (λ x. IsOpen m b new × Step (b.content m old) (say x) (b.content m new))
  steps_on say Step Damage (Ok x) h it honest =
      let shows = h.keeps.stays_open it.sound honest it.shows in
      (open_still say Step Damage (Ok x) h it honest shows, h.done it.sound shows)
  steps_on say Step Damage (Err e) h it honest = tt

  -- after a fault the state is the old one, or that of one more step
  pub steps_end : {X R : Type 0} (say : X → R) (Step : State → R → State → Type 0) (Damage : State → Type 0) (result : Result X KeepFault)
      → Steps m b old new say Step Damage result → IsOpen m b old → b.honest new → OnErr result (Ends m b old new (b.content m old) (λ t. (r : R) × Step (b.content m old) r t))
  steps_end say Step Damage (Ok x) h it honest = tt
  steps_end say Step Damage (Err e) h it honest = record {
    left = λ t may. elim (h.left it.sound honest it.shows t may) [
      | inl before ↦ inl (it.alone t before)
      | inr more ↦ inr more
    ];
    again = h.keeps.again it.sound honest it.shows it.again;
    shown = λ shows. (open_still say Step Damage (Err e) h it honest shows, h.undone it.sound shows);
    goes = elim (h.keeps.shuts honest it.shows) [
      | inl shows ↦ inl (open_still say Step Damage (Err e) h it honest shows, h.undone it.sound shows)
      | inr rises ↦ inr rises
    ];
  }

-- a keeper that is still open has what it shows
pub ends_open : {K : Type 0} (m : Chart) (b : Book K) (old new : K) (More : State → Type 0) → IsOpen m b new → Ends m b old new (b.content m new) More
ends_open m b old new More it = record { left = λ t may. inl (it.alone t may); again = it.again; shown = λ shows. (it, refl); goes = inl (it, refl) }

-- an end after calls that told of more, and where what is more is named otherwise
pub ends_late : {K : Type 0} (m : Chart) (b : Book K) (first old new : K) (s : State) (More Other : State → Type 0) → b.told first ≤ b.told old
    → ((t : State) → More t → Other t) → Ends m b old new s More → Ends m b first new s Other
ends_late m b first old new s More Other counts turn h = record {
  left = λ t may. elim (h.left t may) [ inl is ↦ inl is | inr more ↦ inr (turn t more) ];
  again = h.again;
  shown = h.shown;
  goes = elim h.goes [
    | inl goes ↦ inl goes
    | inr rises ↦ inr (omega (arith, counts, rises))
  ];
}

-- what an element says is what is said in its place
pub said_at : {A B : Type 0} (f : A → B) (xs : List A) (i : ℕ) (d : A) → i < length xs → slice_get (map f xs) i ≡ Some (f (get_or xs i d))
said_at f [] i d lt = absurd (omega (arith, lt))
said_at f (x ∷ xs) zero d lt = refl
said_at f (x ∷ xs) (suc i) d lt = said_at f xs i d (omega (arith, lt))
