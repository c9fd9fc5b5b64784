-- A look, and then a step.
use Rattle.std.proofs.Common.{◌≡◌, ◌≤◌, inl, inr, Result, Ok, Err, ap, sym, subst, ◌∙◌, arith}
use Rattle.std.proofs.lemmas.Result.{IfOk-weaker, on_err_weaker, on_ok_weaker}
use Rattle.dip_map.specs.Charts.{Chart}
use Rattle.dip_desk_state.specs.Faults.{faults_after}
use Rattle.dip_desk_keeper.specs.Keeping.{Book, Changes, Keeps, Looks, Settles, Steps, WasTold}
use Rattle.dip_desk_state.specs.State.{State}
use Rattle.dip_desk_state.specs.declared.faults.KeepFault.{KeepFault}
use Rattle.dip_desk_state.specs.declared.faults.KeepFault.TheVariants.{Disk, Damaged}

-- what is kept by a look and the call after it
pub keeps_then : {K X Y : Type 0} (m : Chart) (b : Book K) (old mid new : K) (x : X) (result : Result Y KeepFault)
    → Keeps {X = X} m b old mid (Ok x) → Keeps m b mid new result → Keeps m b old new result
keeps_then m b old mid new x result first second = record {
  count = second.count ∙ ap (faults_after result) first.count;
  told = omega (arith, first.told, second.told);
  fair = λ honest. first.fair (second.fair honest);
  same_map = second.same_map ∙ first.same_map;
  shown = λ shows. first.shown (second.shown shows);
  sound = λ sound shows. second.sound (first.sound sound (second.shown shows)) shows;
  firm = λ sound honest. second.firm (first.firm sound (second.fair honest)) honest;
  stays_open = λ sound honest shows. second.stays_open (first.firm sound (second.fair honest)) honest (first.stays_open sound (second.fair honest) shows);
  shuts = λ honest shows. elim (first.shuts (second.fair honest) shows) [
    | inl open_mid ↦ elim (second.shuts honest open_mid) [
      | inl open_new ↦ inl open_new
      | inr rises ↦ inr (omega (arith, rises, first.told))
    ]
    | inr rises ↦ inr (omega (arith, rises, second.told))
  ];
  again = λ sound honest shows takes.
      let fair = second.fair honest in
      second.again (first.firm sound fair) honest (first.stays_open sound fair shows) (first.again sound fair shows takes);
}

-- what a store told after a call it told after what came before too
pub told_late : {K : Type 0} (b : Book K) (first old new : K) → b.told first ≤ b.told old → WasTold b old new → WasTold b first new
told_late b first old new counts rises = omega (arith, counts, rises)

-- after a look a crash leaves what it might have left
pub look_alone : {K X : Type 0} (m : Chart) (b : Book K) (old new : K) (Value : X → Type 0) (Damage : Type 0) (result : Result X KeepFault)
    → Looks m b old new Value Damage result → Settles m b old new
look_alone m b old new Value Damage result look sound honest shows alone s may = alone s (look.left sound honest s may) ∙ sym (look.same sound shows)

-- a step after a look is a step of the state that was looked at, where it may be taken of that state, and what the step may be
-- Damaged by is laid to that state too
pub steps_then : {K X Y R : Type 0} (m : Chart) (b : Book K) (old mid new : K) (x : X) (Value : X → Type 0) (Damage : Type 0) (say : Y → R)
    (Near Far : State → R → State → Type 0) (result : Result Y KeepFault)
    → Looks m b old mid Value Damage (Ok x) → (Hurt Blame : State → Type 0)
    → (Value x → (r : R) (t : State) → Near (b.content m old) r t → Far (b.content m old) r t)
    → (Value x → Hurt (b.content m old) → Blame (b.content m old))
    → Steps m b mid new say Near Hurt result → Steps m b old new say Far Blame result
steps_then {K} {X} {Y} {R} m b old mid new x Value Damage say Near Far result look Hurt Blame further blamed step = record {
  keeps = keeps_then m b old mid new x result look.keeps step.keeps;
  done = λ sound shows.
      let before = step.keeps.shown shows in
      let there = look.keeps.sound sound before in
      IfOk-weaker result (λ y. Near (b.content m mid) (say y) (b.content m new)) (λ y. Far (b.content m old) (say y) (b.content m new))
      (λ y near. further (look.value sound before) (say y) (b.content m new) (subst (λ (s : State). Near s (say y) (b.content m new)) (look.same sound before) near))
      (step.done there shows);
  undone = λ sound shows.
      let before = step.keeps.shown shows in
      on_err_weaker result (λ same. same ∙ look.same sound before) (step.undone (look.keeps.sound sound before) shows);
  damaged = λ sound honest shows bad.
      let fair = step.keeps.fair honest in
      let open_mid = look.keeps.stays_open sound fair shows in
      blamed (look.value sound open_mid) (subst Hurt (look.same sound open_mid) (step.damaged (look.keeps.firm sound fair) honest open_mid bad));
  failed = λ sound honest shows bad.
      let fair = step.keeps.fair honest in
      told_late b old mid new look.keeps.told (step.failed (look.keeps.firm sound fair) honest (look.keeps.stays_open sound fair shows) bad);
  settles = λ sound honest shows alone.
      let before = step.keeps.shown shows in
      step.settles (look.keeps.sound sound before) honest shows (look_alone m b old mid Value Damage (Ok x) look sound (step.keeps.fair honest) before alone);
  kept = λ sound honest shows.
      let fair = step.keeps.fair honest in
      let open_mid = look.keeps.stays_open sound fair shows in
      on_ok_weaker result
      (λ h s left. elim (h s left) [
        | inl same ↦ inl same
        | inr both ↦ inr (both.0 ∙ look.same sound open_mid, look.left sound fair s both.1)
      ])
      (step.kept (look.keeps.firm sound fair) honest open_mid);
  left = λ sound honest shows.
      let fair = step.keeps.fair honest in
      let open_mid = look.keeps.stays_open sound fair shows in
      on_err_weaker result
      (λ h s left. elim (h s left) [
        | inl before ↦ inl (look.left sound fair s before)
        | inr done ↦ inr (done.0, further (look.value sound open_mid) done.0 s (subst (λ (t : State). Near t done.0 s) (look.same sound open_mid) done.1))
      ])
      (step.left (look.keeps.firm sound fair) honest open_mid);
}

-- a look that answers a fault is a step that isn't taken
pub fault_then : {K X Y R : Type 0} (m : Chart) (b : Book K) (old new : K) (Value : X → Type 0) (Damage : Type 0) (fault : KeepFault) (say : Y → R) (Step : State → R → State → Type 0)
    (Blame : State → Type 0) → Looks m b old new Value Damage (Err fault) → (Damage → Blame (b.content m old)) → Steps {X = Y} m b old new say Step Blame (Err fault)
fault_then m b old new Value Damage fault say Step Blame look blamed = record {
  keeps = record { count = look.keeps.count; told = look.keeps.told; fair = look.keeps.fair; same_map = look.keeps.same_map; shown = look.keeps.shown; sound = look.keeps.sound; firm = λ sound honest. tt; stays_open = λ sound honest shows. tt; shuts = look.keeps.shuts; again = look.keeps.again };
  done = λ sound shows. tt;
  undone = look.same;
  damaged = λ sound honest shows bad. let told : fault ≡ Damaged = cc in blamed (look.damaged sound honest shows (ap (λ (f : KeepFault). Err f) told));
  failed = λ sound honest shows bad. let told : fault ≡ Disk = cc in look.failed sound honest shows (ap (λ (f : KeepFault). Err f) told);
  settles = look_alone m b old new Value Damage (Err fault) look;
  kept = λ sound honest shows. tt;
  left = λ sound honest shows s left. inl (look.left sound honest s left);
}

-- what is kept by an answer says nothing of its value
pub keeps_as : {K X Y : Type 0} (m : Chart) (b : Book K) (old new : K) (x : X) (y : Y) → Keeps {X = X} m b old new (Ok x) → Keeps {X = Y} m b old new (Ok y)
keeps_as m b old new x y k = record { count = k.count; told = k.told; fair = k.fair; same_map = k.same_map; shown = k.shown; sound = k.sound; firm = k.firm; stays_open = k.stays_open; shuts = k.shuts; again = k.again }

-- a change that a fault leaves unmade is a step that isn't taken: a crash may leave what the step would have, and what doesn't fit may
-- be Damaged
pub unmade : {K X R : Type 0} (m : Chart) (b : Book K) (old new : K) (change : State → State) (Fits : State → Type 0) (fault : KeepFault) (say : X → R)
    (Step : State → R → State → Type 0) (Suits : State → Type 0) → Changes {X = Unit {0}} m b old new change Fits (Err fault)
    → ((s : State) → s ≡ change (b.content m old) → (r : R) × Step (b.content m old) r s) → ((s : State) → Suits s → Fits s)
    → Steps {X = X} m b old new say Step (λ s. Suits s → ⊥) (Err fault)
unmade m b old new change Fits fault say Step Suits h taken fit = record {
  keeps = record { count = h.keeps.count; told = h.keeps.told; fair = h.keeps.fair; same_map = h.keeps.same_map; shown = h.keeps.shown; sound = h.keeps.sound; firm = λ sound honest. tt; stays_open = λ sound honest shows. tt; shuts = h.keeps.shuts; again = h.keeps.again };
  done = λ sound shows. tt;
  undone = h.undone;
  damaged = λ sound honest shows bad suits. let told : fault ≡ Damaged = cc in h.fitting sound honest shows (fit (b.content m old) suits) (ap (λ (f : KeepFault). Err f) told);
  failed = λ sound honest shows bad. let told : fault ≡ Disk = cc in h.failed sound honest shows (ap (λ (f : KeepFault). Err f) told);
  settles = h.settles;
  kept = λ sound honest shows. tt;
  left = λ sound honest shows s left. elim (h.left sound honest s left) [
    | inl before ↦ inl before
    | inr made ↦ inr (taken s made)
  ];
}
