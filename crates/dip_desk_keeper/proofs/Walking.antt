-- A walk from look to look.
use Rattle.std.proofs.Common.{◌≡◌, ◌<◌, ◌⊎◌, inl, inr, IfOk, List, None, Ok, OnErr, Option, Err, Result, length, refl, subst, sym, ap, arith, ◌∙◌, ℕ}
use Rattle.std.proofs.lemmas.Result.{on_err_weaker}
use Rattle.dip_desk_keeper.specs.Papers.{AreBegun, BreaksOff, Walks, WritesPapers, faults_told, papers_of}
use Rattle.dip_desk_keeper.specs.declared.paper_faults.PaperFault.{PaperFault}
use Rattle.dip_desk_keeper.specs.declared.paper_faults.PaperFault.TheVariants.{Write, Keep}
use Rattle.dip_map.specs.Charts.{Chart}
use Rattle.dip_desk_keeper.specs.Keeping.{Book, Ends, IsOpen, Looks, WasTold}
use Rattle.dip_desk_state.specs.Bounds.{most_papers}
use Rattle.dip_desk_state.specs.Faults.{faults_with}
use Rattle.dip_desk_state.specs.State.{Game, State, game_at}
use Rattle.dip_desk_state.specs.declared.faults.KeepFault.{KeepFault}
use Rattle.dip_desk_state.specs.declared.faults.KeepFault.TheVariants.{Damaged, Disk}

-- a walk that went well so far
abbrev pub went : (X : Type 0) → X → Result X PaperFault
went X x = Ok x

abbrev pub stopped : (X : Type 0) → PaperFault → Result X PaperFault
stopped X f = Err f

-- a look that went well, and one that didn't
abbrev pub shown : (X : Type 0) → X → Result X KeepFault
shown X x = Ok x

abbrev pub refused : (X : Type 0) → KeepFault → Result X KeepFault
refused X f = Err f

module _ {K : Type 0} (m : Chart) (b : Book K) where
  pub begins : (X : Type 0) (x : X) (a : K) → Walks m b a a (went X x)
  begins X x a = record {
    count = refl;
    told = omega arith;
    fair = λ h. h;
    same_map = refl;
    shown = λ h. h;
    sound = λ s h. s;
    same = λ s h. refl;
    firm = λ s h. s;
    stays_open = λ s h o. o;
    shuts = λ h o. inl o;
    failed = λ s h o bad. absurd (cc);
    left = λ s h t may. may;
    again = λ s h o takes. takes;
  }

  module _ (X Y : Type 0) (x : X) (a c d : K) (so_far : Walks m b a c (went X x)) where
    -- the keeper shows still, or the store told of a fault in this look or before it
    shut : (Z : Type 0) (r : Result Z KeepFault) (V : Z → Type 0) (D : Type 0) → Looks m b c d V D r → b.honest d → b.shows a → b.shows d ⊎ WasTold b a d
    shut Z r V D look h o = elim (so_far.shuts (look.keeps.fair h) o) [
      | inl on ↦ elim (look.keeps.shuts h on) [
        | inl still ↦ inl still
        | inr rises ↦ inr (omega (arith, rises, so_far.told))
      ]
      | inr rises ↦ inr (omega (arith, rises, look.keeps.told))
    ]

    pub goes_on : (Z : Type 0) (z : Z) (V : Y → Type 0) (D : Type 0) (y : Y) → Looks m b c d V D (shown Y y) → Walks m b a d (went Z z)
    goes_on Z z V D y look = record {
      count = look.keeps.count ∙ so_far.count;
      told = omega (arith, so_far.told, look.keeps.told);
      fair = λ h. so_far.fair (look.keeps.fair h);
      same_map = look.keeps.same_map ∙ so_far.same_map;
      shown = λ h. so_far.shown (look.keeps.shown h);
      sound = λ s h. look.keeps.sound (so_far.sound s (look.keeps.shown h)) h;
      same = λ s h. look.same (so_far.sound s (look.keeps.shown h)) h ∙ so_far.same s (look.keeps.shown h);
      firm = λ s h. look.keeps.firm (so_far.firm s (look.keeps.fair h)) h;
      stays_open = λ s h o. let before = look.keeps.fair h in look.keeps.stays_open (so_far.firm s before) h (so_far.stays_open s before o);
      shuts = λ h o. shut Y (shown Y y) V D look h o;
      failed = λ s h o bad. absurd (cc);
      left = λ s h t may. so_far.left s (look.keeps.fair h) t (look.left (so_far.firm s (look.keeps.fair h)) h t may);
      again = λ s h o takes. let before = look.keeps.fair h in look.keeps.again (so_far.firm s before) h (so_far.stays_open s before o) (so_far.again s before o takes);
    }

    pub ends_by : (Z : Type 0) (V : Y → Type 0) (D : Type 0) (f : KeepFault) → Looks m b c d V D (refused Y f) → Walks m b a d (stopped Z (Keep f))
    ends_by Z V D f look = record {
      count = look.keeps.count ∙ ap (faults_with f) so_far.count;
      told = omega (arith, so_far.told, look.keeps.told);
      fair = λ h. so_far.fair (look.keeps.fair h);
      same_map = look.keeps.same_map ∙ so_far.same_map;
      shown = λ h. so_far.shown (look.keeps.shown h);
      sound = λ s h. look.keeps.sound (so_far.sound s (look.keeps.shown h)) h;
      same = λ s h. look.same (so_far.sound s (look.keeps.shown h)) h ∙ so_far.same s (look.keeps.shown h);
      firm = λ s h. tt;
      stays_open = λ s h o. tt;
      shuts = λ h o. shut Y (refused Y f) V D look h o;
      failed = λ s h o bad.
          let before = look.keeps.fair h in
          let same : f ≡ Disk = cc in
          let rises = look.failed (so_far.firm s before) h (so_far.stays_open s before o) (ap (λ (f : KeepFault). Err f) same) in
          omega (arith, rises, so_far.told);
      left = λ s h t may. so_far.left s (look.keeps.fair h) t (look.left (so_far.firm s (look.keeps.fair h)) h t may);
      again = λ s h o takes. let before = look.keeps.fair h in look.keeps.again (so_far.firm s before) h (so_far.stays_open s before o) (so_far.again s before o takes);
    }

  -- a walk that was open is open where the keeper still shows
  still : (X : Type 0) (r : Result X PaperFault) (a c : K) → Walks m b a c r → IsOpen m b a → b.honest c → b.shows c → IsOpen m b c
  still X r a c w it h o = record { sound = w.sound it.sound o; shows = o; alone = λ t may. it.alone t (w.left it.sound h t may) ∙ sym (w.same it.sound o); again = w.again it.sound h it.shows it.again }

  pub goes_open : (X : Type 0) (x : X) (a c : K) → Walks m b a c (went X x) → IsOpen m b a → b.honest c → IsOpen m b c
  goes_open X x a c w it h = still X (went X x) a c w it h (w.stays_open it.sound h it.shows)

  -- so is one that is broken off before more is asked
  pub ends_still : (X : Type 0) (x : X) (a c : K) → Walks m b a c (went X x) → IsOpen m b a → b.honest c → Ends m b a c (b.content m a) (λ t. ⊥)
  ends_still X x a c w it h =
      let on = goes_open X x a c w it h in
      record { left = λ t may. inl (it.alone t (w.left it.sound h t may)); again = on.again; shown = λ o. (on, w.same it.sound on.shows); goes = inl (on, w.same it.sound on.shows) }

  -- and where it ended by a fault, it is open or the store told of a fault
  pub ends_fault : (X : Type 0) (f : PaperFault) (a c : K) → Walks m b a c (stopped X f) → IsOpen m b a → b.honest c → Ends m b a c (b.content m a) (λ t. ⊥)
  ends_fault X f a c w it h = record {
    left = λ t may. inl (it.alone t (w.left it.sound h t may));
    again = w.again it.sound h it.shows it.again;
    shown = λ o. (still X (stopped X f) a c w it h o, w.same it.sound o);
    goes = elim (w.shuts h it.shows) [
      | inl o ↦ inl (still X (stopped X f) a c w it h o, w.same it.sound o)
      | inr rises ↦ inr rises
    ];
  }

  -- a writer's fault is none of the keeper
  pub breaks_off : (X Z : Type 0) (x : X) (a c : K) → Walks m b a c (went X x) → Walks m b a c (stopped Z Write)
  breaks_off X Z x a c w = record { count = w.count; told = w.told; fair = w.fair; same_map = w.same_map; shown = w.shown; sound = w.sound; same = w.same; firm = w.firm; stays_open = w.stays_open; shuts = w.shuts; failed = λ s h o bad. absurd (cc); left = w.left; again = w.again }

  -- nor are more papers than a game may have
  pub damages : (X : Type 0) (x : X) (a c : K) → Walks m b a c (went X x) → Walks m b a c (stopped X (Keep Damaged))
  damages X x a c w = record {
    count = w.count;
    told = w.told;
    fair = w.fair;
    same_map = w.same_map;
    shown = w.shown;
    sound = w.sound;
    same = w.same;
    firm = λ s h. tt;
    stays_open = λ s h o. tt;
    shuts = w.shuts;
    failed = λ s h o bad. absurd (cc);
    left = w.left;
    again = w.again;
  }

  -- papers that are written, after such a walk
  module _ (X : Type 0) (game : List ℕ) (Out : X → Option Game → Type 0) (before after : Option (List ℕ)) (a d : K) where
    -- all of them
    pub whole : (x : X) → Walks m b a d (went X x) → (IsOpen m b a → IsOpen m b d → Out x (game_at game (b.content m a)))
        → WritesPapers m b game a d Out before after (went X x)
    whole x w out = record {
      goes = λ it h. let on = goes_open X x a d w it h in (on, w.same it.sound on.shows, out it on);
      ends = λ it h. tt;
      damaged = λ it h bad. absurd (cc);
      failed = λ it h bad. absurd (cc);
      count = w.count;
      fair = w.fair;
      same_map = w.same_map;
    }

    -- or up to a fault
    pub broken : (f : PaperFault) → Walks m b a d (stopped X f) → (IsOpen m b a → b.honest d → AreBegun (game_at game (b.content m a)) before after)
        → (IsOpen m b a → b.honest d → f ≡ Keep Damaged → most_papers < length (papers_of (game_at game (b.content m a))))
        → WritesPapers m b game a d Out before after (stopped X f)
    broken f w begun many = record {
      goes = λ it h. tt;
      ends = λ it h. record { begun = begun it h; ends = ends_fault X f a d w it h };
      damaged = λ it h bad. many it h (cc);
      failed = λ it h bad. w.failed it.sound h it.shows bad;
      count = w.count;
      fair = w.fair;
      same_map = w.same_map;
    }

    -- they are written from the keeper that a look left as it was
    pub after_look : (Y : Type 0) (y : Y) (c : K) → Walks m b a c (went Y y) → (r : Result X PaperFault) → WritesPapers m b game c d Out before after r
        → WritesPapers m b game a d Out before after r
    after_look Y y c w r it = record {
      goes = λ was_open h. subst (λ (s : State). IfOk r (λ x. IsOpen m b d × (b.content m d ≡ s) × Out x (game_at game s))) (same was_open h) (it.goes (on was_open h) h);
      ends = λ was_open h. on_err_weaker r (from (same was_open h)) (it.ends (on was_open h) h);
      damaged = λ was_open h bad. subst (λ (s : State). most_papers < length (papers_of (game_at game s))) (same was_open h) (it.damaged (on was_open h) h bad);
      failed = λ was_open h bad. omega (arith, it.failed (on was_open h) h bad, w.told);
      count = it.count ∙ ap (faults_told r) w.count;
      fair = λ h. w.fair (it.fair h);
      same_map = it.same_map ∙ w.same_map;
    }
      where
        on : IsOpen m b a → b.honest d → IsOpen m b c
        on was_open h = goes_open Y y a c w was_open (it.fair h)

        same : (was_open : IsOpen m b a) (h : b.honest d) → b.content m c ≡ b.content m a
        same was_open h = w.same was_open.sound (on was_open h).shows

        from : b.content m c ≡ b.content m a → BreaksOff m b game c d before after → BreaksOff m b game a d before after
        from is at = record {
          begun = subst (λ (s : State). AreBegun (game_at game s) before after) is at.begun;
          ends = record {
            left = λ t may. subst (λ (s : State). (t ≡ s) ⊎ ⊥) is (at.ends.left t may);
            again = at.ends.again;
            shown = λ o. subst (λ (s : State). IsOpen m b d × (b.content m d ≡ s)) is (at.ends.shown o);
            goes = elim at.ends.goes [
              | inl goes ↦ inl (goes.0, goes.1 ∙ is)
              | inr rises ↦ inr (omega (arith, rises, w.told))
            ];
          };
        }
