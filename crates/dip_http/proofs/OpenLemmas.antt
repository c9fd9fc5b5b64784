-- What a connection leaves of a keeper, by what the keeper's calls leave.
use Rattle.std.proofs.Common.{◌≡◌, ◌⊎◌, inl, inr, ℕ, Bool, List, Option, Result, Ok, Err, refl, sym, ap, subst, ◌∙◌, arith}
use Rattle.std.specs.Prelude.{IfErr, IsErrOf, OnOk}
use Rattle.dip_map.specs.Charts.{Chart}
use Rattle.dip_desk_keeper.specs.Keeping.{Book, IsOpen, Looks, Settles, Steps, WasTold}
use Rattle.dip_desk_keeper.specs.Keeping as desk
use Rattle.dip_desk_keeper.proofs.Ending.{ends_open}
use Rattle.dip_desk_keeper.proofs.Keepings.{look_alone}
use Rattle.dip_desk_state.specs.State.{State}
use Rattle.dip_desk_state.specs.declared.faults.KeepFault.{KeepFault}
use Rattle.dip_desk_state.specs.declared.faults.KeepFault.TheVariants.{Disk}
use Rattle.dip_http.specs.Ends.{Answered, EndsAt, EndsBy, EndsQuietly, Keeps, MayTake, TakesPost, Tells}
use Rattle.dip_http.specs.Faults.{OnKept, OnUnkept, faults_after_answer}
use Rattle.dip_http.specs.declared.faults.HttpFault.{HttpFault}
use Rattle.dip_http.specs.declared.faults.HttpFault.TheVariants.{Read, Write, Memory, Keep}

-- the keeper answered
abbrev pub IsKept : {X : Type 0} → Result X HttpFault → Type 0
IsKept (Err (Keep fault)) = ⊥
IsKept _ = Unit {0}

-- a fault of the writer is none of the keeper
pub written_kept : {X : Type 0} (r : Result X HttpFault) → IfErr r (λ f. f ≡ Write) → IsKept r
written_kept (Ok x) is = tt
written_kept {X} (Err f) is = subst (λ (h : HttpFault). IsKept {X = X} (Err h)) (sym is) tt

on_kept : {X : Type 0} (r : Result X HttpFault) (P : Type 0) → P → OnKept r P
on_kept (Ok x) P p = p
on_kept (Err Read) P p = p
on_kept (Err Write) P p = p
on_kept (Err Memory) P p = p
on_kept (Err (Keep f)) P p = tt

if_kept : {X : Type 0} (r : Result X HttpFault) (P : Type 0) → IsKept r → OnKept r P → P
if_kept (Ok x) P is p = p
if_kept (Err Read) P is p = p
if_kept (Err Write) P is p = p
if_kept (Err Memory) P is p = p
if_kept (Err (Keep f)) P is p = absurd is

-- and so nothing is said of one that didn't
pub none_unkept : {X : Type 0} (r : Result X HttpFault) (P : Type 0) → IsKept r → OnUnkept r P
none_unkept (Ok x) P is = tt
none_unkept (Err Read) P is = tt
none_unkept (Err Write) P is = tt
none_unkept (Err Memory) P is = tt
none_unkept (Err (Keep f)) P is = absurd is

-- and what is said of all is said of one that didn't
pub on_unkept : {X : Type 0} (r : Result X HttpFault) (P : Type 0) → P → OnUnkept r P
on_unkept (Ok x) P p = tt
on_unkept (Err Read) P p = tt
on_unkept (Err Write) P p = tt
on_unkept (Err Memory) P p = tt
on_unkept (Err (Keep f)) P p = p

unkept_weaker : {X : Type 0} (r : Result X HttpFault) (P Q : Type 0) → (P → Q) → OnUnkept r P → OnUnkept r Q
unkept_weaker (Ok x) P Q f p = tt
unkept_weaker (Err Read) P Q f p = tt
unkept_weaker (Err Write) P Q f p = tt
unkept_weaker (Err Memory) P Q f p = tt
unkept_weaker (Err (Keep h)) P Q f p = f p

-- a fault of the writer alone leaves the keeper unasked, and tells nothing more
pub written_tells : {K X : Type 0} (r : Result X HttpFault) (quiet : Bool) (k : K) (a b : Option (List ℕ)) → IfErr r (λ f. f ≡ Write) → IfErr r (λ f. Tells f quiet k k a b)
written_tells (Ok x) quiet k a b is = tt
written_tells (Err f) quiet k a b is = subst (λ (h : HttpFault). Tells h quiet k k a b) (sym is) tt

pub written_quietly : {K X : Type 0} (r : Result X HttpFault) (known : Option (List ℕ)) (k : K) (a b : Option (List ℕ)) → IfErr r (λ f. f ≡ Write) → IfErr r (λ f. EndsQuietly f known k k a b)
written_quietly (Ok x) known k a b is = tt
written_quietly (Err f) known k a b is = subst (λ (h : HttpFault). EndsQuietly h known k k a b) (sym is) tt

same_count : {X : Type 0} (r : Result X HttpFault) (n : ℕ) → IsKept r → n ≡ faults_after_answer r n
same_count (Ok x) n is = refl
same_count (Err Read) n is = refl
same_count (Err Write) n is = refl
same_count (Err Memory) n is = refl
same_count (Err (Keep f)) n is = absurd is

-- an answer that is no fault of the keeper tells of no disk
no_disk : {X : Type 0} (r : Result X HttpFault) → IsKept r → IsErrOf r (Keep Disk) → ⊥
no_disk (Ok x) is bad = absurd (cc)
no_disk (Err Read) is bad = absurd (cc)
no_disk (Err Write) is bad = absurd (cc)
no_disk (Err Memory) is bad = absurd (cc)
no_disk (Err (Keep f)) is bad = absurd is

module _ {K : Type 0} (m : Chart) (b : Book K) where
  -- a keeper that isn't asked
  pub keeps_unasked : {X : Type 0} (k : K) (r : Result X HttpFault) → IsKept r → Keeps m b k k r
  keeps_unasked k r is = record {
    count = same_count r (b.faults k) is;
    told = omega arith;
    fair = λ honest. honest;
    same_map = refl;
    shown = λ shows. shows;
    sound = λ sound shows. sound;
    firm = λ sound honest. on_kept r (b.sound m k) sound;
    stays_open = λ sound honest shows. on_kept r (b.shows k) shows;
    shuts = λ honest shows. inl shows;
    failed = λ sound honest shows bad. absurd (no_disk r is bad);
    settles = λ sound honest shows alone. alone;
    again = λ sound honest shows takes. takes;
  }

  -- a fault before the keeper is asked
  pub read_ends : (known before : Option (List ℕ)) (k : K) → IsOpen m b k → EndsAt m b Read known k k before before
  read_ends known before k it = record { state = b.content m k; by = (refl, refl); ends = ends_open m b k k (MayTake m Read known (b.content m k)) it }

  pub memory_ends : (known before : Option (List ℕ)) (k : K) → IsOpen m b k → EndsAt m b Memory known k k before before
  memory_ends known before k it = record { state = b.content m k; by = (refl, refl); ends = ends_open m b k k (MayTake m Memory known (b.content m k)) it }

  module _ (old new : K) where
    -- a call that the keeper answered, whatever is answered then
    answered : {X Y : Type 0} (y : Y) (r : Result X HttpFault) → IsKept r → desk.Keeps m b old new (Ok y) → Settles m b old new → Keeps m b old new r
    answered y r is k settles = record {
      count = k.count ∙ same_count r (b.faults old) is;
      told = k.told;
      fair = k.fair;
      same_map = k.same_map;
      shown = k.shown;
      sound = k.sound;
      firm = λ sound honest. on_kept r (b.sound m new) (k.firm sound honest);
      stays_open = λ sound honest shows. on_kept r (b.shows new) (k.stays_open sound honest shows);
      shuts = k.shuts;
      failed = λ sound honest shows bad. absurd (no_disk r is bad);
      settles = settles;
      again = k.again;
    }

    -- and one that it gave no answer to
    unanswered : {X Y : Type 0} (f : KeepFault) (h : HttpFault) → h ≡ Keep f → desk.Keeps {X = Y} m b old new (Err f)
        → (b.sound m old → b.honest new → b.shows old → f ≡ Disk → WasTold b old new) → Settles m b old new → Keeps {X = X} m b old new (Err h)
    unanswered {X} f h is k told settles = subst (λ (g : HttpFault). Keeps {X = X} m b old new (Err g)) (sym is) record {
      count = k.count;
      told = k.told;
      fair = k.fair;
      same_map = k.same_map;
      shown = k.shown;
      sound = k.sound;
      firm = λ sound honest. tt;
      stays_open = λ sound honest shows. tt;
      shuts = k.shuts;
      failed = λ sound honest shows bad. let same : f ≡ Disk = cc in told sound honest shows same;
      settles = settles;
      again = k.again;
    }

    -- what more a crash may leave is named otherwise
    pub left_weaker : {X : Type 0} (r : Result X HttpFault) (P Q : State → Type 0) → ((s : State) → P s → Q s)
        → OnUnkept r ((s : State) → b.may_leave m new s → b.may_leave m old s ⊎ P s)
        → OnUnkept r ((s : State) → b.may_leave m new s → b.may_leave m old s ⊎ Q s)
    left_weaker r P Q turn h = unkept_weaker r ((s : State) → b.may_leave m new s → b.may_leave m old s ⊎ P s) ((s : State) → b.may_leave m new s → b.may_leave m old s ⊎ Q s)
        (λ left s may. elim (left s may) [
          | inl was ↦ inl was
          | inr more ↦ inr (turn s more)
        ]) h

    pub look_answered : {X Y : Type 0} (Value : Y → Type 0) (Damage : Type 0) (y : Y) (r : Result X HttpFault) → IsKept r → Looks m b old new Value Damage (Ok y) → Keeps m b old new r
    look_answered Value Damage y r is look = answered y r is look.keeps (look_alone m b old new Value Damage (Ok y) look)

    pub look_unanswered : {X Y : Type 0} (Value : Y → Type 0) (Damage : Type 0) (f : KeepFault) (h : HttpFault) → h ≡ Keep f → Looks m b old new Value Damage (Err f) → Keeps {X = X} m b old new (Err h)
    look_unanswered Value Damage f h is look = unanswered f h is look.keeps (λ sound honest shows same. look.failed sound honest shows (ap (λ (f : KeepFault). Err f) same)) (look_alone m b old new Value Damage (Err f) look)

    pub step_answered : {X Y R : Type 0} (say : Y → R) (Step : State → R → State → Type 0) (Damage : State → Type 0) (y : Y) (r : Result X HttpFault) → IsKept r
        → Steps m b old new say Step Damage (Ok y) → Keeps m b old new r
    step_answered say Step Damage y r is step = answered y r is step.keeps step.settles

    pub step_unanswered : {X Y R : Type 0} (say : Y → R) (Step : State → R → State → Type 0) (Damage : State → Type 0) (f : KeepFault) (h : HttpFault) → h ≡ Keep f
        → Steps m b old new say Step Damage (Err f) → Keeps {X = X} m b old new (Err h)
    step_unanswered say Step Damage f h is step = unanswered f h is step.keeps (λ sound honest shows same. step.failed sound honest shows (ap (λ (f : KeepFault). Err f) same)) step.settles

    -- what still shows is open
    open_still : {X : Type 0} (r : Result X HttpFault) → Keeps m b old new r → IsOpen m b old → b.honest new → b.shows new → IsOpen m b new
    open_still r k it honest shows = record { sound = k.sound it.sound shows; shows = shows; alone = k.settles it.sound honest shows it.alone; again = k.again it.sound honest it.shows it.again }

    -- a keeper that was open and answered is open
    open_answered : {X : Type 0} (r : Result X HttpFault) → IsKept r → Keeps m b old new r → IsOpen m b old → b.honest new → IsOpen m b new
    open_answered r is k it honest = open_still r k it honest (if_kept r (b.shows new) is (k.stays_open it.sound honest it.shows))

    module _ (known before after : Option (List ℕ)) where
      -- an answer from a keeper that was open
      pub goes_open : (r : Result (Unit {0}) HttpFault) → Keeps m b old new r
          → (b.sound m old → b.shows new → OnOk r (Answered m known (b.content m old) (b.content m new) before after))
          → IsOpen m b old → b.honest new → OnOk r (IsOpen m b new × Answered m known (b.content m old) (b.content m new) before after)
      goes_open (Ok u) k whole it honest = let on = open_answered (Ok u) tt k it honest in (on, whole it.sound on.shows)
      goes_open (Err f) k whole it honest = tt

      -- a fault after which the keeper answered
      at_answer : (f : HttpFault) → IsKept {X = Unit {0}} (Err f) → Keeps {X = Unit {0}} m b old new (Err f)
          → (b.sound m old → b.shows new → EndsBy m f known (b.content m old) (b.content m new) before after)
          → IsOpen m b old → b.honest new → EndsAt m b f known old new before after
      at_answer f is k by it honest =
          let on = open_answered (Err f) is k it honest in
          record { state = b.content m new; by = by it.sound on.shows; ends = ends_open m b old new (MayTake m f known (b.content m old)) on }

      -- the end by any fault of a keeper that was open
      at_fault : (f : HttpFault) → Keeps {X = Unit {0}} m b old new (Err f)
          → (b.sound m old → b.shows new → EndsBy m f known (b.content m old) (b.content m new) before after)
          → EndsQuietly f known old new before after
          → (b.sound m old → b.honest new → b.shows old → OnUnkept {X = Unit {0}} (Err f) ((s : State) → b.may_leave m new s → b.may_leave m old s ⊎ TakesPost m known (b.content m old) s))
          → IsOpen m b old → b.honest new → EndsAt m b f known old new before after
      at_fault Read k by quiet left it honest = at_answer Read tt k by it honest
      at_fault Write k by quiet left it honest = at_answer Write tt k by it honest
      at_fault Memory k by quiet left it honest = at_answer Memory tt k by it honest
      at_fault (Keep f) k by quiet left it honest = record {
        state = b.content m old;
        by = (refl, quiet);
        ends = record {
          left = λ t may. elim (left it.sound honest it.shows t may) [
            | inl was ↦ inl (it.alone t was)
            | inr more ↦ inr more
          ];
          again = k.again it.sound honest it.shows it.again;
          shown = λ shows. (open_still {X = Unit {0}} (Err (Keep f)) k it honest shows, (by it.sound shows).0);
          goes = elim (k.shuts honest it.shows) [
            | inl shows ↦ inl (open_still {X = Unit {0}} (Err (Keep f)) k it honest shows, (by it.sound shows).0)
            | inr rises ↦ inr rises
          ];
        };
      }

      pub ends_fault : (r : Result (Unit {0}) HttpFault) → Keeps m b old new r
          → (b.sound m old → b.shows new → IfErr r (λ f. EndsBy m f known (b.content m old) (b.content m new) before after))
          → IfErr r (λ f. EndsQuietly f known old new before after)
          → (b.sound m old → b.honest new → b.shows old → OnUnkept r ((s : State) → b.may_leave m new s → b.may_leave m old s ⊎ TakesPost m known (b.content m old) s))
          → IsOpen m b old → b.honest new → IfErr r (λ f. EndsAt m b f known old new before after)
      ends_fault (Ok u) k by quiet left it honest = tt
      ends_fault (Err f) k by quiet left it honest = at_fault f k by quiet left it honest
