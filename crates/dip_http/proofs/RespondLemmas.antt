-- How a request is answered over a keeper, by what the keeper's calls are.
use Rattle.std.proofs.Common.{◌≡◌, inl, inr, ℕ, Bool, List, Option, None, Result, Ok, Err, refl, sym, ap, subst}
use Rattle.std.specs.Prelude.{IfErr, IsErrOf, OnOk}
use Rattle.dip_map.specs.Charts.{Chart}
use Rattle.dip_desk_keeper.specs.Keeping.{Book, Looks, Steps}
use Rattle.dip_desk_machine.specs.Lawful.{IsLawful}
use Rattle.dip_desk_state.specs.State.{State}
use Rattle.dip_desk_state.specs.declared.faults.KeepFault.{KeepFault}
use Rattle.dip_desk_state.specs.declared.faults.KeepFault.TheVariants.{Damaged}
use Rattle.dip_http_messages.specs.Answers.{IsPart, refusal}
use Rattle.dip_http.specs.Ends.{Responds, Tells}
use Rattle.dip_http.specs.declared.faults.HttpFault.{HttpFault}
use Rattle.dip_http.specs.declared.faults.HttpFault.TheVariants.{Read, Write, Memory, Keep}
use Rattle.dip_http.proofs.OpenLemmas.{IsKept, keeps_unasked, left_weaker, look_answered, look_unanswered, none_unkept, step_answered, step_unanswered, written_kept}

-- an answer that is no fault of the keeper tells of nothing Damaged
no_damage : (r : Result (Unit {0}) HttpFault) → IsKept r → IsErrOf r (Keep Damaged) → ⊥
no_damage (Ok x) is bad = absurd (cc)
no_damage (Err Read) is bad = absurd (cc)
no_damage (Err Write) is bad = absurd (cc)
no_damage (Err Memory) is bad = absurd (cc)
no_damage (Err (Keep f)) is bad = absurd is

-- a fault of the writer tells nothing
writing_tells : {K : Type 0} (r : Result (Unit {0}) HttpFault) (quiet : Bool) (old new : K) (a b : Option (List ℕ)) → IfErr r (λ f. f ≡ Write)
    → IfErr r (λ f. Tells f quiet old new a b)
writing_tells (Ok x) quiet old new a b is = tt
writing_tells (Err f) quiet old new a b is = subst (λ (h : HttpFault). Tells h quiet old new a b) (sym is) tt

module _ {K : Type 0} (m : Chart) (b : Book K) (quiet : Bool) (before after : Option (List ℕ)) where
  -- the same answer under other words
  pub responds_as : (old new : K) (Done Done2 : State → State → Type 0) (Part Part2 : HttpFault → State → State → Type 0) (Takes Takes2 : State → State → Type 0)
      (r : Result (Unit {0}) HttpFault) → ((s t : State) → OnOk r (Done s t) → OnOk r (Done2 s t))
      → ((s t : State) → IfErr r (λ f. Part f s t) → IfErr r (λ f. Part2 f s t)) → ((s t : State) → Takes s t → Takes2 s t)
      → Responds m b quiet old new before after Done Part Takes r → Responds m b quiet old new before after Done2 Part2 Takes2 r
  responds_as old new Done Done2 Part Part2 Takes Takes2 r done part takes h = record {
    keeps = h.keeps;
    tells = h.tells;
    left = λ sound honest shows. left_weaker m b old new r _ _ (λ s is. takes (b.content m old) s is) (h.left sound honest shows);
    ok = λ sound shows. done (b.content m old) (b.content m new) (h.ok sound shows);
    err = λ sound shows. part (b.content m old) (b.content m new) (h.err sound shows);
    lawful = h.lawful;
    never = h.never;
  }

  module _ (Done : State → State → Type 0) (Part : HttpFault → State → State → Type 0) (Takes : State → State → Type 0) where
    -- the keeper wasn't asked
    pub responds_unasked : (k : K) (r : Result (Unit {0}) HttpFault) → IsKept r → IfErr r (λ f. Tells f quiet k k before after)
        → ((s : State) → OnOk r (Done s s)) → ((s : State) → IfErr r (λ f. Part f s s)) → Responds m b quiet k k before after Done Part Takes r
    responds_unasked k r kept tells done part = record {
      keeps = keeps_unasked m b k r kept;
      tells = tells;
      left = λ sound honest shows. none_unkept r _ kept;
      ok = λ sound shows. done (b.content m k);
      err = λ sound shows. part (b.content m k);
      lawful = λ sound shows lawful. lawful;
      never = λ sound honest shows lawful bad. no_damage r kept bad;
    }

    -- and a text was written
    pub responds_written : (k : K) (r : Result (Unit {0}) HttpFault) → IfErr r (λ f. f ≡ Write)
        → ((s : State) → OnOk r (Done s s)) → ((s : State) → IfErr r (λ f. Part f s s)) → Responds m b quiet k k before after Done Part Takes r
    responds_written k r fault done part = responds_unasked k r (written_kept r fault) (writing_tells r quiet k k before after fault) done part

    module _ (old new : K) where
      -- the keeper was looked at
      pub responds_looked : {Y : Type 0} (Value : Y → Type 0) (Damage : Type 0) (y : Y) (r : Result (Unit {0}) HttpFault) → Looks m b old new Value Damage (Ok y) → IsKept r
          → IfErr r (λ f. Tells f quiet old new before after) → (b.sound m old → b.shows new → OnOk r (Done (b.content m old) (b.content m new)))
          → (b.sound m old → b.shows new → IfErr r (λ f. Part f (b.content m old) (b.content m new))) → Responds m b quiet old new before after Done Part Takes r
      responds_looked Value Damage y r look kept tells done part = record {
        keeps = look_answered m b old new Value Damage y r kept look;
        tells = tells;
        left = λ sound honest shows. none_unkept r _ kept;
        ok = done;
        err = part;
        lawful = λ sound shows lawful. subst (λ (s : State). IsLawful m s) (sym (look.same sound shows)) lawful;
        never = λ sound honest shows lawful bad. no_damage r kept bad;
      }

      -- and a text was written
      pub responds_shown : {Y : Type 0} (Value : Y → Type 0) (Damage : Type 0) (y : Y) (r : Result (Unit {0}) HttpFault) → Looks m b old new Value Damage (Ok y)
          → IfErr r (λ f. f ≡ Write) → (b.sound m old → b.shows new → OnOk r (Done (b.content m old) (b.content m new)))
          → (b.sound m old → b.shows new → IfErr r (λ f. Part f (b.content m old) (b.content m new))) → Responds m b quiet old new before after Done Part Takes r
      responds_shown Value Damage y r look fault done part =
          responds_looked Value Damage y r look (written_kept r fault) (writing_tells r quiet old new before after fault) done part

      -- or gave no answer
      pub responds_unlooked : {Y : Type 0} (Value : Y → Type 0) (f : KeepFault) (h : HttpFault) → h ≡ Keep f → Looks m b old new Value ⊥ (Err f)
          → IsPart before after (refusal 503 None quiet) → (b.sound m old → b.shows new → Part (Keep f) (b.content m old) (b.content m new))
          → Responds m b quiet old new before after Done Part Takes (Err h)
      responds_unlooked Value f h is look told part = subst (λ (g : HttpFault). Responds m b quiet old new before after Done Part Takes (Err g)) (sym is) record {
        keeps = look_unanswered m b old new Value ⊥ f (Keep f) refl look;
        tells = told;
        left = λ sound honest shows s may. inl (look.left sound honest s may);
        ok = λ sound shows. tt;
        err = part;
        lawful = λ sound shows lawful. subst (λ (s : State). IsLawful m s) (sym (look.same sound shows)) lawful;
        never = λ sound honest shows lawful bad. let same : f ≡ Damaged = cc in look.damaged sound honest shows (ap (λ (e : KeepFault). Err e) same);
      }

      module _ {Y R : Type 0} (say : Y → R) (Step : State → R → State → Type 0) (Damage : State → Type 0) where
        -- a letter was taken, and its reply written
        pub responds_taken : (y : Y) (r : Result (Unit {0}) HttpFault) → Steps m b old new say Step Damage (Ok y) → IfErr r (λ f. f ≡ Write)
            → (b.sound m old → b.shows new → OnOk r (Done (b.content m old) (b.content m new)))
            → (b.sound m old → b.shows new → IfErr r (λ f. Part f (b.content m old) (b.content m new)))
            → (b.sound m old → b.shows new → IsLawful m (b.content m old) → IsLawful m (b.content m new)) → Responds m b quiet old new before after Done Part Takes r
        responds_taken y r step fault done part lawful = record {
          keeps = step_answered m b old new say Step Damage y r (written_kept r fault) step;
          tells = writing_tells r quiet old new before after fault;
          left = λ sound honest shows. none_unkept r _ (written_kept r fault);
          ok = done;
          err = part;
          lawful = lawful;
          never = λ sound honest shows lawful bad. no_damage r (written_kept r fault) bad;
        }

        -- or the keeper gave no answer
        pub responds_untaken : (f : KeepFault) (h : HttpFault) → h ≡ Keep f → Steps m b old new say Step Damage (Err f) → IsPart before after (refusal 503 None quiet)
            → (b.sound m old → b.shows new → Part (Keep f) (b.content m old) (b.content m new)) → ((s : State) (x : R) → Step (b.content m old) x s → Takes (b.content m old) s)
            → (IsLawful m (b.content m old) → Damage (b.content m old) → ⊥) → Responds m b quiet old new before after Done Part Takes (Err h)
        responds_untaken f h is step told part takes sane = subst (λ (g : HttpFault). Responds m b quiet old new before after Done Part Takes (Err g)) (sym is) record {
          keeps = step_unanswered m b old new say Step Damage f (Keep f) refl step;
          tells = told;
          left = λ sound honest shows s may. elim (step.left sound honest shows s may) [
            | inl was ↦ inl was
            | inr more ↦ inr (takes s more.0 more.1)
          ];
          ok = λ sound shows. tt;
          err = part;
          lawful = λ sound shows lawful. subst (λ (s : State). IsLawful m s) (sym (step.undone sound shows)) lawful;
          never = λ sound honest shows lawful bad.
              let same : f ≡ Damaged = cc in
              sane lawful (step.damaged sound honest shows (ap (λ (e : KeepFault). Err e) same));
        }
