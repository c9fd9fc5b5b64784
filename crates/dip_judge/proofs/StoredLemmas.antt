-- A store that a keeper leaves.
use Rattle.std.proofs.Common.{◌≡◌, ◌≤◌, ◌⊎◌, Err, inl, inr, ℕ, List, Option, Some, None, IsSome, refl, sym, subst, ◌∙◌, arith}
use Rattle.sqlite.specs.Effect.{Database}
use Rattle.sqlite.specs.Store.{Ghosts}
use Rattle.sqlite.specs.Held.{Held, state}
use Rattle.dip_map.specs.Charts.{Chart}
use Rattle.dip_desk_state.specs.State.{Game, State, game_at}
use Rattle.std.specs.Io.KnownBytes.{Appends}
use Rattle.dip_desk_keeper.specs.Papers.{AreBegun, AreOut, BreaksOff, papers_text}
use Rattle.dip_desk_keeper.specs.declared.paper_faults.PaperFault.{PaperFault}
use Rattle.dip_judge_runs.specs.RunFaults.{StopsBy}
use Rattle.dip_judge_runs.specs.Runs.{AnswersAll, IsReadWhole, IsUntouched, Stops, StopsAt, TakesNext}
use Rattle.dip_judge_runs.specs.declared.run.RunFault.{RunFault}
use Rattle.dip_judge_runs.specs.declared.run.RunFault.TheVariants.{Read, TooLong, Write, Memory, Keep}
use Rattle.dip_desk_keeper.specs.Keeping.{Ends, IsOpen, WasTold}
use Rattle.dip_desk_keeper.proofs.Ending.{ends_open}
use Rattle.dip_store.specs.Causes.{has_faulted}
use Rattle.dip_store.specs.Opening.{EndsSo, HasOnly, Holds, IsSameOrRenewed, IsShutBy, IsUnmadeBy, MakesStore, Opens, OpensStore, StaysShut, StoreEnds}
use Rattle.dip_store.specs.StoreFault.{StoreFault}
use Rattle.dip_store.specs.Stored.{IsStoreOf, book}
use Rattle.dip_store.proofs.Opened.{ends_held, held_by}
use Rattle.dip_store.specs.declared.keeper.SqlKeeper.{SqlKeeper}
use Rattle.dip_judge.specs.Stores.{AnswersFrom, BlamesDisk, IsOfDisk, ReadsUpTo, Reports, ServesFrom, ServesUpTo, StopsFrom, StopsIn, StopsReport, StopsServing}
use Rattle.dip_http.specs.Serving.{Serves, ServesEach, ServesTo}
use Rattle.dip_judge_system.specs.declared.failures.Failure.{Failure}
use Rattle.dip_judge_system.specs.declared.failures.Failure.TheVariants.{Checking, Listen, Map, NoGame, NoMemory, Negative, Papers, Run, Serving, Store, Usage}

-- an opened keeper is open
pub is_open : {S : Type 0} (g : Ghosts S) (m : Chart) (s : State) (k : SqlKeeper S) → Opens g m s k → IsOpen m (book g) k
is_open g m s k opened = record { sound = opened.sound; shows = opened.shows; alone = λ left may. opened.only left may ∙ sym opened.says; again = opened.again }

-- what a keeper that opened keeps, its store holds
pub holds : {S : Type 0} (g : Ghosts S) (m : Chart) (s : State) (k : SqlKeeper S) → Opens g m s k → Holds g m s k.conn
holds g m s k opened = subst (λ s. Holds g m s k.conn) opened.says (held_by g m k (is_open g m s k opened))

module _ {S : Type 0} (g : Ghosts S) (m : Chart) (old : State) (k kept : SqlKeeper S) (known left before after : Option (List ℕ)) (opened : Opens g m old k) where
  -- the run's answers, from the state that was opened on
  pub answers_from : (input : List ℕ) × IsReadWhole known left input × AnswersAll m input ((book g).content m k) ((book g).content m kept) before after
      → IsOpen m (book g) kept → AnswersFrom g m old kept.conn known left before after
  answers_from run open_still =
      ((book g).content m kept, run.0, run.1, subst (λ s. AnswersAll m run.0 s ((book g).content m kept) before after) opened.says run.2, held_by g m kept open_still)

  module _ (Was : Database → Type 0) (store : Held S) (counted : (state g store).faults ≤ (state g k.conn).faults) (fault : RunFault) where
    abbrev Fault : Type 0
    Fault = has_faulted g store kept.conn

    stopped : (input : List ℕ) → StopsAt m (book g) fault input k kept before after → StopsIn g m Fault fault input old kept.conn before after
    stopped input at =
        let ends = ends_held g m store k kept at.state _ counted at.ends in
        stopped_as at.state at.stops ends
      where
        stopped_as : (t : State) (stops : Stops m fault input ((book g).content m k) t before after) → StoreEnds g m Fault kept.conn t (TakesNext m stops.rest t)
            → StopsIn g m Fault fault input old kept.conn before after
        stopped_as t stops ends = subst (λ s. StopsIn g m Fault fault input s kept.conn before after) opened.says (record { state = t; stops = stops; ends = ends })

    -- a run that stopped
    pub stops_from : BlamesDisk Fault (Run fault) → IsUntouched before after k kept ⊎ ((input : List ℕ) × IsReadWhole known left input × StopsAt m (book g) fault input k kept before after)
        → StopsFrom g m Fault Was old kept.conn known left before after (Run fault)
    stops_from blames (inl nothing) = (
      blames,
      inl (
        nothing.written,
        ends_held g m store k kept old (λ _. ⊥) counted
            (subst (λ (k_end : SqlKeeper S). Ends m (book g) k k_end old (λ _. ⊥)) (sym nothing.kept) (subst (λ s. Ends m (book g) k k s (λ _. ⊥)) opened.says (ends_open m (book g) k k (λ _. ⊥) (is_open g m old k opened)))),
      ),
    )
    stops_from blames (inr run) = (blames, inr (run.0, run.1, stopped run.0 run.2))

-- why a store isn't opened
pub shut_by : {S : Type 0} (g : Ghosts S) (m : Chart) (text : List ℕ) (store : Held S) (fault : StoreFault) (new : Held S)
    → OpensStore g m text store (Err (fault, new)) → IsShutBy g m text store new fault
shut_by g m text store fault new it honest shows = record {
  refused = it.refused honest;
  own = it.own honest;
  known = λ is. it.known honest is;
  caused = λ is. elim (it.caused honest shows is) [
    | inl under ↦ inl (inl under)
    | inr (inl told) ↦ inl (inr told)
    | inr (inr left) ↦ inr left
  ];
}

-- why no desk is made in it
pub unmade_by : {S : Type 0} (g : Ghosts S) (m : Chart) (text digest : List ℕ) (store : Held S) (fault : StoreFault) (new : Held S)
    → MakesStore g m text digest store (Err (fault, new)) → IsUnmadeBy g store new fault
unmade_by g m text digest store fault new it = record { taken = it.taken; refused = it.refused; caused = it.caused }

-- by another name of the fault, and of what was there
module _ {S : Type 0} (g : Ghosts S) (m : Chart) (F G : Type 0) (turn : F → G) (new : Held S) where
  has_as : (Such So : Database → Type 0) → ((db : Database) → Such db → So db) → HasOnly g Such new → HasOnly g So new
  has_as Such So so it = record {
    shows = it.shows;
    idle = it.idle;
    now = so _ it.now;
    left = λ trees may. let at = it.left trees may in (at.0, at.1, so at.0 at.2);
  }

  ends_so_as : (Such So : Database → Type 0) (More : State → Type 0) → ((db : Database) → Such db → So db) → EndsSo g m F new Such More → EndsSo g m G new So More
  ends_so_as Such So More so it = record {
    left = λ trees may. elim (it.left trees may) [ inl at ↦ inl (at.0, at.1, so at.0 at.2) | inr more ↦ inr more ];
    shown = λ shows. has_as Such So so (it.shown shows);
    goes = elim it.goes [ inl has ↦ inl (has_as Such So so has) | inr fault ↦ inr (turn fault) ];
  }

  pub ends_as : (s : State) (More : State → Type 0) → StoreEnds g m F new s More → StoreEnds g m G new s More
  ends_as s More it = ends_so_as (IsStoreOf m s) (IsStoreOf m s) More (λ db such. such) it

  pub shut_as : (s : State) (Was Will : Database → Type 0) → ((db : Database) → Was db → Will db) → StaysShut g m F new s Was → StaysShut g m G new s Will
  shut_as s Was Will will it = ends_so_as (IsSameOrRenewed m s Was) (IsSameOrRenewed m s Will) (λ _. ⊥) so it
    where
      so : (db : Database) → IsSameOrRenewed m s Was db → IsSameOrRenewed m s Will db
      so db (inl was) = inl (will db was)
      so db (inr renewed) = inr (renewed.0, will renewed.0 renewed.1, renewed.2)

module _ {S : Type 0} (g : Ghosts S) (m : Chart) (F G : Type 0) (turn : F → G) (Was Will : Database → Type 0) (will : (db : Database) → Was db → Will db) (old : State) (new : Held S)
    (known left before after : Option (List ℕ)) where
  pub stops_as_of : (failure : Failure) → StopsFrom g m F Was old new known left before after failure → StopsFrom g m G Will old new known left before after failure
  stops_as_of (Store fault) it = (it.0, shut_as g m F G turn new old Was Will will it.1)
  stops_as_of (Run fault) (blames, inl it) = (λ bad. turn (blames bad), inl (it.0, ends_as g m F G turn new old _ it.1))
  stops_as_of (Run fault) (blames, inr it) = (λ bad. turn (blames bad), inr (it.0, it.1, record { state = it.2.state; stops = it.2.stops; ends = ends_as g m F G turn new it.2.state _ it.2.ends }))
  stops_as_of (Usage fault) it = absurd it
  stops_as_of (Map fault) it = absurd it
  stops_as_of NoMemory it = absurd it
  stops_as_of Listen it = absurd it
  stops_as_of (Serving fault) it = absurd it
  stops_as_of NoGame it = absurd it
  stops_as_of Negative it = absurd it
  stops_as_of (Checking fault) it = absurd it
  stops_as_of (Papers fault) it = absurd it

-- a fault of the disk that a keeper told of is one of its store
pub blamed : {S : Type 0} (g : Ghosts S) (store : Held S) (k kept : SqlKeeper S) (failure : Failure) → (state g store).faults ≤ (state g k.conn).faults
    → (IsOfDisk failure → WasTold (book g) k kept) → BlamesDisk (has_faulted g store kept.conn) failure
blamed g store k kept failure counted told bad = let rises = told bad in omega (arith, counted, rises)

-- more faults than before are some
pub some_fault : {S : Type 0} (g : Ghosts S) (old new : Held S) → has_faulted g old new → 1 ≤ (state g new).faults
some_fault g old new more = omega (arith, more)

untouched : {K : Type 0} (before after : Option (List ℕ)) (k kept : K) → IsUntouched before after k kept → IsUntouched before after (tt {0}) (tt {0})
untouched before after k kept nothing = record { written = nothing.written; kept = refl }

-- what is read up to a fault is told without the keeper
pub reads_up_to : {K : Type 0} (f : RunFault) (known left before after : Option (List ℕ)) (k kept : K) → StopsBy f known left before after k kept
    → ReadsUpTo known left before after (Run f)
reads_up_to Read known left before after k kept h = untouched before after k kept h
reads_up_to TooLong known left before after k kept h = (untouched before after k kept h.0, h.1)
reads_up_to Memory known left before after k kept (inl h) = inl (untouched before after k kept h)
reads_up_to Memory known left before after k kept (inr h) = inr h
reads_up_to Write known left before after k kept h = h
reads_up_to (Keep f) known left before after k kept h = h

-- what a walk through an open keeper leaves is as it was opened
pub holds_still : {S : Type 0} (g : Ghosts S) (m : Chart) (old : State) (k kept : SqlKeeper S) → Opens g m old k → IsOpen m (book g) kept
    → (book g).content m kept ≡ (book g).content m k → Holds g m old kept.conn
holds_still g m old k kept opened still same = subst (λ (s : State). Holds g m s kept.conn) (same ∙ opened.says) (held_by g m kept still)

-- a store whose keeper is open and as it was opened
pub ends_still : {S : Type 0} (g : Ghosts S) (m : Chart) (Fault : Type 0) (old : State) (new : Held S) (More : State → Type 0) → Holds g m old new → StoreEnds g m Fault new old More
ends_still g m _ old new More it = record { left = λ trees may. inl (it.left trees may); shown = λ shows. it; goes = inl it }

-- papers that a fault broke off
pub breaks_off : {S : Type 0} (g : Ghosts S) (m : Chart) (name : List ℕ) (Was : Database → Type 0) (store : Held S) (old : State) (k kept : SqlKeeper S) (fault : PaperFault) (before after : Option (List ℕ)) → Opens g m old k
    → (state g store).faults ≤ (state g k.conn).faults → BlamesDisk (has_faulted g store kept.conn) (Papers fault) → BreaksOff m (book g) name k kept before after
    → StopsReport g m (has_faulted g store kept.conn) Was name old kept.conn before after (Papers fault)
breaks_off g m name Was store old k kept fault before after opened counted blames it = (
  subst (λ (s : State). AreBegun (game_at name s) before after) opened.says it.begun,
  blames,
  ends_held g m store k kept old (λ _. ⊥) counted (subst (λ (s : State). Ends m (book g) k kept s (λ _. ⊥)) opened.says it.ends),
)

-- clients served by a keeper that opened
module _ {S : Type 0} (g : Ghosts S) (m : Chart) (store : Held S) (count : ℕ) (old : State) (k kept : SqlKeeper S) (opened : Opens g m old k) (counted : (state g store).faults ≤ (state g k.conn).faults) where
  pub serves_from : ServesEach m (book g) count k kept → ServesFrom g m (has_faulted g store kept.conn) count old kept.conn
  serves_from each = elim each.goes [
    | inl shows ↦
        let all = each.shown shows in
        inl ((book g).content m kept, subst (λ (s : State). Serves m count s ((book g).content m kept)) opened.says all.1, held_by g m kept all.0)
    | inr rises ↦ inr (omega (arith, counted, rises))
  ]

  pub serves_up_to : ServesTo m (book g) count k kept → ServesUpTo g m (has_faulted g store kept.conn) count old kept.conn
  serves_up_to so = record {
    n = so.n;
    most = so.most;
    state = so.state;
    serves = subst (λ (s : State). Serves m so.n s so.state) opened.says so.serves;
    ends = elim so.ends [
      | inl ends ↦ inl (ends_held g m store k kept so.state _ counted ends)
      | inr rises ↦ inr (omega (arith, counted, rises))
    ];
  }

-- by another name of the fault, and of what was there
pub serves_as : {S : Type 0} (g : Ghosts S) (m : Chart) (F G : Type 0) → (F → G) → (old : State) (new : Held S) (count : ℕ) → ServesFrom g m F count old new → ServesFrom g m G count old new
serves_as g m F G turn old new count (inl all) = inl all
serves_as g m F G turn old new count (inr fault) = inr (turn fault)

module _ {S : Type 0} (g : Ghosts S) (m : Chart) (F G : Type 0) (turn : F → G) (Was Will : Database → Type 0) (will : (db : Database) → Was db → Will db) (old : State) (new : Held S) where
  pub report_as : (name : List ℕ) (before after : Option (List ℕ)) (failure : Failure) → StopsReport g m F Was name old new before after failure → StopsReport g m G Will name old new before after failure
  report_as name before after (Store fault) it = (it.0, shut_as g m F G turn new old Was Will will it.1)
  report_as name before after NoGame it = (it.0, λ bad. turn (it.1 bad), ends_as g m F G turn new old _ it.2)
  report_as name before after (Papers fault) it = (it.0, λ bad. turn (it.1 bad), ends_as g m F G turn new old _ it.2)
  report_as name before after (Usage fault) it = absurd it.0
  report_as name before after (Map fault) it = absurd it.0
  report_as name before after (Run fault) it = absurd it.0
  report_as name before after NoMemory it = absurd it.0
  report_as name before after Listen it = absurd it.0
  report_as name before after (Serving fault) it = absurd it.0
  report_as name before after Negative it = absurd it.0
  report_as name before after (Checking fault) it = absurd it.0

  pub serving_as : (count : ℕ) (failure : Failure) → StopsServing g m F Was count old new failure → StopsServing g m G Will count old new failure
  serving_as count (Store fault) it = shut_as g m F G turn new old Was Will will it
  serving_as count NoMemory it = ends_as g m F G turn new old _ it
  serving_as count Listen it = ends_as g m F G turn new old _ it
  serving_as count (Serving fault) (blames, it) = (
    λ bad. turn (blames bad),
    record {
      n = it.n;
      most = it.most;
      state = it.state;
      serves = it.serves;
      ends = elim it.ends [ inl ends ↦ inl (ends_as g m F G turn new it.state _ ends) | inr fault ↦ inr (turn fault) ];
    },
  )
  serving_as count (Usage fault) it = absurd it
  serving_as count (Map fault) it = absurd it
  serving_as count (Run fault) it = absurd it
  serving_as count NoGame it = absurd it
  serving_as count Negative it = absurd it
  serving_as count (Checking fault) it = absurd it
  serving_as count (Papers fault) it = absurd it

-- papers that are out are a report
pub reports : (name : List ℕ) (s old : State) (n : ℕ) (before after : Option (List ℕ)) → s ≡ old → AreOut (Some n) (game_at name s) before after → Reports name old before after
reports name s old n before after is out = subst (λ s. Reports name s before after) is (go (game_at name s) out)
  where
    go : (g : Option Game) → AreOut (Some n) g before after → IsSome g × Appends before after (papers_text g)
    go None out = absurd (let x = out.0 in cc)
    go (Some g) out = (refl, out.1)

-- or there is no such game
pub reports_none : (name : List ℕ) (s old : State) (before after : Option (List ℕ)) → s ≡ old → AreOut None (game_at name s) before after
    → (game_at name old ≡ None) × (after ≡ before)
reports_none name s old before after is out = subst (λ s. (game_at name s ≡ None) × (after ≡ before)) is (go (game_at name s) out)
  where
    go : (g : Option Game) → AreOut None g before after → (g ≡ None) × (after ≡ before)
    go None out = (refl, out.1)
    go (Some g) out = absurd (let x = out.0 in cc)
