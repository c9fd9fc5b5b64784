-- A lawful desk lasts.
use Rattle.std.proofs.Common.{◌≡◌, ◌≤◌, ◌<◌, ◌⊎◌, Err, IfErr, List, None, Option, Result, Some, ap, arith, bytes_eq, inl, inr, length, refl, subst, sym, ℕ}
use Rattle.sqlite.specs.Effect.{Database}
use Rattle.sqlite.specs.Held.{Held, state}
use Rattle.sqlite.specs.Store.{Ghosts}
use Rattle.sqlite.specs.Tree.{Trees}
use Rattle.dip_map.specs.Charts.{Chart}
use Rattle.dip_desk_keeper.specs.Keeping.{IsOpen}
use Rattle.dip_desk_machine.specs.Lawful.{IsLawful, IsLawfulGame, StaysLawful, last_number}
use Rattle.dip_desk_machine.proofs.ListLemmas.{all_at}
use Rattle.dip_desk_machine.proofs.RunLemmas.{StepsKeep}
use Rattle.dip_desk_state.specs.Bounds.{most_papers}
use Rattle.dip_desk_state.specs.State.{Game, State, game_at, name_of}
use Rattle.dip_desk_state.specs.declared.faults.KeepFault.{KeepFault}
use Rattle.dip_desk_state.specs.declared.faults.KeepFault.TheVariants as keep
use Rattle.dip_http.specs.Serving.{ServesAll, ServesEach, ServesTo}
use Rattle.dip_http.proofs.KeptLemmas.{one_keeps, served_keep}
use Rattle.dip_judge_runs.proofs.KeptLemmas.{all_keep, front_keeps, next_keeps}
use Rattle.dip_judge_runs.specs.Runs.{IsReadWhole, IsUntouched, StopsAt}
use Rattle.dip_judge_runs.specs.declared.run.RunFault.{RunFault}
use Rattle.dip_judge_runs.specs.declared.run.RunFault.TheVariants as run
use Rattle.dip_store.specs.Causes.{has_faulted}
use Rattle.dip_store.proofs.Opened.{made_for, renewed_for}
use Rattle.dip_store.specs.Opening.{AreOf, Holds, IsMadeForText, IsNowOf, IsRenewedFrom, IsSameOrRenewed, LeavesText, SayText, Says, StaysShut, StoreEnds}
use Rattle.dip_desk_keeper.specs.Papers.{papers_of}
use Rattle.dip_store.specs.Stored.{IsStoreOf, book, said_by}
use Rattle.dip_store.specs.declared.keeper.SqlKeeper.{SqlKeeper}
use Rattle.dip_desk_keeper.specs.declared.paper_faults.PaperFault.{PaperFault}
use Rattle.dip_desk_keeper.specs.declared.paper_faults.PaperFault.TheVariants as paper
use Rattle.dip_judge.specs.Lasting.{IsDamage, Lasts, LeavesLawful, SaysLawful}
use Rattle.dip_judge.specs.Stores.{AnswersFrom, IsOfDisk, ServesFrom, ServesUpTo, StopsFrom}
use Rattle.dip_judge_system.specs.declared.failures.Failure.{Failure}
use Rattle.dip_judge_system.specs.declared.failures.Failure.TheVariants.{Papers, Run, Serving}

-- which faults say that rows are Damaged

pub damage_run : (fault : RunFault) → IsDamage (Run fault) → fault ≡ run.Keep keep.Damaged
damage_run run.Read is = absurd is
damage_run run.TooLong is = absurd is
damage_run run.Write is = absurd is
damage_run run.Memory is = absurd is
damage_run (run.Keep keep.Memory) is = absurd is
damage_run (run.Keep keep.Disk) is = absurd is
damage_run (run.Keep keep.Damaged) is = refl

-- and which that the disk failed

pub disk_run : (fault : RunFault) → IsOfDisk (Run fault) → fault ≡ run.Keep keep.Disk
disk_run run.Read is = absurd is
disk_run run.TooLong is = absurd is
disk_run run.Write is = absurd is
disk_run run.Memory is = absurd is
disk_run (run.Keep keep.Memory) is = absurd is
disk_run (run.Keep keep.Disk) is = refl
disk_run (run.Keep keep.Damaged) is = absurd is

pub disk_serving : (fault : KeepFault) → IsOfDisk (Serving fault) → fault ≡ keep.Disk
disk_serving keep.Memory is = absurd is
disk_serving keep.Disk is = refl
disk_serving keep.Damaged is = absurd is

pub disk_papers : (fault : PaperFault) → IsOfDisk (Papers fault) → fault ≡ paper.Keep keep.Disk
disk_papers paper.Write is = absurd is
disk_papers (paper.Keep keep.Memory) is = absurd is
disk_papers (paper.Keep keep.Disk) is = refl
disk_papers (paper.Keep keep.Damaged) is = absurd is

pub damage_serving : (fault : KeepFault) → IsDamage (Serving fault) → fault ≡ keep.Damaged
damage_serving keep.Memory is = absurd is
damage_serving keep.Disk is = absurd is
damage_serving keep.Damaged is = refl

pub damage_papers : (fault : PaperFault) → IsDamage (Papers fault) → fault ≡ paper.Keep keep.Damaged
damage_papers paper.Write is = absurd is
damage_papers (paper.Keep keep.Memory) is = absurd is
damage_papers (paper.Keep keep.Disk) is = absurd is
damage_papers (paper.Keep keep.Damaged) is = refl

-- a game of a lawful desk has no more papers than may be numbered
pub few_papers : (m : Chart) (s : State) (name : List ℕ) → IsLawful m s → most_papers < length (papers_of (game_at name s)) → ⊥
few_papers m s name law = by (game_at name s) refl
  where
    by : (g : Option Game) → game_at name s ≡ g → most_papers < length (papers_of g) → ⊥
    by None is many = omega (arith, many)
    by (Some g) is many =
        let one = all_at bytes_eq name_of name (IsLawfulGame m) s.games g law.games is in
        let few = all_at bytes_eq name_of name (λ (g : Game). g.public.papers ≤ last_number s.desk.kept) s.games g law.numbered is in
        omega (arith, many, one.papers, few, law.last)

module _ {S : Type 0} (g : Ghosts S) (m : Chart) (text : List ℕ) where
  such_lawful : (s : State) → IsLawful m s → (db : Database) → IsStoreOf m s db → SayText text db.trees → SaysLawful m text db
  such_lawful s law db such says = (s, inl such, law, made_for m text db such.0 says)

  such_left : (s : State) → IsLawful m s → (trees : Trees) → AreOf (IsStoreOf m s) trees → SayText text trees → AreOf (SaysLawful m text) trees
  such_left s law trees at says = (at.0, at.1, such_lawful s law at.0 at.2 (subst (SayText text) (sym at.1) says))

  -- what a crash leaves of a store of a lawful state
  pub holds_lawful : (s : State) (store : Held S) → IsLawful m s → LeavesText g text store → Holds g m s store → LeavesLawful g m text store
  holds_lawful s store law says it trees may = such_left s law trees (it.left trees may) (says trees may)

  -- or of one that ended in such a state, or in one that is more
  pub ends_lawful : (F : Type 0) (s : State) (More : State → Type 0) (new : Held S) → IsLawful m s → ((t : State) → More t → IsLawful m t)
      → LeavesText g text new → StoreEnds g m F new s More → LeavesLawful g m text new
  ends_lawful F s More new law further says it trees may = elim (it.left trees may) [
    | inl at ↦ such_left s law trees at (says trees may)
    | inr more ↦ such_left (said_by m trees) (further (said_by m trees) more.1) trees (more.0.0, more.0.1, (more.0.2, ap (said_by m) more.0.1)) (says trees may)
  ]

  -- or of one that isn't opened
  pub shut_lawful : (F : Type 0) (s : State) (store new : Held S) → IsLawful m s → Says m s (state g store).now → IsMadeForText m text (state g store).now
      → StaysShut g m F new s (IsNowOf g store) → LeavesLawful g m text new
  shut_lawful F s store new law says made it trees may = elim (it.left trees may) [
    | inl at ↦ (at.0, at.1, by at.0 at.2)
    | inr more ↦ absurd more.1
  ]
    where
      by : (db : Database) → IsSameOrRenewed m s (IsNowOf g store) db → SaysLawful m text db
      by db (inl now) = subst (SaysLawful m text) (sym now) (s, says, law, made)
      by db (inr renewed) =
          let from = subst (λ (before : Database). IsRenewedFrom m s before db) renewed.1 renewed.2 in
          (s, inl from.says, law, renewed_for m text s (state g store).now db from made)

  module _ (stays : StaysLawful m) (old : State) (new : Held S) (law : IsLawful m old) where
    steps : StepsKeep m (IsLawful m)
    steps before n r after is step lawful = stays before n r after is lawful step

    -- after all letters of an input, or up to a fault
    pub answers_last : (known left before after : Option (List ℕ)) → LeavesText g text new → AnswersFrom g m old new known left before after → LeavesLawful g m text new
    answers_last known left before after says it = holds_lawful it.0 new (all_keep m (IsLawful m) steps it.1 old it.0 before after it.3 law) says it.4

    pub stops_last : (F : Type 0) (Was : Database → Type 0) (known left before after : Option (List ℕ)) (fault : RunFault)
        → LeavesText g text new → StopsFrom g m F Was old new known left before after (Run fault) → LeavesLawful g m text new
    stops_last F Was known left before after fault says (blames, inl it) = ends_lawful F old (λ _. ⊥) new law (λ t none. absurd none) says it.1
    stops_last F Was known left before after fault says (blames, inr it) =
        let stopped = it.2 in
        let rest = stopped.stops.rest in
        let there = front_keeps m (IsLawful m) steps it.0 old stopped.state stopped.stops.replies rest stopped.stops.front law in
        ends_lawful F stopped.state _ new there (λ t next. next_keeps m (IsLawful m) steps rest stopped.state t next there) says stopped.ends

    -- after so many clients, or up to a fault
    pub served_last : (F : Type 0) (count : ℕ) → LeavesText g text new ⊎ F → ServesFrom g m F count old new → LeavesLawful g m text new ⊎ F
    served_last F count (inl says) (inl it) = inl (holds_lawful it.0 new (served_keep m (IsLawful m) steps count old it.0 it.1 law) says it.2)
    served_last F count (inr fault) it = inr fault
    served_last F count (inl says) (inr fault) = inr fault

    pub serving_last : (F : Type 0) (count : ℕ) → LeavesText g text new ⊎ F → ServesUpTo g m F count old new → LeavesLawful g m text new ⊎ F
    serving_last F count (inr fault) it = inr fault
    serving_last F count (inl says) it =
        let there = served_keep m (IsLawful m) steps it.n old it.state it.serves law in
        elim it.ends [
          | inl ends ↦ inl (ends_lawful F it.state _ new there (λ t one. one_keeps m (IsLawful m) steps it.state t one there) says ends)
          | inr fault ↦ inr fault
        ]

  -- clients that are served from a lawful desk on don't end by damage, but where there was a fault of the disk
  pub undamaged : (store : Held S) (count : ℕ) (k kept : SqlKeeper S) (fault : KeepFault) → (state g store).faults ≤ (state g k.conn).faults
      → ServesAll m (book g) count k kept (Err fault) → IsOpen m (book g) k → (book g).honest kept → IsLawful m ((book g).content m k)
      → (IsDamage (Serving fault) → ⊥) ⊎ has_faulted g store kept.conn
  undamaged store count k kept fault counted all it clean law = elim (all.ends it clean).ends [
    | inl ends ↦ elim ends.goes [
      | inl goes ↦ inl (λ bad. all.never it clean goes.0.shows law (ap (λ (f : KeepFault). Err f) (damage_serving fault bad)))
      | inr rises ↦ inr (omega (arith, counted, rises))
    ]
    | inr rises ↦ inr (omega (arith, counted, rises))
  ]

-- it lasts where neither of two met a fault
pub both_last : {S : Type 0} (g : Ghosts S) (m : Chart) (text : List ℕ) (F : Type 0) (new : Held S) (result : Result (Unit {0}) Failure)
    → IfErr result (λ failure. IsDamage failure → ⊥) ⊎ F → LeavesLawful g m text new ⊎ F → Lasts g m text new result ⊎ F
both_last g m text F new result (inl never) (inl left) = inl (record { never = never; left = left })
both_last g m text F new result (inr fault) left = inr fault
both_last g m text F new result (inl never) (inr fault) = inr fault

-- what a crash leaves says the map that the keeper was opened by
module _ {S : Type 0} (g : Ghosts S) (m : Chart) (text : List ℕ) (store : Held S) (k kept : SqlKeeper S) (says : (book g).again m kept → LeavesText g text kept.conn) where
  -- after a run that ended early
  pub run_text : (fault : RunFault) (known left before after : Option (List ℕ)) → (book g).again m k
      → IsUntouched before after k kept ⊎ ((input : List ℕ) × IsReadWhole known left input × StopsAt m (book g) fault input k kept before after) → LeavesText g text kept.conn
  run_text fault known left before after again (inl nothing) = says (subst ((book g).again m) (sym nothing.kept) again)
  run_text fault known left before after again (inr run) = says run.2.ends.again

  -- and after clients, where the disk met no fault
  pub clients_text : (count : ℕ) → (state g store).faults ≤ (state g k.conn).faults → ServesEach m (book g) count k kept → LeavesText g text kept.conn ⊎ has_faulted g store kept.conn
  clients_text count counted each = elim each.goes [
    | inl shows ↦ inl (says (each.shown shows).0.again)
    | inr rises ↦ inr (omega (arith, counted, rises))
  ]

  pub some_text : (count : ℕ) → (state g store).faults ≤ (state g k.conn).faults → ServesTo m (book g) count k kept → LeavesText g text kept.conn ⊎ has_faulted g store kept.conn
  some_text count counted so = elim so.ends [
    | inl ends ↦ inl (says ends.again)
    | inr rises ↦ inr (omega (arith, counted, rises))
  ]
