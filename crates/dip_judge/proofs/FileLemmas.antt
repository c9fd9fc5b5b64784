-- From what a file held to what its store says after a command.
use Rattle.std.proofs.Common.{◌≡◌, ◌∙◌, ◌⊎◌, Err, IfErr, List, None, OnOk, Ok, Option, Result, Some, ap, inl, inr, refl, subst, sym, ℕ}
use Rattle.std.proofs.lemmas.Bool.{false≢true}
use Rattle.std.proofs.lemmas.Result.{IfErr-weaker, on_ok_weaker}
use Rattle.sqlite_disk.specs.declared.Disk as disk
use Rattle.sqlite.specs.Store.{Ghosts}
use Rattle.sqlite.specs.declared.FileStore.{FileStore}
use Rattle.sqlite.specs.Effect.{Database}
use Rattle.sqlite.specs.Files.{AreFoundIn, IsOpened, file_state, over_files}
use Rattle.sqlite.specs.Held.{Held}
use Rattle.sqlite.specs.Recovery.{Image}
use Rattle.sqlite.specs.Start.{FindsIn}
use Rattle.sqlite.specs.State.{HasCleanDisk}
use Rattle.dip_map.specs.Charts.{Chart}
use Rattle.dip_desk_state.specs.State.{State}
use Rattle.dip_desk_machine.specs.Lawful.{IsLawful}
use Rattle.dip_store.specs.Calls.{is_honest}
use Rattle.dip_store.specs.Causes.{has_faulted}
use Rattle.dip_store.specs.Opening.{Holds, IsDesk, IsMadeForText, IsNowOf, IsShutBy}
use Rattle.dip_store.specs.StoreFault.{StoreFault}
use Rattle.dip_judge_words.specs.declared.args.Args.{Args}
use Rattle.dip_judge_words.specs.declared.args.Args.TheVariants.{Init, Letters, LettersOver, Serve, Report, Check, Explain, Version}
use Rattle.dip_judge_words.specs.declared.faults.UsageFault.{UsageFault}
use Rattle.dip_judge_runs.specs.MapFiles.{IsMapOf, IsNoMapOf}
use Rattle.dip_judge_runs.specs.Runs.{IsReadToEnd}
use Rattle.dip_judge_runs.specs.declared.map_file.NoMap.{NoMap}
use Rattle.dip_judge_runs.specs.Fresh.{fresh_desk}
use Rattle.dip_judge.proofs.LastingLemmas.{holds_lawful}
use Rattle.dip_judge.proofs.StoredLemmas.{report_as, serves_as, serving_as, some_fault, stops_as_of}
use Rattle.dip_judge.specs.declared.stored.StoreCommand.{StoreCommand}
use Rattle.dip_judge.specs.declared.stored.StoreCommand.TheVariants as command
use Rattle.dip_judge.specs.Commands.{AnswersStored, DoesStored, MakesDesk, ReportsStored, ServesStored, as_told}
use Rattle.clap.specs.Words.{Text}
use Rattle.dip_judge.specs.Asked.{Fails, IfAsked, IsAskedFor, IsFailed}
use Rattle.dip_judge.specs.Files.{FromHeld, HasFaults, HeldDesk, IsFoundIn, TellsOfFile, WasMadeFor, WasOpened, WasShutFor}
use Rattle.dip_judge.specs.Lasting.{HeldLawful, Lasts, LastsFrom, LastsServing}
use Rattle.dip_judge.specs.OverFiles.{AnswersFile, DoesAsked, DoesOverFile, InitsFile, IsFaultOf, ReportsFile, ServesFile}
use Rattle.dip_judge.specs.Stores.{AnswersFrom, ReadsInput, ReadsUpTo, Reports, ServesFrom, StopsFrom, StopsReport, StopsServing, TellsOfStore}
use Rattle.dip_judge_system.specs.declared.failures.Failure.{Failure}
use Rattle.dip_judge_system.specs.declared.failures.Failure.TheVariants.{Checking, Listen, Map, NoGame, NoMemory, Negative, Papers, Run, Serving, Store, Usage}

module _ {D : Type 0} {g : disk.Ghosts D} (image : Image) (m : Chart) (first : Held (FileStore D g)) (opened : HasCleanDisk (file_state first) → IsOpened first)
    (found : HasCleanDisk (file_state first) → FindsIn image (file_state first)) where
  -- what was opened was found in the file
  is_found : HasCleanDisk (file_state first) → IsFoundIn image (file_state first).now
  is_found clean =
      let it = opened clean in
      ((it.1 it.0.is_open).0, subst (λ (d : Database). AreFoundIn image d.trees) (sym it.0.clean) (found clean).reads)

  pub found_there : HasCleanDisk (file_state first) → (db : Database) → IsNowOf over_files first db → IsFoundIn image db
  found_there clean db is = subst (IsFoundIn image) (sym is) (is_found clean)

  -- it is the desk that the file held
  is_held : HasCleanDisk (file_state first) → (s : State) → HeldDesk image m s → IsDesk over_files m s first
  is_held clean s held =
      let it = opened clean in
      record { shows = (clean, it.0.is_open); idle = it.0.autocommit; says = held (file_state first).now (is_found clean) }

  -- what an answer over it tells of the map, the file tells
  module _ (text : List ℕ) (last : Held (FileStore D g)) (fair : is_honest over_files last → HasCleanDisk (file_state first)) where
    was_made_for : (is_honest over_files last → IsMadeForText m text (file_state first).now) → is_honest over_files last → WasMadeFor image m text
    was_made_for made clean = ((file_state first).now, is_found (fair clean), made clean)

    was_shut_for : (fault : StoreFault) → IsShutBy over_files m text first last fault → is_honest over_files last → WasShutFor image m text (HasFaults over_files last) fault
    was_shut_for fault shut clean =
        let it = opened (fair clean) in
        let why = shut clean (fair clean, it.0.is_open) in (
          (file_state first).now,
          is_found (fair clean),
          record {
            refused = why.refused;
            own = why.own;
            known = why.known;
            caused = λ is. elim (why.caused is) [
              | inl (inl under) ↦ absurd (false≢true (sym it.0.autocommit ∙ under))
              | inl (inr told) ↦ inl (some_fault over_files first last told)
              | inr left ↦ inr left
            ];
          },
        )

    pub tells_of_file : (r : Result (Unit {0}) Failure) → TellsOfStore over_files m text first last r → TellsOfFile over_files image m text last r
    tells_of_file (Ok done) made = was_made_for made
    tells_of_file (Err (Store fault)) shut = was_shut_for fault shut
    tells_of_file (Err (Usage fault)) made = was_made_for made
    tells_of_file (Err (Map fault)) made = was_made_for made
    tells_of_file (Err NoMemory) made = was_made_for made
    tells_of_file (Err Listen) made = was_made_for made
    tells_of_file (Err (Run fault)) made = was_made_for made
    tells_of_file (Err (Serving fault)) made = was_made_for made
    tells_of_file (Err NoGame) made = was_made_for made
    tells_of_file (Err Negative) made = was_made_for made
    tells_of_file (Err (Checking fault)) made = was_made_for made
    tells_of_file (Err (Papers fault)) made = was_made_for made

  module _ (last : Held (FileStore D g)) (fair : is_honest over_files last → HasCleanDisk (file_state first)) where
    -- what lasts of a lawful desk of the store lasts of its file's
    pub lasts_in : (text : List ℕ) (Lasting : Type 0) → LastsFrom over_files m text first last Lasting → is_honest over_files last → HeldLawful image m text → Lasting
    lasts_in text Lasting lasts clean held =
        let it = opened (fair clean) in
        let said = held (file_state first).now (is_found (fair clean)) in
        lasts clean said.0 (record { shows = (fair clean, it.0.is_open); idle = it.0.autocommit; says = said.1 }) said.2 said.3

    pub lasts_serving : (text : List ℕ) (result : Result (Unit {0}) Failure) → LastsFrom over_files m text first last (Lasts over_files m text last result ⊎ has_faulted over_files first last)
        → LastsServing over_files image m text last result
    lasts_serving text result lasts clean held = elim (lasts_in text _ lasts clean held) [
      | inl it ↦ inl it
      | inr fault ↦ inr (some_fault over_files first last fault)
    ]

    from_held : (P : State → Held (FileStore D g) → Type 0) → (is_honest over_files last → (s : State) → IsDesk over_files m s first → P s last) → FromHeld over_files image m P last
    from_held P does clean s held = does clean s (is_held (fair clean) s held)

    pub ok_held : {A E : Type 0} (r : Result A E) (P : State → Held (FileStore D g) → Type 0)
        → (is_honest over_files last → (s : State) → IsDesk over_files m s first → OnOk r (P s last))
        → OnOk r (WasOpened (Some last) (FromHeld over_files image m P))
    ok_held (Ok x) P does = from_held P does
    ok_held (Err e) P does = tt

    pub err_held : {A E : Type 0} (r : Result A E) (P : E → State → Held (FileStore D g) → Type 0)
        → (is_honest over_files last → (s : State) → IsDesk over_files m s first → IfErr r (λ e. P e s last))
        → IfErr r (λ e. FromHeld over_files image m (P e) last)
    err_held (Ok x) P does = tt
    err_held (Err e) P does = from_held (P e) does

  -- a command over an opened store is one over its file
  module _ (text : List ℕ) (last : Held (FileStore D g)) where
    inits : (master : List ℕ) → IsLawful m (fresh_desk master) → (made : Result (Unit {0}) StoreFault) → MakesDesk over_files m text master first last made
        → InitsFile over_files image m text master (as_told made) (Some last)
    inits master law (Ok done) it = record {
      made = λ clean. (it.made clean).0;
      unmade = tt;
      failed = tt;
      tells = λ clean. (it.made clean).1;
      lasts = λ clean. holds_lawful over_files m text (fresh_desk master) last law (it.made clean).2 (it.made clean).0;
    }
    inits master law (Err fault) it = record {
      made = tt;
      unmade = λ shows db holds. ap (λ (d : Database). d.trees) (it.same shows) ∙ (found (it.fair shows)).holds db holds;
      failed = tt;
      tells = λ clean. tt;
      lasts = λ clean. tt;
    }

    answers : (known left before after : Option (List ℕ)) (r : Result (Unit {0}) Failure) → AnswersStored over_files m text first last known left before after r
        → AnswersFile over_files image m text known left before after r (Some last)
    answers known left before after r it = record {
      done = ok_held last it.fair r (λ s new. AnswersFrom over_files m s new known left before after) (λ clean s desk. it.done clean s desk.says);
      stops = err_held last it.fair r (λ f s new. StopsFrom over_files m (HasFaults over_files new) (IsFoundIn image) s new known left before after f)
          (λ clean s desk. IfErr-weaker r _ _
          (stops_as_of over_files m (has_faulted over_files first last) (HasFaults over_files last) (some_fault over_files first last) (IsNowOf over_files first) (IsFoundIn image)
          (found_there (it.fair clean)) s last known left before after)
          (it.stops clean s desk));
      reads = it.reads;
      tells = tells_of_file text last it.fair r it.tells;
      lasts = lasts_in last it.fair text _ it.lasts;
    }

    serves : (count : ℕ) (r : Result (Unit {0}) Failure) → ServesStored over_files m text count first last r → ServesFile over_files image m text count r (Some last)
    serves count r it = record {
      done = ok_held last it.fair r (λ s new. ServesFrom over_files m (HasFaults over_files new) count s new)
          (λ clean s desk. on_ok_weaker r (serves_as over_files m (has_faulted over_files first last) (HasFaults over_files last) (some_fault over_files first last) s last count) (it.done clean s desk.says));
      stops = err_held last it.fair r (λ f s new. StopsServing over_files m (HasFaults over_files new) (IsFoundIn image) count s new f)
          (λ clean s desk. IfErr-weaker r _ _
          (serving_as over_files m (has_faulted over_files first last) (HasFaults over_files last) (some_fault over_files first last) (IsNowOf over_files first) (IsFoundIn image)
          (found_there (it.fair clean)) s last count)
          (it.stops clean s desk));
      failed = it.failed;
      tells = tells_of_file text last it.fair r it.tells;
      lasts = lasts_serving last it.fair text r it.lasts;
    }

    reports_of : (game : List ℕ) (before after : Option (List ℕ)) (r : Result (Unit {0}) Failure) → ReportsStored over_files m text game first last before after r
        → ReportsFile over_files image m text game before after r (Some last)
    reports_of game before after r it = record {
      done = ok_held last it.fair r (λ s new. Reports game s before after × Holds over_files m s new) (λ clean s desk. it.done clean s desk.says);
      stops = err_held last it.fair r (λ f s new. StopsReport over_files m (HasFaults over_files new) (IsFoundIn image) game s new before after f)
          (λ clean s desk. IfErr-weaker r _ _
          (report_as over_files m (has_faulted over_files first last) (HasFaults over_files last) (some_fault over_files first last) (IsNowOf over_files first) (IsFoundIn image)
          (found_there (it.fair clean)) s last game before after)
          (it.stops clean s desk));
      failed = it.failed;
      tells = tells_of_file text last it.fair r it.tells;
      lasts = lasts_in last it.fair text _ it.lasts;
    }

    pub over_file : ((master : List ℕ) → IsLawful m (fresh_desk master)) → (known left before after : Option (List ℕ)) (command : StoreCommand) (r : Result (Unit {0}) Failure)
        → DoesStored over_files m text known left before after command first last r → DoesOverFile over_files image m text known left before after command r (Some last)
    over_file law known left before after (command.Init master) r it = (
      subst (λ (r : Result (Unit {0}) Failure). InitsFile over_files image m text master.now r (Some last)) (sym it.0.1) (inits master.now (law master.now) it.0.0 it.0.2),
      it.1,
    )
    over_file law known left before after command.Letters r it = answers known left before after r it
    over_file law known left before after (command.Serve port count) r it = (serves count r it.0, it.1)
    over_file law known left before after (command.Report game) r it = (reports_of game.now before after r it.0, it.1)

-- a file that isn't opened is left as it is
pub unopened : {S : Type 0} (g : Ghosts S) (image : Image) (m : Chart) (text : List ℕ) (known before : Option (List ℕ)) (command : StoreCommand) (fault : StoreFault) → IsFaultOf command fault
    → DoesOverFile g image m text known known before before command (Err (Store fault)) None
unopened g image m text known before (command.Init master) fault is = (record { made = tt; unmade = is; failed = tt; tells = tt; lasts = tt }, (refl, refl))
unopened g image m text known before command.Letters fault is = record { done = tt; stops = is; reads = (refl, refl); tells = tt; lasts = tt }
unopened g image m text known before (command.Serve port count) fault is = (record { done = tt; stops = is; failed = tt; tells = tt; lasts = tt }, (refl, refl))
unopened g image m text known before (command.Report game) fault is = (record { done = tt; stops = is; failed = tt; tells = tt; lasts = tt }, refl)

-- what is asked for, by another name
pub does_as : {S : Type 0} (g : Ghosts S) (image : Image) (m : Chart) (text : List ℕ) (known left before after : Option (List ℕ)) (a b : Args) (r : Result (Unit {0}) Failure) (opened : Option (Held S))
    → a ≡ b → DoesAsked g image m text known left before after b r opened → DoesAsked g image m text known left before after a r opened
does_as g image m text known left before after a b r opened is does =
    subst (λ (a : Args). DoesAsked g image m text known left before after a r opened) (sym is) does

-- what is so is so whatever the outcome
pub ok_so : {A E : Type 0} (r : Result A E) (P : Type 0) → P → OnOk r P
ok_so (Ok x) P p = p
ok_so (Err e) P p = tt

pub err_so : {A E : Type 0} (r : Result A E) (P : E → Type 0) → ((e : E) → P e) → IfErr r P
err_so (Ok x) P p = tt
err_so (Err e) P p = p e

-- the input was read to its end, or up to a failure
pub read_to_end : (known left before after : Option (List ℕ)) (r : Result (Unit {0}) Failure) → ReadsInput known left before after r → OnOk r (IsReadToEnd known left)
read_to_end known left before after (Ok done) reads = reads
read_to_end known left before after (Err f) reads = tt

pub read_up_to : (known left before after : Option (List ℕ)) (r : Result (Unit {0}) Failure) → ReadsInput known left before after r → IfErr r (ReadsUpTo known left before after)
read_up_to known left before after (Ok done) reads = tt
read_up_to known left before after (Err f) reads = reads

-- the map of a path and a text is that of those which are the same
pub map_named_so : (standard : List ℕ) (path named : Option (List ℕ)) (text said : List ℕ) (m : Chart) → path ≡ named → text ≡ said → IsMapOf standard path said m
    → IsMapOf standard named text m
map_named_so standard path named text said m same_path same_text is =
    subst (λ (p : Option (List ℕ)). IsMapOf standard p text m) same_path (subst (λ (t : List ℕ). IsMapOf standard path t m) (sym same_text) is)

-- and why there is none
pub no_map_so : (standard : List ℕ) (path named : Option (List ℕ)) (fault : NoMap) → path ≡ named → IsNoMapOf standard path fault → IsNoMapOf standard named fault
no_map_so standard path named fault same is = subst (λ (p : Option (List ℕ)). IsNoMapOf standard p fault) same is

-- what is asked for is so whatever the failure
pub if_asked : (standard : List ℕ) (words : List Text) (P : Args → Chart → Type 0) (f : Failure) → IsAskedFor standard words P → IfAsked standard words f P
if_asked standard words P (Usage fault) asked = tt
if_asked standard words P (Map fault) asked = tt
if_asked standard words P (Store fault) asked = asked
if_asked standard words P NoMemory asked = asked
if_asked standard words P Listen asked = asked
if_asked standard words P (Run fault) asked = asked
if_asked standard words P (Serving fault) asked = asked
if_asked standard words P NoGame asked = asked
if_asked standard words P Negative asked = asked
if_asked standard words P (Checking fault) asked = asked
if_asked standard words P (Papers fault) asked = asked

-- a command fails neither by the words nor for want of a map
module _ (m : Chart) (known left before after : Option (List ℕ)) where
  no_usage : (a : Args) (fault : UsageFault) → Fails m known left before after a (Usage fault) → ⊥
  no_usage (Init store master file) fault fails = fails.0
  no_usage (Letters master file) fault fails = fails
  no_usage (LettersOver store file) fault fails = fails
  no_usage (Serve store port count file) fault fails = fails.0
  no_usage (Report store game file) fault fails = fails.0
  no_usage (Check file) fault fails = fails
  no_usage (Explain paper file) fault fails = fails
  no_usage Version fault fails = fails.1

  no_map : (a : Args) (fault : NoMap) → Fails m known left before after a (Map fault) → ⊥
  no_map (Init store master file) fault fails = fails.0
  no_map (Letters master file) fault fails = fails
  no_map (LettersOver store file) fault fails = fails
  no_map (Serve store port count file) fault fails = fails.0
  no_map (Report store game file) fault fails = fails.0
  no_map (Check file) fault fails = fails
  no_map (Explain paper file) fault fails = fails
  no_map Version fault fails = fails.1

-- so what is asked for fails as it says
pub failed_as : (standard : List ℕ) (words : List Text) (known left before after : Option (List ℕ)) (f : Failure) → IsAskedFor standard words (λ a m. Fails m known left before after a f)
    → IsFailed standard words known left before after f
failed_as standard words known left before after (Usage fault) it = absurd (no_usage it.1 known left before after it.0 fault it.3)
failed_as standard words known left before after (Map fault) it = absurd (no_map it.1 known left before after it.0 fault it.3)
failed_as standard words known left before after (Store fault) it = it
failed_as standard words known left before after NoMemory it = it
failed_as standard words known left before after Listen it = it
failed_as standard words known left before after (Run fault) it = it
failed_as standard words known left before after (Serving fault) it = it
failed_as standard words known left before after NoGame it = it
failed_as standard words known left before after Negative it = it
failed_as standard words known left before after (Checking fault) it = it
failed_as standard words known left before after (Papers fault) it = it
