-- What each command comes to over the store of a file, and whatever the words ask for: what it does and leaves, and what it fails by.
use Rattle.std.specs.Prelude.{◌≡◌, ℕ, IfErr, IfSome, List, OnOk, Option, Result}
use Rattle.clap.specs.Words.{Text}
use Rattle.sqlite.specs.Held.{Held}
use Rattle.sqlite.specs.Recovery.{Image}
use Rattle.sqlite.specs.Store.{Ghosts}
use Rattle.dip_map.specs.Charts.{Chart}
use Rattle.dip_judge_system.specs.FileFaults.{IsFindFault, IsOpenFault}
use Rattle.dip_judge_system.specs.declared.failures.Failure.{Failure}
use Rattle.dip_judge_words.specs.declared.args.Args.{Args}
use Rattle.dip_store.specs.Calls.{is_honest}
use Rattle.dip_store.specs.Opening.{SaysText}
use Rattle.dip_store.specs.StoreFault.{StoreFault}
use Rattle.dip_judge.specs.declared.stored.StoreCommand.{StoreCommand}
use Rattle.dip_judge.specs.declared.stored.StoreCommand.TheVariants.{Init, Letters, Serve, Report}
use Rattle.dip_judge.specs.Asked.{Fails, IfAsked, IsAskedFor, IsAskedOver, IsDone, IsFailed, IsInitFailure, Streams}
use Rattle.dip_judge.specs.Files.{AnswersIn, AnswersUpTo, IfOpened, LeavesStore, MadeIn, ReportsIn, ServesIn, StopsReportIn, StopsServingIn, StopsStore, TellsOfFile, TellsStore, UnmadeIn, WasOpened}
use Rattle.dip_judge.specs.Lasting.{LastsAs, LastsIn, LastsServing, LeavesLawful}
use Rattle.dip_judge.specs.Stores.{IsIdle, IsReportFailure, IsServeFailure, ReadsInput}

-- how a desk is made in the store of a file, for the map of this text, whose master has this secret
pub record InitsFile {S : Type 0} (g : Ghosts S) (image : Image) (m : Chart) (text master : List ℕ)
    (result : Result (Unit {0}) Failure) (opened : Option (Held S)) : Type 0 where
  pub made : OnOk result (WasOpened opened (MadeIn g m master))
  pub unmade : IfErr result (λ f. IfOpened IsOpenFault f opened (UnmadeIn g image))
  pub failed : IfErr result IsInitFailure
  pub tells : IfSome opened (λ store. is_honest g store → OnOk result (SaysText g text store))
  pub lasts : IfSome opened (λ store. is_honest g store → OnOk result (LeavesLawful g m text store))

-- how letters are answered from the desk of a file on
pub record AnswersFile {S : Type 0} (g : Ghosts S) (image : Image) (m : Chart) (text : List ℕ)
    (known left before after : Option (List ℕ)) (result : Result (Unit {0}) Failure)
    (opened : Option (Held S)) : Type 0 where
  pub done : OnOk result (WasOpened opened (AnswersIn g image m known left before after))
  pub stops : IfErr result
      (λ f. IfOpened IsFindFault f opened (AnswersUpTo g image m known left before after f))
  pub reads : ReadsInput known left before after result
  pub tells : IfSome opened (λ store. TellsOfFile g image m text store result)
  pub lasts : IfSome opened (λ store. LastsIn g image m text store result)

-- how all papers of a game of the desk of a file are written
pub record ReportsFile {S : Type 0} (g : Ghosts S) (image : Image) (m : Chart) (text game : List ℕ)
    (before after : Option (List ℕ)) (result : Result (Unit {0}) Failure) (opened : Option (Held S))
    : Type 0 where
  pub done : OnOk result (WasOpened opened (ReportsIn g image m game before after))
  pub stops : IfErr result
      (λ f. IfOpened IsFindFault f opened (StopsReportIn g image m game before after f))
  pub failed : IfErr result IsReportFailure
  pub tells : IfSome opened (λ store. TellsOfFile g image m text store result)
  pub lasts : IfSome opened (λ store. LastsIn g image m text store result)

-- how so many clients are served from the desk of a file on
pub record ServesFile {S : Type 0} (g : Ghosts S) (image : Image) (m : Chart) (text : List ℕ) (count : ℕ)
    (result : Result (Unit {0}) Failure) (opened : Option (Held S)) : Type 0 where
  pub done : OnOk result (WasOpened opened (ServesIn g image m count))
  pub stops : IfErr result (λ f. IfOpened IsFindFault f opened (StopsServingIn g image m count f))
  pub failed : IfErr result IsServeFailure
  pub tells : IfSome opened (λ store. TellsOfFile g image m text store result)
  pub lasts : IfSome opened (λ store. LastsServing g image m text store result)

-- how opening the file of a command may fail: only `init` makes a file where there is none
abbrev pub IsFaultOf : StoreCommand → StoreFault → Type 0
IsFaultOf (Init master) = IsOpenFault
IsFaultOf Letters = IsFindFault
IsFaultOf (Serve port count) = IsFindFault
IsFaultOf (Report game) = IsFindFault

module _ {S : Type 0} (g : Ghosts S) (image : Image) (m : Chart) (text : List ℕ) where
  -- how a command is done over the store of a file, and what it reads and writes
  abbrev pub DoesOverFile : Option (List ℕ) → Option (List ℕ) → Option (List ℕ) → Option (List ℕ)
      → StoreCommand → Result (Unit {0}) Failure → Option (Held S) → Type 0
  DoesOverFile known left before after (Init master) result opened =
      InitsFile g image m text master.now result opened × IsIdle known left before after
  DoesOverFile known left before after Letters result opened =
      AnswersFile g image m text known left before after result opened
  DoesOverFile known left before after (Serve port count) result opened =
      ServesFile g image m text count result opened × IsIdle known left before after
  DoesOverFile known left before after (Report game) result opened =
      ReportsFile g image m text game.now before after result opened × (left ≡ known)

-- how that is done which is asked for, by the map of this text
pub record DoesAsked {S : Type 0} (g : Ghosts S) (image : Image) (m : Chart) (text : List ℕ)
    (known left before after : Option (List ℕ)) (a : Args) (result : Result (Unit {0}) Failure)
    (opened : Option (Held S)) : Type 0 where
  pub done : OnOk result (Streams m known left before after a)
  pub failed : IfErr result (Fails m known left before after a)
  pub leaves : OnOk result (LeavesStore g image m known left before after a opened)
  pub stops : IfErr result (λ f. StopsStore g image m known left before after a f opened)
  pub tells : IfSome opened (λ store. TellsStore g image m text a store result)
  pub lasts : IfSome opened (λ store. LastsAs g image m text a store result)

-- how that is done which the words ask for
pub record DoesAsAsked {S : Type 0} (g : Ghosts S) (image : Image) (standard : List ℕ)
    (words : List Text) (known left before after : Option (List ℕ))
    (result : Result (Unit {0}) Failure) (opened : Option (Held S)) : Type 0 where
  pub done : OnOk result (IsDone standard words known left before after)
  pub failed : IfErr result (IsFailed standard words known left before after)
  pub leaves : OnOk result (IsAskedFor standard words
      (λ a m. LeavesStore g image m known left before after a opened))
  pub stops : IfErr result (λ f. IfAsked standard words f
      (λ a m. StopsStore g image m known left before after a f opened))
  pub tells : IfSome opened (λ store. IsAskedOver standard words
      (λ a m text. TellsStore g image m text a store result))
  pub lasts : IfSome opened (λ store. IsAskedOver standard words
      (λ a m text. LastsAs g image m text a store result))
