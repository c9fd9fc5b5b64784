-- How a connection and its parts end: what was written, and what the desk is.
use Rattle.std.specs.Prelude.{◌≡◌, ◌≤◌, ◌⊎◌, ℕ, List, ◌++◌, Bool, false, Option, None, IfErr, IfSome, IsErrOf, OnOk, Result, length, take}
use Rattle.std.specs.Io.KnownBytes.{Appends}
use Rattle.httparse.specs.Grammar.{RequestHead}
use Rattle.dip_map.specs.Charts.{Chart}
use Rattle.dip_desk_keeper.specs.Keeping.{Book, Ends, IsOpen, Settles, WasTold}
use Rattle.dip_desk_machine.specs.Lawful.{IsLawful}
use Rattle.dip_desk_machine.specs.Machine.{Step}
use Rattle.dip_desk_machine.specs.Mail.{Mail}
use Rattle.dip_desk_state.specs.Records.{Reply}
use Rattle.dip_desk_state.specs.State.{State}
use Rattle.dip_desk_state.specs.declared.faults.KeepFault.TheVariants.{Damaged, Disk}
use Rattle.dip_http_messages.specs.Heads.{IsHead}
use Rattle.dip_http_messages.specs.Answers.{IsPart, refusal}
use Rattle.dip_http_messages.specs.Verdicts.{Verdict, is_head, take_letter}
use Rattle.dip_http.specs.Answering.{Carries, IsAnswer, IsOneLetter, Posts}
use Rattle.dip_http.specs.Laws.{IsPost}
use Rattle.dip_http.specs.Faults.{OnKept, OnUnkept, faults_after_answer}
use Rattle.dip_http.specs.declared.faults.HttpFault.{HttpFault}
use Rattle.dip_http.specs.declared.faults.HttpFault.TheVariants.{Read, Write, Memory, Keep}

-- what a connection keeps of a keeper, whatever it answers. Where the keeper answered it stays open, and it is shut only where the store
-- told of a fault of the disk
pub record Keeps {K X : Type 0} (m : Chart) (b : Book K) (old new : K) (result : Result X HttpFault) : Type 0 where
  pub count : b.faults new ≡ faults_after_answer result (b.faults old)
  pub told : b.told old ≤ b.told new
  pub fair : b.honest new → b.honest old
  pub same_map : b.map_sum new ≡ b.map_sum old
  pub shown : b.shows new → b.shows old
  pub sound : b.sound m old → b.shows new → b.sound m new
  pub firm : b.sound m old → b.honest new → OnKept result (b.sound m new)
  pub stays_open : b.sound m old → b.honest new → b.shows old → OnKept result (b.shows new)
  pub shuts : b.honest new → b.shows old → b.shows new ⊎ WasTold b old new
  -- the disk is told of only where the store told of a fault
  pub failed : b.sound m old → b.honest new → b.shows old → IsErrOf result (Keep Disk) → WasTold b old new
  pub settles : Settles m b old new
  pub again : b.sound m old → b.honest new → b.shows old → b.again m old → b.again m new

-- what a fault tells of a keeper and of what was written, whatever the keeper shows: one of reading leaves the keeper unasked, with one of
-- reading or memory nothing was written, and where the keeper gave no answer a beginning of the 503
abbrev pub Tells : {K : Type 0} → HttpFault → Bool → K → K → Option (List ℕ) → Option (List ℕ) → Type 0
Tells Read quiet old new before after = (new ≡ old) × (after ≡ before)
Tells Memory quiet old new before after = after ≡ before
Tells Write quiet old new before after = Unit {0}
Tells (Keep fault) quiet old new before after = IsPart before after (refusal 503 None quiet)

-- how a request is answered over a keeper: what is kept of it, what a fault tells, and what a crash leaves where the keeper gave no answer; while
-- the keeper shows what it keeps, what was done, or by which fault a part of it; a lawful content stays lawful, and nothing is Damaged over one
pub record Responds {K : Type 0} (m : Chart) (b : Book K) (quiet : Bool) (old new : K) (before after : Option (List ℕ))
    (Done : State → State → Type 0) (Part : HttpFault → State → State → Type 0) (Takes : State → State → Type 0)
    (result : Result (Unit {0}) HttpFault) : Type 0 where
  pub keeps : Keeps m b old new result
  pub tells : IfErr result (λ f. Tells f quiet old new before after)
  pub left : b.sound m old → b.honest new → b.shows old → OnUnkept result ((s : State) → b.may_leave m new s
      → b.may_leave m old s ⊎ Takes (b.content m old) s)
  pub ok : b.sound m old → b.shows new → OnOk result (Done (b.content m old) (b.content m new))
  pub err : b.sound m old → b.shows new → IfErr result (λ f. Part f (b.content m old) (b.content m new))
  pub lawful : b.sound m old → b.shows new → IsLawful m (b.content m old) → IsLawful m (b.content m new)
  pub never : b.sound m old → b.honest new → b.shows old → IsLawful m (b.content m old) → IsErrOf result (Keep Damaged) → ⊥

-- the desk stays, and this text was written
pub record Shows (text : List ℕ) (old new : State) (before after : Option (List ℕ)) : Type 0 where
  pub same : new ≡ old
  pub written : Appends before after text

-- the desk stays, and a fault ended the showing of this text: a beginning of the text was written, or nothing, or a beginning of the 503
abbrev pub ShowsPart : HttpFault → Bool → List ℕ → State → State → Option (List ℕ) → Option (List ℕ) → Type 0
ShowsPart Read quiet text old new before after = (new ≡ old) × (after ≡ before)
ShowsPart Memory quiet text old new before after = (new ≡ old) × (after ≡ before)
ShowsPart Write quiet text old new before after = (new ≡ old) × IsPart before after text
ShowsPart (Keep fault) quiet text old new before after = (new ≡ old) × IsPart before after (refusal 503 None quiet)

-- a text of the desk is shown, and no letter is taken
abbrev pub ShowsText : {K : Type 0} → Chart → Book K → Bool → (State → List ℕ) → K → K → Option (List ℕ) → Option (List ℕ) → Result (Unit {0}) HttpFault → Type 0
ShowsText m b quiet text old new before after result =
    Responds m b quiet old new before after (λ s t. Shows (text s) s t before after) (λ f s t. ShowsPart f quiet (text s) s t before after) (λ s t. ⊥) result

-- a body was answered
abbrev pub PostsTo : Chart → List ℕ → State → State → Option (List ℕ) → Option (List ℕ) → Type 0
PostsTo m body old new before after = (answer : List ℕ) × Posts m body old answer new × Appends before after answer

-- the answering of a body ended by a fault: of the reader or of memory, and nothing was written; of the writer, with a beginning of the answer; or of
-- the keeper, with a beginning of the 503
abbrev pub PostsToPart : Chart → HttpFault → List ℕ → State → State → Option (List ℕ) → Option (List ℕ) → Type 0
PostsToPart m Read body old new before after = (new ≡ old) × (after ≡ before)
PostsToPart m Memory body old new before after = (new ≡ old) × (after ≡ before)
PostsToPart m Write body old new before after = (answer : List ℕ) × Posts m body old answer new × IsPart before after answer
PostsToPart m (Keep fault) body old new before after = (new ≡ old) × IsPart before after (refusal 503 None false)

-- what a reader had left, where that is known
abbrev pub WasLeft : Option (List ℕ) → List ℕ → Type 0
WasLeft known input = IfSome known (λ xs. xs ≡ input)

-- a verdict was carried out over what stood after the head and all that a reader had left, and its answer was written
pub record Carried (m : Chart) (verdict : Verdict) (quiet : Bool) (start : List ℕ) (known : Option (List ℕ)) (old new : State)
    (before after : Option (List ℕ)) : Type 0 where
  pub more : List ℕ
  pub left : WasLeft known more
  pub answer : List ℕ
  pub carries : Carries m verdict quiet (start ++ more) old answer new
  pub written : Appends before after answer

-- a verdict was carried out over what stood after the head and all that a reader had left, and a beginning of its answer was written
pub record PartCarried (m : Chart) (verdict : Verdict) (quiet : Bool) (start : List ℕ) (known : Option (List ℕ)) (old new : State)
    (before after : Option (List ℕ)) : Type 0 where
  pub more : List ℕ
  pub left : WasLeft known more
  pub answer : List ℕ
  pub carries : Carries m verdict quiet (start ++ more) old answer new
  pub written : IsPart before after answer

-- whether an answer goes without its body: a letter's never does
abbrev pub without_body : Verdict → Bool → Bool
without_body (take_letter size) quiet = false
without_body _ quiet = quiet

-- how the carrying out of a verdict ends by a fault
abbrev pub CarriedBy : Chart → HttpFault → Verdict → Bool → List ℕ → Option (List ℕ) → State → State → Option (List ℕ) → Option (List ℕ) → Type 0
CarriedBy m Read verdict quiet start known old new before after = (new ≡ old) × (after ≡ before)
CarriedBy m Memory verdict quiet start known old new before after = (new ≡ old) × (after ≡ before)
CarriedBy m Write verdict quiet start known old new before after = PartCarried m verdict quiet start known old new before after
CarriedBy m (Keep fault) verdict quiet start known old new before after =
    (new ≡ old) × IsPart before after (refusal 503 None (without_body verdict quiet))

-- the letter that a body is was taken by a step
pub record TakesMail (m : Chart) (body : List ℕ) (old new : State) : Type 0 where
  pub letter : Mail
  pub is : IsOneLetter body letter
  pub reply : Reply
  pub step : Step m old letter reply new

-- the body of this size after a head is a letter, which was taken by a step
pub record TakesBody (m : Chart) (size : ℕ) (start : List ℕ) (known : Option (List ℕ)) (old new : State) : Type 0 where
  pub more : List ℕ
  pub left : WasLeft known more
  pub whole : size ≤ length (start ++ more)
  pub takes : TakesMail m (take size (start ++ more)) old new

-- the body that a verdict takes is a letter, which was taken by a step; verdicts other than take_letter take none
abbrev pub TakesBy : Chart → Verdict → List ℕ → Option (List ℕ) → State → State → Type 0
TakesBy m (take_letter size) start known old new = TakesBody m size start known old new
TakesBy m _ start known old new = ⊥

-- a body was read, and answered
abbrev pub ReadsBody : Chart → ℕ → List ℕ → Option (List ℕ) → State → State → Option (List ℕ) → Option (List ℕ) → Type 0
ReadsBody m size start known old new before after = Carried m (take_letter size) false start known old new before after

-- the reading and answering of a body ended by a fault
abbrev pub ReadsBodyPart : Chart → HttpFault → ℕ → List ℕ → Option (List ℕ) → State → State → Option (List ℕ) → Option (List ℕ) → Type 0
ReadsBodyPart m fault size start known old new before after = CarriedBy m fault (take_letter size) false start known old new before after

-- the answer to all that a connection gives was written, and nothing else
pub record Answered (m : Chart) (known : Option (List ℕ)) (old new : State) (before after : Option (List ℕ)) : Type 0 where
  pub input : List ℕ
  pub read : WasLeft known input
  pub answer : List ℕ
  pub answers : IsAnswer m input old answer new
  pub written : Appends before after answer

-- a beginning of that answer was written
pub record PartAnswered (m : Chart) (known : Option (List ℕ)) (old new : State) (before after : Option (List ℕ)) : Type 0 where
  pub input : List ℕ
  pub read : WasLeft known input
  pub answer : List ℕ
  pub answers : IsAnswer m input old answer new
  pub written : IsPart before after answer

-- the keeper gave no answer: a beginning of the 503 was written, which is quiet where the request was HEAD
pub record PartRefused (known : Option (List ℕ)) (before after : Option (List ℕ)) : Type 0 where
  pub input : List ℕ
  pub read : WasLeft known input
  pub head : RequestHead
  pub rest : List ℕ
  pub headed : IsHead input head rest
  pub written : IsPart before after (refusal 503 None (is_head head.method))

-- how a connection ends by a fault
abbrev pub EndsBy : Chart → HttpFault → Option (List ℕ) → State → State → Option (List ℕ) → Option (List ℕ) → Type 0
EndsBy m Read known old new before after = (new ≡ old) × (after ≡ before)
EndsBy m Memory known old new before after = (new ≡ old) × (after ≡ before)
EndsBy m Write known old new before after = PartAnswered m known old new before after
EndsBy m (Keep fault) known old new before after = (new ≡ old) × PartRefused known before after

-- what a fault tells of a connection, whatever the keeper shows
abbrev pub EndsQuietly : {K : Type 0} → HttpFault → Option (List ℕ) → K → K → Option (List ℕ) → Option (List ℕ) → Type 0
EndsQuietly Read known old new before after = (new ≡ old) × (after ≡ before)
EndsQuietly Memory known old new before after = after ≡ before
EndsQuietly Write known old new before after = Unit {0}
EndsQuietly (Keep fault) known old new before after = PartRefused known before after

-- the letter that a connection posts was taken by a step
pub record TakesPost (m : Chart) (known : Option (List ℕ)) (old new : State) : Type 0 where
  pub input : List ℕ
  pub read : WasLeft known input
  pub letter : Mail
  pub post : IsPost input letter
  pub reply : Reply
  pub step : Step m old letter reply new

-- what a crash may leave after a fault beside the state: where the keeper gave no answer, what the posted letter leaves
abbrev pub MayTake : Chart → HttpFault → Option (List ℕ) → State → State → Type 0
MayTake m (Keep fault) known old new = TakesPost m known old new
MayTake m _ known old new = ⊥

-- how a connection to a keeper that was open ends by a fault: the state after it is what a crash leaves, or one letter more, whole; and
-- the keeper is open and has it, or the store told of a fault
pub record EndsAt {K : Type 0} (m : Chart) (b : Book K) (fault : HttpFault) (known : Option (List ℕ)) (old new : K)
    (before after : Option (List ℕ)) : Type 0 where
  pub state : State
  pub by : EndsBy m fault known (b.content m old) state before after
  pub ends : Ends m b old new state (MayTake m fault known (b.content m old))

-- how a connection is answered over a keeper: what is kept of it, and what a fault tells, whatever it shows; from
-- an open keeper on, over an honest disk, what was answered, or how a fault ended it
pub record AnswersOne {K : Type 0} (m : Chart) (b : Book K) (known : Option (List ℕ)) (old new : K) (before after : Option (List ℕ))
    (result : Result (Unit {0}) HttpFault) : Type 0 where
  pub keeps : Keeps m b old new result
  pub tells : IfErr result (λ f. EndsQuietly f known old new before after)
  -- all was answered, and the keeper is open again
  pub answered : IsOpen m b old → b.honest new
      → OnOk result (IsOpen m b new × Answered m known (b.content m old) (b.content m new) before after)
  -- or up to a fault
  pub ends : IsOpen m b old → b.honest new → IfErr result (λ f. EndsAt m b f known old new before after)
  -- a lawful content stays lawful, where the keeper shows it still, and nothing is Damaged over one, as an empty
  -- desk's is
  pub lawful : IsOpen m b old → b.honest new → b.shows new → IsLawful m (b.content m old) → IsLawful m (b.content m new)
  pub never : IsOpen m b old → b.honest new → IsLawful m (b.content m old) → IsErrOf result (Keep Damaged) → ⊥
