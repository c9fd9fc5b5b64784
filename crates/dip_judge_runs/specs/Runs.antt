-- What a run reads and writes.
use Rattle.std.specs.Prelude.{◌≡◌, ℕ, List, [], ◌∷◌, ◌++◌, Option, Result, Ok, Err, take}
use Rattle.std.specs.List.{flat_map}
use Rattle.std.specs.Io.KnownBytes.{Appends}
use Rattle.dip_letters.specs.Input.{IsNext}
use Rattle.dip_desk_machine.specs.Mail.{Mail, mail}
use Rattle.dip_desk_keeper.specs.Keeping.{Book, Ends, Steps}
use Rattle.dip_desk.specs.Running.{Answers}
use Rattle.dip_letters.specs.declared.letters.Next.{Next}
use Rattle.dip_letters.specs.declared.letters.Next.TheVariants.{Taken, Fault, End}
use Rattle.dip_desk_machine.specs.Machine.{IsDamagedBy, Step, fault_reply}
use Rattle.dip_map.specs.Charts.{Chart}
use Rattle.dip_desk_state.specs.State.{State}
use Rattle.dip_desk_state.specs.Texts.{reply_text}
use Rattle.dip_desk_state.specs.Records.{Reply}
use Rattle.dip_desk_state.specs.Rows as rows
use Rattle.dip_desk_state.specs.declared.faults.KeepFault.{KeepFault}
use Rattle.dip_desk_state.specs.declared.records.Reply.{Reply as Row}
use Rattle.dip_judge_runs.specs.Reading.{IsReadWithin}
use Rattle.dip_judge_runs.specs.declared.run.RunFault.{RunFault}
use Rattle.dip_judge_runs.specs.declared.run.RunFault.TheVariants.{Keep, Memory, Write}

-- the reader gave the whole input, which is within the limit, and nothing is left
abbrev pub IsReadWhole : Option (List ℕ) → Option (List ℕ) → List ℕ → Type 0
IsReadWhole before after input = IsReadWithin 16777216 before after input

-- the reader gave some whole input, which is within the limit, and nothing is left
abbrev pub IsReadToEnd : Option (List ℕ) → Option (List ℕ) → Type 0
IsReadToEnd before after = (input : List ℕ) × IsReadWhole before after input

-- nothing was written, and the keeper wasn't asked
pub record IsUntouched {K : Type 0} (before after : Option (List ℕ)) (old new : K) : Type 0 where
  pub written : after ≡ before
  pub kept : new ≡ old

-- a letter is taken by a step of the desk; a fault of the reading is answered by nobody, and changes nothing
abbrev pub IsAnswered : Chart → State → Next → Reply → State → List ℕ → Type 0
IsAnswered m old (Taken l rest) reply new after = Step m old (mail l) reply new × (rest.now ≡ after)
IsAnswered m old (Fault fault rest) reply new after = (reply ≡ fault_reply fault) × (new ≡ old) × (rest.now ≡ after)
IsAnswered m old End reply new after = ⊥

-- what stands next in the input is answered, and what is after it is left
abbrev pub IsTurn : Chart → List ℕ → State → Reply → State → List ℕ → Type 0
IsTurn m input old reply new after = (next : Next) × IsNext input next × IsAnswered m old next reply new after

-- after what stands in an input
abbrev pub behind : Next → List ℕ
behind (Taken l rest) = rest.now
behind (Fault fault rest) = rest.now
behind End = []

-- what stands in an input, one after the other, and the rest after it
abbrev pub Finds : List ℕ → List Next → List ℕ → Type 0
Finds input [] rest = input ≡ rest
Finds input (next ∷ nexts) rest = IsNext input next × Finds (behind next) nexts rest

-- the letters among what was found
abbrev pub letters_in : List Next → List Mail
letters_in [] = []
letters_in (Taken l rest ∷ nexts) = mail l ∷ letters_in nexts
letters_in (Fault fault rest ∷ nexts) = letters_in nexts
letters_in (End ∷ nexts) = letters_in nexts

-- all replies to what was found: a letter has the next of those that are told, and a fault is answered by nobody
abbrev pub AreReplies : List Next → List Reply → List Reply → Type 0
AreReplies [] told all = (told ≡ []) × (all ≡ [])
AreReplies (Taken l rest ∷ nexts) told all =
    (reply : Reply) × (others more : List Reply) × (told ≡ reply ∷ others) × (all ≡ reply ∷ more) × AreReplies nexts others more
AreReplies (Fault fault rest ∷ nexts) told all = (more : List Reply) × (all ≡ fault_reply fault ∷ more) × AreReplies nexts told more
AreReplies (End ∷ nexts) told all = ⊥

-- a front of the input was answered: the letters that the grammar finds there have the replies of a fair history of the desk, and each
-- fault has its own
pub record AnswersFront (m : Chart) (input : List ℕ) (old new : State) (all : List Reply) (rest : List ℕ) : Type 0 where
  pub found : List Next
  pub finds : Finds input found rest
  pub told : List Reply
  pub history : Answers m old (letters_in found) told new
  pub replies : AreReplies found told all

-- each letter and each fault of the input was answered, and the replies were written and nothing else
pub record AnswersAll (m : Chart) (input : List ℕ) (old new : State) (before after : Option (List ℕ)) : Type 0 where
  pub replies : List Reply
  pub rest : List ℕ
  pub front : AnswersFront m input old new replies rest
  pub end : IsNext rest End
  pub written : Appends before after (flat_map reply_text replies)

-- what was written of the replies up to a fault: where it is the writer's, all but the last reply, and a beginning of that one;
-- else all of them, so that each letter that was taken is answered
abbrev pub IsWritten : RunFault → Option (List ℕ) → Option (List ℕ) → List Reply → Type 0
IsWritten Write before after replies = (others : List Reply) × (last : Reply) × (size : ℕ) × (replies ≡ others ++ last ∷ [])
    × Appends before after (flat_map reply_text others ++ take size (reply_text last))
IsWritten _ before after replies = Appends before after (flat_map reply_text replies)

-- a letter is taken by a step
abbrev pub IsTakenBy : Chart → State → Next → State → Type 0
IsTakenBy m old (Taken l rest) new = (reply : Reply) × Step m old (mail l) reply new
IsTakenBy m old (Fault fault rest) new = ⊥
IsTakenBy m old End new = ⊥

-- what stands next in the input is a letter, and is taken by a step
abbrev pub TakesNext : Chart → List ℕ → State → State → Type 0
TakesNext m input old new = (next : Next) × IsNext input next × IsTakenBy m old next new

-- a letter is taken by the desk, over a keeper
abbrev pub TakesLetter : {K : Type 0} → Chart → Book K → Mail → K → K → Result Row KeepFault → Type 0
TakesLetter m b n old new result = Steps m b old new (λ r. rows.reply r) (λ s r t. Step m s n r t) (IsDamagedBy m n) result

-- what was found is answered over a keeper, and what is after it is left: a letter is taken; a fault of the reading is answered by nobody, and
-- the keeper isn't asked
abbrev pub IsAnsweredOver : {K : Type 0} → Chart → Book K → K → K → Row → List ℕ → Next → Type 0
IsAnsweredOver m b old new reply after (Taken l rest) = TakesLetter m b (mail l) old new (Ok reply) × (rest.now ≡ after)
IsAnsweredOver m b old new reply after (Fault fault rest) = (rows.reply reply ≡ fault_reply fault) × (new ≡ old) × (rest.now ≡ after)
IsAnsweredOver m b old new reply after End = ⊥

-- what stands next in the input is answered over a keeper, and what is after it is left
abbrev pub AnswersNext : {K : Type 0} → Chart → Book K → List ℕ → K → K → Row → List ℕ → Type 0
AnswersNext m b input old new reply after = (next : Next) × IsNext input next × IsAnsweredOver m b old new reply after next

-- what was found is a letter to which the keeper gave no answer
abbrev pub IsUnanswered : {K : Type 0} → Chart → Book K → K → K → KeepFault → Next → Type 0
IsUnanswered m b old new fault (Taken l rest) = TakesLetter m b (mail l) old new (Err fault)
IsUnanswered m b old new fault _ = ⊥

-- what stands next in the input has no answer: memory ran out for that to a fault of the reading, and the keeper wasn't asked; or the keeper
-- gave none to a letter
abbrev pub FailsNext : {K : Type 0} → Chart → Book K → List ℕ → K → K → RunFault → Type 0
FailsNext m b input old new Memory = new ≡ old
FailsNext m b input old new (Keep fault) = (next : Next) × IsNext input next × IsUnanswered m b old new fault next
FailsNext m b input old new _ = ⊥

-- a front of the input was answered, up to a fault
pub record Stops (m : Chart) (fault : RunFault) (input : List ℕ) (old new : State) (before after : Option (List ℕ)) : Type 0 where
  pub replies : List Reply
  pub rest : List ℕ
  pub front : AnswersFront m input old new replies rest
  pub written : IsWritten fault before after replies

-- a front of the input was answered over a keeper that was open, up to a fault: the keeper has the state after the letters so answered, and a crash
-- leaves that one or the one after the next letter too
pub record StopsAt {K : Type 0} (m : Chart) (b : Book K) (fault : RunFault) (input : List ℕ) (old new : K) (before after : Option (List ℕ))
    : Type 0 where
  pub state : State
  pub stops : Stops m fault input (b.content m old) state before after
  pub ends : Ends m b old new state (TakesNext m stops.rest state)
