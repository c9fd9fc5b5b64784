-- What follows where what stands next in an input was answered over a keeper, or has no answer.
use Rattle.std.proofs.Common.{◌≡◌, ◌≤◌, ℕ, List, Ok, Err, ap, arith, refl, subst, sym}
use Rattle.dip_desk_keeper.proofs.Ending.{ends_late, ends_open, steps_end, steps_on}
use Rattle.dip_desk_keeper.specs.Keeping.{Book, Ends, IsOpen, WasTold}
use Rattle.dip_desk_machine.specs.Lawful.{IsLawful, IsNeverDamaged, StaysLawful}
use Rattle.dip_desk_machine.specs.Mail.{mail}
use Rattle.dip_desk_state.specs.Rows as rows
use Rattle.dip_desk_state.specs.declared.faults.KeepFault.{KeepFault}
use Rattle.dip_desk_state.specs.declared.faults.KeepFault.TheVariants.{Damaged, Disk}
use Rattle.dip_desk_state.specs.declared.records.Reply.{Reply as Row}
use Rattle.dip_letters.specs.Input.{IsNext}
use Rattle.dip_letters.specs.declared.letters.Next.{Next}
use Rattle.dip_letters.specs.declared.letters.Next.TheVariants.{Taken, Fault, End}
use Rattle.dip_map.specs.Charts.{Chart}
use Rattle.dip_judge_runs.specs.RunFaults.{IsTakingFault, faults_after_run}
use Rattle.dip_judge_runs.specs.Runs.{AnswersNext, FailsNext, IsAnsweredOver, IsTurn, IsUnanswered, TakesNext}
use Rattle.dip_judge_runs.specs.declared.run.RunFault.{RunFault}
use Rattle.dip_judge_runs.specs.declared.run.RunFault.TheVariants.{Keep, Memory, Read, TooLong, Write}

-- a keeper goes on after an answer: an open one stays open, and what its desk did is a turn
pub record GoesOn {K : Type 0} (m : Chart) (b : Book K) (input : List ℕ) (old new : K) (reply : Row) (after : List ℕ) : Type 0 where
  pub count : b.faults new ≡ b.faults old
  pub told : b.told old ≤ b.told new
  pub fair : b.honest new → b.honest old
  pub same_map : b.map_sum new ≡ b.map_sum old
  pub opens : IsOpen m b old → b.honest new → IsOpen m b new
  pub turn : IsOpen m b old → b.honest new → IsTurn m input (b.content m old) (rows.reply reply) (b.content m new) after
  pub lawful : IsOpen m b old → b.honest new → IsLawful m (b.content m old) → IsLawful m (b.content m new)

-- as one that wasn't asked does
stays : {K : Type 0} (m : Chart) (b : Book K) (input : List ℕ) (k : K) (reply : Row) (after : List ℕ)
    → IsTurn m input (b.content m k) (rows.reply reply) (b.content m k) after → GoesOn m b input k k reply after
stays m b input k reply after turn = record {
  count = refl;
  told = omega arith;
  fair = λ honest. honest;
  same_map = refl;
  opens = λ it honest. it;
  turn = λ it honest. turn;
  lawful = λ it honest lawful. lawful;
}

-- or one that took a letter
goes_with : {K : Type 0} (m : Chart) (b : Book K) (old new : K) (reply : Row) (after input : List ℕ) (next : Next) → StaysLawful m → IsNext input next
    → IsAnsweredOver m b old new reply after next → GoesOn m b input old new reply after
goes_with m b old new reply after input (Taken l rest) laws is h = record {
  count = h.0.keeps.count;
  told = h.0.keeps.told;
  fair = h.0.keeps.fair;
  same_map = h.0.keeps.same_map;
  opens = λ it honest. (steps_on m b old new (λ r. rows.reply r) _ _ (Ok reply) h.0 it honest).0;
  turn = λ it honest. (Taken l rest, is, ((steps_on m b old new (λ r. rows.reply r) _ _ (Ok reply) h.0 it honest).1, h.1));
  lawful = λ it honest lawful. laws (b.content m old) (mail l) (rows.reply reply) (b.content m new) is.0.fits lawful
      (steps_on m b old new (λ r. rows.reply r) _ _ (Ok reply) h.0 it honest).1;
}
goes_with m b old new reply after input (Fault fault rest) laws is h =
    subst (λ k. GoesOn m b input old k reply after) (sym h.1) (stays m b input old reply after (Fault fault rest, is, (h.0, refl, h.2)))
goes_with m b old new reply after input End laws is h = absurd h

pub goes_on : {K : Type 0} (m : Chart) (b : Book K) (old new : K) (reply : Row) (after input : List ℕ) → StaysLawful m
    → AnswersNext m b input old new reply after → GoesOn m b input old new reply after
goes_on m b old new reply after input laws h = goes_with m b old new reply after input h.0 laws h.1 h.2

-- a keeper after what has no answer
pub record Fails {K : Type 0} (m : Chart) (b : Book K) (input : List ℕ) (old new : K) (fault : RunFault) : Type 0 where
  pub kind : IsTakingFault fault
  pub fair : b.honest new → b.honest old
  pub same_map : b.map_sum new ≡ b.map_sum old
  pub told : IsOpen m b old → b.honest new → fault ≡ Keep Disk → WasTold b old new
  pub never : IsOpen m b old → b.honest new → IsLawful m (b.content m old) → fault ≡ Keep Damaged → ⊥
  pub ends : IsOpen m b old → b.honest new → Ends m b old new (b.content m old) (TakesNext m input (b.content m old))

-- which wasn't asked
unasked : {K : Type 0} (m : Chart) (b : Book K) (input : List ℕ) (k : K) → Fails m b input k k Memory
unasked m b input k = record {
  kind = tt;
  fair = λ honest. honest;
  same_map = refl;
  told = λ it honest is. absurd (cc);
  never = λ it honest lawful is. cc;
  ends = λ it honest. ends_open m b k k _ it;
}

-- or gave none
fails_with : {K : Type 0} (m : Chart) (b : Book K) (input : List ℕ) (old new : K) (fault : KeepFault) (next : Next) → IsNeverDamaged m → IsNext input next
    → IsUnanswered m b old new fault next → Fails m b input old new (Keep fault)
fails_with m b input old new fault (Taken l rest) sane is h = record {
  kind = tt;
  fair = h.keeps.fair;
  same_map = h.keeps.same_map;
  told = λ it honest disk. let same : fault ≡ Disk = cc in h.failed it.sound honest it.shows (ap (λ (e : KeepFault). Err e) same);
  never = λ it honest lawful damaged.
      let same : fault ≡ Damaged = cc in
      sane (b.content m old) (mail l) _ is.0.fits lawful (h.damaged it.sound honest it.shows (ap (λ (e : KeepFault). Err e) same));
  ends = λ it honest.
      ends_late m b old old new _ _ _ (omega arith) (λ t more. (Taken l rest, is, (more.0, more.1)))
      (steps_end m b old new (λ r. rows.reply r) _ _ (Err fault) h it honest);
}
fails_with m b input old new fault (Fault f rest) sane is h = absurd h
fails_with m b input old new fault End sane is h = absurd h

pub fails_so : {K : Type 0} (m : Chart) (b : Book K) (input : List ℕ) (old new : K) (fault : RunFault) → IsNeverDamaged m → FailsNext m b input old new fault
    → Fails m b input old new fault
fails_so m b input old new Memory sane h = subst (λ k. Fails m b input old k Memory) (sym h) (unasked m b input old)
fails_so m b input old new (Keep fault) sane h = fails_with m b input old new fault h.0 sane h.1 h.2
fails_so m b input old new Read sane h = absurd h
fails_so m b input old new TooLong sane h = absurd h
fails_so m b input old new Write sane h = absurd h

-- the count of the keeper's faults
count_with : {K : Type 0} (A : Type 0) (m : Chart) (b : Book K) (old new : K) (fault : KeepFault) (next : Next) → IsUnanswered m b old new fault next
    → b.faults new ≡ faults_after_run {A = A} (Err (Keep fault)) (b.faults old)
count_with A m b old new fault (Taken l rest) h = h.keeps.count
count_with A m b old new fault (Fault f rest) h = absurd h
count_with A m b old new fault End h = absurd h

pub count_so : {K : Type 0} (A : Type 0) (m : Chart) (b : Book K) (input : List ℕ) (old new : K) (fault : RunFault) → FailsNext m b input old new fault
    → b.faults new ≡ faults_after_run {A = A} (Err fault) (b.faults old)
count_so A m b input old new Memory h = ap (λ k. b.faults k) h
count_so A m b input old new (Keep fault) h = count_with A m b old new fault h.0 h.2
count_so A m b input old new Read h = absurd h
count_so A m b input old new TooLong h = absurd h
count_so A m b input old new Write h = absurd h
