-- What each step of a letter keeps, the answers to an input keep.
use Rattle.std.proofs.Common.{List, [], ◌∷◌, Option, subst, sym, ℕ}
use Rattle.std.specs.List.{AllByRecursion}
use Rattle.dip_letters.specs.declared.letters.Next.{Next}
use Rattle.dip_letters.specs.declared.letters.Next.TheVariants.{Taken, Fault, End}
use Rattle.dip_map.specs.Charts.{Chart}
use Rattle.dip_desk_state.specs.Records.{Reply}
use Rattle.dip_desk_state.specs.State.{State}
use Rattle.dip_desk_machine.specs.Mail.{IsMail, mail}
use Rattle.dip_desk_machine.proofs.RunLemmas.{StepsKeep, run_keeps}
use Rattle.dip_judge_runs.specs.Runs.{AnswersAll, AnswersFront, Finds, TakesNext, letters_in}

-- what the grammar finds are letters of it
mails : (input : List ℕ) (found : List Next) (rest : List ℕ) → Finds input found rest → AllByRecursion IsMail (letters_in found)
mails input [] rest h = tt
mails input (Taken l more ∷ nexts) rest h = (h.0.0.fits, mails more.now nexts rest h.1)
mails input (Fault fault more ∷ nexts) rest h = mails more.now nexts rest h.1
mails input (End ∷ nexts) rest h = mails [] nexts rest h.1

module _ (m : Chart) (P : State → Type 0) (steps : StepsKeep m P) where
  pub front_keeps : (input : List ℕ) (old new : State) (replies : List Reply) (rest : List ℕ) → AnswersFront m input old new replies rest
      → P old → P new
  front_keeps input old new replies rest front was =
      let history = front.history.1 in
      run_keeps m P steps front.history.0 old new (subst (AllByRecursion IsMail) (sym history.asked) (mails input front.found rest front.finds)) history.run was

  pub next_keeps : (input : List ℕ) (old new : State) → TakesNext m input old new → P old → P new
  next_keeps input old new (Taken l rest, is, (r, step)) was = steps old (mail l) r new is.0.fits step was
  next_keeps input old new (Fault fault rest, is, taken) was = absurd taken
  next_keeps input old new (End, is, taken) was = absurd taken

  pub all_keep : (input : List ℕ) (old new : State) (before after : Option (List ℕ)) → AnswersAll m input old new before after → P old → P new
  all_keep input old new before after run was = front_keeps input old new run.replies run.rest run.front was
