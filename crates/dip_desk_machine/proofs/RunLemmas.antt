-- What each step of a letter keeps, a history keeps.
use Rattle.std.proofs.Common.{List, [], ◌∷◌, map, refl, subst, sym}
use Rattle.std.specs.List.{AllByRecursion}
use Rattle.dip_map.specs.Charts.{Chart}
use Rattle.dip_desk_state.specs.Records.{Reply}
use Rattle.dip_desk_state.specs.State.{State}
use Rattle.dip_desk_machine.specs.Machine.{Step}
use Rattle.dip_desk_machine.specs.Mail.{IsMail, Mail}
use Rattle.dip_desk_machine.specs.View.{IsRun, Turn, left_by, reply_in}

-- the letters of these turns are letters of the grammar
abbrev pub AreMailed : List Turn → Type 0
AreMailed ts = AllByRecursion IsMail (map (λ (t : Turn). t.letter) ts)

-- each step of a letter of the grammar keeps this of the state
abbrev pub StepsKeep : Chart → (State → Type 0) → Type 0
StepsKeep m P = (old : State) (n : Mail) (r : Reply) (new : State) → IsMail n → Step m old n r new → P old → P new

pub run_keeps : (m : Chart) (P : State → Type 0) → StepsKeep m P → (ts : List Turn) (old new : State) → AreMailed ts → IsRun m old ts new → P old → P new
run_keeps m P steps [] old new all run was = subst P (sym run) was
run_keeps m P steps (t ∷ ts) old new all run was =
    run_keeps m P steps ts (left_by m t) new all.1 run.2
    (steps t.before t.letter (reply_in t) (left_by m t) all.0 (t.verdict, run.1, refl, refl) (subst P (sym run.0) was))
