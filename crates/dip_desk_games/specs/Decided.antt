-- What is decided of a letter.
use Rattle.std.specs.Prelude.{true, false, ℕ, Bool, List}
use Rattle.dip_desk_state.specs.State.{Effect, Nothing}
use Rattle.dip_reports.specs.Texts.{refusal_line}
use Rattle.dip_reports.specs.declared.refusals.Refusal.{Refusal}

-- what is decided of a letter: its game, sender or secret isn't known; it is its author's last letter again, and gets these lines
-- again; its number is an old one, and it is refused; or it gets these lines, has this effect and is kept
pub data Verdict : Type 0 where
  NotKnown : Verdict
  Again : (text : List ℕ) → Verdict
  OutOfTurn : (text : List ℕ) → Verdict
  Taken : (text : List ℕ) → (effect : Effect) → Verdict

-- refused: the letter does nothing
abbrev pub refusal_verdict : Refusal → Verdict
refusal_verdict r = Taken (refusal_line r) Nothing

-- refused where that holds
abbrev pub unless : Bool → Refusal → Verdict → Verdict
unless true r v = refusal_verdict r
unless false r v = v
