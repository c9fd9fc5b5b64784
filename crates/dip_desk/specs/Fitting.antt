-- What is decided of a letter fits.
use Rattle.std.specs.Prelude.{List, ℕ}
use Rattle.dip_map.specs.Charts.{Chart}
use Rattle.dip_desk_keeper.specs.Fitting.{Fits}
use Rattle.dip_desk_machine.specs.Machine.{Decides, Verdict, NotKnown, Again, OutOfTurn, Taken, author, change_of}
use Rattle.dip_desk_machine.specs.Lawful.{IsLawful}
use Rattle.dip_desk_machine.specs.Mail.{IsMail, Mail}
use Rattle.dip_desk_state.specs.State.{Author, Effect, State}

-- a verdict that fits: what it would have kept does
abbrev pub VerdictFits : Chart → Mail → Author → Verdict → State → Type 0
VerdictFits m n who NotKnown s = Unit {0}
VerdictFits m n who (Again text) s = Unit {0}
VerdictFits m n who (OutOfTurn text) s = Unit {0}
VerdictFits m n who (Taken text effect) s = Fits m (change_of n who text effect) s

-- in a lawful state each change that a letter of the grammar asks for fits
abbrev pub ChangesFit : Chart → Type 0
ChangesFit m = (s : State) (n : Mail) (text : List ℕ) (e : Effect) → IsLawful m s → IsMail n
    → Decides m s n (author m n s) (Taken text e) → Fits m (change_of n (author m n s) text e) s
