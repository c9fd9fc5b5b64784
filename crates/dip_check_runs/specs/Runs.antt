-- What a run over papers reads, says and writes.
use Rattle.std.specs.Prelude.{◌≡◌, ◌<◌, ◌+◌, ◌++◌, ◌⊎◌, length, ℕ, Bool, false, true, List, [], ◌∷◌, Option, None, Some, take}
use Rattle.std.specs.List.{flat_map}
use Rattle.std.specs.Io.KnownBytes.{Appends}
use Rattle.std.specs.Str.{IsUtf8}
use Rattle.dip_map.specs.Boards.{IsOf}
use Rattle.dip_map.specs.Charts.{Chart}
use Rattle.dip_desk_state.specs.Records.{Public}
use Rattle.dip_desk_state.specs.declared.records.Public.{Public as Row}
use Rattle.dip_desk_state.specs.Rows as rows
use Rattle.dip_turn_phases.specs.declared.report.Report.{Report}
use Rattle.dip_check_papers.specs.Games.{AreOfGame, IsNext, IsOpening, IsPhaseOf}
use Rattle.dip_check_papers.specs.PaperTexts.{HasNoEnd}
use Rattle.dip_explain.specs.Phases.{phase_explained}
use Rattle.dip_check_papers.specs.declared.faults.CheckFault.{CheckFault}
use Rattle.dip_check_papers.specs.declared.faults.CheckFault.TheVariants.{Memory, Read, TooLong, Write}
use Rattle.dip_check_runs.specs.Input.{AreEmptyLines, HasUsed, HasUsedAll, IsAfterLines}
use Rattle.dip_check_runs.specs.Texts.{count_text, empty_text, missing_text, no_phase_text, right_text, said_text, too_long_text}
use Rattle.dip_check_runs.specs.declared.explaining.Found.{Found}
use Rattle.dip_check_runs.specs.declared.saying.Said.{Said}
use Rattle.dip_check_runs.specs.declared.saying.Said.TheVariants.{Right, Wrong, NoText}

-- bytes are these texts, one after the other, each after empty lines or none
abbrev pub AreFronts : List ℕ → List (List ℕ) → Type 0
AreFronts bytes [] = bytes ≡ []
AreFronts bytes (t ∷ ts) = (lines rest : List ℕ) × AreEmptyLines lines × (bytes ≡ lines ++ (t ++ rest)) × AreFronts rest ts

-- bytes are these texts, each after empty lines or none, and nothing but empty lines comes after the last
pub record AreSpelled (bytes : List ℕ) (texts : List (List ℕ)) : Type 0 where
  pub front : List ℕ
  pub lines : List ℕ
  pub fronts : AreFronts front texts
  pub empty : AreEmptyLines lines
  pub parts : bytes ≡ front ++ lines

-- no paper was played yet, or these, which are those of a game of the map that stands so
abbrev pub ArePlayed : Chart → List (List ℕ) → Option Row → Type 0
ArePlayed m papers None = papers ≡ []
ArePlayed m papers (Some p) = AreOfGame m papers (rows.public p) × IsOf m p.board.value

-- an input is the papers of a game of the map, with nothing but empty lines around them; the LF of its last line may be missing
pub record IsGame (m : Chart) (input : List ℕ) : Type 0 where
  pub papers : List (List ℕ)
  pub public : Public
  pub spelled : AreSpelled (input ++ 10 ∷ []) papers
  pub are : AreOfGame m papers public

-- the answer to whether an input is that, where it is known: right where it is, and wrong where it isn't
abbrev pub TellsIfGame : Chart → Option (List ℕ) → Bool → Type 0
TellsIfGame m None right = Unit {0}
TellsIfGame m (Some input) true = IsGame m input
TellsIfGame m (Some input) false = ¬ IsGame m input

-- the board of the game so far is one of the map
abbrev pub HasBoard : Chart → Option Row → Type 0
HasBoard m None = Unit {0}
HasBoard m (Some p) = IsOf m p.board.value

-- how many papers were played
abbrev pub count_played : Option Row → ℕ
count_played None = 0
count_played (Some p) = p.papers

-- bytes are right where they may come next in a game, and leave it so, with a board of the map; where a text is wrong, nothing that may
-- come next has it; and where they are no text, they are no UTF-8
abbrev pub IsSaidNext : Chart → Public → List ℕ → Said → Type 0
IsSaidNext m p bytes (Right new) = IsNext m p bytes (rows.public new) × IsOf m new.board.value
IsSaidNext m p bytes (Wrong fault) = (new : Public) → IsNext m p bytes new → ⊥
IsSaidNext m p bytes (NoText line) = ¬ IsUtf8 bytes

-- bytes are right only where they may come first in a game, which stands so, with a board of the map; where a text is wrong, no game
-- begins with it; and where they are no text, they are no UTF-8
abbrev pub IsSaidFirst : Chart → List ℕ → Said → Type 0
IsSaidFirst m bytes (Right new) = IsOpening m bytes (rows.public new) × IsOf m new.board.value
IsSaidFirst m bytes (Wrong fault) = (new : Public) → IsOpening m bytes new → ⊥
IsSaidFirst m bytes (NoText line) = ¬ IsUtf8 bytes

-- what is said of the bytes that come after the papers that were played
abbrev pub IsSaid : Chart → Option Row → List ℕ → Said → Type 0
IsSaid m None bytes said = IsSaidFirst m bytes said
IsSaid m (Some p) bytes said = IsSaidNext m (rows.public p) bytes said

abbrev pub is_right : Said → Bool
is_right (Right new) = true
is_right (Wrong fault) = false
is_right (NoText line) = false

-- after the papers that were played the input has this one
pub record ComesNext (known left : Option (List ℕ)) (papers : List (List ℕ)) (paper : List ℕ) : Type 0 where
  pub used : List ℕ
  pub part : HasUsed known left used
  pub fronts : AreFronts used (papers ++ paper ∷ [])

-- the whole input is the papers that were played; the LF of its last line may be missing
pub record IsAll (known left : Option (List ℕ)) (papers : List (List ℕ)) : Type 0 where
  pub used : List ℕ
  pub whole : HasUsedAll known left used
  pub spelled : AreSpelled used papers

-- after the papers that were played the input has one that isn't right, of which this is told
pub record IsToldWrong (m : Chart) (known left : Option (List ℕ)) (papers : List (List ℕ)) (game : Option Row) (last : List ℕ) : Type 0 where
  pub paper : List ℕ
  pub said : Said
  pub comes : ComesNext known left papers paper
  pub is : IsSaid m game paper said
  pub wrong : is_right said ≡ false
  pub told : last ≡ said_text paper said

-- the whole input is the papers of a game, of which this is told in the end
pub record IsToldAll (known left : Option (List ℕ)) (papers : List (List ℕ)) (game : Option Row) (last : List ℕ) : Type 0 where
  pub public : Row
  pub some : game ≡ Some public
  pub all : IsAll known left papers
  pub told : last ≡ count_text public.papers

-- the whole input has no paper
pub record IsToldEmpty (known left : Option (List ℕ)) (papers : List (List ℕ)) (game : Option Row) (last : List ℕ) : Type 0 where
  pub none : game ≡ None
  pub all : IsAll known left papers
  pub told : last ≡ empty_text

-- how a check ends: all are right, or not
abbrev pub EndsCheck : Chart → Option (List ℕ) → Option (List ℕ) → List (List ℕ) → Option Row → List ℕ → Bool → Type 0
EndsCheck m known left papers game last true = IsToldAll known left papers game last
EndsCheck m known left papers game last false = IsToldEmpty known left papers game last ⊎ IsToldWrong m known left papers game last

-- each of the first papers of the input was told right, which they are, and then how the check ends
pub record IsChecked (m : Chart) (known left before after : Option (List ℕ)) (right : Bool) : Type 0 where
  pub papers : List (List ℕ)
  pub game : Option Row
  pub played : ArePlayed m papers game
  pub last : List ℕ
  pub ends : EndsCheck m known left papers game last right
  pub written : Appends before after (flat_map right_text papers ++ last)

-- the paper plays the phase of the game so far, of which this text is the explanation
abbrev pub IsExplanation : Chart → Option Row → List ℕ → List ℕ → Type 0
IsExplanation m None paper text = ⊥
IsExplanation m (Some p) paper text =
    (report : Report) × (new : Public) × IsPhaseOf m (rows.public p) paper report new × (text ≡ phase_explained m p.board.value report)

-- the paper of this number plays a phase, whose explanation was told
pub record IsToldWhy (m : Chart) (number : ℕ) (known left : Option (List ℕ)) (papers : List (List ℕ)) (game : Option Row) (last : List ℕ) : Type 0 where
  pub paper : List ℕ
  pub comes : ComesNext known left papers paper
  pub count : count_played game + 1 ≡ number
  pub is : IsExplanation m game paper last

-- it plays none
pub record IsToldIdle (m : Chart) (number : ℕ) (known left : Option (List ℕ)) (papers : List (List ℕ)) (game : Option Row) (last : List ℕ) : Type 0 where
  pub paper : List ℕ
  pub new : Row
  pub comes : ComesNext known left papers paper
  pub count : count_played game + 1 ≡ number
  pub is : IsSaid m game paper (Right new)
  pub told : last ≡ no_phase_text paper

-- the whole input has fewer papers
pub record IsToldMissing (number : ℕ) (known left : Option (List ℕ)) (papers : List (List ℕ)) (game : Option Row) (last : List ℕ) : Type 0 where
  pub all : IsAll known left papers
  pub told : last ≡ missing_text number (count_played game)

-- how an explanation ends: with the steps of the paper, or with why there are none
abbrev pub EndsExplaining : Chart → ℕ → Option (List ℕ) → Option (List ℕ) → List (List ℕ) → Option Row → List ℕ → Bool → Type 0
EndsExplaining m number known left papers game last true = IsToldWhy m number known left papers game last
EndsExplaining m number known left papers game last false = IsToldMissing number known left papers game last
    ⊎ (IsToldIdle m number known left papers game last ⊎ IsToldWrong m known left papers game last)

-- what is to be told of a paper that is to be explained: its explanation; or that it plays no phase, or is wrong
abbrev pub IsFoundText : Chart → Option Row → List ℕ → List ℕ → Bool → Type 0
IsFoundText m game paper text true = IsExplanation m game paper text
IsFoundText m game paper text false = ((new : Row) × IsSaid m game paper (Right new) × (text ≡ no_phase_text paper))
    ⊎ ((said : Said) × IsSaid m game paper said × (is_right said ≡ false) × (text ≡ said_text paper said))

abbrev pub IsFoundNext : Chart → Option Row → List ℕ → Found → Type 0
IsFoundNext m game paper found = IsFoundText m game paper found.text.items found.explained

-- the first papers of the input are right, and this is what is to be told
pub record IsFound (m : Chart) (number : ℕ) (known left : Option (List ℕ)) (last : List ℕ) (done : Bool) : Type 0 where
  pub papers : List (List ℕ)
  pub game : Option Row
  pub played : ArePlayed m papers game
  pub ends : EndsExplaining m number known left papers game last done

-- what was to be told was, and nothing else
pub record IsExplained (m : Chart) (number : ℕ) (known left before after : Option (List ℕ)) (done : Bool) : Type 0 where
  pub last : List ℕ
  pub found : IsFound m number known left last done
  pub written : Appends before after last

-- the input can't be read: by the reader's fault, its size, or want of memory
abbrev pub IsReadingFault : CheckFault → Type 0
IsReadingFault Read = Unit {0}
IsReadingFault TooLong = Unit {0}
IsReadingFault Memory = Unit {0}
IsReadingFault _ = ⊥

-- what is told in the end of the papers that were played
abbrev pub end_text : Option Row → List ℕ
end_text None = empty_text
end_text (Some p) = count_text p.papers

-- the input begins with these papers, and with these bytes after them
pub record BeginsWith (known : Option (List ℕ)) (papers : List (List ℕ)) (front : List ℕ) : Type 0 where
  pub left : Option (List ℕ)
  pub used : List ℕ
  pub part : HasUsed known left (used ++ front)
  pub fronts : AreFronts used papers

-- what is told of bytes that are longer than a paper with the empty lines before it may be
pub record TellsTooLong (front text : List ℕ) : Type 0 where
  pub paper : List ℕ
  pub after : IsAfterLines front paper
  pub told : text ≡ too_long_text paper

-- after the papers that were played the input has more bytes without an end of a paper than a paper may have, of which this is told
pub record IsTooLong (known : Option (List ℕ)) (papers : List (List ℕ)) (text : List ℕ) : Type 0 where
  pub front : List ℕ
  pub begins : BeginsWith known papers front
  pub endless : HasNoEnd front
  pub long : 1048576 < length front
  pub tells : TellsTooLong front text

-- what is said of bytes is told of them
abbrev pub TellsOf : Chart → Option Row → List ℕ → List ℕ → Type 0
TellsOf m game paper text = (said : Said) × IsSaid m game paper said × (text ≡ said_text paper said)

-- after the papers that were played the input has another, of which this is told
pub record IsToldNext (m : Chart) (known : Option (List ℕ)) (papers : List (List ℕ)) (game : Option Row) (text : List ℕ) : Type 0 where
  pub paper : List ℕ
  pub begins : BeginsWith known (papers ++ paper ∷ []) []
  pub tells : TellsOf m game paper text

-- the whole input is the papers that were played, of which this is told in the end
pub record IsToldLast (known : Option (List ℕ)) (papers : List (List ℕ)) (game : Option Row) (text : List ℕ) : Type 0 where
  pub left : Option (List ℕ)
  pub all : IsAll known left papers
  pub told : text ≡ end_text game

-- what is to be told after the papers that were played: of the next one, of bytes that are too long, or in the end
abbrev pub IsToTell : Chart → Option (List ℕ) → List (List ℕ) → Option Row → List ℕ → Type 0
IsToTell m known papers game text =
    IsToldNext m known papers game text ⊎ (IsTooLong known papers text ⊎ IsToldLast known papers game text)

-- such a text was begun
abbrev pub Begins : (List ℕ → Type 0) → Option (List ℕ) → Option (List ℕ) → Type 0
Begins IsText before after = (text : List ℕ) × IsText text × ((size : ℕ) × Appends before after (take size text))

-- a fault ended the telling of such a text: memory ran out before it, or writing failed
abbrev pub StopsTelling : (List ℕ → Type 0) → Option (List ℕ) → Option (List ℕ) → CheckFault → Type 0
StopsTelling IsText before after Memory = after ≡ before
StopsTelling IsText before after Write = Begins IsText before after
StopsTelling IsText before after _ = ⊥

-- reading stopped with a fault: nothing is told of it, but that bytes are too long, if that can be told
abbrev pub StopsReading : CheckFault → (List ℕ → Type 0) → Option (List ℕ) → Option (List ℕ) → CheckFault → Type 0
StopsReading TooLong IsText before after TooLong = (text : List ℕ) × IsText text × Appends before after text
StopsReading TooLong IsText before after fault = StopsTelling IsText before after fault
StopsReading Read IsText before after Read = after ≡ before
StopsReading Memory IsText before after Memory = after ≡ before
StopsReading _ IsText before after _ = ⊥

-- after the papers that were played a fault ended the check: nothing was told of what comes next; or that it is too long; or, where writing
-- failed, a beginning of what was to be told
abbrev pub StopsAfter : Chart → Option (List ℕ) → List (List ℕ) → Option Row → Option (List ℕ) → Option (List ℕ) → CheckFault → Type 0
StopsAfter m known papers game before after Read = after ≡ before
StopsAfter m known papers game before after Memory = after ≡ before
StopsAfter m known papers game before after TooLong = (text : List ℕ) × IsTooLong known papers text × Appends before after text
StopsAfter m known papers game before after Write = Begins (IsToTell m known papers game) before after

-- a check ended early: each of the first papers of the input was told right, which they are, and then a fault ended it
pub record EndsEarly (m : Chart) (known before after : Option (List ℕ)) (fault : CheckFault) : Type 0 where
  pub papers : List (List ℕ)
  pub game : Option Row
  pub played : ArePlayed m papers game
  pub begins : BeginsWith known papers []
  pub mid : Option (List ℕ)
  pub right : Appends before mid (flat_map right_text papers)
  pub stops : StopsAfter m known papers game mid after fault

-- a beginning of what was to be told was told
pub record IsBegun (m : Chart) (number : ℕ) (known left before after : Option (List ℕ)) : Type 0 where
  pub last : List ℕ
  pub done : Bool
  pub found : IsFound m number known left last done
  pub size : ℕ
  pub written : Appends before after (take size last)

-- an explanation ended early: nothing was told; or, where writing failed, a beginning of what was to be told
abbrev pub EndsBegun : Chart → ℕ → Option (List ℕ) → Option (List ℕ) → Option (List ℕ) → Option (List ℕ) → CheckFault → Type 0
EndsBegun m number known left before after Read = after ≡ before
EndsBegun m number known left before after TooLong = after ≡ before
EndsBegun m number known left before after Memory = after ≡ before
EndsBegun m number known left before after Write = IsBegun m number known left before after
