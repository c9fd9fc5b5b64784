-- What is made of what clap found.
use Rattle.std.specs.Prelude.{◌≡◌, Option, None, Some}
use Rattle.dip_judge_words.specs.ArgsGiven.{Found, IsFit, Shows}
use Rattle.dip_judge_words.specs.declared.args.Args.{Args}

-- the answer is what was found, where that is fit, and else none
abbrev pub Answers : Found → Option Args → Type 0
Answers found (Some a) = Shows found a × IsFit a
Answers found None = (a : Args) → Shows found a → IsFit a → ⊥

-- the answer is what was found, where something was found and is fit, and else none
abbrev pub AnswersAt : Option Found → Option Args → Type 0
AnswersAt given (Some a) = (found : Found) × (given ≡ Some found) × Shows found a × IsFit a
AnswersAt given None = (found : Found) (a : Args) → given ≡ Some found → Shows found a → IsFit a → ⊥
