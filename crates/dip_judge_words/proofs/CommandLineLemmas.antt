-- From clap's answers to the command line's definitions.
use Rattle.std.proofs.Common.{◌≡◌, ◌≢◌, ◌⊎◌, inl, inr, List, [], Option, Some, None, option_map, sym, subst, refl, true, ◌∙◌}
use Rattle.clap.proofs.OnLiterals.{clap_on_literals}
use Rattle.clap.specs.Words.{App, HasKind, IsAmong, Text, fault_of, is_simple_and_free, kind_of, subcommand_of}
use Rattle.clap.specs.declared.error.Error.{Error}
use Rattle.clap.specs.declared.error.kind.ErrorKind.{ErrorKind}
use Rattle.clap.specs.declared.error.kind.ErrorKind.TheVariants.{DisplayVersion, OutOfMemory}
use Rattle.dip_judge_words.specs.ArgsGiven.{AsksVersion, Found, GivesCommand, IsFit, IsGiven}
use Rattle.dip_judge_words.specs.CommandLine.{judge_command}
use Rattle.dip_judge_words.specs.declared.args.Args.{Args}
use Rattle.dip_judge_words.specs.declared.args.Args.TheVariants.{Init, Letters, LettersOver, Serve, Report, Check, Explain, Version}
use Rattle.dip_judge_words.specs.Reading.{AnswersAt}
use Rattle.dip_judge_words.specs.UsageFaults.{IsUsageFault, fault_by_kind, fault_from}

-- an option of pairs, from its two sides
pub paired : {A B C : Type 0} (o : Option A) (f : A → B) (g : A → C) (b : B) (c : C) → Some b ≡ option_map f o
    → Some c ≡ option_map (λ (p : B × C). p.1) (option_map {U = B × C} (λ x. (f x, g x)) o) → option_map {U = B × C} (λ x. (f x, g x)) o ≡ Some (b, c)
paired None f g b c first second = cc
paired (Some x) f g b c first second = cc

kind_known : (words : List Text) (e : Error) (k : ErrorKind) → (k ≡ OutOfMemory) ⊎ IsAmong k (fault_of judge_command words)
    → kind_of e ≡ k → k ≢ DisplayVersion → IsUsageFault words (fault_by_kind k e)
kind_known words e OutOfMemory h is other = tt
kind_known words e k (inl bad) is other = cc
kind_known words e k (inr one) is other =
    (subst (λ (x : ErrorKind). IsAmong x (fault_of judge_command words)) (sym is) one, subst (λ (x : ErrorKind). x ≢ DisplayVersion) (sym is) other)

-- the command line uses nothing that clap's definition leaves out
pub within : is_simple_and_free judge_command ≡ true
unfolding clap_on_literals
within = refl

-- what a parse of the command line takes
pub taken_by : (app : App) (words : List Text) → app ≡ judge_command → (is_simple_and_free app ≡ true → fault_of app words ≡ [])
    → fault_of judge_command words ≡ []
taken_by app words same kinds = subst (λ (a : App). is_simple_and_free a ≡ true → fault_of a words ≡ []) same kinds within

kinds_by : (app : App) (words : List Text) (e : Error) → app ≡ judge_command → (is_simple_and_free app ≡ true → HasKind (fault_of app words) e)
    → HasKind (fault_of judge_command words) e
kinds_by app words e same kinds = subst (λ (a : App). is_simple_and_free a ≡ true → HasKind (fault_of a words) e) same kinds within

asks_known : (words : List Text) (k : ErrorKind) → (k ≡ OutOfMemory) ⊎ IsAmong k (fault_of judge_command words) → k ≡ DisplayVersion → AsksVersion words
asks_known words k (inl bad) is = cc
asks_known words k (inr one) is = subst (λ (x : ErrorKind). IsAmong x (fault_of judge_command words)) is one

-- an error of a parse of the command line that tells the version
pub asks_by : (app : App) (words : List Text) (e : Error) → app ≡ judge_command → (is_simple_and_free app ≡ true → HasKind (fault_of app words) e)
    → kind_of e ≡ DisplayVersion → AsksVersion words
asks_by app words e same kinds is = asks_known words (kind_of e) (kinds_by app words e same kinds) is

-- any other error
pub refused_by : (app : App) (words : List Text) (e : Error) → app ≡ judge_command → (is_simple_and_free app ≡ true → HasKind (fault_of app words) e)
    → kind_of e ≢ DisplayVersion → IsUsageFault words (fault_from e)
refused_by app words e same kinds other = kind_known words e (kind_of e) (kinds_by app words e same kinds) refl other

-- words that are taken don't ask for the version
pub takes_no_version : (words : List Text) → fault_of judge_command words ≡ [] → AsksVersion words → ⊥
takes_no_version words none asks = subst (λ (ks : List ErrorKind). IsAmong DisplayVersion ks) none asks

-- where nothing that was found fits, nothing that fits is given
no_command : (words : List Text) (rows : Option Found) (a : Args) → rows ≡ subcommand_of judge_command words → AnswersAt rows None
    → GivesCommand words a → IsFit a → ⊥
no_command words rows a same none given fit = none given.1.0 a (same ∙ given.1.1) given.1.2 fit

pub none_given : (words : List Text) (rows : Option Found) (a : Args) → fault_of judge_command words ≡ [] → rows ≡ subcommand_of judge_command words
    → AnswersAt rows None → IsGiven words a → IsFit a → ⊥
none_given words rows Version taken same none given fit = takes_no_version words taken given
none_given words rows (Init store master file) taken same none given fit = no_command words rows (Init store master file) same none given fit
none_given words rows (Letters master file) taken same none given fit = no_command words rows (Letters master file) same none given fit
none_given words rows (LettersOver store file) taken same none given fit = no_command words rows (LettersOver store file) same none given fit
none_given words rows (Serve store port count file) taken same none given fit = no_command words rows (Serve store port count file) same none given fit
none_given words rows (Report store game file) taken same none given fit = no_command words rows (Report store game file) same none given fit
none_given words rows (Check file) taken same none given fit = no_command words rows (Check file) same none given fit
none_given words rows (Explain paper file) taken same none given fit = no_command words rows (Explain paper file) same none given fit
