-- What is printed of a game, and what runs over letters keep.
use Rattle.std.proofs.Common.{◌≡◌, ◌⊎◌, inl, inr, ℕ, List, [], ◌∷◌, ◌++◌, zero, suc, Option, Some, refl, sym, subst, map, arith, bytes_eq}
use Rattle.std.specs.Prelude.{Bool, true, false}
use Rattle.std.specs.List.{AllByRecursion, flat_map}
use Rattle.dip_map.specs.Charts.{Chart}
use Rattle.dip_desk_state.specs.Records.{Reply}
use Rattle.dip_desk_state.specs.State.{Game, State, game_at, name_of}
use Rattle.dip_desk_machine.specs.Lawful.{IsLawful, StaysLawful}
use Rattle.dip_desk_machine.proofs.ListLemmas.{all_at}
use Rattle.dip_desk_machine.proofs.RunLemmas.{StepsKeep}
use Rattle.dip_desk_keeper.specs.Papers.{papers_text}
use Rattle.dip_http.specs.Serving.{TakesOne}
use Rattle.dip_http.proofs.KeptLemmas.{one_keeps, served_keep}
use Rattle.dip_judge_runs.specs.Fresh.{fresh_desk}
use Rattle.dip_judge_runs.specs.Runs.{AnswersAll, AnswersFront, TakesNext}
use Rattle.dip_judge_runs.proofs.KeptLemmas.{all_keep, front_keeps, next_keeps}
use Rattle.dip_check_papers.specs.Games.{AreOfGame}
use Rattle.dip_check_laws.specs.Published.{AreGames, StaysGames}
use Rattle.dip_check_runs.specs.Runs.{AreFronts, IsGame, TellsIfGame}
use Rattle.dip_check_laws.specs.Laws.{AreRuns, Leaves, LeavesAtFault, LeavesServing, Run}
use Rattle.dip_check_laws.specs.Laws.Run.{Clients, Letters}

-- what is printed

fronts : (papers : List (List ℕ)) → AreFronts (flat_map (λ p. p) papers) papers
fronts [] = refl
fronts (p ∷ ps) = ([], flat_map (λ p. p) ps, tt, refl, fronts ps)

pub printed : (m : Chart) (s : State) (name : List ℕ) (g : Game) → AreGames m s → game_at name s ≡ Some g → IsGame m (papers_text (Some g))
printed m s name g right found = record {
  papers = g.papers;
  public = g.public;
  spelled = record { front = papers_text (Some g); lines = 10 ∷ []; fronts = fronts g.papers; empty = (refl, tt); parts = refl };
  are = all_at bytes_eq name_of name (λ (g : Game). AreOfGame m g.papers g.public) s.games g right found;
}

pub found_right : (m : Chart) (input : List ℕ) (right : Bool) → IsGame m input → TellsIfGame m (Some input) right → right ≡ true
found_right m input true is told = refl
found_right m input false is told = absurd (told is)

-- a new desk

pub fresh_games : (m : Chart) (master : List ℕ) → AreGames m (fresh_desk master)
fresh_games m master = tt

pub fresh_lawful : (m : Chart) (master : List ℕ) → IsLawful m (fresh_desk master)
fresh_lawful m master = record { games = tt; names = tt; numbered = tt; last = omega arith }

-- runs

abbrev IsRight : Chart → State → Type 0
IsRight m s = IsLawful m s × AreGames m s

module _ (m : Chart) (lawful : StaysLawful m) (games : StaysGames m) where
  step_right : StepsKeep m (IsRight m)
  step_right old n r new is step right = (lawful old n r new is right.0 step, games old n r new is right.0 right.1 step)

  pub front_right : (input : List ℕ) (old new : State) (replies : List Reply) (rest : List ℕ) → AnswersFront m input old new replies rest
      → IsRight m old → IsRight m new
  front_right = front_keeps m (IsRight m) step_right

  pub all_right : (input : List ℕ) (old new : State) (before after : Option (List ℕ)) → AnswersAll m input old new before after
      → IsRight m old → IsRight m new
  all_right = all_keep m (IsRight m) step_right

  pub fault_right : (input : List ℕ) (old new : State) → LeavesAtFault m input old new → IsRight m old → IsRight m new
  fault_right input old new run right = by run.is
    where
      there : IsRight m run.state
      there = front_right input old run.state run.stops.replies run.stops.rest run.stops.front right

      by : (new ≡ run.state) ⊎ TakesNext m run.stops.rest run.state new → IsRight m new
      by (inl same) = subst (IsRight m) (sym same) there
      by (inr next) = next_keeps m (IsRight m) step_right run.stops.rest run.state new next there

  pub serving_right : (count : ℕ) (old new : State) → LeavesServing m count old new → IsRight m old → IsRight m new
  serving_right count old new run right = by run.is
    where
      there : IsRight m run.state
      there = served_keep m (IsRight m) step_right run.n old run.state run.serves right

      by : (new ≡ run.state) ⊎ TakesOne m run.state new → IsRight m new
      by (inl same) = subst (IsRight m) (sym same) there
      by (inr one) = one_keeps m (IsRight m) step_right run.state new one there

  leaves_right : (run : Run) (old new : State) → Leaves m run old new → IsRight m old → IsRight m new
  leaves_right (Letters input) old new (inl run) right = all_right input old new run.0 run.1 run.2 right
  leaves_right (Letters input) old new (inr run) right = fault_right input old new run right
  leaves_right (Clients count) old new served right = serving_right count old new served right

  pub runs_right : (runs : List Run) (old new : State) → AreRuns m old runs new → IsRight m old → IsRight m new
  runs_right [] old new are right = subst (IsRight m) (sym are) right
  runs_right (run ∷ runs) old new are right = runs_right runs are.0 new are.2 (leaves_right run old are.0 are.1 right)
