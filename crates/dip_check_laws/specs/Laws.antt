-- The laws of what is reported, as statements.
use Rattle.std.specs.Prelude.{◌≡◌, ◌≤◌, ◌⊎◌, ℕ, Bool, true, List, [], ◌∷◌, Option, Some}
use Rattle.dip_map.specs.Charts.{Chart}
use Rattle.dip_desk_state.specs.State.{Game, State, game_at}
use Rattle.dip_desk_machine.specs.Lawful.{IsLawful}
use Rattle.dip_desk_keeper.specs.Papers.{papers_text}
use Rattle.dip_http.specs.Serving.{Serves, TakesOne}
use Rattle.dip_judge_runs.specs.Fresh.{fresh_desk}
use Rattle.dip_judge_runs.specs.Runs.{AnswersAll, Stops, TakesNext}
use Rattle.dip_judge_runs.specs.declared.run.RunFault.{RunFault}
use Rattle.dip_check_laws.specs.Published.{AreGames}
use Rattle.dip_check_runs.specs.Runs.{IsGame, TellsIfGame}

-- a run that a fault ended leaves the state after the letters that it answered, or that after the next letter too
pub record LeavesAtFault (m : Chart) (input : List ℕ) (old new : State) : Type 0 where
  pub fault : RunFault
  pub before : Option (List ℕ)
  pub after : Option (List ℕ)
  pub state : State
  pub stops : Stops m fault input old state before after
  pub is : (new ≡ state) ⊎ TakesNext m stops.rest state new

-- so many clients were served, or fewer where a fault ended that, which leaves the state after them, or that after a letter more
pub record LeavesServing (m : Chart) (count : ℕ) (old new : State) : Type 0 where
  pub n : ℕ
  pub most : n ≤ count
  pub state : State
  pub serves : Serves m n old state
  pub is : (new ≡ state) ⊎ TakesOne m state new

-- a run of the judge: over the letters of an input, or serving so many clients
pub data Run : Type 0 where
  Letters : (input : List ℕ) → Run
  Clients : (count : ℕ) → Run

-- a run leaves this state: each letter of an input was answered, or a fault ended that; or clients were served, all or up to a fault
abbrev pub Leaves : Chart → Run → State → State → Type 0
Leaves m (Letters input) old new = ((before after : Option (List ℕ)) × AnswersAll m input old new before after) ⊎ LeavesAtFault m input old new
Leaves m (Clients count) old new = LeavesServing m count old new

-- runs, each from the state that the last one left
abbrev pub AreRuns : Chart → State → List Run → State → Type 0
AreRuns m old [] new = new ≡ old
AreRuns m old (run ∷ runs) new = (next : State) × Leaves m run old next × AreRuns m next runs new

-- where a desk's papers of each game are those of a game, so is what is printed of one
abbrev pub ReportsAreRight : Type 0
ReportsAreRight = (m : Chart) (s : State) (name : List ℕ) (g : Game) → AreGames m s → game_at name s ≡ Some g → IsGame m (papers_text (Some g))

-- of an input that is the papers of a game `check` answers true
abbrev pub GamesAreFoundRight : Type 0
GamesAreFoundRight = (m : Chart) (input : List ℕ) (right : Bool) → IsGame m input → TellsIfGame m (Some input) right → right ≡ true

-- a run that answers each letter of an input keeps that, from a lawful state on, which stays lawful
abbrev pub RunsKeepGames : Chart → Type 0
RunsKeepGames m = (input : List ℕ) (old new : State) (before after : Option (List ℕ)) → IsLawful m old → AreGames m old
    → AnswersAll m input old new before after → IsLawful m new × AreGames m new

-- a run that a fault ended leaves a lawful state with the papers of games, where it began with one
abbrev pub FaultsKeepGames : Chart → Type 0
FaultsKeepGames m = (input : List ℕ) (old new : State) → IsLawful m old → AreGames m old
    → LeavesAtFault m input old new → IsLawful m new × AreGames m new

-- serving clients, all or up to a fault, leaves a lawful state with the papers of games, where it began with one
abbrev pub ServingKeepsGames : Chart → Type 0
ServingKeepsGames m = (count : ℕ) (old new : State) → IsLawful m old → AreGames m old
    → LeavesServing m count old new → IsLawful m new × AreGames m new

-- a new desk has no game whose papers are wrong, and is lawful
abbrev pub FreshDesksAreRight : Type 0
FreshDesksAreRight = (m : Chart) (master : List ℕ) → AreGames m (fresh_desk master) × IsLawful m (fresh_desk master)

-- whatever runs there were since a desk was made, what is printed of a game is the papers of a game
abbrev pub ReportsStayRight : Chart → Type 0
ReportsStayRight m = (master : List ℕ) (runs : List Run) (s : State) (name : List ℕ) (g : Game)
    → AreRuns m (fresh_desk master) runs s → game_at name s ≡ Some g → IsGame m (papers_text (Some g))
