-- What is published is right, as statements.
use Rattle.std.specs.Prelude.{◌≡◌, ℕ, Bool, true, List, [], Some}
use Rattle.std.specs.List.{AllByRecursion}
use Rattle.dip_map.specs.Charts.{Chart}
use Rattle.dip_decide.specs.Deciding.{Assignment}
use Rattle.dip_decide.specs.Meaning.{meant_on}
use Rattle.dip_orders.specs.Conditions.{is_movement}
use Rattle.dip_orders_placed.specs.Standing.{standing_orders}
use Rattle.dip_orders_placed.specs.declared.placed.PlacedOrder.{PlacedOrder}
use Rattle.dip_turn.specs.Centres.{centre_lines}
use Rattle.dip_turn.specs.Moving.{after_moves}
use Rattle.dip_turn.specs.Outcomes.{movement_lines}
use Rattle.dip_turn.specs.Phases.{follow}
use Rattle.dip_desk_state.specs.Records.{Public, Reply}
use Rattle.dip_desk_state.specs.State.{Game, Publishes, State, TheMaster, game_at}
use Rattle.dip_desk_machine.specs.Lawful.{IsLawful}
use Rattle.dip_desk_machine.specs.Machine.{Decides, Step, Taken}
use Rattle.dip_desk_machine.specs.Mail.{IsMail, Mail}
use Rattle.dip_desk_machine.specs.Published.{AreDecided, movement_paper}
use Rattle.dip_desk_machine.specs.View.{IsRun, Turn}
use Rattle.dip_check_papers.specs.Games.{AreOfGame, IsNext, IsPhase}

-- the papers that a desk keeps of each game are the papers of a game, which stands so
abbrev pub AreGames : Chart → State → Type 0
AreGames m s = AllByRecursion (λ g. AreOfGame m g.papers g.public) s.games

-- what the machine decides to publish of a game of a lawful state may come next in it
abbrev pub PublishedIsNext : Chart → Type 0
PublishedIsNext m = (s : State) (n : Mail) (g : Game) → IsMail n → IsLawful m s → game_at n.note.game s ≡ Some g
    → (text paper : List ℕ) (public : Public) (played : Bool) → Decides m s n TheMaster (Taken text (Publishes public paper played))
    → IsNext m g.public paper public

-- each step of a letter in a lawful state keeps that the papers are those of games
abbrev pub StaysGames : Chart → Type 0
StaysGames m = (old : State) (n : Mail) (r : Reply) (new : State) → IsMail n → IsLawful m old → AreGames m old → Step m old n r new → AreGames m new

-- what the judge publishes is right: in every history from a lawful desk without games on, the papers of each game are those of a game
abbrev pub HistoriesAreRight : Chart → Type 0
HistoriesAreRight m = (old new : State) (turns : List Turn) → IsLawful m old → old.games ≡ []
    → AllByRecursion (λ (t : Turn). IsMail t.letter) turns → IsRun m old turns new → AreGames m new

-- what is right is adjudicated by the rules: values that satisfy the decision equations for these orders, are explained and are the only
-- ones; the paper prints their outcomes, and the board after it is theirs
pub record IsDecidedFor (m : Chart) (p : Public) (orders : List PlacedOrder) (text : List ℕ) (new : Public) : Type 0 where
  pub values : Assignment
  pub decided : AreDecided m p.board (standing_orders p.board orders) values
  pub told : text ≡ movement_paper m p.board.phase (movement_lines m p.board values (standing_orders p.board orders))
      (centre_lines m p.board new.board) new
  pub board : new.board ≡ (follow m p.board.phase.season (after_moves m p.board values (meant_on m p.board (standing_orders p.board orders)))).board

abbrev pub MovementsAreDecided : Chart → Type 0
MovementsAreDecided m = (p new : Public) (text : List ℕ) (h : IsPhase m p text new) → is_movement p.board.phase.season ≡ true
    → IsDecidedFor m p h.brought.orders text new
