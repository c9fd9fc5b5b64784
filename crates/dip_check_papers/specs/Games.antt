-- The papers of a game: its opening, what may come next, and the chain that these make.
use Rattle.std.specs.Prelude.{◌≡◌, ◌≤◌, ◌<◌, ◌&&◌, ◌⊎◌, not, ℕ, Bool, true, false, List, [], ◌∷◌}
use Rattle.std.specs.List.{AllByRecursion}
use Rattle.dip_letters.specs.Letters.{FitsNotice}
use Rattle.dip_letters.specs.Notes.{NoticeRequest}
use Rattle.dip_letters.specs.Words.{is_game}
use Rattle.dip_map.specs.Boards.{Position}
use Rattle.dip_map.specs.Charts.{Chart}
use Rattle.dip_orders.specs.Given.{AreGiven}
use Rattle.dip_orders_placed.specs.declared.placed.PlacedOrder.{PlacedOrder}
use Rattle.dip_turn.specs.Reports.{IsPlayed}
use Rattle.dip_turn_phases.specs.declared.report.Report.{Report}
use Rattle.dip_turn_papers.specs.Papers.{paper_text}
use Rattle.dip_desk_state.specs.Bounds.{most_papers}
use Rattle.dip_desk_state.specs.Records.{Public, For}
use Rattle.dip_desk_state.specs.Writable.{IsVoteOf}
use Rattle.dip_reports.specs.Texts.{draw_paper, notice_paper, opening_paper}
use Rattle.dip_desk_games.specs.Drawing.{public_drawn, survives}
use Rattle.dip_desk_games.specs.ByPlace.{are_by_place}
use Rattle.dip_desk_games.specs.Opening.{opening_public}
use Rattle.dip_desk_games.specs.Noting.{is_announcement, public_noted}
use Rattle.dip_desk_games.specs.Ticking.{is_due, is_over, public_played}

-- a tick that a letter may name, at which the game is due
pub record IsTick (p : Public) (tick : ℕ) : Type 0 where
  pub timely : tick ≤ 999999999999
  pub due : is_due tick p ≡ true

-- the first paper of a game, by what a letter may ask for
pub record IsOpening (m : Chart) (text : List ℕ) (new : Public) : Type 0 where
  pub game : List ℕ
  pub due : ℕ
  pub period : ℕ
  pub grey : Bool
  pub intent : Bool
  pub named : is_game game ≡ true
  pub timely : due ≤ 999999999999
  pub least : 1 ≤ period
  pub most : period ≤ 999999
  pub after : new ≡ opening_public m game due period grey intent
  pub told : text ≡ opening_paper m new

-- the paper of a phase that brought this report: the board is played by some orders that can be given beside one another, at a tick from
-- the due one on
pub record IsPhaseOf (m : Chart) (p : Public) (text : List ℕ) (report : Report) (new : Public) : Type 0 where
  pub tick : ℕ
  pub ticks : IsTick p tick
  pub orders : List PlacedOrder
  pub given : AreGiven m p.board orders
  pub by_place : are_by_place orders ≡ true
  pub board : Position
  pub played : IsPlayed m p.board orders board report
  pub after : new ≡ public_played tick p board report.course
  pub told : text ≡ paper_text m report new

-- the paper of a phase, with what it brought
pub record IsPhase (m : Chart) (p : Public) (text : List ℕ) (new : Public) : Type 0 where
  pub report : Report
  pub brought : IsPhaseOf m p text report new

-- the paper of a notice that a letter may ask for; in a game that is over, of an announcement
pub record IsNotice (m : Chart) (p : Public) (text : List ℕ) (new : Public) : Type 0 where
  pub notice : NoticeRequest
  pub fits : FitsNotice notice
  pub taken : (is_over p.status && not (is_announcement notice)) ≡ false
  pub after : new ≡ public_noted notice p
  pub told : text ≡ notice_paper m notice new

-- the paper of a draw between powers that survive, each named once, by name, at a tick from the due one on
pub record IsDraw (m : Chart) (p : Public) (text : List ℕ) (new : Public) : Type 0 where
  pub tick : ℕ
  pub ticks : IsTick p tick
  pub powers : List ℕ
  pub named : IsVoteOf m (For powers)
  pub survive : AllByRecursion (λ r. survives m p.board r ≡ true) powers
  pub after : new ≡ public_drawn powers p
  pub told : text ≡ draw_paper m new

-- a text may come next in a game, and leaves it so
pub record IsNext (m : Chart) (p : Public) (text : List ℕ) (new : Public) : Type 0 where
  pub room : p.papers < most_papers
  pub kind : IsPhase m p text new ⊎ (IsNotice m p text new ⊎ IsDraw m p text new)

-- texts come one after the other from a game's public part on, and leave this one
abbrev pub AreNext : Chart → Public → List (List ℕ) → Public → Type 0
AreNext m p [] new = new ≡ p
AreNext m p (t ∷ ts) new = (q : Public) × IsNext m p t q × AreNext m q ts new

-- texts are the papers of a game of the map, which stands so after them: its opening, and then each what may come next
abbrev pub AreOfGame : Chart → List (List ℕ) → Public → Type 0
AreOfGame m [] new = ⊥
AreOfGame m (t ∷ ts) new = (p : Public) × IsOpening m t p × AreNext m p ts new
