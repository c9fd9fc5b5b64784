-- What is published of a movement satisfies the decision equations for the orders that stood.
use Rattle.std.proofs.Common.{◌≡◌, ℕ, true, List, [], ◌∷◌, ◌++◌, Option, Some, None, codes, flat_map, refl, sym, ap, subst, ◌∙◌}
use Rattle.std.proofs.lemmas.Bool.{false≢true}
use Rattle.dip_map.specs.Boards.{Position}
use Rattle.dip_map.specs.declared.boards.Phase.{Phase}
use Rattle.dip_map.specs.declared.boards.Season.{Season}
use Rattle.dip_map.specs.declared.boards.Season.TheVariants.{SpringMoves, SpringRetreats, FallMoves, FallRetreats, Winter}
use Rattle.dip_map.specs.Charts.{Chart}
use Rattle.dip_decide.specs.Meaning.{meant_on, situation_on}
use Rattle.dip_decide.specs.Results.{values_in}
use Rattle.dip_decide.specs.Statements.{ExplainedSatisfies}
use Rattle.dip_decide.specs.Steps.{steps_of}
use Rattle.dip_orders_placed.specs.declared.placed.PlacedOrder.{PlacedOrder}
use Rattle.dip_turn.specs.Moving.{after_moves}
use Rattle.dip_turn.specs.Outcomes.{movement_lines}
use Rattle.dip_turn.specs.MovementLine.{MovementLine}
use Rattle.dip_turn_papers.specs.Papers.{account_text, centre_line, paper_text, title}
use Rattle.dip_desk_state.specs.Records.{Public}
use Rattle.dip_reports.specs.Texts.{board_lines, game_line}
use Rattle.dip_turn.specs.Centres.{centre_lines}
use Rattle.dip_turn.specs.Phases.{Sequel, follow}
use Rattle.dip_turn.specs.Reports.{Leaves, LeavesMoved}
use Rattle.dip_turn_phases.specs.declared.report.Account.{Account}
use Rattle.dip_turn_phases.specs.declared.report.Account.TheVariants.{Movement as OfMovement, Retreats as OfRetreats, Adjustment as OfAdjustment}
use Rattle.dip_turn.specs.CentreLine.{CentreLine}
use Rattle.dip_turn_phases.specs.declared.report.Movement.{Movement}
use Rattle.dip_turn_phases.specs.declared.report.Report.{Report}
use Rattle.dip_desk_machine.specs.Mail.{Mail}
use Rattle.dip_desk_machine.specs.Machine.{Decides, IsPublished, NotKnown, Taken, Verdict}
use Rattle.dip_orders.specs.Conditions.{is_movement}
use Rattle.dip_desk_machine.specs.Published.{AreDecided, IsFair, MovementsAreDecided, TellsMovement, movement_paper, orders_stood}
use Rattle.dip_desk_state.specs.State.{Author, Game, Nobody, Publishes, Seat, State, TheMaster, game_at, whole_of}
use Rattle.dip_desk_games.specs.Ticking.{orders_of, public_played}
use Rattle.dip_desk_machine.specs.View.{IsRun, Turn, author_in, left_by}
use Rattle.dip_desk_machine.proofs.Histories.{settled}
use Rattle.dip_desk_machine.proofs.Suiting.{Comes, decides_suits, master_posted}

-- a paper of a movement, by its parts
paper_of : (m : Chart) (r : Report) (t : Movement) (p : Public) → r.account ≡ OfMovement t → paper_text m r p ≡ movement_paper m r.phase t.lines.items r.centres.items p
unfolding paper_text
paper_of m r t p is =
    ap (λ (a : Account). title p.papers r.phase ++ account_text m a ++ flat_map (centre_line m) r.centres.items ++ game_line m p ++ board_lines m p.board ++ codes "END\n") is

moved_by : (m : Chart) (season : Season) (b : Position) (pending : List PlacedOrder) (left : Position) (account : Account) → is_movement season ≡ true
    → Leaves m season b pending left account → LeavesMoved m b pending left account
moved_by m SpringMoves b pending left account is h = h
moved_by m SpringRetreats b pending left account is h = absurd (false≢true is)
moved_by m FallMoves b pending left account is h = h
moved_by m FallRetreats b pending left account is h = absurd (false≢true is)
moved_by m Winter b pending left account is h = absurd (false≢true is)

told : (m : Chart) → ExplainedSatisfies → (tick : ℕ) (g : Game) (text paper : List ℕ) (public : Public) → is_movement g.public.board.phase.season ≡ true
    → IsPublished m tick (whole_of g) (Taken text (Publishes public paper true)) → TellsMovement m (whole_of g) public paper
told m equations tick g text paper public moves p = by p.report.account refl (moved_by m b.phase.season b pending p.played.left p.report.account moves p.played.account)
  where
    b : Position
    b = g.public.board

    pending : List PlacedOrder
    pending = orders_of m (whole_of g)

    after_phase : public ≡ public_played tick g.public p.board p.report.course
    after_phase = cc

    printed : paper ≡ paper_text m p.report (public_played tick g.public p.board p.report.course)
    printed = cc

    board : public.board ≡ p.board
    board = ap (λ (q : Public). q.board) after_phase

    by : (account : Account) → p.report.account ≡ account → LeavesMoved m b pending p.played.left account → TellsMovement m (whole_of g) public paper
    by (OfMovement t) is h =
        let decided : AreDecided m b (orders_stood m (whole_of g)) (values_in t.resolution) =
        subst (λ (os : List PlacedOrder). AreDecided m b os (values_in t.resolution)) h.orders (record {
          steps = steps_of t.resolution.steps.items;
          explained = h.explained;
          satisfied = equations (situation_on m b t.orders) (steps_of t.resolution.steps.items) (values_in t.resolution) h.explained;
          only = λ others a e d. let one = h.only others a e d in (one.0, sym (h.broken d) ∙ one.1);
        }) in
        let lines : t.lines.items ≡ movement_lines m b (values_in t.resolution) (orders_stood m (whole_of g)) =
        h.lines ∙ ap (λ (os : List PlacedOrder). movement_lines m b (values_in t.resolution) os) h.orders in
        let centres : p.report.centres.items ≡ centre_lines m b public.board = p.played.centres ∙ ap (centre_lines m b) (sym board) in
        record {
          values = values_in t.resolution;
          decided = decided;
          text = printed ∙ ap (paper_text m p.report) (sym after_phase) ∙ paper_of m p.report t public is
              ∙ ap (λ (phase : Phase). movement_paper m phase t.lines.items p.report.centres.items public) p.played.phase
              ∙ ap (λ (ls : List MovementLine). movement_paper m b.phase ls p.report.centres.items public) lines
              ∙ ap (λ (cs : List CentreLine). movement_paper m b.phase (movement_lines m b (values_in t.resolution) (orders_stood m (whole_of g))) cs public) centres;
          board = board ∙ ap (λ (s : Sequel). s.board) p.played.next
              ∙ ap (λ (left : Position). (follow m b.phase.season left).board)
              (h.board ∙ ap (λ (os : List PlacedOrder). after_moves m b (values_in t.resolution) (meant_on m b os)) h.orders);
        }
    by (OfRetreats lines) is h = absurd h
    by (OfAdjustment t) is h = absurd h

tells : (m : Chart) → ExplainedSatisfies → (s : State) (n : Mail) (who : Author) (v : Verdict) → Decides m s n who v → (text paper : List ℕ) (public : Public) (g : Game)
    → v ≡ Taken text (Publishes public paper true) → game_at n.note.game s ≡ Some g → is_movement g.public.board.phase.season ≡ true → TellsMovement m (whole_of g) public paper
tells m equations s n who v d text paper public g is found moves = by who (subst (Decides m s n who) is d)
  where
    no_seat : (p : ℕ) (game : Option Game) → Comes (Seat p) game (Publishes public paper true) → ⊥
    no_seat p None h = h
    no_seat p (Some h) comes = comes

    by : (who : Author) → Decides m s n who (Taken text (Publishes public paper true)) → TellsMovement m (whole_of g) public paper
    by Nobody d = let bad : ◌≡◌ {A = Verdict} (Taken text (Publishes public paper true)) NotKnown = d in absurd (cc)
    by (Seat p) d = absurd (no_seat p (game_at n.note.game s) (decides_suits m s n (Seat p) (Taken text (Publishes public paper true)) d).0)
    by TheMaster d =
        let ticked = master_posted m n s.desk.kept n.note.command (game_at n.note.game s) (Taken text (Publishes public paper true)) d in
        let one : Some ticked.1 ≡ Some g = sym ticked.3 ∙ found in
        let same : ticked.1 ≡ g = cc in
        told m equations ticked.0 g text paper public moves (subst (λ (h : Game). IsPublished m ticked.0 (whole_of h) (Taken text (Publishes public paper true))) same ticked.4)

pub movements_decided : (m : Chart) → ExplainedSatisfies → MovementsAreDecided m
movements_decided m equations old new [] run = tt
movements_decided m equations old new (t ∷ ts) run =
    (tells m equations t.before t.letter (author_in m t) t.verdict run.1, movements_decided m equations (left_by m t) new ts run.2)

-- each history is fair
pub fair : (m : Chart) → MovementsAreDecided m → (old new : State) (turns : List Turn) → IsRun m old turns new → IsFair m old turns new
fair m decided old new turns run = record { settled = settled m old new turns run; published = decided old new turns run }
