-- Where a phase's text is told wrong, no paper of the phase has it.
use Rattle.std.proofs.Common.{◌≡◌, ◌≢◌, ◌++◌, ℕ, Bool, true, false, List, [], map, Some, None, refl, sym, ap, ap₂, subst, ◌∙◌, flat_map, codes, ◌≤◌, ◌+◌, nat_le, arith}
use Rattle.std.proofs.lemmas.Bool.{and_from, and_parts, false≢true}
use Rattle.std.proofs.lemmas.Bool.Decides.{nat_tests}
use Rattle.std.specs.List.{AllByRecursion}
use Rattle.dip_names.specs.declared.names.Unit.{Unit as AUnit}
use Rattle.dip_letters.specs.Lines.{split_lines}
use Rattle.dip_map.specs.Boards.{IsOf, Position}
use Rattle.dip_map.specs.declared.boards.Dislodged.{Dislodged}
use Rattle.dip_map.specs.declared.boards.Phase.{Phase}
use Rattle.dip_map.specs.Charts.{Chart, IsMap}
use Rattle.dip_map.specs.declared.boards.Season.{Season}
use Rattle.dip_map.specs.declared.boards.Season.TheVariants.{SpringMoves, SpringRetreats, FallMoves, FallRetreats, Winter}
use Rattle.dip_orders.specs.Conditions.{is_adjustment, is_movement, is_retreat}
use Rattle.dip_orders.specs.Given.{AreGiven}
use Rattle.dip_orders_placed.specs.Standing.{standing_orders}
use Rattle.dip_orders_placed.specs.declared.placed.Order.TheVariants.{Build, Remove}
use Rattle.dip_orders_placed.specs.declared.placed.PlacedOrder.{PlacedOrder}
use Rattle.dip_desk_state.specs.Records.{Public}
use Rattle.dip_decide.specs.Meaning.{meant_on}
use Rattle.dip_decide.specs.Results.{values_in}
use Rattle.dip_turn.specs.Moving.{moved_board}
use Rattle.dip_turn.specs.Laws.{AreAlike, IsSame, PhasesHaveOneResult}
use Rattle.dip_turn.specs.Centres.{centre_lines}
use Rattle.dip_turn.specs.Phases.{follow, sequel}
use Rattle.dip_turn.specs.Reports.{IsPlayed, Leaves, LeavesAdjusted, LeavesMoved, LeavesRetreated}
use Rattle.dip_turn_phases.specs.declared.report.Account.{Account}
use Rattle.dip_turn_phases.specs.declared.report.Account.TheVariants.{Movement as OfMovement, Retreats as OfRetreats, Adjustment as OfAdjustment}
use Rattle.dip_turn.specs.CentreLine.{CentreLine}
use Rattle.dip_turn.specs.Course.{Course}
use Rattle.dip_turn_phases.specs.declared.report.Report.{Report}
use Rattle.dip_turn.specs.RetreatLine.{RetreatLine}
use Rattle.dip_turn.specs.Waiver.{Waiver}
use Rattle.dip_turn.specs.MovementLine.{MovementLine}
use Rattle.dip_turn_papers.specs.Papers.{account_text, adjusted_lines, adjusted_with, centre_line, disorder_lines, lines_by_power, moved_lines, paper_text, retreated_lines, title, unit_line}
use Rattle.dip_turn_papers.specs.declared.lines.Told.TheVariants.{Built, Removed, RemovedInDisorder}
use Rattle.dip_turn_papers.specs.declared.lines.PaperLine.{PaperLine}
use Rattle.dip_reports.specs.Texts.{board_lines, game_line}
use Rattle.dip_desk_games.specs.ByPlace.{are_by_place}
use Rattle.dip_desk_games.specs.Ticking.{is_due, is_running, public_played}
use Rattle.dip_check_papers.specs.Checks.{paper_at}
use Rattle.dip_check_papers.specs.Games.{IsPhase, IsTick}
use Rattle.dip_check_papers.specs.Laws.{order_printed}
use Rattle.dip_check_papers.specs.Placing.{placed_by, units_by_place}
use Rattle.dip_check_papers.specs.Printed.{title_words, StandFor, first_line_of, orders_printed_at, unit_orders_at, winter_orders_at}
use Rattle.dip_check_papers.proofs.MovesBack.{OrderLaws, moved_alike, moved_orders, moves_given, moves_placed, moves_read, stood_back, units_stood}
use Rattle.dip_check_papers.proofs.PaperParts.{after_title, lines_read, paper_rest}
use Rattle.dip_check_papers.proofs.RetreatsBack.{left_same, printed_back, retreated_orders, retreats_given, retreats_placed, retreats_read, told_same, units_printed}
use Rattle.dip_check_papers.proofs.ReadAnywhere.{IsReadBack}
use Rattle.dip_check_papers.proofs.WinterBack.{account_read, game_ends, read}
use Rattle.dip_check_papers.proofs.WinterCentres.{winter_centres}

some_of : {A : Type 0} (x y : A) → Some x ≡ Some y → x ≡ y
some_of x y e = cc

-- what a phase's text prints is read, and stands for the orders that were given
pub record Reads (m : Chart) (b : Position) (orders : List PlacedOrder) (text : List ℕ) : Type 0 where
  pub read : List PlacedOrder
  pub is : orders_printed_at m b text b.phase.season ≡ Some read
  pub stands : StandFor m b orders read

-- ---- a movement

moves_season : (m : Chart) (b : Position) (text : List ℕ) (s : Season) → is_movement s ≡ true → orders_printed_at m b text s ≡ unit_orders_at m b (units_by_place m b.units) (first_line_of text).1
moves_season m b text SpringMoves h = refl
moves_season m b text SpringRetreats h = absurd (false≢true h)
moves_season m b text FallMoves h = refl
moves_season m b text FallRetreats h = absurd (false≢true h)
moves_season m b text Winter h = absurd (false≢true h)

to_moved : (m : Chart) (s : Season) (b : Position) (ps : List PlacedOrder) (left : Position) (a : Account) → is_movement s ≡ true → Leaves m s b ps left a → LeavesMoved m b ps left a
to_moved m SpringMoves b ps left a moves h = h
to_moved m SpringRetreats b ps left a moves h = absurd (false≢true moves)
to_moved m FallMoves b ps left a moves h = h
to_moved m FallRetreats b ps left a moves h = absurd (false≢true moves)
to_moved m Winter b ps left a moves h = absurd (false≢true moves)

from_moved : (m : Chart) (s : Season) (b : Position) (ps : List PlacedOrder) (left : Position) (a : Account) → is_movement s ≡ true → LeavesMoved m b ps left a → Leaves m s b ps left a
from_moved m SpringMoves b ps left a moves h = h
from_moved m SpringRetreats b ps left a moves h = absurd (false≢true moves)
from_moved m FallMoves b ps left a moves h = h
from_moved m FallRetreats b ps left a moves h = absurd (false≢true moves)
from_moved m Winter b ps left a moves h = absurd (false≢true moves)

winter_season : (m : Chart) (b : Position) (text : List ℕ) (s : Season) → is_adjustment s ≡ true → orders_printed_at m b text s ≡ winter_orders_at m b (split_lines (first_line_of text).1) []
winter_season m b text SpringMoves h = absurd (false≢true h)
winter_season m b text SpringRetreats h = absurd (false≢true h)
winter_season m b text FallMoves h = absurd (false≢true h)
winter_season m b text FallRetreats h = absurd (false≢true h)
winter_season m b text Winter h = refl

to_adjusted : (m : Chart) (s : Season) (b : Position) (ps : List PlacedOrder) (left : Position) (a : Account) → is_adjustment s ≡ true → Leaves m s b ps left a → LeavesAdjusted m b ps left a
to_adjusted m SpringMoves b ps left a winter h = absurd (false≢true winter)
to_adjusted m SpringRetreats b ps left a winter h = absurd (false≢true winter)
to_adjusted m FallMoves b ps left a winter h = absurd (false≢true winter)
to_adjusted m FallRetreats b ps left a winter h = absurd (false≢true winter)
to_adjusted m Winter b ps left a winter h = h

retreats_season : (m : Chart) (b : Position) (text : List ℕ) (s : Season) → is_retreat s ≡ true
    → orders_printed_at m b text s ≡ unit_orders_at m b (units_by_place m (map (λ (d : Dislodged). d.unit) b.dislodged)) (first_line_of text).1
retreats_season m b text SpringMoves h = absurd (false≢true h)
retreats_season m b text SpringRetreats h = refl
retreats_season m b text FallMoves h = absurd (false≢true h)
retreats_season m b text FallRetreats h = refl
retreats_season m b text Winter h = absurd (false≢true h)

to_retreated : (m : Chart) (s : Season) (b : Position) (ps : List PlacedOrder) (left : Position) (a : Account) → is_retreat s ≡ true → Leaves m s b ps left a → LeavesRetreated b ps left a
to_retreated m SpringMoves b ps left a retreats h = absurd (false≢true retreats)
to_retreated m SpringRetreats b ps left a retreats h = h
to_retreated m FallMoves b ps left a retreats h = absurd (false≢true retreats)
to_retreated m FallRetreats b ps left a retreats h = h
to_retreated m Winter b ps left a retreats h = absurd (false≢true retreats)

from_retreated : (m : Chart) (s : Season) (b : Position) (ps : List PlacedOrder) (left : Position) (a : Account) → is_retreat s ≡ true → LeavesRetreated b ps left a → Leaves m s b ps left a
from_retreated m SpringMoves b ps left a retreats h = absurd (false≢true retreats)
from_retreated m SpringRetreats b ps left a retreats h = h
from_retreated m FallMoves b ps left a retreats h = absurd (false≢true retreats)
from_retreated m FallRetreats b ps left a retreats h = h
from_retreated m Winter b ps left a retreats h = absurd (false≢true retreats)

-- lines of orders that are read back
read_lines : (m : Chart) → IsMap m → (b : Position) (ls : List PaperLine) (os : List PlacedOrder) (us : List AUnit) (rest : List ℕ) → map (λ (l : PaperLine). l.placed) ls ≡ os
    → map (λ (o : PlacedOrder). o.unit) os ≡ us → AllByRecursion (IsReadBack m b) os
    → unit_orders_at m b (units_by_place m us) (lines_by_power m ls ++ rest) ≡ Some (placed_by (λ (o : PlacedOrder). o.unit) m os)
read_lines m laws b ls os us rest same units back =
    ap (λ (vs : List AUnit). unit_orders_at m b (units_by_place m vs) (lines_by_power m ls ++ rest)) (sym units ∙ ap (map (λ (o : PlacedOrder). o.unit)) (sym same))
    ∙ lines_read m laws b ls rest (subst (AllByRecursion (IsReadBack m b)) (sym same) back)
    ∙ ap (λ (zs : List PlacedOrder). Some (placed_by (λ (o : PlacedOrder). o.unit) m zs)) same

module _ (l : OrderLaws) (m : Chart) (b : Position) (ps : List PlacedOrder) (laws : IsMap m) (of : IsOf m b) (given : AreGiven m b ps) where
  module _ (moves : is_movement b.phase.season ≡ true) where
    move_alike : (left : Position) (a : Account) → LeavesMoved m b ps left a → LeavesMoved m b (moves_read l m b ps laws of given moves) left a
    move_alike left (OfMovement t) h = moved_alike l m b ps laws of given moves left t h
    move_alike left (OfRetreats lines) h = h
    move_alike left (OfAdjustment t) h = h

    move_stands : StandFor m b ps (moves_read l m b ps laws of given moves)
    move_stands = record {
      given = moves_given l m b ps laws of given moves;
      by_place = moves_placed l m b ps laws of given moves;
      alike = λ new report h. record {
        left = h.left;
        account =
            from_moved m b.phase.season b (moves_read l m b ps laws of given moves) h.left report.account moves
            (move_alike h.left report.account (to_moved m b.phase.season b ps h.left report.account moves h.account));
        next = h.next;
        phase = h.phase;
        centres = h.centres;
      };
    }

    move_text : (left : Position) (a : Account) (rest : List ℕ) → LeavesMoved m b ps left a
        → unit_orders_at m b (units_by_place m b.units) (account_text m a ++ rest) ≡ Some (moves_read l m b ps laws of given moves)
    move_text left (OfMovement t) rest h =
        let same : map (λ (l : PaperLine). l.placed) (moved_lines t.lines.items) ≡ standing_orders b ps =
        ap (λ (ls : List MovementLine). map (λ (l : PaperLine). l.placed) (moved_lines ls)) h.lines
        ∙ moved_orders m (moved_board m b (values_in t.resolution) (meant_on m b t.orders)) (values_in t.resolution) (meant_on m b t.orders) t.orders ∙ h.orders in
        read_lines m laws b (moved_lines t.lines.items) (standing_orders b ps) b.units rest same (units_stood ps b.units) (stood_back l m b ps laws of given moves)
    move_text left (OfRetreats lines) rest h = absurd h
    move_text left (OfAdjustment t) rest h = absurd h

    move_reads : (new : Position) (report : Report) → IsPlayed m b ps new report → (p : Public) → Reads m b ps (paper_text m report p)
    move_reads new report h p = record {
      read = moves_read l m b ps laws of given moves;
      is = moves_season m b (paper_text m report p) b.phase.season moves
          ∙ ap (λ (x : List ℕ × List ℕ). unit_orders_at m b (units_by_place m b.units) x.1) (after_title m report p)
          ∙ move_text h.left report.account (paper_rest m report p) (to_moved m b.phase.season b ps h.left report.account moves h.account);
      stands = move_stands;
    }

  module _ (retreats : is_retreat b.phase.season ≡ true) where
    retreat_alike : (left : Position) (a : Account) → LeavesRetreated b ps left a → LeavesRetreated b (retreats_read l m b ps laws of given retreats) left a
    retreat_alike left (OfMovement t) h = h
    retreat_alike left (OfRetreats lines) h = (h.0 ∙ sym (left_same l m b ps laws of given retreats), h.1 ∙ sym (told_same l m b ps laws of given retreats))
    retreat_alike left (OfAdjustment t) h = h

    retreat_stands : StandFor m b ps (retreats_read l m b ps laws of given retreats)
    retreat_stands = record {
      given = retreats_given l m b ps laws of given retreats;
      by_place = retreats_placed l m b ps laws of given retreats;
      alike = λ new report h. record {
        left = h.left;
        account =
            from_retreated m b.phase.season b (retreats_read l m b ps laws of given retreats) h.left report.account retreats
            (retreat_alike h.left report.account (to_retreated m b.phase.season b ps h.left report.account retreats h.account));
        next = h.next;
        phase = h.phase;
        centres = h.centres;
      };
    }

    retreat_text : (left : Position) (a : Account) (rest : List ℕ) → LeavesRetreated b ps left a
        → unit_orders_at m b (units_by_place m (map (λ (d : Dislodged). d.unit) b.dislodged)) (account_text m a ++ rest) ≡ Some (retreats_read l m b ps laws of given retreats)
    retreat_text left (OfMovement t) rest h = absurd h
    retreat_text left (OfRetreats lines) rest h =
        let same : map (λ (l : PaperLine). l.placed) (retreated_lines lines.items) ≡ map (order_printed ps) b.dislodged =
        ap (λ (ls : List RetreatLine). map (λ (l : PaperLine). l.placed) (retreated_lines ls)) h.1 ∙ retreated_orders ps b b.dislodged in
        read_lines m laws b (retreated_lines lines.items) (map (order_printed ps) b.dislodged) (map (λ (d : Dislodged). d.unit) b.dislodged) rest same (units_printed ps b.dislodged)
        (printed_back l m b ps laws of given retreats)
    retreat_text left (OfAdjustment t) rest h = absurd h

    retreat_reads : (new : Position) (report : Report) → IsPlayed m b ps new report → (p : Public) → Reads m b ps (paper_text m report p)
    retreat_reads new report h p = record {
      read = retreats_read l m b ps laws of given retreats;
      is = retreats_season m b (paper_text m report p) b.phase.season retreats
          ∙ ap (λ (x : List ℕ × List ℕ). unit_orders_at m b (units_by_place m (map (λ (d : Dislodged). d.unit) b.dislodged)) x.1) (after_title m report p)
          ∙ retreat_text h.left report.account (paper_rest m report p) (to_retreated m b.phase.season b ps h.left report.account retreats h.account);
      stands = retreat_stands;
    }

  module _ (placed : are_by_place ps ≡ true) (winter : b.phase.season ≡ Winter) where
    winter_text : (left new : Position) (course : Course) (a : Account) (rest : List ℕ) → LeavesAdjusted m b ps left a → sequel new course ≡ follow m b.phase.season left
        → (read m b (account_text m a ++ rest) [] ≡ read m b rest ps) × (centre_lines m b new ≡ [])
    winter_text left new course (OfMovement t) rest h next = absurd h
    winter_text left new course (OfRetreats lines) rest h next = absurd h
    winter_text left new course (OfAdjustment t) rest h next = (
      account_read l m b ps laws of given placed (ap is_adjustment winter) left t rest h,
      winter_centres m b left new ps course h.board (next ∙ ap (λ (s : Season). follow m s left) winter),
    )

    winter_reads : (new : Position) (report : Report) → IsPlayed m b ps new report → (p : Public) → Reads m b ps (paper_text m report p)
    winter_reads new report h p =
        let parts = winter_text h.left new report.course report.account (paper_rest m report p) (to_adjusted m b.phase.season b ps h.left report.account (ap is_adjustment winter) h.account) h.next in
        let end = game_line m p ++ (board_lines m p.board ++ codes "END\n") in
        record {
          read = ps;
          is = winter_season m b (paper_text m report p) b.phase.season (ap is_adjustment winter)
              ∙ ap (λ (x : List ℕ × List ℕ). winter_orders_at m b (split_lines x.1) []) (after_title m report p)
              ∙ parts.0
              ∙ ap (λ (cs : List CentreLine). read m b (flat_map (centre_line m) cs ++ end) ps) (h.centres ∙ parts.1)
              ∙ game_ends m b ps p (board_lines m p.board ++ codes "END\n");
          stands = record { given = given; by_place = placed; alike = λ board told same. same };
        }

  reads : are_by_place ps ≡ true → (new : Position) (report : Report) → IsPlayed m b ps new report → (p : Public) → Reads m b ps (paper_text m report p)
  reads placed new report h p = by b.phase.season refl
    where
      by : (s : Season) → b.phase.season ≡ s → Reads m b ps (paper_text m report p)
      by SpringMoves e = move_reads (ap is_movement e) new report h p
      by SpringRetreats e = retreat_reads (ap is_retreat e) new report h p
      by FallMoves e = move_reads (ap is_movement e) new report h p
      by FallRetreats e = retreat_reads (ap is_retreat e) new report h p
      by Winter e = winter_reads placed e new report h p

-- ---- and so no paper of the phase has a text that is told wrong

module _ (l : OrderLaws) (m : Chart) (p : Public) (text : List ℕ) (laws : IsMap m) (of : IsOf m p.board) (new : Public) (h : IsPhase m p text new) where
  -- what the text prints is read
  pub phase_reads : Reads m p.board h.brought.orders text
  phase_reads = subst (Reads m p.board h.brought.orders) (sym h.brought.told) (reads l m p.board h.brought.orders laws of h.brought.given h.brought.by_place h.brought.board h.report h.brought.played new)

  pub unread : orders_printed_at m p.board text p.board.phase.season ≡ None → ⊥
  unread none = let bad : None ≡ Some phase_reads.read = sym none ∙ phase_reads.is in cc

  pub stand_for : (qs : List PlacedOrder) → orders_printed_at m p.board text p.board.phase.season ≡ Some qs → StandFor m p.board h.brought.orders qs
  stand_for qs is =
      let some : Some phase_reads.read ≡ Some qs = sym phase_reads.is ∙ is in
      let same : phase_reads.read ≡ qs = some_of phase_reads.read qs some in
      subst (StandFor m p.board h.brought.orders) same phase_reads.stands

  pub ungiven : (qs : List PlacedOrder) (r : Bool) → orders_printed_at m p.board text p.board.phase.season ≡ Some qs → (AreGiven m p.board qs → are_by_place qs ≡ true → r ≡ true) → r ≡ false → ⊥
  ungiven qs r is taken refused = let s = stand_for qs is in false≢true (sym refused ∙ taken s.given s.by_place)

  pub unplayed : (qs : List PlacedOrder) → orders_printed_at m p.board text p.board.phase.season ≡ Some qs
      → ((tick : ℕ) (board : Position) (report : Report) → IsTick p tick → IsPlayed m p.board qs board report → text ≢ paper_at m p tick board report) → ⊥
  unplayed qs is none =
      none h.brought.tick h.brought.board h.report h.brought.ticks ((stand_for qs is).alike h.brought.board h.report h.brought.played) (h.brought.told ∙ ap (paper_text m h.report) h.brought.after)

-- ---- two reports of a phase with the same orders have one paper

account_same : (m : Chart) (a c : Account) → AreAlike a c → account_text m a ≡ account_text m c
account_same m (OfMovement s) (OfMovement t) h = ap (λ (ls : List MovementLine). lines_by_power m (moved_lines ls)) h.2
account_same m (OfMovement s) (OfRetreats t) h = absurd h
account_same m (OfMovement s) (OfAdjustment t) h = absurd h
account_same m (OfRetreats s) (OfMovement t) h = absurd h
account_same m (OfRetreats s) (OfRetreats t) h = ap (λ (ls : List RetreatLine). lines_by_power m (retreated_lines ls)) h
account_same m (OfRetreats s) (OfAdjustment t) h = absurd h
account_same m (OfAdjustment s) (OfMovement t) h = absurd h
account_same m (OfAdjustment s) (OfRetreats t) h = absurd h
account_same m (OfAdjustment s) (OfAdjustment t) h =
    ap₂ (λ (built removed : List AUnit). adjusted_with m (map (unit_line Build Built) built ++ map (unit_line Remove Removed) removed) (disorder_lines s) s.waivers.items) h.0 h.1
    ∙ ap₂ (λ (gone : List AUnit) (ws : List Waiver). adjusted_with m (adjusted_lines t) (map (unit_line Remove RemovedInDisorder) gone) ws) h.2 h.3

pub paper_same : (m : Chart) (new board : Position) (one two : Report) (p : Public) → IsSame new board one two → paper_text m one p ≡ paper_text m two p
unfolding paper_text
paper_same m new board one two p same =
    ap₂ (λ (phase : Phase) (account : List ℕ). title p.papers phase ++ account ++ flat_map (centre_line m) one.centres.items ++ game_line m p ++ board_lines m p.board ++ codes "END\n")
    same.phase (account_same m one.account two.account same.account)
    ∙ ap (λ (cs : List CentreLine). title p.papers two.phase ++ account_text m two.account ++ flat_map (centre_line m) cs ++ game_line m p ++ board_lines m p.board ++ codes "END\n") same.centres

-- the paper that was made of these orders is that of whatever they come to
pub one_of_orders : PhasesHaveOneResult → (m : Chart) (p : Public) (tick : ℕ) (orders : List PlacedOrder) (wanted : List ℕ) (board : Position) (report : Report)
    → IsPlayed m p.board orders board report → wanted ≡ paper_text m report (public_played tick p board report.course)
    → (other : Position) (one : Report) → IsPlayed m p.board orders other one → wanted ≡ paper_text m one (public_played tick p other one.course)
one_of_orders one_result m p tick orders wanted board report played made other one h =
    let same : IsSame other board one report = one_result m p.board orders other board one report h played in
    made ∙ sym (paper_same m other board one report (public_played tick p other one.course) same
    ∙ ap₂ (λ (b : Position) (course : Course). paper_text m report (public_played tick p b course)) same.board same.course)

-- ---- a phase's paper begins with the phase's title, and comes where the game is due

pub phase_first : (m : Chart) (p : Public) (text : List ℕ) (new : Public) → IsPhase m p text new → (first_line_of text).0 ≡ title_words (p.papers + 1) p.board.phase
phase_first m p text new h =
    ap (λ (t : List ℕ). (first_line_of t).0) h.brought.told
    ∙ ap (λ (x : List ℕ × List ℕ). x.0) (after_title m h.report new)
    ∙ ap₂ title_words (ap (λ (q : Public). q.papers) h.brought.after) h.brought.played.phase

low : (a b : ℕ) → nat_le a b ≡ true → a ≤ b
low a b h = grind (arith, nat_tests)

tested : (a b : ℕ) → a ≤ b → nat_le a b ≡ true
tested a b h = grind (arith, nat_tests)

pub tick_low : (p : Public) (tick : ℕ) → IsTick p tick → p.due ≤ tick
tick_low p tick ticks = low p.due tick (and_parts (is_running p.status) (nat_le p.due tick) ticks.due).1

-- a tick from the due one on, of a game that may be due
pub later_tick : (p : Public) (tick : ℕ) → is_due 999999999999 p ≡ true → p.due ≤ tick → tick ≤ 999999999999 → IsTick p tick
later_tick p tick due low timely = record {
  timely = timely;
  due = and_from (is_running p.status) (nat_le p.due tick) (and_parts (is_running p.status) (nat_le p.due 999999999999) due).0 (tested p.due tick low);
}

-- a tick that a letter may name is no later than the last
pub tick_due : (p : Public) (tick : ℕ) → IsTick p tick → is_due 999999999999 p ≡ true
tick_due p tick ticks =
    let parts = and_parts (is_running p.status) (nat_le p.due tick) ticks.due in
    let due : p.due ≤ tick = low p.due tick parts.1 in
    and_from (is_running p.status) (nat_le p.due 999999999999) parts.0 (tested p.due 999999999999 (omega (arith, due, ticks.timely)))

pub phase_due : (m : Chart) (p : Public) (text : List ℕ) (new : Public) → IsPhase m p text new → is_due 999999999999 p ≡ true
phase_due m p text new h = tick_due p h.brought.tick h.brought.ticks
