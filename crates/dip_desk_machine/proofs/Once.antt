-- A letter is decided in one way, and so letters have one history.
use Rattle.std.proofs.Common.{◌≡◌, ℕ, Bool, true, false, List, [], ◌∷◌, ◌++◌, map, Option, Some, None, codes, flat_map, refl, sym, ap, ap₂, subst, ◌∙◌}
use Rattle.dip_map.specs.Boards.{Position}
use Rattle.dip_map.specs.declared.boards.Phase.{Phase}
use Rattle.dip_names.specs.declared.names.Unit.{Unit as AUnit}
use Rattle.dip_map.specs.Charts.{Chart}
use Rattle.dip_letters.specs.Notes.{Request}
use Rattle.dip_letters.specs.Notes.MasterRequest.{Create, Tick, Replace, Notify}
use Rattle.dip_letters.specs.Notes.Request.{Player, Master}
use Rattle.dip_orders_placed.specs.declared.placed.Order.TheVariants.{Build, Remove}
use Rattle.dip_turn.specs.MovementLine.{MovementLine}
use Rattle.dip_turn_papers.specs.Papers.{account_text, adjusted_with, centre_line, lines_by_power, moved_lines, paper_text, retreated_lines, title, unit_line}
use Rattle.dip_turn_papers.specs.declared.lines.Told.TheVariants.{Built, Removed, RemovedInDisorder}
use Rattle.dip_desk_state.specs.Records.{Kept, Public, Whole}
use Rattle.dip_reports.specs.Texts.{board_lines, game_line, paper_line}
use Rattle.dip_turn.specs.Laws.{AreAlike, IsSame, PhasesHaveOneResult}
use Rattle.dip_turn_phases.specs.declared.report.Account.{Account}
use Rattle.dip_turn_phases.specs.declared.report.Account.TheVariants.{Movement as OfMovement, Retreats as OfRetreats, Adjustment as OfAdjustment}
use Rattle.dip_turn.specs.CentreLine.{CentreLine}
use Rattle.dip_turn.specs.Course.{Course}
use Rattle.dip_turn_phases.specs.declared.report.Report.{Report}
use Rattle.dip_turn.specs.RetreatLine.{RetreatLine}
use Rattle.dip_turn.specs.Waiver.{Waiver}
use Rattle.dip_desk_games.specs.Drawing.{drawn_between}
use Rattle.dip_desk_machine.specs.Machine.{Decides, DecidesIn, DecidesNew, IsPublished, MasterDecides, NumberedBy, OnTime, Taken, Ticks, Verdict, author, old_number, paper_verdict}
use Rattle.dip_desk_machine.specs.Mail.{Mail}
use Rattle.dip_desk_state.specs.State.{Game, Nobody, Publishes, Seat, State, TheMaster, game_at, whole_of}
use Rattle.dip_desk_games.specs.Ticking.{is_due, is_over, orders_of, public_played}
use Rattle.dip_desk_machine.specs.View.{HistoriesAreOne, IsDecidedOnce, IsRun, Turn, left_by}

-- what is told alike has one text
account_same : (m : Chart) (a b : Account) → AreAlike a b → account_text m a ≡ account_text m b
account_same m (OfMovement s) (OfMovement t) h = ap (λ (ls : List MovementLine). lines_by_power m (moved_lines ls)) h.2
account_same m (OfRetreats s) (OfRetreats t) h = ap (λ (ls : List RetreatLine). lines_by_power m (retreated_lines ls)) h
account_same m (OfAdjustment s) (OfAdjustment t) h =
    ap (λ (us : List AUnit). adjusted_with m (map (unit_line Build Built) us ++ map (unit_line Remove Removed) s.removals.items) (map (unit_line Remove RemovedInDisorder) s.disorder.items) s.waivers.items) h.0
    ∙ ap (λ (us : List AUnit). adjusted_with m (map (unit_line Build Built) t.builds.items ++ map (unit_line Remove Removed) us) (map (unit_line Remove RemovedInDisorder) s.disorder.items) s.waivers.items) h.1
    ∙ ap (λ (us : List AUnit). adjusted_with m (map (unit_line Build Built) t.builds.items ++ map (unit_line Remove Removed) t.removals.items) (map (unit_line Remove RemovedInDisorder) us) s.waivers.items) h.2
    ∙ ap (λ (ws : List Waiver). adjusted_with m (map (unit_line Build Built) t.builds.items ++ map (unit_line Remove Removed) t.removals.items) (map (unit_line Remove RemovedInDisorder) t.disorder.items) ws) h.3
account_same m (OfMovement s) (OfRetreats t) h = absurd h
account_same m (OfMovement s) (OfAdjustment t) h = absurd h
account_same m (OfRetreats s) (OfMovement t) h = absurd h
account_same m (OfRetreats s) (OfAdjustment t) h = absurd h
account_same m (OfAdjustment s) (OfMovement t) h = absurd h
account_same m (OfAdjustment s) (OfRetreats t) h = absurd h

-- so have two papers of a phase
paper_same : (m : Chart) (r t : Report) (p : Public) → r.phase ≡ t.phase → AreAlike r.account t.account → r.centres.items ≡ t.centres.items → paper_text m r p ≡ paper_text m t p
unfolding paper_text
paper_same m r t p phase account centres =
    ap (λ (x : Phase). title p.papers x ++ account_text m r.account ++ flat_map (centre_line m) r.centres.items ++ game_line m p ++ board_lines m p.board ++ codes "END\n") phase
    ∙ ap (λ (x : List ℕ). title p.papers t.phase ++ x ++ flat_map (centre_line m) r.centres.items ++ game_line m p ++ board_lines m p.board ++ codes "END\n") (account_same m r.account t.account account)
    ∙ ap (λ (x : List CentreLine). title p.papers t.phase ++ account_text m t.account ++ flat_map (centre_line m) x ++ game_line m p ++ board_lines m p.board ++ codes "END\n") centres

published_once : (m : Chart) → PhasesHaveOneResult → (tick : ℕ) (w : Whole) (v u : Verdict) → IsPublished m tick w v → IsPublished m tick w u → v ≡ u
published_once m one tick w v u p q =
    let same : IsSame p.board q.board p.report q.report = one m w.public.board (orders_of m w) p.board q.board p.report q.report p.played q.played in
    let after_phase : public_played tick w.public p.board p.report.course ≡ public_played tick w.public q.board q.report.course =
    ap (λ (b : Position). public_played tick w.public b p.report.course) same.board ∙ ap (λ (c : Course). public_played tick w.public q.board c) same.course in
    p.verdict
    ∙ ap (paper_verdict m p.report) after_phase
    ∙ retold (public_played tick w.public q.board q.report.course) (paper_same m p.report q.report (public_played tick w.public q.board q.report.course) same.phase same.account same.centres)
    ∙ sym q.verdict
  where
    retold : (public : Public) → paper_text m p.report public ≡ paper_text m q.report public → paper_verdict m p.report public ≡ paper_verdict m q.report public
    retold public is = ap (λ (text : List ℕ). Taken (paper_line public.papers) (Publishes public text true)) is

ticks_once : (m : Chart) → PhasesHaveOneResult → (tick : ℕ) (w : Whole) (over due : Bool) (v u : Verdict) → Ticks m tick w over due v → Ticks m tick w over due u → v ≡ u
ticks_once m one tick w true due v u x y = x ∙ sym y
ticks_once m one tick w false false v u x y = x ∙ sym y
ticks_once m one tick w false true v u x y = go (drawn_between m w) x y
  where
    go : (o : Option (List ℕ)) → OnTime m tick w o v → OnTime m tick w o u → v ≡ u
    go (Some set) x y = x ∙ sym y
    go None x y = published_once m one tick w v u x y

numbered_once : (o : Option Verdict) (New : Verdict → Type 0) (a b : Verdict) → (New a → New b → a ≡ b) → NumberedBy o New a → NumberedBy o New b → a ≡ b
numbered_once None New a b new x y = new x y
numbered_once (Some old) New a b new x y = x ∙ sym y

in_game_once : (m : Chart) → PhasesHaveOneResult → (n : Mail) (command : Request) (g : Game) (v w : Verdict) → DecidesIn m n command g v → DecidesIn m n command g w → v ≡ w
in_game_once m one n (Player command) g v w x y = x ∙ sym y
in_game_once m one n (Master (Create due period grey intent seats)) g v w x y = x ∙ sym y
in_game_once m one n (Master (Tick tick)) g v w x y = ticks_once m one tick (whole_of g) (is_over g.public.status) (is_due tick g.public) v w x y
in_game_once m one n (Master (Replace seat)) g v w x y = x ∙ sym y
in_game_once m one n (Master (Notify notice)) g v w x y = x ∙ sym y

new_once : (m : Chart) (n : Mail) (k : Option Kept) (command : Request) (v w : Verdict) → DecidesNew m n k command v → DecidesNew m n k command w → v ≡ w
new_once m n k (Player command) v w x y = x ∙ sym y
new_once m n k (Master (Create due period grey intent seats)) v w x y = numbered_once (old_number n k) _ v w (λ a b. a ∙ sym b) x y
new_once m n k (Master (Tick tick)) v w x y = x ∙ sym y
new_once m n k (Master (Replace seat)) v w x y = x ∙ sym y
new_once m n k (Master (Notify notice)) v w x y = x ∙ sym y

pub decided_once : (m : Chart) → PhasesHaveOneResult → IsDecidedOnce m
decided_once m one s n Nobody v w d e = d ∙ sym e
decided_once m one s n (Seat p) v w d e = d ∙ sym e
decided_once m one s n TheMaster v w d e = go (game_at n.note.game s) d e
  where
    go : (game : Option Game) → MasterDecides m n s.desk.kept n.note.command game v → MasterDecides m n s.desk.kept n.note.command game w → v ≡ w
    go None x y = new_once m n s.desk.kept n.note.command v w x y
    go (Some g) x y = numbered_once (old_number n s.desk.kept) (DecidesIn m n n.note.command g) v w (in_game_once m one n n.note.command g v w) x y

same_turn : (a b : State) (n k : Mail) (v w : Verdict) → a ≡ b → n ≡ k → v ≡ w
    → ◌≡◌ {A = Turn} (record { before = a; letter = n; verdict = v }) (record { before = b; letter = k; verdict = w })
same_turn a b n k v w e f g = λ i. record { before = e i; letter = f i; verdict = g i }

pub histories_one : (m : Chart) → IsDecidedOnce m → HistoriesAreOne m
histories_one m once old new last [] [] run other same = (refl, run ∙ sym other)
histories_one m once old new last [] (u ∷ us) run other same = absurd (cc)
histories_one m once old new last (t ∷ ts) [] run other same = absurd (cc)
histories_one m once old new last (t ∷ ts) (u ∷ us) run other same =
    let letter : t.letter ≡ u.letter = cc in
    let letters : map (λ t. t.letter) ts ≡ map (λ u. u.letter) us = cc in
    let mine : Decides m old t.letter (author m t.letter old) t.verdict = subst (λ (s : State). Decides m s t.letter (author m t.letter s) t.verdict) run.0 run.1 in
    let theirs : Decides m old u.letter (author m u.letter old) u.verdict = subst (λ (s : State). Decides m s u.letter (author m u.letter s) u.verdict) other.0 other.1 in
    let verdict : t.verdict ≡ u.verdict =
    once old t.letter (author m t.letter old) t.verdict u.verdict mine (subst (λ (n : Mail). Decides m old n (author m n old) u.verdict) (sym letter) theirs) in
    let turn : t ≡ u = same_turn t.before u.before t.letter u.letter t.verdict u.verdict (run.0 ∙ sym other.0) letter verdict in
    let rest = histories_one m once (left_by m t) new last ts us run.2 (subst (λ (x : Turn). IsRun m (left_by m x) us last) (sym turn) other.2) letters in
    (ap₂ (λ (x : Turn) (xs : List Turn). x ∷ xs) turn rest.0, rest.1)
