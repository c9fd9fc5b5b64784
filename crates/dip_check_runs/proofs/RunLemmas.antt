-- How far a run over papers has come, and how it ends.
use Rattle.std.proofs.Common.{◌≡◌, ◌<◌, ◌==◌, ◌+◌, ◌-◌, ◌++◌, ◌⊎◌, IfErr, IfOk, IfSome, OnOk, Result, Ok, Err, String, Global, string_bytes, inl, inr, ℕ, Bool, true, false, List, [], ◌∷◌, Option, None, Some, is_some, length, map, take, refl, ap, sym, subst, ◌∙◌, arith}
use Rattle.std.proofs.Math.Dec.{eqb-suc-zero}
use Rattle.std.proofs.lemmas.Bool.{true≢false}
use Rattle.std.proofs.lemmas.List.{append-nil, append_assoc}
use Rattle.std.specs.List.{flat_map}
use Rattle.std.specs.Io.KnownBytes.{Appends}
use Rattle.dip_map.specs.Boards.{Position}
use Rattle.dip_map.specs.Charts.{Chart}
use Rattle.dip_desk_state.specs.Records.{Public}
use Rattle.dip_desk_state.specs.declared.records.Public.{Public as Row}
use Rattle.dip_desk_state.specs.Rows as rows
use Rattle.dip_check_papers.specs.Games.{AreNext, AreOfGame, IsDraw, IsNext, IsNotice, IsOpening, IsPhase, IsPhaseOf}
use Rattle.dip_check_papers.specs.Checks.{IsJudgedFirst, IsJudgedPaper}
use Rattle.dip_check_papers.specs.declared.verdict.Fault.{Fault}
use Rattle.dip_check_papers.specs.declared.verdict.Verdict.{Verdict}
use Rattle.dip_check_papers.specs.declared.verdict.Verdict.TheVariants.{Wrong as WrongText}
use Rattle.dip_explain.specs.Phases.{HasOrders, phase_explained}
use Rattle.dip_names.specs.declared.names.Unit.{Unit as AUnit}
use Rattle.dip_map.specs.declared.boards.Season.{Season}
use Rattle.dip_map.specs.declared.boards.Season.TheVariants.{SpringMoves, SpringRetreats, FallMoves, FallRetreats, Winter}
use Rattle.dip_orders_placed.specs.Standing.{order_among}
use Rattle.dip_orders_placed.specs.declared.placed.PlacedOrder.{PlacedOrder}
use Rattle.dip_turn.specs.Reports.{Leaves, LeavesMoved}
use Rattle.dip_turn_phases.specs.declared.report.Account.{Account}
use Rattle.dip_turn_phases.specs.declared.report.Account.TheVariants.{Movement as OfMovement, Retreats as OfRetreats, Adjustment as OfAdjustment}
use Rattle.dip_turn_phases.specs.declared.report.Report.{Report}
use Rattle.dip_check_papers.specs.declared.faults.CheckFault.{CheckFault}
use Rattle.dip_check_papers.specs.declared.faults.CheckFault.TheVariants.{Memory, Read, TooLong, Write}
use Rattle.dip_check_papers.specs.PaperTexts.{HasNoEnd}
use Rattle.dip_check_runs.specs.Input.{AreEmptyLines, HasUsed, IsAfterLines, IsRead, IsTakenFront, IsTooMuch, closing}
use Rattle.dip_check_runs.specs.Texts.{missing_text, no_phase_text, right_text, said_text}
use Rattle.dip_check_runs.specs.Runs.{AreFronts, ArePlayed, Begins, BeginsWith, ComesNext, EndsBegun, EndsEarly, EndsExplaining, HasBoard, IsAll, IsChecked, IsExplanation, IsFound, IsFoundNext, IsFoundText, IsReadingFault, IsSaid, IsToTell, IsTooLong, StopsAfter, StopsReading, StopsTelling, TellsTooLong, count_played, end_text, is_right}
use Rattle.dip_check_runs.proofs.InputLemmas.{no_lines, used_ahead, used_read}
use Rattle.dip_check_runs.specs.declared.explaining.Found.{Found}
use Rattle.dip_check_runs.specs.declared.input.Ahead.{Ahead}
use Rattle.dip_check_runs.specs.declared.saying.Said.{Said}
use Rattle.dip_check_runs.specs.declared.saying.Said.TheVariants.{Right, Wrong, NoText}

-- one paper more at the end of what was used
pub fronts_more : (bytes lines t : List ℕ) (ts : List (List ℕ)) → AreFronts bytes ts → AreEmptyLines lines → AreFronts (bytes ++ (lines ++ t)) (ts ++ t ∷ [])
fronts_more bytes lines t [] fronts empty =
    (lines, [], empty, ap (λ (l : List ℕ). l ++ (lines ++ t)) fronts ∙ ap (λ (l : List ℕ). lines ++ l) (sym (append-nil t)), refl)
fronts_more bytes lines t (s ∷ ss) fronts empty = (
  fronts.0,
  fronts.1 ++ (lines ++ t),
  fronts.2,
  ap (λ (l : List ℕ). l ++ (lines ++ t)) fronts.3 ∙ append_assoc fronts.0 (s ++ fronts.1) (lines ++ t)
      ∙ ap (λ (l : List ℕ). fronts.0 ++ l) (append_assoc s fronts.1 (lines ++ t)),
  fronts_more fronts.1 lines t ss fronts.4 empty,
)

-- one paper more that comes next in a game
pub next_more : (m : Chart) (p q r : Public) (ts : List (List ℕ)) (t : List ℕ) → AreNext m p ts q → IsNext m q t r → AreNext m p (ts ++ t ∷ []) r
next_more m p q r [] t so_far next = (r, subst (λ (x : Public). IsNext m x t r) so_far next, refl)
next_more m p q r (s ∷ ss) t so_far next = (so_far.0, so_far.1, next_more m so_far.0 q r ss t so_far.2 next)

pub game_more : (m : Chart) (p q : Public) (ts : List (List ℕ)) (t : List ℕ) → AreOfGame m ts p → IsNext m p t q → AreOfGame m (ts ++ t ∷ []) q
game_more m p q [] t game next = absurd game
game_more m p q (s ∷ ss) t game next = (game.0, game.1, next_more m game.0 p q ss t game.2 next)

pub played_more : (m : Chart) (papers : List (List ℕ)) (game : Option Row) (paper : List ℕ) (new : Row) → ArePlayed m papers game
    → IsSaid m game paper (Right new) → ArePlayed m (papers ++ paper ∷ []) (Some new)
played_more m papers None paper new played said =
    (subst (λ (ts : List (List ℕ)). AreOfGame m (ts ++ paper ∷ []) (rows.public new)) (sym played) (rows.public new, said.0, refl), said.1)
played_more m papers (Some p) paper new played said = (game_more m (rows.public p) (rows.public new) papers paper played.0 said.0, said.1)

-- the count of papers rises by one with each, up to the most
next_count : (m : Chart) (p new : Public) (text : List ℕ) → IsPhase m p text new ⊎ (IsNotice m p text new ⊎ IsDraw m p text new) → new.papers ≡ p.papers + 1
next_count m p new text (inl phase) = ap (λ (q : Public). q.papers) phase.brought.after
next_count m p new text (inr (inl notice)) = ap (λ (q : Public). q.papers) notice.after
next_count m p new text (inr (inr draw)) = ap (λ (q : Public). q.papers) draw.after

pub count_more : (m : Chart) (game : Option Row) (paper : List ℕ) (new : Row) → IsSaid m game paper (Right new)
    → (new.papers ≡ count_played game + 1) × (count_played game < 999999999)
count_more m None paper new said = (ap (λ (q : Public). q.papers) said.0.after, omega arith)
count_more m (Some p) paper new said = (next_count m (rows.public p) (rows.public new) paper said.0.kind, said.0.room)

-- how many papers may come yet
pub fewer_left : (m : Chart) (game : Option Row) (paper : List ℕ) (new : Row) → IsSaid m game paper (Right new)
    → 999999999 - new.papers < 999999999 - count_played game
fewer_left m game paper new said = let counts = count_more m game paper new said in omega (arith, counts.0, counts.1)

-- the papers that were played, and the part of the input that they are
pub record Reached (m : Chart) (known left : Option (List ℕ)) (game : Option Row) (ahead : Ahead) : Type 0 where
  pub papers : List (List ℕ)
  pub used : List ℕ
  pub read : IsRead known left used ahead
  pub fronts : AreFronts used papers
  pub played : ArePlayed m papers game

abbrev pub reached_none : (m : Chart) (known : Option (List ℕ)) (ahead : Ahead) → IsRead known known [] ahead → Reached m known known None ahead
reached_none m known ahead read = record { papers = []; used = []; read = read; fronts = refl; played = refl }

-- the next paper was taken off, with the empty lines before it
pub record IsTaken (known left : Option (List ℕ)) (used lines paper : List ℕ) (ahead : Ahead) : Type 0 where
  pub read : IsRead known left (used ++ (lines ++ paper)) ahead
  pub empty : AreEmptyLines lines

pub taken : (known now later : Option (List ℕ)) (used front paper : List ℕ) (old new : Ahead) → IsRead known now used old
    → (IsRead known now used old → IsRead known later (used ++ front) new) → (after : IsAfterLines front paper)
    → IsTaken known later used after.0 paper new
taken known now later used front paper old new read more after = record {
  read = subst (λ (l : List ℕ). IsRead known later (used ++ l) new) after.2 (more read);
  empty = after.1;
}

abbrev pub reached_more : (m : Chart) (known now later : Option (List ℕ)) (game : Option Row) (old ahead : Ahead) (lines paper : List ℕ) (new : Row)
    → (r : Reached m known now game old) → IsTaken known later r.used lines paper ahead → IsSaid m game paper (Right new)
    → Reached m known later (Some new) ahead
reached_more m known now later game old ahead lines paper new r t said = record {
  papers = r.papers ++ paper ∷ [];
  used = r.used ++ (lines ++ paper);
  read = t.read;
  fronts = fronts_more r.used lines paper r.papers r.fronts t.empty;
  played = played_more m r.papers game paper new r.played said;
}

pub has_board : (m : Chart) (known left : Option (List ℕ)) (game : Option Row) (ahead : Ahead) → Reached m known left game ahead → HasBoard m game
has_board m known left None ahead r = tt
has_board m known left (Some p) ahead r = r.played.1

-- the paper that was taken off comes next, whatever was read after it
pub comes_next : (known left : Option (List ℕ)) (used lines paper : List ℕ) (papers : List (List ℕ)) → AreFronts used papers → AreEmptyLines lines
    → HasUsed known left (used ++ (lines ++ paper)) → ComesNext known left papers paper
comes_next known left used lines paper papers fronts empty part = record {
  used = used ++ (lines ++ paper);
  part = part;
  fronts = fronts_more used lines paper papers fronts empty;
}

-- where no paper is left, all was used
pub all_used : (known left : Option (List ℕ)) (used front : List ℕ) (papers : List (List ℕ)) (ahead : Ahead) → AreFronts used papers → AreEmptyLines front
    → IsRead known left (used ++ front) ahead → IsTakenFront front ahead → IsAll known left papers
all_used known left used front papers ahead fronts empty read (inl cut) = absurd (no_lines front cut empty)
all_used known left used front papers ahead fronts empty read (inr end) = record {
  used = used ++ front;
  whole = record {
    input = read.read;
    consumed = read.consumed;
    end = read.end end.1;
    parts = ap (λ (b : Bool). read.read ++ closing b) (sym end.1) ∙ read.parts ∙ ap (λ (l : List ℕ). (used ++ front) ++ l) end.2 ∙ append-nil (used ++ front);
  };
  spelled = record { front = used; lines = front; fronts = fronts; empty = empty; parts = refl };
}

-- what is written twice is written
pub appends_more : (a b c : Option (List ℕ)) (x y : List ℕ) → Appends a b x → Appends b c y → Appends a c (x ++ y)
appends_more None b c x y first second = tt
appends_more (Some xs) None c x y first second = absurd first
appends_more (Some xs) (Some ys) None x y first second = absurd second
appends_more (Some xs) (Some ys) (Some zs) x y first second = second ∙ ap (λ (r : List ℕ). r ++ y) first ∙ append_assoc xs x y

pub appends_none : (a : Option (List ℕ)) → Appends a a []
appends_none None = tt
appends_none (Some xs) = sym (append-nil xs)

-- a verdict more
pub texts_more : (papers : List (List ℕ)) (paper : List ℕ) → flat_map right_text papers ++ right_text paper ≡ flat_map right_text (papers ++ paper ∷ [])
texts_more [] paper = sym (append-nil (right_text paper))
texts_more (p ∷ ps) paper = append_assoc (right_text p) (flat_map right_text ps) (right_text paper) ∙ ap (λ (l : List ℕ). right_text p ++ l) (texts_more ps paper)

pub written_more : (a b c : Option (List ℕ)) (papers : List (List ℕ)) (paper : List ℕ) → Appends a b (flat_map right_text papers)
    → Appends b c (right_text paper) → Appends a c (flat_map right_text (papers ++ paper ∷ []))
written_more a b c papers paper first second =
    subst (λ (l : List ℕ). Appends a c l) (texts_more papers paper) (appends_more a b c (flat_map right_text papers) (right_text paper) first second)

-- all papers are right, or there is none
pub checked_all : (m : Chart) (known left before mid after : Option (List ℕ)) (papers : List (List ℕ)) (game : Option Row) (right : Bool) → ArePlayed m papers game
    → IsAll known left papers → Appends before mid (flat_map right_text papers) → Appends mid after (end_text game) → right ≡ is_some game
    → IsChecked m known left before after right
checked_all m known left before mid after papers None right played all so_far told is = subst (λ (b : Bool). IsChecked m known left before after b) (sym is) (record {
  papers = papers;
  game = None;
  played = played;
  last = end_text None;
  ends = inl (record { none = refl; all = all; told = refl });
  written = appends_more before mid after (flat_map right_text papers) (end_text None) so_far told;
})
checked_all m known left before mid after papers (Some p) right played all so_far told is = subst (λ (b : Bool). IsChecked m known left before after b) (sym is) (record {
  papers = papers;
  game = Some p;
  played = played;
  last = end_text (Some p);
  ends = record { public = p; some = refl; all = all; told = refl };
  written = appends_more before mid after (flat_map right_text papers) (end_text (Some p)) so_far told;
})

-- one isn't right
pub checked_wrong : (m : Chart) (known left before mid after : Option (List ℕ)) (papers : List (List ℕ)) (game : Option Row) (paper : List ℕ) (said : Said)
    → ArePlayed m papers game → ComesNext known left papers paper → IsSaid m game paper said → is_right said ≡ false
    → Appends before mid (flat_map right_text papers) → Appends mid after (said_text paper said) → IsChecked m known left before after false
checked_wrong m known left before mid after papers game paper said played comes is wrong so_far told = record {
  papers = papers;
  game = game;
  played = played;
  last = said_text paper said;
  ends = inr (record { paper = paper; said = said; comes = comes; is = is; wrong = wrong; told = refl });
  written = appends_more before mid after (flat_map right_text papers) (said_text paper said) so_far told;
}

-- the input begins with the papers that were played
pub begins_played : (m : Chart) (known left : Option (List ℕ)) (game : Option Row) (ahead : Ahead) → (r : Reached m known left game ahead) → BeginsWith known r.papers []
begins_played m known left game ahead r = record {
  left = left;
  used = r.used;
  part = subst (λ (l : List ℕ). HasUsed known left l) (sym (append-nil r.used)) (used_read known left r.used ahead r.read);
  fronts = r.fronts;
}

-- and with the next one, which was taken off
pub begins_next : (known left : Option (List ℕ)) (used lines paper : List ℕ) (papers : List (List ℕ)) (ahead : Ahead) → AreFronts used papers
    → IsTaken known left used lines paper ahead → BeginsWith known (papers ++ paper ∷ []) []
begins_next known left used lines paper papers ahead fronts t = record {
  left = left;
  used = used ++ (lines ++ paper);
  part = subst (λ (l : List ℕ). HasUsed known left l) (sym (append-nil (used ++ (lines ++ paper)))) (used_read known left (used ++ (lines ++ paper)) ahead t.read);
  fronts = fronts_more used lines paper papers fronts t.empty;
}

-- or with more than a paper may have
pub too_long : (known left : Option (List ℕ)) (used front text : List ℕ) (papers : List (List ℕ)) (ahead : Ahead) → AreFronts used papers → IsRead known left used ahead
    → IsTooMuch ahead → front ≡ ahead.bytes.items → TellsTooLong front text → IsTooLong known papers text
too_long known left used front text papers ahead fronts read much same tells = record {
  front = front;
  begins = record { left = left; used = used; part = used_ahead known left used front ahead same read; fronts = fronts };
  endless = subst (λ (l : List ℕ). HasNoEnd l) (sym same) much.1;
  long = subst (λ (l : List ℕ). 1048576 < length l) (sym same) much.0;
  tells = tells;
}

-- a text of one kind was begun, which is of another
begins_as : (P Q : List ℕ → Type 0) (a b : Option (List ℕ)) → ((t : List ℕ) → P t → Q t) → Begins P a b → Begins Q a b
begins_as P Q a b weaker begun = (begun.0, weaker begun.0 begun.1, begun.2)

-- a fault ended the telling of what was to be told
pub stops_telling : (m : Chart) (known : Option (List ℕ)) (papers : List (List ℕ)) (game : Option Row) (P : List ℕ → Type 0) (a b : Option (List ℕ)) (f : CheckFault)
    → ((t : List ℕ) → P t → IsToTell m known papers game t) → StopsTelling P a b f → StopsAfter m known papers game a b f
stops_telling m known papers game P a b Memory weaker h = h
stops_telling m known papers game P a b Write weaker h = begins_as P (IsToTell m known papers game) a b weaker h
stops_telling m known papers game P a b Read weaker h = absurd h
stops_telling m known papers game P a b TooLong weaker h = absurd h

-- a fault ended the reading of what comes next
pub stops_reading : (m : Chart) (known : Option (List ℕ)) (papers : List (List ℕ)) (game : Option Row) (P : List ℕ → Type 0) (a b : Option (List ℕ)) (f g : CheckFault)
    → (f ≡ TooLong → (t : List ℕ) → P t → IsTooLong known papers t) → StopsReading f P a b g → StopsAfter m known papers game a b g
stops_reading m known papers game P a b TooLong TooLong weaker h = (h.0, weaker refl h.0 h.1, h.2)
stops_reading m known papers game P a b TooLong Memory weaker h = h
stops_reading m known papers game P a b TooLong Write weaker h = begins_as P (IsToTell m known papers game) a b (λ t is. inr (inl (weaker refl t is))) h
stops_reading m known papers game P a b TooLong Read weaker h = absurd h
stops_reading m known papers game P a b Read Read weaker h = h
stops_reading m known papers game P a b Read TooLong weaker h = absurd h
stops_reading m known papers game P a b Read Memory weaker h = absurd h
stops_reading m known papers game P a b Read Write weaker h = absurd h
stops_reading m known papers game P a b Memory Memory weaker h = h
stops_reading m known papers game P a b Memory TooLong weaker h = absurd h
stops_reading m known papers game P a b Memory Read weaker h = absurd h
stops_reading m known papers game P a b Memory Write weaker h = absurd h
stops_reading m known papers game P a b Write TooLong weaker h = absurd h
stops_reading m known papers game P a b Write Memory weaker h = absurd h
stops_reading m known papers game P a b Write Read weaker h = absurd h
stops_reading m known papers game P a b Write Write weaker h = absurd h

pub ends_early : (m : Chart) (known left before mid after : Option (List ℕ)) (game : Option Row) (ahead : Ahead) (f : CheckFault) → (r : Reached m known left game ahead)
    → Appends before mid (flat_map right_text r.papers) → StopsAfter m known r.papers game mid after f → EndsEarly m known before after f
ends_early m known left before mid after game ahead f r right stops = record {
  papers = r.papers;
  game = game;
  played = r.played;
  begins = begins_played m known left game ahead r;
  mid = mid;
  right = right;
  stops = stops;
}

-- writing failed
pub stops_writing : (P : List ℕ → Type 0) (a b : Option (List ℕ)) (f : CheckFault) (text : List ℕ) → f ≡ Write → P text → (size : ℕ) × Appends a b (take size text)
    → StopsTelling P a b f
stops_writing P a b f text is of begun = subst (λ (x : CheckFault). StopsTelling P a b x) (sym is) (text, of, begun)

-- a movement's report has an order for each unit
standing_units : (ps : List PlacedOrder) (us : List AUnit) → map (λ (o : PlacedOrder). o.unit) (map (order_among ps) us) ≡ us
standing_units ps [] = refl
standing_units ps (u ∷ us) = ap (λ (vs : List AUnit). u ∷ vs) (standing_units ps us)

moved_units : (m : Chart) (b left : Position) (ps : List PlacedOrder) (account : Account) → LeavesMoved m b ps left account → HasOrders b account
moved_units m b left ps (OfMovement t) h = ap (λ (os : List PlacedOrder). map (λ (o : PlacedOrder). o.unit) os) h.orders ∙ standing_units ps b.units
moved_units m b left ps (OfRetreats lines) h = tt
moved_units m b left ps (OfAdjustment t) h = tt

leaves_units : (m : Chart) (season : Season) (b left : Position) (ps : List PlacedOrder) (account : Account) → Leaves m season b ps left account → HasOrders b account
leaves_units m SpringMoves b left ps account h = moved_units m b left ps account h
leaves_units m FallMoves b left ps account h = moved_units m b left ps account h
leaves_units m season b left ps (OfRetreats lines) h = tt
leaves_units m season b left ps (OfAdjustment t) h = tt
leaves_units m SpringRetreats b left ps (OfMovement t) h = absurd h
leaves_units m FallRetreats b left ps (OfMovement t) h = absurd h
leaves_units m Winter b left ps (OfMovement t) h = absurd h

pub has_orders : (m : Chart) (p : Public) (text : List ℕ) (report : Report) (new : Public) → IsPhaseOf m p text report new → HasOrders p.board report.account
has_orders m p text report new h = leaves_units m p.board.phase.season p.board h.played.left h.orders report.account h.played.account

-- what isn't told right isn't
pub not_right : (said : Said) → ((new : Row) → said ≡ Right new → ⊥) → is_right said ≡ false
not_right (Right new) other = absurd (other new refl)
not_right (Wrong fault) other = refl
not_right (NoText line) other = refl

-- what is said of a text is said of the bytes that it is
pub first_wrong : (m : Chart) (text bytes : List ℕ) (v : Verdict) (fault : Fault) → IsJudgedFirst m text v → v ≡ WrongText fault → text ≡ bytes
    → (new : Public) → IsOpening m bytes new → ⊥
first_wrong m text bytes v fault judged is same new first =
    let none = subst (λ (x : Verdict). IsJudgedFirst m text x) is judged in none.0 new (subst (λ (t : List ℕ). IsOpening m t new) (sym same) first)

pub next_wrong : (m : Chart) (p : Public) (text bytes : List ℕ) (v : Verdict) (fault : Fault) → IsJudgedPaper m p text v → v ≡ WrongText fault → text ≡ bytes
    → (new : Public) → IsNext m p bytes new → ⊥
next_wrong m p text bytes v fault judged is same new next =
    subst (λ (x : Verdict). IsJudgedPaper m p text x) is judged new (subst (λ (t : List ℕ). IsNext m p t new) (sym same) next)

-- a phase's report, whose paper the bytes are
pub report_units : (m : Chart) (p : Row) (text : List ℕ) (found : Option Report) (report : Report) (board : Position) → IfSome found (λ r. (new : Public) × IsPhaseOf m (rows.public p) text r new)
    → found ≡ Some report → board ≡ p.board.value → HasOrders board report.account
report_units m p text found report board h is same =
    let one = subst (λ (f : Option Report). IfSome f (λ r. (new : Public) × IsPhaseOf m (rows.public p) text r new)) is h in
    subst (λ (b : Position). HasOrders b report.account) (sym same) (has_orders m (rows.public p) text report one.0 one.1)

pub report_text : (m : Chart) (p : Row) (text bytes told : List ℕ) (found : Option Report) (report : Report) (board : Position)
    → IfSome found (λ r. (new : Public) × IsPhaseOf m (rows.public p) text r new) → found ≡ Some report → text ≡ bytes → board ≡ p.board.value
    → told ≡ phase_explained m board report → IsExplanation m (Some p) bytes told
report_text m p text bytes told found report board h is same here says =
    let one = subst (λ (f : Option Report). IfSome f (λ r. (new : Public) × IsPhaseOf m (rows.public p) text r new)) is h in (
      report,
      one.0,
      subst (λ (t : List ℕ). IsPhaseOf m (rows.public p) t report one.0) same one.1,
      subst (λ (b : Position). told ≡ phase_explained m b report) here says,
    )

-- what is to be told of a paper that isn't explained
pub unexplained_idle : (m : Chart) (game : Option Row) (paper : List ℕ) (said : Said) (new : Row) (text : List ℕ) → IsSaid m game paper said → said ≡ Right new
    → text ≡ no_phase_text paper → IsFoundText m game paper text false
unexplained_idle m game paper said new text h is told = inl (new, subst (λ (x : Said). IsSaid m game paper x) is h, told)

pub unexplained_wrong : (m : Chart) (game : Option Row) (paper : List ℕ) (said : Said) (text : List ℕ) → IsSaid m game paper said → ((new : Row) → said ≡ Right new → ⊥)
    → text ≡ said_text paper said → IsFoundText m game paper text false
unexplained_wrong m game paper said text h other told = inr (said, h, not_right said other, told)

-- what is so of what was found is so of what came through
pub through : {A E F : Type 0} (P : A → Type 0) (r : Result A E) (o : Result A F) → IfOk o (λ f. r ≡ Ok f) → IfOk r P → IfOk o P
through P r (Ok f) same h = subst (λ x. IfOk x P) same h
through P r (Err e) same h = tt

pub on_ok : {A E : Type 0} (P Q : A → Type 0) (r : Result A E) → IfOk r P → ((a : A) → P a → Q a) → IfOk r Q
on_ok P Q (Ok a) h more = more a h
on_ok P Q (Err e) h more = tt

-- no paper is left: bytes that begin with empty lines and nothing after them
pub empty_front : (front slice paper : List ℕ) → slice ≡ front → (after : IsAfterLines slice paper) → true ≡ (length paper == 0) → AreEmptyLines front
empty_front front slice [] same after none =
    subst (λ (l : List ℕ). AreEmptyLines l) (sym (append-nil after.0) ∙ sym after.2 ∙ same) after.1
empty_front front slice (x ∷ xs) same after none = absurd (true≢false (none ∙ eqb-suc-zero (length xs)))

-- a check's end
pub ends_all : (m : Chart) (known left before mid after : Option (List ℕ)) (papers : List (List ℕ)) (game : Option Row) (r : Result Bool CheckFault) → ArePlayed m papers game
    → IsAll known left papers → Appends before mid (flat_map right_text papers) → OnOk r (Appends mid after (end_text game)) → IfOk r (λ right. right ≡ is_some game)
    → IfOk r (IsChecked m known left before after)
ends_all m known left before mid after papers game (Ok right) played all so_far told is = checked_all m known left before mid after papers game right played all so_far told is
ends_all m known left before mid after papers game (Err f) played all so_far told is = tt

pub ends_telling : (m : Chart) (known left before mid after : Option (List ℕ)) (game : Option Row) (ahead : Ahead) (P : List ℕ → Type 0) (o : Result Bool CheckFault)
    → (r : Reached m known left game ahead) → Appends before mid (flat_map right_text r.papers) → ((t : List ℕ) → P t → IsToTell m known r.papers game t)
    → IfErr o (StopsTelling P mid after) → IfErr o (EndsEarly m known before after)
ends_telling m known left before mid after game ahead P (Ok right) r so_far weaker stops = tt
ends_telling m known left before mid after game ahead P (Err f) r so_far weaker stops =
    ends_early m known left before mid after game ahead f r so_far (stops_telling m known r.papers game P mid after f weaker stops)

-- the explanation as it is handed over
pub found_text : (m : Chart) (game : Option Row) (before : Row) (paper : List ℕ) (found : Option (String Global)) (text : String Global) (told : List ℕ)
    → IfSome found (λ t. IsExplanation m (Some before) paper (string_bytes t)) → found ≡ Some text → game ≡ Some before → told ≡ string_bytes text
    → IsExplanation m game paper told
found_text m game before paper found text told h is same here =
    let one = subst (λ f. IfSome f (λ t. IsExplanation m (Some before) paper (string_bytes t))) is h in
    subst (λ (x : Option Row). IsExplanation m x paper told) (sym same) (subst (λ (t : List ℕ). IsExplanation m (Some before) paper t) (sym here) one)

-- how an explanation ends
pub is_missing : (m : Chart) (number : ℕ) (known left : Option (List ℕ)) (papers : List (List ℕ)) (game : Option Row) (f : Found) → ArePlayed m papers game
    → IsAll known left papers → (f.explained ≡ false) × (f.text.items ≡ missing_text number (count_played game)) → IsFound m number known left f.text.items f.explained
is_missing m number known left papers game f played all h = subst (λ (b : Bool). IsFound m number known left f.text.items b) (sym h.0) (record {
  papers = papers;
  game = game;
  played = played;
  ends = inl (record { all = all; told = h.1 });
})

pub is_wrong : (m : Chart) (number : ℕ) (known left : Option (List ℕ)) (papers : List (List ℕ)) (game : Option Row) (paper : List ℕ) (said : Said) (f : Found)
    → ArePlayed m papers game → ComesNext known left papers paper → IsSaid m game paper said → is_right said ≡ false
    → (f.explained ≡ false) × (f.text.items ≡ said_text paper said) → IsFound m number known left f.text.items f.explained
is_wrong m number known left papers game paper said f played comes is wrong h = subst (λ (b : Bool). IsFound m number known left f.text.items b) (sym h.0) (record {
  papers = papers;
  game = game;
  played = played;
  ends = inr (inr (record { paper = paper; said = said; comes = comes; is = is; wrong = wrong; told = h.1 }));
})

found_ends : (m : Chart) (number : ℕ) (known left : Option (List ℕ)) (papers : List (List ℕ)) (game : Option Row) (paper text : List ℕ) (explained : Bool)
    → ComesNext known left papers paper → count_played game + 1 ≡ number → IsFoundText m game paper text explained
    → EndsExplaining m number known left papers game text explained
found_ends m number known left papers game paper text true comes count h = record { paper = paper; comes = comes; count = count; is = h }
found_ends m number known left papers game paper text false comes count (inl h) =
    inr (inl (record { paper = paper; new = h.0; comes = comes; count = count; is = h.1; told = h.2 }))
found_ends m number known left papers game paper text false comes count (inr h) =
    inr (inr (record { paper = paper; said = h.0; comes = comes; is = h.1; wrong = h.2; told = h.3 }))

pub is_found : (m : Chart) (number : ℕ) (known left : Option (List ℕ)) (papers : List (List ℕ)) (game : Option Row) (paper : List ℕ) (f : Found)
    → ArePlayed m papers game → ComesNext known left papers paper → count_played game + 1 ≡ number → IsFoundNext m game paper f
    → IsFound m number known left f.text.items f.explained
is_found m number known left papers game paper f played comes count h = record {
  papers = papers;
  game = game;
  played = played;
  ends = found_ends m number known left papers game paper f.text.items f.explained comes count h;
}

-- an explanation that was begun, or not come to
pub begun_nothing : (m : Chart) (number : ℕ) (known left before after : Option (List ℕ)) (f : CheckFault) → after ≡ before → IsReadingFault f
    → EndsBegun m number known left before after f
begun_nothing m number known left before after Read same is = same
begun_nothing m number known left before after TooLong same is = same
begun_nothing m number known left before after Memory same is = same
begun_nothing m number known left before after Write same is = absurd is

pub begun_some : (m : Chart) (number : ℕ) (known left before after : Option (List ℕ)) (f : CheckFault) (text : List ℕ) (explained : Bool) → f ≡ Write
    → IsFound m number known left text explained → (size : ℕ) × Appends before after (take size text) → EndsBegun m number known left before after f
begun_some m number known left before after f text explained is found begun =
    subst (λ (x : CheckFault). EndsBegun m number known left before after x) (sym is)
    (record { last = text; done = explained; found = found; size = begun.0; written = begun.1 })

-- want of memory is a fault of reading too
pub memory_reads : {A : Type 0} (r : Result A CheckFault) → IfErr r (λ f. f ≡ Memory) → IfErr r IsReadingFault
memory_reads (Ok a) h = tt
memory_reads (Err f) h = subst (λ (x : CheckFault). IsReadingFault x) (sym h) tt
