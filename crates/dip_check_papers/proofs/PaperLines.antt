-- Each paper of a game is lines of printable characters, of which the last one, and no other, is `END`.
use Rattle.std.proofs.Common.{◌≡◌, ◌≢◌, ◌==◌, ◌&&◌, ◌||◌, ◌⊎◌, inl, inr, ℕ, Bool, true, false, cond, List, [], ◌∷◌, ◌++◌, codes, drop, length, map, filter, flat_map, refl, sym, ap, ap₂, subst, ◌∙◌, append_assoc, arith}
use Rattle.std.specs.List.{AllByRecursion, list_all}
use Rattle.std.specs.Char.{is_ascii_lowercase}
use Rattle.std.specs.Fmt.{decimal}
use Rattle.std.specs.Prelude.{slice_index}
use Rattle.std.proofs.lemmas.Bool.{and_parts, false≢true}
use Rattle.std.proofs.lemmas.Bool.Decides.{nat_tests}
use Rattle.dip_names.specs.Forms.{is_printable}
use Rattle.dip_names.specs.declared.names.Kind.{Kind}
use Rattle.dip_names.specs.declared.names.Kind.TheVariants.{Army, Fleet}
use Rattle.dip_names.specs.declared.names.Place.{Place}
use Rattle.dip_names.specs.declared.names.Unit.{Unit as AUnit}
use Rattle.dip_letters.specs.Letters.{FitsNotice}
use Rattle.dip_letters.specs.Lines.{AreInner, end_line, text_of}
use Rattle.dip_letters.specs.Notes.{NoticeRequest}
use Rattle.dip_letters.specs.Notes.NoticeRequest.{Announce, Close, Pause, Period, Resume}
use Rattle.dip_letters.specs.Words.{has_length, is_digit, is_game, is_lower}
use Rattle.dip_letters.proofs.LineLemmas.{all_inner, text_of-append}
use Rattle.dip_map.specs.Boards.{Position}
use Rattle.dip_map.specs.Charts.{Chart, IsMap, powers, province, provs, realm}
use Rattle.dip_map.specs.declared.boards.Phase.{Phase}
use Rattle.dip_map.specs.declared.boards.Season.{Season}
use Rattle.dip_map.specs.declared.boards.Season.TheVariants.{SpringMoves, SpringRetreats, FallMoves, FallRetreats, Winter}
use Rattle.dip_orders.specs.Texts.{action_text, kind_letter, order_text, other_text, place_text, unit_text, verb_text, via_text}
use Rattle.dip_orders_placed.specs.declared.placed.Order.{Order}
use Rattle.dip_orders_placed.specs.declared.placed.Order.TheVariants.{Hold, Move, SupportHold, SupportMove, Convoy, Retreat, Disband, Build, Remove}
use Rattle.dip_orders_placed.specs.declared.placed.Other.{Other}
use Rattle.dip_orders_placed.specs.declared.placed.PlacedOrder.{PlacedOrder}
use Rattle.dip_desk_state.specs.Records.{Public, Status, Running, Paused, Closed, Ended, Won, Drawn}
use Rattle.dip_reports.specs.Texts.{board_line, board_lines, by_province, centres, force_text, forces, game_line, intent_text, joined, listing, marked_line, marked_lines, notice_lines, paper_title, phase_text, terms_text, yes_or_no}
use Rattle.dip_desk_state.specs.Texts.{status_text}
use Rattle.dip_reports.specs.declared.board_lines.Force.{Force}
use Rattle.dip_turn.specs.Fate.{Fate}
use Rattle.dip_turn.specs.Fate.TheVariants.{Stands, Dislodged, Destroyed}
use Rattle.dip_turn.specs.Outcome.{Outcome}
use Rattle.dip_turn.specs.Outcome.TheVariants.{Holds, Moves, Bounced, NoRoute, Given, Cut, Void, Convoys}
use Rattle.dip_turn_phases.specs.declared.report.Account.{Account}
use Rattle.dip_turn_phases.specs.declared.report.Account.TheVariants.{Movement as OfMovement, Retreats as OfRetreats, Adjustment as OfAdjustment}
use Rattle.dip_turn.specs.CentreLine.{CentreLine}
use Rattle.dip_turn_phases.specs.declared.report.Report.{Report}
use Rattle.dip_turn.specs.Waiver.{Waiver}
use Rattle.dip_turn_papers.specs.Papers as t
use Rattle.dip_turn_papers.specs.declared.lines.PaperLine.{PaperLine}
use Rattle.dip_turn_papers.specs.declared.lines.Told.{Told}
use Rattle.dip_turn_papers.specs.declared.lines.Told.TheVariants.{Moved, Retreats, Disbands, Built, Removed, RemovedInDisorder}
use Rattle.dip_check_papers.specs.Games.{AreNext, IsDraw, IsNext, IsNotice, IsOpening, IsPhase}
use Rattle.dip_check_papers.specs.PaperTexts.{IsPaperText, PapersAreLines}
use Rattle.dip_check_papers.proofs.LineLemmas.{AreAll, all_both, all_flat, all_weaker, lacks_by}
use Rattle.dip_check_papers.proofs.NameTexts.{code_all, name_all, number_all}
use Rattle.dip_check_papers.proofs.OrderTexts.{place_all}

-- ---- lines that have a space are none that ends a paper

abbrev has_space : List ℕ → Bool
has_space [] = false
has_space (b ∷ bs) = b == 32 || has_space bs

space_first : (a b : List ℕ) → has_space a ≡ true → has_space (a ++ b) ≡ true
space_first [] b h = absurd (false≢true h)
space_first (x ∷ a) b h = go (x == 32) (λ e. space_first a b e) h
  where
    go : (t : Bool) → (has_space a ≡ true → has_space (a ++ b) ≡ true) → (t || has_space a) ≡ true → (t || has_space (a ++ b)) ≡ true
    go true ih e = refl
    go false ih e = ih e

space_later : (a b : List ℕ) → has_space b ≡ true → has_space (a ++ b) ≡ true
space_later [] b h = h
space_later (x ∷ a) b h = go (x == 32) (space_later a b h)
  where
    go : (t : Bool) → has_space (a ++ b) ≡ true → (t || has_space (a ++ b)) ≡ true
    go true e = refl
    go false e = e

no_end : (l : List ℕ) → has_space l ≡ true → l ≢ codes "END"
no_end l h same = false≢true (subst (λ (x : List ℕ). has_space x ≡ true) same h)

printed_no_lf : (b : ℕ) → is_printable b ≡ true → b ≢ 10
printed_no_lf b h same = grind (arith, nat_tests)

-- a text of such lines, each with its LF
record IsLines (text : List ℕ) : Type 0 where
  lines : List (List ℕ)
  inner : AreInner lines
  printed : AllByRecursion (AreAll is_printable) lines
  is : text ≡ text_of lines

one_line : (l : List ℕ) → AreAll is_printable l → has_space l ≡ true → IsLines (l ++ codes "\n")
one_line l all space = record {
  lines = l ∷ [];
  inner = (lacks_by is_printable 10 printed_no_lf l all, no_end l space, tt);
  printed = (all, tt);
  is = refl;
}

none : IsLines []
none = record { lines = []; inner = tt; printed = tt; is = refl }

all_more : (P : List ℕ → Type 0) (a b : List (List ℕ)) → AllByRecursion P a → AllByRecursion P b → AllByRecursion P (a ++ b)
all_more P [] b one two = two
all_more P (x ∷ a) b one two = (one.0, all_more P a b one.1 two)

both : (a b : List ℕ) → IsLines a → IsLines b → IsLines (a ++ b)
both a b one two = record {
  lines = one.lines ++ two.lines;
  inner = all_inner one.lines two.lines one.inner two.inner;
  printed = all_more (AreAll is_printable) one.lines two.lines one.printed two.printed;
  is = ap₂ (λ (x y : List ℕ). x ++ y) one.is two.is ∙ sym (text_of-append one.lines two.lines);
}

each : {A : Type 0} (f : A → List ℕ) (xs : List A) → ((x : A) → IsLines (f x)) → IsLines (flat_map f xs)
each f [] all = none
each f (x ∷ xs) all = both (f x) (flat_map f xs) (all x) (each f xs all)

-- ---- the parts of a line

abbrev joined_parts : List ℕ → List (List ℕ) → List ℕ
joined_parts first [] = first
joined_parts first (p ∷ ps) = joined_parts (first ++ p) ps

parts_printed : (first : List ℕ) (parts : List (List ℕ)) → AreAll is_printable first → AllByRecursion (AreAll is_printable) parts → AreAll is_printable (joined_parts first parts)
parts_printed first [] one all = one
parts_printed first (p ∷ ps) one all = parts_printed (first ++ p) ps (all_both is_printable first p one all.0) all.1

parts_space : (first : List ℕ) (parts : List (List ℕ)) → has_space first ≡ true → has_space (joined_parts first parts) ≡ true
parts_space first [] one = one
parts_space first (p ∷ ps) one = parts_space (first ++ p) ps (space_first first p one)

line_of : (first : List ℕ) (parts : List (List ℕ)) → AreAll is_printable first → has_space first ≡ true → AllByRecursion (AreAll is_printable) parts → IsLines (joined_parts first parts ++ codes "\n")
line_of first parts one space all = one_line (joined_parts first parts) (parts_printed first parts one all) (parts_space first parts space)

small : (b : ℕ) → is_ascii_lowercase b ≡ true → is_printable b ≡ true
small b h = grind (arith, nat_tests)

number : (n : ℕ) → AreAll is_printable (decimal n)
number n = number_all is_printable (λ d low. grind (arith, nat_tests)) n

phase : (p : Phase) → AreAll is_printable (phase_text p)
unfolding phase_text
phase p = by p.season
  where
    between : (first last : List ℕ) → AreAll is_printable first → AreAll is_printable last → AreAll is_printable (first ++ decimal p.year ++ last)
    between first last one other = parts_printed first (decimal p.year ∷ last ∷ []) one (number p.year, (other, tt))

    by : (s : Season) → AreAll is_printable (phase_text (record { year = p.year; season = s }))
    by SpringMoves = between (codes "S") (codes "M") refl refl
    by SpringRetreats = between (codes "S") (codes "R") refl refl
    by FallMoves = between (codes "F") (codes "M") refl refl
    by FallRetreats = between (codes "F") (codes "R") refl refl
    by Winter = between (codes "W") (codes "A") refl refl

yes : (b : Bool) → AreAll is_printable (yes_or_no b)
yes true = refl
yes false = refl

intent : (b : Bool) → AreAll is_printable (intent_text b)
intent true = refl
intent false = refl

terms : (p : Public) → AreAll is_printable (terms_text p)
unfolding terms_text
terms p =
    parts_printed (codes " DUE ")
    (decimal p.due ∷ codes " PERIOD " ∷ decimal p.period ∷ codes " GREY " ∷ yes_or_no p.grey ∷ intent_text p.board.intent ∷ codes " PAPERS " ∷ decimal p.papers ∷ [])
    refl (number p.due, (refl, (number p.period, (refl, (yes p.grey, (intent p.board.intent, (refl, (number p.papers, tt))))))))

game_name : (game : List ℕ) → is_game game ≡ true → AreAll is_printable game
game_name game is =
    let parts = and_parts (has_length 1 16 game) (is_lower (slice_index game 0) && list_all (λ b. is_lower b || is_digit b) game) is in
    let rest = and_parts (is_lower (slice_index game 0)) (list_all (λ b. is_lower b || is_digit b) game) parts.1 in
    all_weaker (λ b. is_lower b || is_digit b) is_printable weaker game rest.1
  where
    weaker : (b : ℕ) → (is_lower b || is_digit b) ≡ true → is_printable b ≡ true
    weaker b h = grind (arith, nat_tests)

joined_all : (separator : List ℕ) (texts : List (List ℕ)) → AreAll is_printable separator → AllByRecursion (AreAll is_printable) texts → AreAll is_printable (joined separator texts)
joined_all separator [] mark all = refl
joined_all separator (t ∷ ts) mark all = all_both is_printable t (flat_map (λ u. separator ++ u) ts) all.0 (rest ts all.1)
  where
    rest : (us : List (List ℕ)) → AllByRecursion (AreAll is_printable) us → AreAll is_printable (flat_map (λ u. separator ++ u) us)
    rest [] each = refl
    rest (u ∷ us) each = all_both is_printable (separator ++ u) (flat_map (λ v. separator ++ v) us) (all_both is_printable separator u mark each.0) (rest us each.1)

mapped : {A : Type 0} (P : List ℕ → Type 0) (f : A → List ℕ) (xs : List A) → ((x : A) → P (f x)) → AllByRecursion P (map f xs)
mapped P f [] all = tt
mapped P f (x ∷ xs) all = (all x, mapped P f xs all)

-- what is said of a notice stands after a mark
marked : (ls : List (List ℕ)) → AllByRecursion (AreAll is_printable) ls → IsLines (marked_lines ls)
marked [] all = none
marked (l ∷ ls) all = both (marked_line l) (marked_lines ls) (line_of (codes "> ") (l ∷ []) refl refl (all.0, tt)) (marked ls all.1)

notice_all : (n : NoticeRequest) → FitsNotice n → AllByRecursion (AreAll is_printable) (notice_lines n)
notice_all Pause fits = (refl, tt)
notice_all Resume fits = (refl, tt)
notice_all (Period period) fits = (all_both is_printable (codes "period ") (decimal period) refl (number period), tt)
notice_all (Announce text) fits = lines text fits.2
  where
    lines : (ls : List (List ℕ)) → AllByRecursion (λ l. (has_length 0 200 l && list_all is_printable l) ≡ true) ls → AllByRecursion (AreAll is_printable) ls
    lines [] all = tt
    lines (l ∷ ls) all = ((and_parts (has_length 0 200 l) (list_all is_printable l) all.0).1, lines ls all.1)
notice_all Close fits = (refl, tt)

title_line : (number_of : ℕ) (kind : List ℕ) → AreAll is_printable kind → IsLines (paper_title number_of kind)
title_line n kind all = line_of (codes "PAPER ") (decimal n ∷ codes " " ∷ kind ∷ []) refl refl (number n, (refl, (all, tt)))

outcome_printed : (o : Outcome) → AreAll is_printable (t.outcome_text o)
outcome_printed Holds = refl
outcome_printed Moves = refl
outcome_printed Bounced = refl
outcome_printed NoRoute = refl
outcome_printed Given = refl
outcome_printed Cut = refl
outcome_printed Void = refl
outcome_printed Convoys = refl

fate_printed : (f : Fate) → AreAll is_printable (t.fate_text f)
fate_printed Stands = refl
fate_printed Dislodged = refl
fate_printed Destroyed = refl

told_printed : (x : Told) → AreAll is_printable (t.told_text x)
told_printed (Moved outcome fate) = all_both is_printable (t.outcome_text outcome) (t.fate_text fate) (outcome_printed outcome) (fate_printed fate)
told_printed Retreats = refl
told_printed Disbands = refl
told_printed Built = refl
told_printed Removed = refl
told_printed RemovedInDisorder = refl

module _ (m : Chart) (laws : IsMap m) where
  name : (r : ℕ) → AreAll is_printable (realm m r).name
  name r = name_all m laws is_printable small r

  code : (p : ℕ) → AreAll is_printable (province m p).code
  code p = code_all m laws is_printable small p

  place : (k : Kind) (a : Place) → AreAll is_printable (place_text m k a)
  place k a = place_all m laws is_printable small refl k a

  letter : (k : Kind) → AreAll is_printable (kind_letter k)
  letter Army = refl
  letter Fleet = refl

  other : (o : Other) → AreAll is_printable (other_text m o)
  other o = all_both is_printable (kind_letter o.kind) (province m o.prov).code (letter o.kind) (code o.prov)

  via_printed : (via : Bool) → AreAll is_printable (via_text via)
  via_printed true = refl
  via_printed false = refl

  action : (k : Kind) (o : Order) → AreAll is_printable (action_text m k o)
  action k Hold = refl
  action k (Move to via) = parts_printed (codes " - ") (place_text m k to ∷ via_text via ∷ []) refl (place k to, (via_printed via, tt))
  action k (SupportHold at) = parts_printed (codes " S ") (other_text m at ∷ []) refl (other at, tt)
  action k (SupportMove at to) = parts_printed (codes " S ") (other_text m at ∷ codes " - " ∷ (province m to).code ∷ []) refl (other at, (refl, (code to, tt)))
  action k (Convoy at to) = parts_printed (codes " C ") (other_text m at ∷ codes " - " ∷ (province m to).code ∷ []) refl (other at, (refl, (code to, tt)))
  action k (Retreat to) = parts_printed (codes " R ") (place_text m k to ∷ []) refl (place k to, tt)
  action k Disband = refl
  action k Build = refl
  action k Remove = refl

  verb : (o : Order) → AreAll is_printable (verb_text o)
  verb Hold = refl
  verb (Move to via) = refl
  verb (SupportHold at) = refl
  verb (SupportMove at to) = refl
  verb (Convoy at to) = refl
  verb (Retreat to) = refl
  verb Disband = refl
  verb Build = refl
  verb Remove = refl

  order : (o : PlacedOrder) → AreAll is_printable (order_text m o)
  order o =
      all_both is_printable (verb_text o.order) (kind_letter o.unit.kind ++ (place_text m o.unit.kind o.unit.place ++ action_text m o.unit.kind o.order)) (verb o.order)
      (all_both is_printable (kind_letter o.unit.kind) (place_text m o.unit.kind o.unit.place ++ action_text m o.unit.kind o.order) (letter o.unit.kind)
      (all_both is_printable (place_text m o.unit.kind o.unit.place) (action_text m o.unit.kind o.order) (place o.unit.kind o.unit.place) (action o.unit.kind o.order)))

  unit : (u : AUnit) → AreAll is_printable (unit_text m u)
  unfolding unit_text
  unit u = all_both is_printable (kind_letter u.kind) (place_text m u.kind u.place) (letter u.kind) (place u.kind u.place)

  force_printed : (f : Force) → AreAll is_printable (force_text m f)
  force_printed f = all_both is_printable (unit_text m f.unit) _ (unit f.unit) (star f.dislodged)
    where
      star : (b : Bool) → AreAll is_printable (cond b (codes "*") [])
      star true = refl
      star false = refl

  -- a line that begins with a power's name
  power_line : (r : ℕ) (parts : List (List ℕ)) → AllByRecursion (AreAll is_printable) parts → IsLines (joined_parts ((realm m r).name ++ codes " ") parts ++ codes "\n")
  power_line r parts all = line_of ((realm m r).name ++ codes " ") parts (all_both is_printable (realm m r).name (codes " ") (name r) refl) (space_later (realm m r).name (codes " ") refl) all

  listed : (r : ℕ) (owned : List ℕ) (units : List Force) → IsLines (listing m (realm m r).name owned units)
  unfolding listing
  listed r owned units =
      power_line r
      (decimal (length owned) ∷ codes "/" ∷ decimal (length units) ∷ codes ": " ∷ joined (codes ", ") (map (force_text m) units) ∷ codes " | "
      ∷ joined (codes " ") (map (λ p. (province m p).code) owned) ∷ []) (
        number (length owned),
        (
          refl,
          (
            number (length units),
            (
              refl,
              (
                joined_all (codes ", ") (map (force_text m) units) refl (mapped (AreAll is_printable) (force_text m) units force_printed),
                (refl, (joined_all (codes " ") (map (λ p. (province m p).code) owned) refl (mapped (AreAll is_printable) (λ p. (province m p).code) owned code), tt)),
              ),
            ),
          ),
        ),
      )

  boards : (b : Position) → IsLines (board_lines m b)
  unfolding board_lines board_line
  boards b = each (board_line m b) (powers m) (λ r. listed r (centres m b r) (by_province m (forces b r)))

  status : (s : Status) → AreAll is_printable (status_text m s)
  unfolding status_text
  status Running = refl
  status Paused = refl
  status Closed = refl
  status Ended = refl
  status (Won power) = all_both is_printable (codes "won by ") (realm m power).name refl (name power)
  status (Drawn powers) =
      all_both is_printable (codes "drawn by") (flat_map (λ p. codes " " ++ (realm m p).name) powers) refl
      (all_flat is_printable (λ p. codes " " ++ (realm m p).name) powers (λ p. all_both is_printable (codes " ") (realm m p).name refl (name p)))

  game : (p : Public) → is_game p.game ≡ true → IsLines (game_line m p)
  unfolding game_line
  game p is =
      line_of (codes "GAME ") (p.game ∷ codes " " ∷ phase_text p.board.phase ∷ codes " " ∷ status_text m p.status ∷ terms_text p ∷ []) refl refl
      (game_name p.game is, (refl, (phase p.board.phase, (refl, (status p.status, (terms p, tt))))))

  -- ---- the lines of a phase

  told_line : (l : PaperLine) → IsLines (t.line_text m l)
  unfolding t.line_text
  told_line l = power_line l.placed.unit.power (order_text m l.placed ∷ codes ": " ∷ t.told_text l.told ∷ []) (order l.placed, (refl, (told_printed l.told, tt)))

  province_lines : (ls : List PaperLine) (r : ℕ) → IsLines (t.by_province m ls r)
  province_lines ls r = each (λ p. flat_map (t.line_text m) (filter (t.is_in r p) ls)) (provs m) (λ p. each (t.line_text m) (filter (t.is_in r p) ls) told_line)

  lines_by_power : (ls : List PaperLine) → IsLines (t.lines_by_power m ls)
  lines_by_power ls = each (t.by_province m ls) (powers m) (province_lines ls)

  waived : (w : Waiver) → IsLines (t.waiver_line m w)
  waived w = line_of ((realm m w.power).name ++ codes " waives ") (decimal w.builds ∷ []) (all_both is_printable (realm m w.power).name (codes " waives ") (name w.power) refl) (space_later (realm m w.power).name (codes " waives ") refl) (number w.builds, tt)

  adjusted : (orders disorder : List PaperLine) (waivers : List Waiver) → IsLines (t.adjusted_with m orders disorder waivers)
  adjusted orders disorder waivers = each (t.adjusted_power m orders disorder waivers) (powers m) (λ r.
      both (t.by_province m orders r ++ t.power_lines m disorder r) (flat_map (t.waiver_line m) (filter (λ w. w.power == r) waivers))
      (both (t.by_province m orders r) (t.power_lines m disorder r) (province_lines orders r) (each (t.line_text m) (filter (t.is_by r) disorder) told_line))
      (each (t.waiver_line m) (filter (λ w. w.power == r) waivers) waived))

  account : (a : Account) → IsLines (t.account_text m a)
  account (OfMovement x) = lines_by_power (t.moved_lines x.lines.items)
  account (OfRetreats ls) = lines_by_power (t.retreated_lines ls.items)
  account (OfAdjustment x) = adjusted (t.adjusted_lines x) (t.disorder_lines x) x.waivers.items

  centre : (c : CentreLine) → IsLines (t.centre_line m c)
  centre c = line_of (codes "centre ") ((province m c.prov).code ∷ codes ": " ∷ (realm m c.power).name ∷ []) refl refl (code c.prov, (refl, (name c.power, tt)))

  -- ---- the papers

  of_body : (text body rest : List ℕ) → IsLines body → text ≡ body ++ codes "END\n" → text ≡ codes "PAPER " ++ rest → IsPaperText text
  of_body text body rest b is begins = record {
    inner = b.lines;
    lines = b.inner;
    printed = b.printed;
    is = is ∙ ap (λ (x : List ℕ). x ++ end_line) b.is;
    rest = rest;
    begins = begins;
  }

  end_of : (p : Public) → is_game p.game ≡ true → IsLines (game_line m p ++ board_lines m p.board)
  end_of p is = both (game_line m p) (board_lines m p.board) (game p is) (boards p.board)

  opening_text : (text : List ℕ) (new : Public) → IsOpening m text new → is_game new.game ≡ true → IsPaperText text
  opening_text text new h is =
      of_body text (codes "PAPER 1 opening\n" ++ (game_line m new ++ board_lines m new.board)) (codes "1 opening\n" ++ ((game_line m new ++ board_lines m new.board) ++ codes "END\n"))
      (both (codes "PAPER 1 opening\n") (game_line m new ++ board_lines m new.board) (one_line (codes "PAPER 1 opening") refl refl) (end_of new is))
      h.told h.told

  notice_text : (p : Public) (text : List ℕ) (new : Public) → IsNotice m p text new → is_game new.game ≡ true → IsPaperText text
  notice_text p text new h is =
      let head = paper_title new.papers (codes "notice") ++ marked_lines (notice_lines h.notice) in
      let end = game_line m new ++ board_lines m new.board in
      of_body text (head ++ end) (drop 6 (head ++ (end ++ codes "END\n")))
      (both head end (both (paper_title new.papers (codes "notice")) (marked_lines (notice_lines h.notice)) (title_line new.papers (codes "notice") refl) (marked (notice_lines h.notice) (notice_all h.notice h.fits))) (end_of new is))
      (h.told ∙ sym (append_assoc head end (codes "END\n"))) h.told

  draw_text : (p : Public) (text : List ℕ) (new : Public) → IsDraw m p text new → is_game new.game ≡ true → IsPaperText text
  draw_text p text new h is =
      let head = paper_title new.papers (codes "draw") in
      let end = game_line m new ++ board_lines m new.board in
      of_body text (head ++ end) (drop 6 (head ++ (end ++ codes "END\n"))) (both head end (title_line new.papers (codes "draw") refl) (end_of new is))
      (h.told ∙ sym (append_assoc head end (codes "END\n"))) h.told

  phase_paper : (r : Report) (p : Public) → is_game p.game ≡ true → IsPaperText (t.paper_text m r p)
  unfolding t.paper_text
  phase_paper r p is =
      let title = t.title p.papers r.phase in
      let told = t.account_text m r.account in
      let hands = flat_map (t.centre_line m) r.centres.items in
      let body = title ++ told ++ hands ++ game_line m p ++ board_lines m p.board in
      of_body (t.paper_text m r p) body (drop 6 (body ++ codes "END\n"))
      (both (title ++ told ++ hands ++ game_line m p) (board_lines m p.board)
      (both (title ++ told ++ hands) (game_line m p)
      (both (title ++ told) hands
      (both title told (line_of (codes "PAPER ") (decimal p.papers ∷ codes " " ∷ phase_text r.phase ∷ []) refl refl (number p.papers, (refl, (phase r.phase, tt)))) (account r.account))
      (each (t.centre_line m) r.centres.items centre))
      (game p is)) (boards p.board)) refl refl

  -- a game keeps its name
  same_game : (p : Public) (text : List ℕ) (new : Public) → IsNext m p text new → new.game ≡ p.game
  same_game p text new h = by h.kind
    where
      by : IsPhase m p text new ⊎ (IsNotice m p text new ⊎ IsDraw m p text new) → new.game ≡ p.game
      by (inl phase) = ap (λ (q : Public). q.game) phase.brought.after
      by (inr (inl notice)) = ap (λ (q : Public). q.game) notice.after
      by (inr (inr draw)) = ap (λ (q : Public). q.game) draw.after

  next_text : (p : Public) (text : List ℕ) (new : Public) → IsNext m p text new → is_game new.game ≡ true → IsPaperText text
  next_text p text new h is = by h.kind
    where
      by : IsPhase m p text new ⊎ (IsNotice m p text new ⊎ IsDraw m p text new) → IsPaperText text
      by (inl phase) = subst IsPaperText (sym phase.brought.told) (phase_paper phase.report new is)
      by (inr (inl notice)) = notice_text p text new notice is
      by (inr (inr draw)) = draw_text p text new draw is

  all_next : (p : Public) (papers : List (List ℕ)) (new : Public) → is_game p.game ≡ true → AreNext m p papers new → AllByRecursion IsPaperText papers
  all_next p [] new is h = tt
  all_next p (x ∷ xs) new is h =
      let named : is_game h.0.game ≡ true = subst (λ (g : List ℕ). is_game g ≡ true) (sym (same_game p x h.0 h.1)) is in
      (next_text p x h.0 h.1 named, all_next h.0 xs new named h.2)

  pub papers_are_lines : PapersAreLines m
  papers_are_lines [] new h = absurd h
  papers_are_lines (x ∷ xs) new h =
      let named : is_game h.0.game ≡ true = subst (λ (q : Public). is_game q.game ≡ true) (sym h.1.after) h.1.named in
      (opening_text x h.0 h.1 named, all_next h.0 xs new named h.2)
