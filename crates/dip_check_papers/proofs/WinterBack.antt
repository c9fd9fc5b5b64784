-- The orders that a Winter's paper prints are read back, and are just those that were given.
use Rattle.std.proofs.Common.{◌≡◌, ◌<◌, ◌≤◌, ◌+◌, ◌==◌, ◌&&◌, ◌||◌, ℕ, zero, suc, Bool, true, false, not, nat_le, cond, codes, List, [], ◌∷◌, ◌++◌, length, map, filter, flat_map, nat_lt, Option, Some, None, Ok, Result, is_some, refl, sym, ap, ap₂, subst, ◌∙◌, append_assoc, append-nil, arith}
use Rattle.std.specs.Prelude.{Contains}
use Rattle.std.specs.Char.{is_ascii_lowercase}
use Rattle.std.specs.Fmt.{decimal}
use Rattle.std.specs.Result.{result_ok}
use Rattle.std.specs.Str.{bytes_eq}
use Rattle.std.specs.List.{AllByRecursion, count_by, list_all, range_with_len}
use Rattle.std.proofs.lemmas.Bool.{and_from, and_parts, eqb-true}
use Rattle.std.proofs.lemmas.Bool.Decides.{nat_tests}
use Rattle.std.proofs.lemmas.List.Elements.{Contains-append_right}
use Rattle.dip_names.specs.Options.{◌>>=◌}
use Rattle.dip_names.specs.declared.names.Unit.{Unit as AUnit}
use Rattle.dip_letters.specs.Lines.{IsLine, cut_at, split_lines, with_byte}
use Rattle.dip_letters.specs.Reading.{after_name}
use Rattle.dip_letters.proofs.LineLemmas.{cut_again, line_again, split_first}
use Rattle.dip_map.specs.Boards.{IsOf, Position}
use Rattle.dip_map.specs.Charts.{Chart, IsMap, power_of, powers, provs, realm}
use Rattle.dip_orders.specs.Conditions.{builds_elsewhere, is_adjustment, is_build, is_remove, removals_elsewhere}
use Rattle.dip_orders.specs.Given.{AreGiven, orders_of_power}
use Rattle.dip_orders.specs.Lawful.{IsAllowed}
use Rattle.dip_orders.specs.Reading.{order_of}
use Rattle.dip_orders.specs.Texts.{order_text}
use Rattle.dip_orders.specs.declared.faults.OrderFault.{OrderFault}
use Rattle.dip_orders_placed.specs.declared.placed.Order.{Order}
use Rattle.dip_orders_placed.specs.declared.placed.Order.TheVariants.{Hold, Move, SupportHold, SupportMove, Convoy, Retreat, Disband, Build, Remove}
use Rattle.dip_orders_placed.specs.declared.placed.PlacedOrder.{PlacedOrder}
use Rattle.dip_turn.specs.Reports.{IsAdjusted}
use Rattle.dip_turn_phases.specs.declared.report.Adjustment.{Adjustment}
use Rattle.dip_turn.specs.Waiver.{Waiver}
use Rattle.dip_turn.proofs.CountLemmas.{count_append, count_kept}
use Rattle.dip_turn.proofs.MapLemmas.{AreEachLawful, each_lawful}
use Rattle.dip_turn_papers.specs.Papers.{adjusted_lines, adjusted_power, adjusted_text, adjusted_with, by_province, disorder_lines, is_by, is_in, line_text, power_lines, told_text, unit_line, waiver_line}
use Rattle.dip_turn_papers.specs.declared.lines.PaperLine.{PaperLine}
use Rattle.dip_turn_papers.specs.declared.lines.Told.TheVariants.{Built, Removed, RemovedInDisorder}
use Rattle.dip_desk_state.specs.Records.{Public}
use Rattle.dip_reports.specs.Texts.{game_line, phase_text, terms_text}
use Rattle.dip_desk_state.specs.Texts.{status_text}
use Rattle.dip_desk_games.specs.ByPlace.{are_by_place, comes_before}
use Rattle.dip_desk_games.proofs.ListLemmas.{all_weaker}
use Rattle.dip_check_papers.specs.Placing.{placed_by}
use Rattle.dip_check_papers.specs.Printed.{build_line_at, may_follow, power_line_at, told_line_at, winter_line_at, winter_orders_at}
use Rattle.dip_check_papers.proofs.LineLemmas.{AreAll, all_both, lacks_append, lacks_by}
use Rattle.dip_check_papers.proofs.MovesBack.{OrderLaws}
use Rattle.dip_check_papers.proofs.NameTexts.{name_all, number_all}
use Rattle.dip_check_papers.proofs.OrderLines.{line_is, line_one, line_words}
use Rattle.dip_check_papers.proofs.OrderTexts.{is_told, low_no_lf, order_told, small_told, told_no_colon, told_no_lf}
use Rattle.dip_check_papers.proofs.Placing.{each_append, each_made, first_among, map_append, map_flat, placed_map}
use Rattle.dip_check_papers.proofs.PaperParts.{flat_flat, map_map}
use Rattle.dip_check_papers.proofs.WinterOrders.{all_at, order_to, told_are_given, told_orders}

-- ---- what is read of lines

-- the orders of a Winter's lines, after these
abbrev pub read : Chart → Position → List ℕ → List PlacedOrder → Option (List PlacedOrder)
read m b text given = winter_orders_at m b (split_lines text) given

one_line : (m : Chart) (b : Position) (line rest : List ℕ) (given new : List PlacedOrder) → IsLine line → after_name (codes "GAME ") line ≡ None
    → winter_line_at m b given line ≡ Some new → read m b (line ++ 10 ∷ rest) given ≡ read m b rest new
one_line m b line rest given new is other takes =
    ap (λ (ls : List (List ℕ)). winter_orders_at m b ls given) (split_first (line ++ 10 ∷ rest) line rest (sym (line_again line rest is)))
    ∙ ap (λ (o : Option (List ℕ)). cond (is_some o) (Some given) (winter_line_at m b given line >>= winter_orders_at m b (split_lines rest))) other
    ∙ ap (λ (o : Option (List PlacedOrder)). o >>= winter_orders_at m b (split_lines rest)) takes

begun_line : (m : Chart) (b : Position) (given : List PlacedOrder) (x y : List ℕ) → read m b (codes "GAME " ++ (x ++ 10 ∷ y)) given ≡ Some given
begun_line m b given x y =
    let (l, ls, is) = some_line x y in
    ap (λ (parts : List (List ℕ)). winter_orders_at m b (with_byte 71 (with_byte 65 (with_byte 77 (with_byte 69 (with_byte 32 parts))))) given) is
  where
    some_line : (x y : List ℕ) → (l : List ℕ) × (ls : List (List ℕ)) × (split_lines (x ++ 10 ∷ y) ≡ l ∷ ls)
    some_line [] y = ([], split_lines y, refl)
    some_line (c ∷ cs) y = go (c == 10) (some_line cs y)
      where
        go : (t : Bool) → (l : List ℕ) × (ls : List (List ℕ)) × (split_lines (cs ++ 10 ∷ y) ≡ l ∷ ls)
            → (l : List ℕ) × (ls : List (List ℕ)) × (cond t ([] ∷ split_lines (cs ++ 10 ∷ y)) (with_byte c (split_lines (cs ++ 10 ∷ y))) ≡ l ∷ ls)
        go true rest = ([], split_lines (cs ++ 10 ∷ y), refl)
        go false rest = (c ∷ rest.0, rest.1, ap (with_byte c) rest.2)

-- reading ends at the game line
pub game_ends : (m : Chart) (b : Position) (given : List PlacedOrder) (p : Public) (rest : List ℕ) → read m b (game_line m p ++ rest) given ≡ Some given
unfolding game_line
game_ends m b given p rest =
    ap (λ (text : List ℕ). read m b text given) (parts (codes "GAME ") p.game (phase_text p.board.phase) (status_text m p.status) (terms_text p) rest)
    ∙ begun_line m b given (p.game ++ (codes " " ++ (phase_text p.board.phase ++ (codes " " ++ (status_text m p.status ++ terms_text p))))) rest
  where
    parts : (g a p s t r : List ℕ) → (g ++ a ++ codes " " ++ p ++ codes " " ++ s ++ t ++ codes "\n") ++ r ≡ g ++ ((a ++ (codes " " ++ (p ++ (codes " " ++ (s ++ t))))) ++ 10 ∷ r)
    parts g a p s t r = simp append_assoc

-- ---- what is read of a line that begins with a power's name

no_g : (b : ℕ) → is_ascii_lowercase b ≡ true → (b == 71) ≡ false
no_g b h = grind (arith, nat_tests)

no_space : (b : ℕ) → is_ascii_lowercase b ≡ true → b ≡ 32 → ⊥
no_space b h same = grind (arith, nat_tests)

no_game : (name words : List ℕ) → AreAll is_ascii_lowercase name → after_name (codes "GAME ") (name ++ 32 ∷ words) ≡ None
no_game [] words all = refl
no_game (c ∷ cs) words all =
    ap (λ (t : Bool). cond {A = Option (List ℕ)} t (after_name (codes "AME ") (cs ++ 32 ∷ words)) None) (no_g c (and_parts (is_ascii_lowercase c) (list_all is_ascii_lowercase cs) all).0)

-- a line of a power: its name, a space, and what is told
abbrev pub power_words : Chart → ℕ → List ℕ → List ℕ
power_words m r words = (realm m r).name ++ 32 ∷ words

-- what is told of a unit after its power's name
abbrev pub unit_words : Chart → PaperLine → List ℕ
unit_words m l = order_text m l.placed ++ 58 ∷ (32 ∷ told_text l.told)

abbrev told_in_disorder : List ℕ → Bool
told_in_disorder told = bytes_eq told (codes " removed in disorder")

module _ (m : Chart) (laws : IsMap m) (b : Position) where
  names : (r : ℕ) → AreAll is_ascii_lowercase (realm m r).name
  names r = name_all m laws is_ascii_lowercase (λ c small. small) r

  pub by_power : (given : List PlacedOrder) (r : ℕ) (words : List ℕ) → r < length m.realms → winter_line_at m b given (power_words m r words) ≡ power_line_at m b given r words
  unfolding winter_line_at
  by_power given r words low =
      ap (λ (o : Option (List ℕ × List ℕ)). o >>= (λ parts. power_of m parts.0 >>= (λ power. power_line_at m b given power parts.1)))
      (cut_again 32 (realm m r).name words (lacks_by is_ascii_lowercase 32 no_space (realm m r).name (names r)))
      ∙ ap (λ (o : Option ℕ). o >>= (λ power. power_line_at m b given power words)) (laws.names_found r low)

  -- waived builds are no order
  waived : (given : List PlacedOrder) (r : ℕ) (count : List ℕ) → power_line_at m b given r (codes "waives " ++ count) ≡ Some given
  unfolding power_line_at
  waived given r count = refl

  unwaived : (given : List PlacedOrder) (r : ℕ) (words : List ℕ) → after_name (codes "waives ") words ≡ None → power_line_at m b given r words ≡ told_line_at m b given r words
  unfolding power_line_at
  unwaived given r words other = ap (λ (o : Option (List ℕ)). cond (is_some o) (Some given) (told_line_at m b given r words)) other

  pub cut_unit : (l : PaperLine) → cut_at 58 (unit_words m l) ≡ Some (order_text m l.placed, 32 ∷ told_text l.told)
  cut_unit l = cut_again 58 (order_text m l.placed) (32 ∷ told_text l.told) (lacks_by is_told 58 told_no_colon (order_text m l.placed) (order_told m laws l.placed))

  -- a line of a given order tells what is read of the order beside those before it
  abbrev pub TellsOrder : PaperLine → Type 0
  TellsOrder l = (given : List PlacedOrder) → power_line_at m b given l.placed.unit.power (unit_words m l) ≡ build_line_at m b given l.placed.unit.power (order_text m l.placed)

  pub built_tells : (u : AUnit) → TellsOrder (unit_line Build Built u)
  unfolding told_line_at
  built_tells u given =
      unwaived given u.power (unit_words m (unit_line Build Built u)) refl
      ∙ ap (λ (o : Option (List ℕ × List ℕ)). o >>= (λ parts. cond (told_in_disorder parts.1) (Some given) (build_line_at m b given u.power parts.0))) (cut_unit (unit_line Build Built u))

  pub removed_tells : (u : AUnit) → TellsOrder (unit_line Remove Removed u)
  unfolding told_line_at
  removed_tells u given =
      unwaived given u.power (unit_words m (unit_line Remove Removed u)) refl
      ∙ ap (λ (o : Option (List ℕ × List ℕ)). o >>= (λ parts. cond (told_in_disorder parts.1) (Some given) (build_line_at m b given u.power parts.0))) (cut_unit (unit_line Remove Removed u))

  -- what was removed in disorder was no order
  pub disorder_tells : (u : AUnit) (given : List PlacedOrder) → power_line_at m b given u.power (unit_words m (unit_line Remove RemovedInDisorder u)) ≡ Some given
  unfolding told_line_at
  disorder_tells u given =
      unwaived given u.power (unit_words m (unit_line Remove RemovedInDisorder u)) refl
      ∙ ap (λ (o : Option (List ℕ × List ℕ)). o >>= (λ parts. cond (told_in_disorder parts.1) (Some given) (build_line_at m b given u.power parts.0))) (cut_unit (unit_line Remove RemovedInDisorder u))

  -- a line that tells of no order
  abbrev pub TellsNone : PaperLine → Type 0
  TellsNone l = (given : List PlacedOrder) → power_line_at m b given l.placed.unit.power (unit_words m l) ≡ Some given

  -- ---- lines that tell of no order

  record IsPassed (line : List ℕ) (given : List PlacedOrder) : Type 0 where
    words : List ℕ
    is : line ≡ words ++ 10 ∷ []
    one : IsLine words
    no : after_name (codes "GAME ") words ≡ None
    takes : winter_line_at m b given words ≡ Some given

  pass : {A : Type 0} (f : A → List ℕ) (xs : List A) (rest : List ℕ) (given : List PlacedOrder) → AllByRecursion (λ x. IsPassed (f x) given) xs
      → read m b (flat_map f xs ++ rest) given ≡ read m b rest given
  pass f [] rest given all = refl
  pass f (x ∷ xs) rest given all =
      let more = flat_map f xs ++ rest in
      let line = all.0 in
      let text : (f x ++ flat_map f xs) ++ rest ≡ line.words ++ 10 ∷ more =
      append_assoc (f x) (flat_map f xs) rest ∙ ap (λ t. t ++ more) line.is ∙ append_assoc line.words (10 ∷ []) more in
      ap (λ t. read m b t given) text ∙ one_line m b line.words more given given line.one line.no line.takes ∙ pass f xs rest given all.1

  passed_unit : (given : List PlacedOrder) (l : PaperLine) → l.placed.unit.power < length m.realms → TellsNone l → IsPassed (line_text m l) given
  passed_unit given l low none = record {
    words = line_words m l;
    is = sym (append-nil (line_text m l)) ∙ line_is m l [];
    one = line_one m laws l;
    no = no_game (realm m l.placed.unit.power).name (unit_words m l) (names l.placed.unit.power);
    takes = by_power given l.placed.unit.power (unit_words m l) low ∙ none given;
  }

  low_text : (count : ℕ) → AreAll (nat_le 32) (codes " waives " ++ decimal count)
  low_text count = all_both (nat_le 32) (codes " waives ") (decimal count) refl (number_all (nat_le 32) (λ d low. grind (arith, nat_tests)) count)

  passed_waiver : (given : List PlacedOrder) (w : Waiver) → w.power < length m.realms → IsPassed (waiver_line m w) given
  passed_waiver given w low = record {
    words = power_words m w.power (codes "waives " ++ decimal w.builds);
    is = parts (realm m w.power).name (decimal w.builds);
    one = lacks_append 10 (realm m w.power).name (codes " waives " ++ decimal w.builds)
        (lacks_by is_told 10 told_no_lf (realm m w.power).name (name_all m laws is_told small_told w.power))
        (lacks_by (nat_le 32) 10 low_no_lf (codes " waives " ++ decimal w.builds) (low_text w.builds));
    no = no_game (realm m w.power).name (codes "waives " ++ decimal w.builds) (names w.power);
    takes = by_power given w.power (codes "waives " ++ decimal w.builds) low ∙ waived given w.power (decimal w.builds);
  }
    where
      parts : (n d : List ℕ) → n ++ codes " waives " ++ d ++ codes "\n" ≡ (n ++ (codes " waives " ++ d)) ++ codes "\n"
      parts n d = simp append_assoc

-- ---- an order beside those that come before it

allowed_fewer : (m : Chart) (b : Position) (power : ℕ) (many few : List PlacedOrder) (u : AUnit) (k : Order) → ((p : ℕ) → builds_elsewhere few p ≤ builds_elsewhere many p)
    → ((p : ℕ) → removals_elsewhere few p ≤ removals_elsewhere many p) → IsAllowed m b power many u k → IsAllowed m b power few u k
allowed_fewer m b power many few u Hold builds removals h = h
allowed_fewer m b power many few u (Move to via) builds removals h = h
allowed_fewer m b power many few u (SupportHold at) builds removals h = h
allowed_fewer m b power many few u (SupportMove at to) builds removals h = h
allowed_fewer m b power many few u (Convoy at to) builds removals h = h
allowed_fewer m b power many few u (Retreat to) builds removals h = h
allowed_fewer m b power many few u Disband builds removals h = h
allowed_fewer m b power many few u Build builds removals h =
    (h.0, record { power = h.1.power; home = h.1.home; place = h.1.place; due = omega (arith, h.1.due, builds u.place.prov) })
allowed_fewer m b power many few u Remove builds removals h = (h.0, record { unit = h.1.unit; due = omega (arith, h.1.due, removals u.place.prov) })

count_before : (t : PlacedOrder → Bool) (power : ℕ) (done more : List PlacedOrder) → count_by t (orders_of_power power done) ≤ count_by t (orders_of_power power (done ++ more))
count_before t power done more =
    let own : PlacedOrder → Bool = λ o. o.unit.power == power in
    omega (arith, count_kept t own done, count_kept t own (done ++ more), count_append (λ (o : PlacedOrder). t o && own o) done more)

later_prov : (a c p q : ℕ) → (nat_lt a c || ((a == c) && nat_lt p q)) ≡ true → (a == c) ≡ true → nat_lt p q ≡ true
later_prov a c p q h same = grind (arith, nat_tests)

-- an order stands after those of its power that come before it by place
follows : (done : List PlacedOrder) (o : PlacedOrder) (more : List PlacedOrder) → are_by_place (done ++ o ∷ more) ≡ true → may_follow (orders_of_power o.unit.power done) o ≡ true
follows [] o more placed = refl
follows (x ∷ xs) o more placed = go (x.unit.power == o.unit.power) refl (follows xs o more parts.1)
  where
    parts : (list_all (comes_before x) (xs ++ o ∷ more) ≡ true) × (are_by_place (xs ++ o ∷ more) ≡ true)
    parts = and_parts (list_all (comes_before x) (xs ++ o ∷ more)) (are_by_place (xs ++ o ∷ more)) placed

    before : comes_before x o ≡ true
    before = all_at (comes_before x) (xs ++ o ∷ more) o parts.0 (Contains-append_right xs (o ∷ more) o (first_among o more))

    go : (t : Bool) → (x.unit.power == o.unit.power) ≡ t → may_follow (orders_of_power o.unit.power xs) o ≡ true
        → may_follow (cond t (x ∷ orders_of_power o.unit.power xs) (orders_of_power o.unit.power xs)) o ≡ true
    go true is rest =
        and_from (nat_lt x.unit.place.prov o.unit.place.prov) (may_follow (orders_of_power o.unit.power xs) o)
        (later_prov x.unit.power o.unit.power x.unit.place.prov o.unit.place.prov before is) rest
    go false is rest = rest

-- ---- the lines of a Winter

each_kept : {A : Type 0} (P Q : A → Type 0) (p : A → Bool) (xs : List A) → ((x : A) → p x ≡ true → P x → Q x) → AllByRecursion P xs → AllByRecursion Q (filter p xs)
each_kept P Q p [] weaker all = tt
each_kept {A} P Q p (x ∷ xs) weaker all = go (p x) refl (each_kept P Q p xs weaker all.1)
  where
    go : (t : Bool) → p x ≡ t → AllByRecursion Q (filter p xs) → AllByRecursion Q (cond t (x ∷ filter p xs) (filter p xs))
    go true is rest = (weaker x is all.0, rest)
    go false is rest = rest

each_flat : {A : Type 0} (P : A → Type 0) (g : ℕ → List A) (ks : List ℕ) → ((k : ℕ) → AllByRecursion P (g k)) → AllByRecursion P (flat_map g ks)
each_flat P g [] all = tt
each_flat P g (k ∷ ks) all = each_append P (g k) (flat_map g ks) (all k) (each_flat P g ks all)

range_low : (i n : ℕ) → AllByRecursion (λ k. k < i + n) (range_with_len i n)
range_low i zero = tt
range_low i (suc n) = (omega arith, all_weaker (λ k. k < i + 1 + n) (λ k. k < i + suc n) (range_with_len (i + 1) n) (λ k h. omega (arith, h)) (range_low (i + 1) n))

-- the lines of a power's orders, by province, and the orders that they tell
abbrev row : Chart → List PaperLine → ℕ → List PaperLine
row m ls r = flat_map (λ p. filter (is_in r p) ls) (provs m)

abbrev told_by : Chart → List PaperLine → ℕ → List PlacedOrder
told_by m ls r = map (λ (l : PaperLine). l.placed) (row m ls r)

module _ (l : OrderLaws) (m : Chart) (b : Position) (ps : List PlacedOrder) (laws : IsMap m) (of : IsOf m b) (given : AreGiven m b ps) (placed : are_by_place ps ≡ true) where
  lawful : AreEachLawful m b ps
  lawful = each_lawful l.lawful m b ps laws of given.each

  -- an order is read beside those that come before it
  next : (done : List PlacedOrder) (o : PlacedOrder) (more : List PlacedOrder) → done ++ o ∷ more ≡ ps → build_line_at m b done o.unit.power (order_text m o) ≡ Some (done ++ o ∷ [])
  unfolding build_line_at
  next done o more is =
      let r = o.unit.power in
      let among : Contains ps o = subst (λ (qs : List PlacedOrder). Contains qs o) is (Contains-append_right done (o ∷ more) o (first_among o more)) in
      let whole : IsAllowed m b r (orders_of_power r (done ++ o ∷ more)) o.unit o.order =
      subst (λ (qs : List PlacedOrder). IsAllowed m b r (orders_of_power r qs) o.unit o.order) (sym is) (lawful o among) in
      let may : IsAllowed m b r (orders_of_power r done) o.unit o.order =
      allowed_fewer m b r (orders_of_power r (done ++ o ∷ more)) (orders_of_power r done) o.unit o.order
      (λ p. count_before (λ x. is_build x.order && not (x.unit.place.prov == p)) r done (o ∷ more))
      (λ p. count_before (λ x. is_remove x.order && not (x.unit.place.prov == p)) r done (o ∷ more)) whole in
      let again : order_of m b r (orders_of_power r done) (order_text m o) ≡ Ok o = l.read m b r (orders_of_power r done) o laws of may in
      ap (λ (a : Result PlacedOrder OrderFault). result_ok a >>= (λ x. cond (may_follow (orders_of_power r done) x) (Some (done ++ x ∷ [])) None)) again
      ∙ ap (λ (t : Bool). cond {A = Option (List PlacedOrder)} t (Some (done ++ o ∷ [])) None) (follows done o more (ap are_by_place is ∙ placed))

  -- a line that tells an order of a power of the map
  abbrev OrderLine : PaperLine → Type 0
  OrderLine x = (x.placed.unit.power < length m.realms) × TellsOrder m laws b x

  order_lines : (ls : List PaperLine) (done more : List PlacedOrder) (rest : List ℕ) → AllByRecursion OrderLine ls → done ++ (map (λ (x : PaperLine). x.placed) ls ++ more) ≡ ps
      → read m b (flat_map (line_text m) ls ++ rest) done ≡ read m b rest (done ++ map (λ (x : PaperLine). x.placed) ls)
  order_lines [] done more rest all is = ap (λ (os : List PlacedOrder). read m b rest os) (sym (append-nil done))
  order_lines (x ∷ xs) done more rest all is =
      let r = x.placed.unit.power in
      let tail = flat_map (line_text m) xs ++ rest in
      let after = map (λ (y : PaperLine). y.placed) xs in
      let text : (line_text m x ++ flat_map (line_text m) xs) ++ rest ≡ line_words m x ++ 10 ∷ tail = append_assoc (line_text m x) (flat_map (line_text m) xs) rest ∙ line_is m x tail in
      let takes : winter_line_at m b done (line_words m x) ≡ Some (done ++ x.placed ∷ []) =
      by_power m laws b done r (unit_words m x) all.0.0 ∙ all.0.1 done ∙ next done x.placed (after ++ more) is in
      ap (λ (t : List ℕ). read m b t done) text
      ∙ one_line m b (line_words m x) tail done (done ++ x.placed ∷ []) (line_one m laws x) (no_game (realm m r).name (unit_words m x) (names m laws b r)) takes
      ∙ order_lines xs (done ++ x.placed ∷ []) more rest all.1 (append_assoc done (x.placed ∷ []) (after ++ more) ∙ is)
      ∙ ap (λ (os : List PlacedOrder). read m b rest os) (append_assoc done (x.placed ∷ []) after)

  module _ (ls ds : List PaperLine) (ws : List Waiver) (orders : AllByRecursion (TellsOrder m laws b) ls) (none : AllByRecursion (TellsNone m laws b) ds) where
    row_lines : (r : ℕ) → r < length m.realms → AllByRecursion OrderLine (row m ls r)
    row_lines r low = each_flat OrderLine (λ p. filter (is_in r p) ls) (provs m) (λ p. each_kept (TellsOrder m laws b) OrderLine (is_in r p) ls
        (λ x is tells. let at = eqb-true x.placed.unit.power r (and_parts (x.placed.unit.power == r) (x.placed.unit.place.prov == p) is).0 in (omega (arith, at, low), tells)) orders)

    none_passed : (r : ℕ) (now : List PlacedOrder) → r < length m.realms → AllByRecursion (λ x. IsPassed m laws b (line_text m x) now) (filter (is_by r) ds)
    none_passed r now low = each_kept (TellsNone m laws b) (λ x. IsPassed m laws b (line_text m x) now) (is_by r) ds
        (λ x is tells. let at = eqb-true x.placed.unit.power r is in passed_unit m laws b now x (omega (arith, at, low)) tells) none

    waivers_passed : (r : ℕ) (now : List PlacedOrder) → r < length m.realms → AllByRecursion (λ w. IsPassed m laws b (waiver_line m w) now) (filter (λ w. w.power == r) ws)
    waivers_passed r now low = each_kept (λ w. Unit {0}) (λ w. IsPassed m laws b (waiver_line m w) now) (λ (w : Waiver). w.power == r) ws
        (λ w is any. let at = eqb-true w.power r is in passed_waiver m laws b now w (omega (arith, at, low))) (each_any ws)
      where
        each_any : (xs : List Waiver) → AllByRecursion (λ w. Unit {0}) xs
        each_any [] = tt
        each_any (x ∷ xs) = (tt, each_any xs)

    powers_read : (rs : List ℕ) (done more : List PlacedOrder) (rest : List ℕ) → AllByRecursion (λ r. r < length m.realms) rs → done ++ (flat_map (told_by m ls) rs ++ more) ≡ ps
        → read m b (flat_map (adjusted_power m ls ds ws) rs ++ rest) done ≡ read m b rest (done ++ flat_map (told_by m ls) rs)
    powers_read [] done more rest low is = ap (λ (os : List PlacedOrder). read m b rest os) (sym (append-nil done))
    powers_read (r ∷ rs) done more rest low is =
        let told = told_by m ls r in
        let others = flat_map (told_by m ls) rs in
        let lines = flat_map (line_text m) (row m ls r) in
        let disorder = power_lines m ds r in
        let waivers = flat_map (waiver_line m) (filter (λ w. w.power == r) ws) in
        let tail = flat_map (adjusted_power m ls ds ws) rs ++ rest in
        let text : (adjusted_power m ls ds ws r ++ flat_map (adjusted_power m ls ds ws) rs) ++ rest ≡ lines ++ (disorder ++ (waivers ++ tail)) =
        parts (by_province m ls r) disorder waivers (flat_map (adjusted_power m ls ds ws) rs) rest
        ∙ ap (λ (t : List ℕ). t ++ (disorder ++ (waivers ++ tail))) (flat_flat (line_text m) (λ p. filter (is_in r p) ls) (provs m)) in
        let here : done ++ (told ++ (others ++ more)) ≡ ps = ap (λ (os : List PlacedOrder). done ++ os) (sym (append_assoc told others more)) ∙ is in
        ap (λ (t : List ℕ). read m b t done) text
        ∙ order_lines (row m ls r) done (others ++ more) (disorder ++ (waivers ++ tail)) (row_lines r low.0) here
        ∙ pass m laws b (line_text m) (filter (is_by r) ds) (waivers ++ tail) (done ++ told) (none_passed r (done ++ told) low.0)
        ∙ pass m laws b (waiver_line m) (filter (λ w. w.power == r) ws) tail (done ++ told) (waivers_passed r (done ++ told) low.0)
        ∙ powers_read rs (done ++ told) more rest low.1 (append_assoc done told (others ++ more) ∙ here)
        ∙ ap (λ (os : List PlacedOrder). read m b rest os) (append_assoc done told others)
      where
        parts : (o d w f r : List ℕ) → ((o ++ d ++ w) ++ f) ++ r ≡ o ++ (d ++ (w ++ (f ++ r)))
        parts o d w f r = simp append_assoc

    -- the orders of all lines, by power and province
    told_all : flat_map (told_by m ls) (powers m) ≡ placed_by (λ (o : PlacedOrder). o.unit) m (map (λ (x : PaperLine). x.placed) ls)
    told_all = sym (map_flat (λ (x : PaperLine). x.placed) (row m ls) (powers m)) ∙ placed_map (λ (x : PaperLine). x.placed) (λ (o : PlacedOrder). o.unit) m ls

    pub winter_read : (rest : List ℕ) → placed_by (λ (o : PlacedOrder). o.unit) m (map (λ (x : PaperLine). x.placed) ls) ≡ ps → read m b (adjusted_with m ls ds ws ++ rest) [] ≡ read m b rest ps
    winter_read rest same =
        let all : flat_map (told_by m ls) (powers m) ≡ ps = told_all ∙ same in
        powers_read (powers m) [] [] rest (all_weaker (λ r. r < 0 + length m.realms) (λ r. r < length m.realms) (powers m) (λ r h. omega (arith, h)) (range_low 0 (length m.realms))) (append-nil (flat_map (told_by m ls) (powers m)) ∙ all)
        ∙ ap (λ (os : List PlacedOrder). read m b rest os) all

lines_told : (us vs : List AUnit) → map (λ (x : PaperLine). x.placed) (map (unit_line Build Built) us ++ map (unit_line Remove Removed) vs) ≡ map (order_to Build) us ++ map (order_to Remove) vs
lines_told us vs =
    map_append (λ (x : PaperLine). x.placed) (map (unit_line Build Built) us) (map (unit_line Remove Removed) vs)
    ∙ ap₂ (λ (os xs : List PlacedOrder). os ++ xs) (map_map (λ (x : PaperLine). x.placed) (unit_line Build Built) us) (map_map (λ (x : PaperLine). x.placed) (unit_line Remove Removed) vs)

module _ (l : OrderLaws) (m : Chart) (b : Position) (ps : List PlacedOrder) (laws : IsMap m) (of : IsOf m b) (given : AreGiven m b ps) (placed : are_by_place ps ≡ true) (winter : is_adjustment b.phase.season ≡ true) where
  -- what is read of a Winter's account is just what was given
  pub account_read : (left : Position) (t : Adjustment) (rest : List ℕ) → IsAdjusted m b ps left t → read m b (adjusted_text m t ++ rest) [] ≡ read m b rest ps
  account_read left t rest h =
      let orders : AllByRecursion (TellsOrder m laws b) (adjusted_lines t) =
      each_append (TellsOrder m laws b) (map (unit_line Build Built) t.builds.items) (map (unit_line Remove Removed) t.removals.items)
      (each_made (TellsOrder m laws b) (unit_line Build Built) t.builds.items (λ u c. built_tells m laws b u))
      (each_made (TellsOrder m laws b) (unit_line Remove Removed) t.removals.items (λ u c. removed_tells m laws b u)) in
      let none : AllByRecursion (TellsNone m laws b) (disorder_lines t) = each_made (TellsNone m laws b) (unit_line Remove RemovedInDisorder) t.disorder.items (λ u c. disorder_tells m laws b u) in
      let told : map (λ (x : PaperLine). x.placed) (adjusted_lines t) ≡ told_orders b ps =
      lines_told t.builds.items t.removals.items ∙ ap₂ (λ (us vs : List AUnit). map (order_to Build) us ++ map (order_to Remove) vs) h.builds h.removals in
      winter_read l m b ps laws of given placed (adjusted_lines t) (disorder_lines t) t.waivers.items orders none rest
      (ap (placed_by (λ (o : PlacedOrder). o.unit) m) told ∙ told_are_given m b ps laws of given (each_lawful l.lawful m b ps laws of given.each) winter placed)
