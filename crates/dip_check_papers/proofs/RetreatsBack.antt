-- The orders that the paper of retreats prints stand for those that were given.
use Rattle.std.proofs.Common.{◌≡◌, ◌<◌, ◌==◌, ◌&&◌, ◌+◌, ◌++◌, ℕ, true, false, cond, List, [], ◌∷◌, length, map, find, Option, Some, None, option_map, unwrap_or, is_some, refl, sym, ap, ap₂, ◌∙◌}
use Rattle.std.specs.Prelude.{Contains}
use Rattle.std.specs.List.{AllByRecursion, cons_option, count_by, filter_map, fold}
use Rattle.std.proofs.lemmas.Bool.{and_from, and_parts}
use Rattle.dip_names.specs.declared.names.Place.{Place}
use Rattle.dip_names.specs.declared.names.Unit.{Unit as AUnit}
use Rattle.dip_map.specs.Boards.{IsOf, Position, is_dislodged, is_prov_if_any}
use Rattle.dip_map.specs.Charts.{Chart, IsMap, are_units_single, is_unit}
use Rattle.dip_map.specs.declared.boards.Dislodged.{Dislodged}
use Rattle.dip_map.specs.declared.boards.Season.{Season}
use Rattle.dip_map.specs.declared.boards.Season.TheVariants.{SpringMoves, SpringRetreats, FallMoves, FallRetreats, Winter}
use Rattle.dip_orders.specs.Conditions.{is_adjustment, is_retreat}
use Rattle.dip_orders.specs.Given.{AreGiven}
use Rattle.dip_orders_placed.specs.Standing.{is_same_unit}
use Rattle.dip_orders_placed.specs.declared.placed.Order.{Order}
use Rattle.dip_orders_placed.specs.declared.placed.Order.TheVariants.{Disband}
use Rattle.dip_orders_placed.specs.declared.placed.PlacedOrder.{PlacedOrder}
use Rattle.dip_orders_placed.proofs.FindLaws.{find_passes}
use Rattle.dip_orders_placed.proofs.StandingLaws.{made_among, same_unit, unit_itself}
use Rattle.dip_turn.specs.Retreating.{after_retreat, after_retreats, at_refuge, found_retreat, goal, is_for_dislodged, is_in, refuge, retreat_line, retreat_lines, retreat_order}
use Rattle.dip_turn.specs.RetreatLine.{RetreatLine}
use Rattle.dip_turn_papers.specs.Papers.{retreated_lines}
use Rattle.dip_turn_papers.specs.declared.lines.PaperLine.{PaperLine}
use Rattle.dip_desk_games.specs.ByPlace.{are_by_place}
use Rattle.dip_check_papers.specs.Laws.{order_printed}
use Rattle.dip_check_papers.specs.Placing.{placed_by}
use Rattle.dip_check_papers.proofs.MovesBack.{OrderLaws, can_be_given, come_by_place}
use Rattle.dip_check_papers.proofs.Placing.{each_made, first_among, later_among, placed_among, placed_each}
use Rattle.dip_check_papers.proofs.ReadAnywhere.{IsReadBack, all_among, find_only, on_map}
use Rattle.dip_check_papers.proofs.Reading.{retreats_are_read_back}

-- ---- the same order for each dislodged unit comes to the same

abbrev AreSame : List PlacedOrder → List PlacedOrder → List Dislodged → Type 0
AreSame qs ps ds = AllByRecursion (λ d. retreat_order qs d ≡ retreat_order ps d) ds

fold_same : (f g : Dislodged → ℕ) (ds : List Dislodged) (n : ℕ) → AllByRecursion (λ d. f d ≡ g d) ds → fold (λ a d. a + f d) n ds ≡ fold (λ a d. a + g d) n ds
fold_same f g [] n all = refl
fold_same f g (d ∷ ds) n all = ap (λ k. fold (λ a e. a + f e) (n + k) ds) all.0 ∙ fold_same f g ds (n + g d) all.1

-- 1 for a place in that province
abbrev one_in : ℕ → Option Place → ℕ
one_in p to = cond (is_in to p) 1 0

seeks : (qs ps : List PlacedOrder) (p : ℕ) (ds : List Dislodged) → AreSame qs ps ds → AllByRecursion (λ d. one_in p (goal qs d) ≡ one_in p (goal ps d)) ds
seeks qs ps p [] all = tt
seeks qs ps p (d ∷ ds) all = (ap (λ (o : Order). one_in p (refuge o)) all.0, seeks qs ps p ds all.1)

sought_same : (qs ps : List PlacedOrder) (p : ℕ) (ds : List Dislodged) → AreSame qs ps ds → count_by (λ d. is_in (goal qs d) p) ds ≡ count_by (λ d. is_in (goal ps d) p) ds
sought_same qs ps p ds all = fold_same (λ d. one_in p (goal qs d)) (λ d. one_in p (goal ps d)) ds 0 (seeks qs ps p ds all)

abbrev line_with : Dislodged → Order → Option AUnit → RetreatLine
line_with d order after = record { placed = record { unit = d.unit; order = order }; is_made = is_some after }

abbrev with_units : Position → List AUnit → Position
with_units b us = record { units = b.units ++ us; dislodged = []; standoff = []; owners = b.owners; phase = b.phase; intent = b.intent }

abbrev placed_order : AUnit → Order → PlacedOrder
placed_order u o = record { unit = u; order = o }

order_by_unit : (ps : List PlacedOrder) (e f : Dislodged) → e.unit ≡ f.unit → retreat_order ps e ≡ retreat_order ps f
order_by_unit ps e f same = ap (λ (u : AUnit). unwrap_or (option_map (λ (o : PlacedOrder). o.order) (find (λ (o : PlacedOrder). is_same_unit o.unit u && is_for_dislodged o.order) ps)) Disband) same

module _ (qs ps : List PlacedOrder) (ds : List Dislodged) (same : AreSame qs ps ds) where
  refuge_same : (u : AUnit) (to : Option Place) → at_refuge qs ds u to ≡ at_refuge ps ds u to
  refuge_same u None = refl
  refuge_same u (Some to) = ap (λ (n : ℕ). cond {A = Option AUnit} (n == 1) (Some (record { power = u.power; kind = u.kind; place = to })) None) (sought_same qs ps to.prov ds same)

  after_same : (d : Dislodged) → retreat_order qs d ≡ retreat_order ps d → after_retreat qs ds d ≡ after_retreat ps ds d
  after_same d one = ap (λ (o : Order). at_refuge qs ds d.unit (refuge o)) one ∙ refuge_same d.unit (goal ps d)

  units_same : (es : List Dislodged) → AreSame qs ps es → filter_map (after_retreat qs ds) es ≡ filter_map (after_retreat ps ds) es
  units_same [] all = refl
  units_same (e ∷ es) all = ap₂ cons_option (after_same e all.0) (units_same es all.1)

  lines_same : (es : List Dislodged) → AreSame qs ps es
      → map (λ (d : Dislodged). line_with d (retreat_order qs d) (after_retreat qs ds d)) es ≡ map (λ (d : Dislodged). line_with d (retreat_order ps d) (after_retreat ps ds d)) es
  lines_same [] all = refl
  lines_same (e ∷ es) all = ap₂ (λ (x : RetreatLine) (ls : List RetreatLine). x ∷ ls) (ap₂ (line_with e) all.0 (after_same e all.0)) (lines_same es all.1)

-- ---- what is read of a paper of retreats

for_dislodged : (ps : List PlacedOrder) (d : Dislodged) → is_for_dislodged (retreat_order ps d) ≡ true
for_dislodged ps d = by (found_retreat ps d) refl
  where
    by : (found : Option PlacedOrder) → found_retreat ps d ≡ found → is_for_dislodged (unwrap_or (option_map (λ o. o.order) found) Disband) ≡ true
    by None is = refl
    by (Some o) is = (and_parts (is_same_unit o.unit d.unit) (is_for_dislodged o.order) (find_passes _ ps o is)).1

no_winter : (s : Season) → is_retreat s ≡ true → is_adjustment s ≡ false
no_winter SpringMoves h = refl
no_winter SpringRetreats h = refl
no_winter FallMoves h = refl
no_winter FallRetreats h = refl
no_winter Winter h = sym h

pub units_printed : (ps : List PlacedOrder) (ds : List Dislodged) → map (λ (o : PlacedOrder). o.unit) (map (order_printed ps) ds) ≡ map (λ (d : Dislodged). d.unit) ds
units_printed ps [] = refl
units_printed ps (d ∷ ds) = ap (λ (us : List AUnit). d.unit ∷ us) (units_printed ps ds)

abbrev IsPrintedOf : Position → List PlacedOrder → PlacedOrder → Type 0
IsPrintedOf b ps o = (d : Dislodged) × Contains b.dislodged d × (o ≡ order_printed ps d)

module _ (l : OrderLaws) (m : Chart) (b : Position) (ps : List PlacedOrder) (laws : IsMap m) (of : IsOf m b) (given : AreGiven m b ps) (retreats : is_retreat b.phase.season ≡ true) where
  abbrev pub retreats_printed : List PlacedOrder
  retreats_printed = map (order_printed ps) b.dislodged

  abbrev pub retreats_read : List PlacedOrder
  retreats_read = placed_by (λ (o : PlacedOrder). o.unit) m retreats_printed

  pub printed_back : AllByRecursion (IsReadBack m b) retreats_printed
  printed_back = each_made (IsReadBack m b) (order_printed ps) b.dislodged (λ d there. retreats_are_read_back l.again l.alone l.read m b ps d laws of retreats given there)

  pub retreats_placed : are_by_place retreats_read ≡ true
  retreats_placed = come_by_place m retreats_printed (ap are_units_single (units_printed ps b.dislodged) ∙ of.dislodged_apart)

  pub retreats_given : AreGiven m b retreats_read
  retreats_given =
      can_be_given l m b retreats_read laws of (no_winter b.phase.season retreats)
      (placed_each (λ (o : PlacedOrder). o.unit) m retreats_printed (IsReadBack m b) printed_back) retreats_placed

  found_printed : (d : Dislodged) → Contains b.dislodged d → found_retreat retreats_read d ≡ Some (order_printed ps d)
  found_printed d there =
      find_only (λ o. is_same_unit o.unit d.unit && is_for_dislodged o.order) retreats_read (order_printed ps d)
      (placed_among (λ (o : PlacedOrder). o.unit) m retreats_printed (order_printed ps d) (made_among (order_printed ps) b.dislodged d there) on.0 on.1)
      (and_from (is_same_unit d.unit d.unit) (is_for_dislodged (retreat_order ps d)) (unit_itself d.unit) (for_dislodged ps d))
      (placed_each (λ (o : PlacedOrder). o.unit) m retreats_printed (λ y. (is_same_unit y.unit d.unit && is_for_dislodged y.order) ≡ true → y ≡ order_printed ps d)
      (each_made (λ y. (is_same_unit y.unit d.unit && is_for_dislodged y.order) ≡ true → y ≡ order_printed ps d) (order_printed ps) b.dislodged one))
    where
      on : (d.unit.power < length m.realms) × (d.unit.place.prov < length m.provinces)
      on = on_map m d.unit (and_parts (is_unit m d.unit) (is_prov_if_any m d.origin) (all_among (λ e. is_dislodged m e ≡ true) b.dislodged d of.dislodged there)).0

      one : (e : Dislodged) → Contains b.dislodged e → (is_same_unit e.unit d.unit && is_for_dislodged (retreat_order ps e)) ≡ true → order_printed ps e ≡ order_printed ps d
      one e among passes =
          let same : e.unit ≡ d.unit = same_unit e.unit d.unit (and_parts (is_same_unit e.unit d.unit) (is_for_dislodged (retreat_order ps e)) passes).0 in
          ap₂ placed_order same (order_by_unit ps e d same)

  all_same : (ds : List Dislodged) → ((d : Dislodged) → Contains ds d → Contains b.dislodged d) → AreSame retreats_read ps ds
  all_same [] within = tt
  all_same (d ∷ ds) within = (
    ap (λ (found : Option PlacedOrder). unwrap_or (option_map (λ (o : PlacedOrder). o.order) found) Disband) (found_printed d (within d (first_among d ds))),
    all_same ds (λ e c. within e (later_among d ds e c)),
  )

  pub retreats_same : AreSame retreats_read ps b.dislodged
  retreats_same = all_same b.dislodged (λ d c. c)

  pub left_same : after_retreats b retreats_read ≡ after_retreats b ps
  left_same = ap (with_units b) (units_same retreats_read ps b.dislodged retreats_same b.dislodged retreats_same)

  pub told_same : retreat_lines b retreats_read ≡ retreat_lines b ps
  told_same = lines_same retreats_read ps b.dislodged retreats_same b.dislodged retreats_same

pub retreated_orders : (qs : List PlacedOrder) (b : Position) (ds : List Dislodged) → map (λ (l : PaperLine). l.placed) (retreated_lines (map (retreat_line b qs) ds)) ≡ map (order_printed qs) ds
retreated_orders qs b [] = refl
retreated_orders qs b (d ∷ ds) = ap (λ (t : List PlacedOrder). order_printed qs d ∷ t) (retreated_orders qs b ds)
