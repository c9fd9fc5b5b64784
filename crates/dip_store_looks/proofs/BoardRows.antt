-- The rows of a game of tables that are ours can be read by the map, and are those of a board of it.
use Rattle.std.proofs.Common.{◌≡◌, ℕ, zero, suc, ◌<◌, ◌≤◌, ◌+◌, ◌^◌, ◌==◌, true, List, [], ◌∷◌, length, map, filter, option_map, slice_index_or, Option, Some, None, refl, sym, ap, subst, ◌∙◌, ◌⊎◌, inl, inr, arith}
use Rattle.std.specs.List.{AllByRecursion, find, list_all}
use Rattle.std.proofs.lemmas.Bool.{and_parts, cases_Bool, eqb-true, or_cases}
use Rattle.std.proofs.lemmas.List.Elements.{recursion_from_All}
use Rattle.sqlite.specs.Order.{Row}
use Rattle.dip_store_tables.proofs.ListLemmas.{all-append, all_map, all_weaker}
use Rattle.dip_map.specs.Boards.{Position, IsOf, is_dislodged, is_power_if_any, is_prov_if_any, season_number}
use Rattle.dip_map.specs.declared.boards.Dislodged.{Dislodged}
use Rattle.dip_map.specs.declared.boards.Season.{Season}
use Rattle.dip_map.specs.declared.boards.Season.TheVariants.{SpringMoves, SpringRetreats, FallMoves, FallRetreats, Winter}
use Rattle.dip_store_tables.specs.Boards.{CentreRow, UnitRow, centre_rows, centre_rows_from, coast_text, code, dislodged_row, kind_number, power_name, standing_row, unit_row, unit_rows}
use Rattle.dip_store_tables.specs.WrittenBoards.{IsCentreRow, IsUnitRow}
use Rattle.dip_map.specs.Charts.{Chart, IsMap, Shore, has_named_shores, has_one_shore, is_coast_name, is_shaped, is_unit, may_stand, no_shore, province}
use Rattle.dip_store_tables.specs.Legible.{AreOurs, IsText}
use Rattle.dip_store_tables.proofs.MapTexts.{code_text, origin_is_text, power_text, standoff_is_text, status_is_text}
use Rattle.dip_store_tables.proofs.Spelled.{letters, none}
use Rattle.dip_names.specs.declared.names.Kind.{Kind}
use Rattle.dip_names.specs.declared.names.Kind.TheVariants.{Army, Fleet}
use Rattle.dip_names.specs.declared.names.Place.{Place}
use Rattle.dip_names.specs.declared.names.Terrain.{Terrain}
use Rattle.dip_names.specs.declared.names.Terrain.TheVariants.{Inland, Coast, Sea}
use Rattle.dip_names.specs.declared.names.Unit.{Unit as AUnit}
use Rattle.dip_store_sql.specs.Showing.{show_centre, show_choice, show_game, show_unit}
use Rattle.dip_store_tables.specs.Tables.{ChoiceRow, GameRow, Tables, is_centre_in, is_choice_in, is_named, is_unit_in}
use Rattle.dip_store_tables.specs.Writing.{choice_row, game_row}
use Rattle.dip_store_tables.specs.Written.{IsGameWritten}
use Rattle.dip_store_looks.specs.Readable.{IsCentreReadable, IsGameReadable, IsUnitReadable}
use Rattle.dip_store_looks.specs.Shown.{shown_centre, shown_unit}
use Rattle.dip_store_looks.proofs.PublicLemmas.{found_named}
use Rattle.dip_store_looks.proofs.RowLemmas.{has_number, small_number}
use Rattle.dip_store_sql.proofs.Typed.{has_text}
use Rattle.dip_store_tables.proofs.Parts.{below}

-- the names of coasts
empty_text : (w : List ℕ) → (length w == 0) ≡ true → IsText w
empty_text [] is = none
empty_text (x ∷ w) is = let long : length (x ∷ w) ≡ 0 = eqb-true (length (x ∷ w)) 0 is in absurd (omega (arith, long))

coast_letters : (w : List ℕ) → is_coast_name w ≡ true → IsText w
coast_letters w named = letters w (and_parts _ _ named).1

one_of : (ss : List Shore) (i : ℕ) → list_all (λ s. length s.name == 0) ss ≡ true → IsText (slice_index_or ss i no_shore).name
one_of [] i all = none
one_of (s ∷ ss) zero all = empty_text s.name (and_parts _ _ all).0
one_of (s ∷ ss) (suc i) all = one_of ss i (and_parts _ _ all).1

named_of : (ss : List Shore) (i : ℕ) → list_all (λ s. is_coast_name s.name) ss ≡ true → IsText (slice_index_or ss i no_shore).name
named_of [] i all = none
named_of (s ∷ ss) zero all = coast_letters s.name (and_parts _ _ all).0
named_of (s ∷ ss) (suc i) all = named_of ss i (and_parts _ _ all).1

no_coasts : (ss : List Shore) (i : ℕ) → (length ss == 0) ≡ true → IsText (slice_index_or ss i no_shore).name
no_coasts [] i is = none
no_coasts (s ∷ ss) i is = let long : length (s ∷ ss) ≡ 0 = eqb-true (length (s ∷ ss)) 0 is in absurd (omega (arith, long))

one_shore : (ss : List Shore) (i : ℕ) → has_one_shore ss ≡ true → IsText (slice_index_or ss i no_shore).name
one_shore ss i has = one_of ss i (and_parts _ _ has).1

module _ (m : Chart) (ok : IsMap m) where
  coast_is_text : (p i : ℕ) → p < length m.provinces → IsText (slice_index_or (province m p).shores i no_shore).name
  coast_is_text p i low = by_terrain (province m p).terrain (and_parts _ _ (and_parts _ _ (ok.provinces p low)).1).1
    where
      by_terrain : (t : Terrain) → is_shaped t (province m p) ≡ true → IsText (slice_index_or (province m p).shores i no_shore).name
      by_terrain Inland is = no_coasts (province m p).shores i is
      by_terrain Sea is = one_shore (province m p).shores i (and_parts _ _ is).0
      by_terrain Coast is = by_kind (or_cases _ _ is)
        where
          by_kind : (has_one_shore (province m p).shores ≡ true) ⊎ (has_named_shores (province m p).shores ≡ true) → IsText (slice_index_or (province m p).shores i no_shore).name
          by_kind (inl one) = one_shore (province m p).shores i one
          by_kind (inr many) = named_of (province m p).shores i (and_parts _ _ (and_parts _ _ many).1).1

  stand_low : (k : Kind) (a : Place) → may_stand m k a ≡ true → a.prov < length m.provinces
  stand_low Army a h = below a.prov (length m.provinces) (and_parts _ _ h).0
  stand_low Fleet a h = below a.prov (length m.provinces) (and_parts _ _ h).0

  coast_told : (k : Kind) (a : Place) → a.prov < length m.provinces → IsText (coast_text m k a)
  coast_told Army a low = none
  coast_told Fleet a low = coast_is_text a.prov a.coast low

  kind_small : (k : Kind) → kind_number k < 2 ^ 32
  kind_small Army = omega arith
  kind_small Fleet = omega arith

  -- the row of a unit is read, and is one of the map
  abbrev IsUnitOurs : Row → Type 0
  IsUnitOurs r = IsUnitReadable r × IsUnitRow m (shown_unit r)

  unit_ours : (n : List ℕ) (d : ℕ) (o : Option ℕ) (u : AUnit) → d ≤ 1 → is_prov_if_any m o ≡ true → is_unit m u ≡ true → IsUnitOurs (show_unit (unit_row m n d o u))
  unit_ours n d o u small origin is =
      let r = show_unit (unit_row m n d o u) in
      let parts = and_parts _ _ is in
      let low = stand_low u.kind u.place parts.1 in (
        record {
          province = has_text r 0 (code m u.place.prov) (omega arith) refl (code_text m ok u.place.prov low);
          dislodged = has_number r 1 d (omega arith) refl (omega (arith, small));
          power = has_text r 2 (power_name m u.power) (omega arith) refl (power_text m ok u.power (below u.power (length m.realms) parts.0));
          kind = has_number r 3 (kind_number u.kind) (omega arith) refl (kind_small u.kind);
          coast = has_text r 4 (coast_text m u.kind u.place) (omega arith) refl (coast_told u.kind u.place low);
          origin = has_text r 5 _ (omega arith) refl (origin_is_text m ok o origin);
        },
        (u, o, is, origin, small, refl),
      )

  standing_ours : (n : List ℕ) (us : List AUnit) → AllByRecursion (λ u. is_unit m u ≡ true) us → AllByRecursion (λ x. IsUnitOurs (show_unit x)) (map (standing_row m n) us)
  standing_ours n [] all = tt
  standing_ours n (u ∷ us) all = (unit_ours n 0 None u (omega arith) refl all.0, standing_ours n us all.1)

  fallen_ours : (n : List ℕ) (ds : List Dislodged) → AllByRecursion (λ d. is_dislodged m d ≡ true) ds → AllByRecursion (λ x. IsUnitOurs (show_unit x)) (map (dislodged_row m n) ds)
  fallen_ours n [] all = tt
  fallen_ours n (d ∷ ds) all =
      let parts = and_parts _ _ all.0 in
      (unit_ours n 1 d.origin d.unit (omega arith) parts.1 parts.0, fallen_ours n ds all.1)

  units_ours : (n : List ℕ) (b : Position) → IsOf m b → AllByRecursion IsUnitOurs (map show_unit (unit_rows m n b))
  units_ours n b of_map =
      all_map IsUnitOurs show_unit (unit_rows m n b)
      (all-append (λ x. IsUnitOurs (show_unit x)) (map (standing_row m n) b.units) (map (dislodged_row m n) b.dislodged)
      (standing_ours n b.units (recursion_from_All _ b.units of_map.units)) (fallen_ours n b.dislodged (recursion_from_All _ b.dislodged of_map.dislodged)))

  -- and so is that of an owned centre
  abbrev IsCentreOurs : Row → Type 0
  IsCentreOurs r = IsCentreReadable r × IsCentreRow m (shown_centre r)

  centres_from : (n : List ℕ) (i : ℕ) (os : List (Option ℕ)) → i + length os ≤ length m.provinces → AllByRecursion (λ o. is_power_if_any m o ≡ true) os
      → AllByRecursion (λ x. IsCentreOurs (show_centre x)) (centre_rows_from m n i os)
  centres_from n i [] low all = tt
  centres_from n i (None ∷ os) low all = centres_from n (suc i) os (omega (arith, low)) all.1
  centres_from n i (Some p ∷ os) low all =
      let r = show_centre (record { game = n; province = code m i; power = power_name m p }) in
      let mine = below p (length m.realms) all.0 in (
        (
          record {
            province = has_text r 0 (code m i) (omega arith) refl (code_text m ok i (omega (arith, low)));
            power = has_text r 1 (power_name m p) (omega arith) refl (power_text m ok p mine);
          },
          (p, mine, refl),
        ),
        centres_from n (suc i) os (omega (arith, low)) all.1,
      )

  centres_ours : (n : List ℕ) (b : Position) → IsOf m b → AllByRecursion IsCentreOurs (map show_centre (centre_rows m n b))
  centres_ours n b of_map =
      all_map IsCentreOurs show_centre (centre_rows m n b)
      (centres_from n 0 b.owners (omega (arith, of_map.owners_count)) (recursion_from_All _ b.owners of_map.owners))

  season_small : (s : Season) → season_number s ≤ 4
  season_small SpringMoves = omega arith
  season_small SpringRetreats = omega arith
  season_small FallMoves = omega arith
  season_small FallRetreats = omega arith
  season_small Winter = omega arith

  game_readable : (units : List UnitRow) (centres : List CentreRow) (choices : List ChoiceRow) (g : GameRow) (it : IsGameWritten m units centres choices g)
      → IsGameReadable m (show_game (game_row m g.name it.public)) (map show_unit (unit_rows m g.name it.public.board)) (map show_centre (centre_rows m g.name it.public.board)) (Some (show_choice (choice_row g.name it.public.board.intent)))
  game_readable units centres choices g it =
      let p = it.public in
      let n = g.name in
      let r = show_game (game_row m n p) in
      let us = units_ours n p.board it.board in
      let cs = centres_ours n p.board it.board in
      let provs = recursion_from_All _ p.board.standoff it.board.standoff in
      let season = season_small p.board.phase.season in
      record {
        board = record {
          units_are = all_weaker IsUnitOurs IsUnitReadable (λ x both. both.0) _ us;
          centres_are = all_weaker IsCentreOurs IsCentreReadable (λ x both. both.0) _ cs;
          year = has_number r 0 p.board.phase.year (omega arith) refl (omega (arith, it.narrow.0));
          narrow = it.narrow.0;
          season = has_number r 1 (season_number p.board.phase.season) (omega arith) refl (omega (arith, season));
          standoff = has_text r 7 _ (omega arith) refl (standoff_is_text m ok p.board.standoff provs);
          of_map = record {
            units_are = all_map (IsUnitRow m) shown_unit _ (all_weaker IsUnitOurs (λ x. IsUnitRow m (shown_unit x)) (λ x both. both.1) _ us);
            centres_are = all_map (IsCentreRow m) shown_centre _ (all_weaker IsCentreOurs (λ x. IsCentreRow m (shown_centre x)) (λ x both. both.1) _ cs);
            standoff_is = (p.board.standoff, provs, refl);
            season_is = season;
          };
        };
        status = has_text r 2 _ (omega arith) refl (status_is_text m ok p.status it.status);
        told = (p.status, it.status, refl);
        due = record { there = omega arith; number = p.due; is = refl };
        period = has_number r 4 p.period (omega arith) refl it.narrow.1;
        grey = has_number r 5 _ (omega arith) refl (small_number p.grey);
        papers = has_number r 6 p.papers (omega arith) refl it.narrow.2;
        intent = has_number (show_choice (choice_row n p.board.intent)) 0 _ (omega arith) refl (small_number p.board.intent);
      }

-- the rows of the game that is found
pub game_found_readable : (m : Chart) (t : Tables) → AreOurs m t → (name : List ℕ) (row : Row) (units centres : List Row) (choice : Option Row)
    → Some row ≡ option_map show_game (find (is_named name) t.games)
    → units ≡ map show_unit (filter (is_unit_in name) t.units) → centres ≡ map show_centre (filter (is_centre_in name) t.centres)
    → choice ≡ option_map show_choice (find (is_choice_in name) t.choices) → IsGameReadable m row units centres choice
game_found_readable m t ours name row units centres choice shown us cs chosen = by_game (find (is_named name) t.games) refl
  where
    written : (g : GameRow) → find (is_named name) t.games ≡ Some g → IsGameWritten m t.units t.centres t.choices g
    written g found = all_found t.games ours.written.games found
      where
        all_found : (xs : List GameRow) → AllByRecursion (IsGameWritten m t.units t.centres t.choices) xs → find (is_named name) xs ≡ Some g → IsGameWritten m t.units t.centres t.choices g
        all_found [] all = λ is. absurd (cc)
        all_found (x ∷ xs) all = elim (cases_Bool (is_named name x)) [
          | inl hit ↦ rw hit (λ is. let same : x ≡ g = cc in subst (IsGameWritten m t.units t.centres t.choices) same all.0)
          | inr off ↦ rw off (λ is. all_found xs all.1 is)
        ]

    by_game : (o : Option GameRow) → find (is_named name) t.games ≡ o → IsGameReadable m row units centres choice
    by_game None none = absurd (let bad = shown ∙ ap (option_map show_game) none in cc)
    by_game (Some g) found =
        let same : row ≡ show_game g = (let both = shown ∙ ap (option_map show_game) found in cc) in
        let it = written g found in
        let named = found_named m name t.games g found in
        let row_is = same ∙ ap show_game it.row in
        let units_are = us ∙ ap (λ n. map show_unit (filter (is_unit_in n) t.units)) (sym named) ∙ ap (map show_unit) it.its_units in
        let centres_are = cs ∙ ap (λ n. map show_centre (filter (is_centre_in n) t.centres)) (sym named) ∙ ap (map show_centre) it.its_centres in
        let choice_is = chosen ∙ ap (λ n. option_map show_choice (find (is_choice_in n) t.choices)) (sym named) ∙ ap (option_map show_choice) it.its_choice in
        let read = game_readable m ours.map t.units t.centres t.choices g it in
        subst (λ r. IsGameReadable m r units centres choice) (sym row_is)
        (subst (λ xs. IsGameReadable m (show_game (game_row m g.name it.public)) xs centres choice) (sym units_are)
        (subst (λ xs. IsGameReadable m (show_game (game_row m g.name it.public)) (map show_unit (unit_rows m g.name it.public.board)) xs choice) (sym centres_are)
        (subst (λ o. IsGameReadable m (show_game (game_row m g.name it.public)) (map show_unit (unit_rows m g.name it.public.board)) (map show_centre (centre_rows m g.name it.public.board)) o) (sym choice_is) read)))
