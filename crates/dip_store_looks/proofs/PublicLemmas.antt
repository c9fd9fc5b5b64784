-- What the rows of a game show is what its records say.
use Rattle.std.proofs.Common.{◌≡◌, ℕ, Bool, List, [], ◌∷◌, map, filter, option_map, bytes_eq, Option, Some, None, refl, sym, ap, ap₂, ◌∙◌, inl, inr}
use Rattle.std.specs.List.{find}
use Rattle.std.proofs.lemmas.Bool.{cases_Bool}
use Rattle.std.proofs.lemmas.Slice.Eq.{bytes_eq-Decides}
use Rattle.sqlite.specs.Order.{Row}
use Rattle.dip_map.specs.Charts.{Chart, Province}
use Rattle.dip_store_tables.specs.Boards.{UnitRow, CentreRow, board_of, unit_of, dislodged_of, stands, fell, owner_in, standoff_of, season_of}
use Rattle.dip_store_sql.specs.Showing.{show_choice, show_game, show_unit, show_centre}
use Rattle.dip_store_tables.specs.Reading.{intends, intent_in, public_of}
use Rattle.dip_store_tables.specs.Tables.{ChoiceRow, GameRow, Tables, is_named, is_unit_in, is_centre_in, is_choice_in}
use Rattle.dip_store_looks.specs.Shown.{shown_unit, shown_centre, shown_intent, shown_public}

module _ (m : Chart) where
  standing_shown : (us : List UnitRow) → map (unit_of m) (filter stands (map shown_unit (map show_unit us))) ≡ map (unit_of m) (filter stands us)
  standing_shown [] = refl
  standing_shown (u ∷ us) = elim (cases_Bool (stands u)) [
    | inl up ↦ rw up (ap (λ xs. unit_of m u ∷ xs) (standing_shown us))
    | inr down ↦ rw down (standing_shown us)
  ]

  fallen_shown : (us : List UnitRow) → map (dislodged_of m) (filter fell (map shown_unit (map show_unit us))) ≡ map (dislodged_of m) (filter fell us)
  fallen_shown [] = refl
  fallen_shown (u ∷ us) = elim (cases_Bool (fell u)) [
    | inl down ↦ rw down (ap (λ xs. dislodged_of m u ∷ xs) (fallen_shown us))
    | inr up ↦ rw up (fallen_shown us)
  ]

  owner_shown : (cs : List CentreRow) (code : List ℕ) → owner_in m (map shown_centre (map show_centre cs)) code ≡ owner_in m cs code
  owner_shown [] code = refl
  owner_shown (c ∷ cs) code = elim (cases_Bool (bytes_eq c.province code)) [
    | inl hit ↦ rw hit refl
    | inr off ↦ rw off (owner_shown cs code)
  ]

  owners_shown : (cs : List CentreRow) (ps : List Province)
      → map (λ (p : Province). owner_in m (map shown_centre (map show_centre cs)) p.code) ps ≡ map (λ (p : Province). owner_in m cs p.code) ps
  owners_shown cs [] = refl
  owners_shown cs (p ∷ ps) = ap₂ ◌∷◌ (owner_shown cs p.code) (owners_shown cs ps)

  board_shown : (us : List UnitRow) (cs : List CentreRow) (standoff : List ℕ) (year season : ℕ) (intent : Bool)
      → board_of m (map shown_unit (map show_unit us)) (map shown_centre (map show_centre cs)) standoff year season intent ≡ board_of m us cs standoff year season intent
  board_shown us cs standoff year season intent =
      let units = standing_shown us in
      let dislodged = fallen_shown us in
      let owners = owners_shown cs m.provinces in
      λ i. record {
        units = units i;
        dislodged = dislodged i;
        standoff = standoff_of m standoff;
        owners = owners i;
        phase = record { year = year; season = season_of season };
        intent = intent;
      }

  intent_shown : (o : Option ChoiceRow) → shown_intent (option_map show_choice o) ≡ intends o
  intent_shown None = refl
  intent_shown (Some c) = refl

  -- the game that is found has the name
  pub found_named : (name : List ℕ) (gs : List GameRow) (g : GameRow) → find (is_named name) gs ≡ Some g → g.name ≡ name
  found_named name [] g = λ is. absurd (cc)
  found_named name (x ∷ gs) g = elim (cases_Bool (is_named name x)) [
    | inl hit ↦ rw hit (λ is. ap (λ o. name_if name o) (sym is) ∙ (bytes_eq-Decides x.name name).0 hit)
    | inr off ↦ rw off (λ is. found_named name gs g is)
  ]
    where
      name_if : List ℕ → Option GameRow → List ℕ
      name_if name None = name
      name_if name (Some x) = x.name

  pub public_is : (t : Tables) (name : List ℕ) (row : Row) (units centres : List Row) (choice : Option Row)
      → Some row ≡ option_map show_game (find (is_named name) t.games)
      → units ≡ map show_unit (filter (is_unit_in name) t.units) → centres ≡ map show_centre (filter (is_centre_in name) t.centres)
      → choice ≡ option_map show_choice (find (is_choice_in name) t.choices)
      → Some (shown_public m name row units centres choice) ≡ option_map (public_of m t.units t.centres t.choices) (find (is_named name) t.games)
  public_is t name row units centres choice shown us cs chosen = by_game (find (is_named name) t.games) refl
    where
      of_game : (g : GameRow) → g.name ≡ name → row ≡ show_game g → shown_public m name row units centres choice ≡ public_of m t.units t.centres t.choices g
      of_game g named is =
          let mine_units = filter (is_unit_in name) t.units in
          let mine_centres = filter (is_centre_in name) t.centres in
          let mine_choice = find (is_choice_in name) t.choices in
          let all = ap₂ (λ u c. shown_public m name (show_game g) u c choice) us cs ∙ ap (shown_public m name (show_game g) (map show_unit mine_units) (map show_centre mine_centres)) chosen in
          let board = board_shown mine_units mine_centres g.standoff g.year g.phase (shown_intent (option_map show_choice mine_choice)) ∙ ap (board_of m mine_units mine_centres g.standoff g.year g.phase) (intent_shown mine_choice) in
          let mine = ap (λ b. record (public_of m t.units t.centres t.choices g) { game = name; board = b }) board in
          let other = ap (λ n. record (public_of m t.units t.centres t.choices g) { game = n; board = board_of m (filter (is_unit_in n) t.units) (filter (is_centre_in n) t.centres) g.standoff g.year g.phase (intent_in t.choices n) }) (sym named) in
          ap (λ r. shown_public m name r units centres choice) is ∙ all ∙ mine ∙ other

      by_game : (o : Option GameRow) → find (is_named name) t.games ≡ o → Some (shown_public m name row units centres choice) ≡ option_map (public_of m t.units t.centres t.choices) (find (is_named name) t.games)
      by_game None none = absurd (let bad = shown ∙ ap (option_map show_game) none in cc)
      by_game (Some g) found =
          let same : row ≡ show_game g = (let both = shown ∙ ap (option_map show_game) found in cc) in
          ap Some (of_game g (found_named name t.games g found) same) ∙ sym (ap (option_map (public_of m t.units t.centres t.choices)) found)
