-- The explanation of retreats: a line for each dislodged unit, with its neighbouring places and what closed them.
use Rattle.std.specs.Prelude.{ℕ, ◌==◌, ◌&&◌, not, Bool, List, [], ◌++◌, codes, filter, find, flat_map, Option, None, Some, if◌then◌else◌}
use Rattle.dip_names.specs.declared.names.Place.{Place}
use Rattle.dip_map.specs.declared.boards.Dislodged.{Dislodged}
use Rattle.dip_map.specs.Boards.{Position, is_held}
use Rattle.dip_map.specs.Charts.{Chart}
use Rattle.dip_orders_placed.specs.Retreats.{is_open, is_origin, next_places}
use Rattle.dip_orders_placed.specs.Standing.{is_same_unit}
use Rattle.dip_orders.specs.Texts.{order_text, place_text}
use Rattle.dip_turn.specs.Retreating.{is_in, refuge}
use Rattle.dip_turn.specs.RetreatLine.{RetreatLine}

-- why a province is closed to a unit whose attacker came from there, if from anywhere
abbrev pub closing_text : Position → Option ℕ → ℕ → List ℕ
closing_text b origin p =
    if is_held b p then codes " is closed, a unit stands there"
    else if is_origin origin p then codes " is closed, its attacker came from there"
    else codes " is closed, a standoff was there"

abbrev pub openness_text : Position → Option ℕ → ℕ → List ℕ
openness_text b origin p = if is_open b origin p then codes " is open" else closing_text b origin p

-- whether a place is open to a dislodged unit
unfoldable pub place_line : Chart → Position → Dislodged → Place → List ℕ
place_line m b d a = codes "; " ++ (place_text m d.unit.kind a ++ openness_text b d.origin a.prov)

-- the neighbouring places of a dislodged unit
abbrev pub places_text : Chart → Position → Dislodged → List ℕ
places_text m b d = flat_map (place_line m b d) (next_places m d.unit.kind d.unit.place)

-- another unit that retreats to the province
abbrev pub is_rival : RetreatLine → ℕ → RetreatLine → Bool
is_rival l p other = not (other.placed.unit.place.prov == l.placed.unit.place.prov) && is_in (refuge other.placed.order) p

abbrev pub rivals : List RetreatLine → RetreatLine → ℕ → List RetreatLine
rivals all l p = filter (is_rival l p) all

-- the order of another unit
abbrev pub rival_text : Chart → RetreatLine → List ℕ
rival_text m l = codes ", " ++ order_text m l.placed

-- others retreat to the same province
unfoldable pub clash_text : Chart → List RetreatLine → RetreatLine → ℕ → List ℕ
clash_text m all l p = codes " disbands: another unit retreats there" ++ flat_map (rival_text m) (rivals all l p)

-- why a unit disbands that goes there, or nowhere
abbrev pub disbanding_text : Chart → List RetreatLine → RetreatLine → Option Place → List ℕ
disbanding_text m all l None = codes " disbands: no retreat was ordered"
disbanding_text m all l (Some to) = clash_text m all l to.prov

-- what became of a dislodged unit, and why
abbrev pub fate_text : Chart → List RetreatLine → RetreatLine → List ℕ
fate_text m all l =
    if l.is_made then codes " retreats: no other unit goes there" else disbanding_text m all l (refuge l.placed.order)

-- the dislodged unit of which a line tells
abbrev pub dislodged_in : Position → RetreatLine → Option Dislodged
dislodged_in b l = find (λ d. is_same_unit d.unit l.placed.unit) b.dislodged

abbrev pub neighbours_text : Chart → Position → Option Dislodged → List ℕ
neighbours_text m b None = []
neighbours_text m b (Some d) = places_text m b d

-- the line of a dislodged unit
abbrev pub retreat_text : Chart → Position → List RetreatLine → RetreatLine → List ℕ
retreat_text m b all l = order_text m l.placed ++ (fate_text m all l ++ (neighbours_text m b (dislodged_in b l) ++ codes "\n"))

-- the explanation of the retreats of a board, of which these outcomes are told
abbrev pub retreats_explained : Chart → Position → List RetreatLine → List ℕ
retreats_explained m b lines = flat_map (retreat_text m b lines) lines
