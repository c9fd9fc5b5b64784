-- A board is read back.
use Rattle.std.proofs.Common.{◌≡◌, ℕ, List, ◌++◌, map, filter, ap, ◌∙◌, append-nil}
use Rattle.dip_map.specs.Charts.{Chart, IsMap}
use Rattle.dip_map.specs.Boards.{Position, IsOf, season_number}
use Rattle.dip_store_tables.specs.Boards.{standing_row, dislodged_row, unit_rows, centre_rows, standoff_text, unit_of, dislodged_of, stands, fell, board_of}
use Rattle.dip_store_tables.proofs.Parts.{season_back}
use Rattle.dip_store_tables.proofs.BoardPieces.{units_back, fallen_back, standing, not_standing, not_fallen, fallen}
use Rattle.dip_store_tables.proofs.Owners.{owners_back}
use Rattle.dip_store_tables.proofs.Standoffs.{standoff_back}

module _ (m : Chart) (ok : IsMap m) where
  pub board_back : (b : Position) → IsOf m b → (game : List ℕ) → board_of m (unit_rows m game b) (centre_rows m game b) (standoff_text m b.standoff) b.phase.year (season_number b.phase.season) b.intent ≡ b
  board_back b of_map game =
      let ds = map (dislodged_row m game) b.dislodged in
      let us = map (standing_row m game) b.units in
      let up : filter stands (unit_rows m game b) ≡ us = standing m ok game b.units ds ∙ ap (λ xs. us ++ xs) (not_standing m ok game b.dislodged) ∙ append-nil us in
      let down : filter fell (unit_rows m game b) ≡ ds = not_fallen m ok game b.units ds ∙ fallen m ok game b.dislodged in
      let units = ap (map (unit_of m)) up ∙ units_back m ok game b.units of_map.units in
      let dislodged = ap (map (dislodged_of m)) down ∙ fallen_back m ok game b.dislodged of_map.dislodged in
      let standoff = standoff_back m ok b.standoff of_map.standoff in
      let owners = owners_back m ok game b of_map in
      let season = season_back b.phase.season in
      λ i. record { units = units i; dislodged = dislodged i; standoff = standoff i; owners = owners i; phase = record { year = b.phase.year; season = season i }; intent = b.intent }
