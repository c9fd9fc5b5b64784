-- The rows of a board, one statement after the other, where no key comes twice after all.
use Rattle.std.proofs.Common.{◌≡◌, ℕ, List, ◌++◌, map, Option, append_assoc, refl, sym, subst}
use Rattle.dip_store_tables.specs.Lists.{delete_where}
use Rattle.dip_names.specs.declared.names.Unit.{Unit as AUnit}
use Rattle.dip_map.specs.Charts.{Chart}
use Rattle.dip_map.specs.Boards.{Position}
use Rattle.dip_map.specs.declared.boards.Dislodged.{Dislodged}
use Rattle.dip_store_tables.specs.Boards.{centre_rows_from, dislodged_row, standing_row}
use Rattle.dip_store_tables.specs.Tables.{Tables, is_centre_in, is_unit_in}
use Rattle.dip_store_sql.specs.Keys.{Differ, same_centre, same_unit}
use Rattle.dip_store_changes.specs.Boards.{BoardsDiffer, with_board}
use Rattle.dip_store_sql.proofs.Keyed.{front_apart}

module _ (m : Chart) (name : List ℕ) (b : Position) (t : Tables) (apart : BoardsDiffer (with_board m name b t)) where
  pub fallen_apart : (us : List AUnit) (ds : List Dislodged) → us ≡ b.units → ds ≡ b.dislodged
      → Differ same_unit ((delete_where (is_unit_in name) t.units ++ map (standing_row m name) us) ++ map (dislodged_row m name) ds)
  fallen_apart us ds u d =
      rw (u, d) (subst (Differ same_unit) (sym (append_assoc (delete_where (is_unit_in name) t.units) (map (standing_row m name) b.units) (map (dislodged_row m name) b.dislodged))) apart.0)

  pub standing_apart : (us : List AUnit) → us ≡ b.units → Differ same_unit (delete_where (is_unit_in name) t.units ++ map (standing_row m name) us)
  standing_apart us u =
      front_apart same_unit (delete_where (is_unit_in name) t.units ++ map (standing_row m name) us) (map (dislodged_row m name) b.dislodged) (fallen_apart us b.dislodged u refl)

  pub owned_apart : (os : List (Option ℕ)) → os ≡ b.owners → Differ same_centre (delete_where (is_centre_in name) t.centres ++ centre_rows_from m name 0 os)
  owned_apart os o = rw o apart.1
