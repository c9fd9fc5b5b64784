use Rattle.std.proofs.Common.{◌≡◌, drop}
use Rattle.toml.specs.View.{items_view}
use Rattle.dip_map_file.specs.Fields.{each_item}
use Rattle.dip_map_file.specs.Files.{unit_at}
use Rattle.dip_map_file.proofs.Front.{with_front}
use Rattle.dip_map_file.proofs.places.units_in.Given as goal

abbrev pub invariant-loop-value : goal.invariant-loop-value
invariant-loop-value l =
    with_front l.units.items (each_item unit_at (items_view (drop l.value-index l.value-items))) ≡ each_item unit_at (items_view l.array.items)
