use Rattle.std.proofs.Common.{◌≡◌, drop, map}
use Rattle.toml.specs.View.{items_view}
use Rattle.dip_map_file.specs.Fields.{each_item}
use Rattle.dip_map_file.specs.Files.{code_at}
use Rattle.dip_map_file.proofs.Front.{with_front}
use Rattle.dip_map_file.proofs.places.codes_in.Given as goal

abbrev pub invariant-loop-value : goal.invariant-loop-value
invariant-loop-value l =
    with_front (map (λ s. s.now) l.codes.items) (each_item code_at (items_view (drop l.value-index l.value-items))) ≡ each_item code_at (items_view l.array.items)
