use Rattle.std.proofs.Common.{◌≡◌, drop}
use Rattle.dip_map_text.specs.Stated.{each, province_at}
use Rattle.dip_map_file.proofs.Front.{with_front}
use Rattle.dip_map_text.proofs.stated.provinces_of.Given as goal

abbrev pub invariant-loop-written : goal.invariant-loop-written
invariant-loop-written l =
    with_front l.provinces.items (each (province_at l.draft) (drop l.written-index l.draft.provinces)) ≡ each (province_at l.draft) l.draft.provinces
