use Rattle.std.proofs.Common.{◌≡◌, drop}
use Rattle.dip_map_text.specs.Stated.{each, place_at}
use Rattle.dip_map_file.proofs.Front.{with_front}
use Rattle.dip_map_text.proofs.stated.places_of.Given as goal

abbrev pub invariant-loop-site : goal.invariant-loop-site
invariant-loop-site l =
    with_front l.places.items (each (place_at l.draft) (drop l.site-index l.sites)) ≡ each (place_at l.draft) l.sites
