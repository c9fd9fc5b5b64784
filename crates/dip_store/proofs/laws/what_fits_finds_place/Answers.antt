use Rattle.dip_store.proofs.Place.{fits_finds_place}
use Rattle.dip_store.proofs.laws.what_fits_finds_place.Goals as goal

pub returns : goal.returns
returns g m = fits_finds_place m
