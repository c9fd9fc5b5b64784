use Rattle.dip_store.proofs.Writable.{fits_is_writable}
use Rattle.dip_store.proofs.laws.what_fits_can_be_written.Goals as goal

pub returns : goal.returns
returns g m = fits_is_writable m
