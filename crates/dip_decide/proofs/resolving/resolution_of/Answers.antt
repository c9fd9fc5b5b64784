use Rattle.std.proofs.Common.{refl}
use Rattle.dip_decide.proofs.resolving.resolution_of.Goals as goal

pub returns : goal.returns
returns c = record {
  moves = rw c.in_ok-moves.ensures (rw c.as_slice.ensures.value refl);
  paths = rw c.in_ok-paths.ensures (rw c.as_slice-2.ensures.value refl);
  supports = rw c.in_ok-supports.ensures (rw c.as_slice-3.ensures.value refl);
  broken = rw c.in_ok-broken.ensures (rw c.as_slice-4.ensures.value refl);
  steps = refl;
  tests = refl;
}
