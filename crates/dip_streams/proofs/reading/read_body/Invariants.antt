use Rattle.std.proofs.Common.{◌≡◌, ◌-◌, ◌++◌, ℕ, List, vec_len}
use Rattle.std.specs.Io.KnownBytes.{Consumes}
use Rattle.dip_streams.proofs.reading.read_body.Given as goal

abbrev pub invariant-reading : goal.invariant-reading
invariant-reading g l =
    (more : List ℕ) × Consumes (g.R.Read.remaining l.initial.reader) (g.R.Read.remaining l.reader) more × (l.bytes.items ≡ l.start ++ more)

abbrev pub decreases-reading : goal.decreases-reading
decreases-reading g l = l.size - vec_len l.bytes
