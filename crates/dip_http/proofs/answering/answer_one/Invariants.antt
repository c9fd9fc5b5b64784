use Rattle.std.proofs.Common.{◌≡◌, ◌-◌, ◌<◌, length, vec_len}
use Rattle.std.specs.Io.KnownBytes.{Consumes}
use Rattle.dip_http.proofs.answering.answer_one.Given as goal

abbrev pub invariant-reading : goal.invariant-reading
invariant-reading g l = record {
  so_far : Consumes (g.R.Read.remaining l.initial.reader) (g.R.Read.remaining l.reader) l.bytes.items;
  bound : length l.bytes.items < 8192;
  writer : l.writer ≡ l.initial.writer;
  keeper : l.keeper ≡ l.initial.keeper;
}

abbrev pub decreases-reading : goal.decreases-reading
decreases-reading g l = 8192 - vec_len l.bytes
