use Rattle.std.proofs.Common.{take}
use Rattle.std.specs.List.{flat_map}
use Rattle.std.specs.Io.KnownBytes.{Appends}
use Rattle.dip_streams.proofs.streams.write_texts.Given as goal

abbrev pub invariant-texts : goal.invariant-texts
invariant-texts g l = Appends (g.W.Write.contents l.fn.writer) (g.W.Write.contents l.writer) (flat_map (λ t. t.now) (take l.text-index l.texts))
