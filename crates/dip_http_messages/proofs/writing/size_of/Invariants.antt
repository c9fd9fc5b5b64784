use Rattle.std.proofs.Common.{◌≡◌, ◌≤◌, ◌*◌, length, take}
use Rattle.std.specs.List.{flat_map}
use Rattle.dip_http_messages.proofs.writing.size_of.Given as goal

abbrev pub invariant-texts : goal.invariant-texts
invariant-texts l = record {
  counted : l.size ≡ length (flat_map (λ t. t.now) (take l.text-index l.texts));
  bound : l.size ≤ l.text-index * 18446744073709551616;
}
