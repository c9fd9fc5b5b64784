use Rattle.std.proofs.Common.{◌≡◌, drop, map}
use Rattle.std.specs.List.{list_any}
use Rattle.std.specs.Str.{bytes_eq}
use Rattle.dip_map_file.proofs.fields.is_among.Given as goal

abbrev pub invariant-loop-known : goal.invariant-loop-known
invariant-loop-known l =
    list_any (λ k. bytes_eq k l.key) (map (λ s. s.now) (drop l.known-index l.keys)) ≡ list_any (λ k. bytes_eq k l.key) (map (λ s. s.now) l.keys)
