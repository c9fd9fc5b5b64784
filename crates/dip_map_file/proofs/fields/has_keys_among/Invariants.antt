use Rattle.std.proofs.Common.{◌≡◌, map}
use Rattle.toml.specs.View.{members_view}
use Rattle.dip_map_file.specs.Fields.{keys_are_among}
use Rattle.dip_map_file.proofs.fields.has_keys_among.Given as goal

abbrev pub invariant-loop-key : goal.invariant-loop-key
invariant-loop-key l =
    (goal.iterator-loop-key).can_next l.key-iterator × (goal.iterator-loop-key).is_finite l.key-iterator
    × (keys_are_among (map (λ s. s.now) l.keys) (members_view l.key-iterator) ≡ keys_are_among (map (λ s. s.now) l.keys) (members_view l.table.entries))
