use Rattle.std.proofs.Common.{◌≡◌}
use Rattle.toml.specs.View.{members_view}
use Rattle.dip_map_file.specs.Fields.{each_member}
use Rattle.dip_map_file.specs.Files.{power_at}
use Rattle.dip_map_file.proofs.Front.{with_front}
use Rattle.dip_map_file.proofs.files.powers_of.Given as goal

abbrev pub invariant-loop-name : goal.invariant-loop-name
invariant-loop-name l =
    (goal.iterator-loop-name).can_next l.name-iterator × (goal.iterator-loop-name).is_finite l.name-iterator
    × (with_front l.powers.items (each_member power_at (members_view l.name-iterator)) ≡ each_member power_at (members_view l.realms.entries))
