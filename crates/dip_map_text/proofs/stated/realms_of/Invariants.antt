use Rattle.std.proofs.Common.{◌≡◌, drop}
use Rattle.dip_map_text.specs.Stated.{each_from, realm_at}
use Rattle.dip_map_file.proofs.Front.{with_front}
use Rattle.dip_map_text.proofs.stated.realms_of.Given as goal

abbrev pub invariant-loop-number : goal.invariant-loop-number
invariant-loop-number l =
    with_front l.realms.items (each_from (realm_at l.draft) l.number (drop l.number l.draft.powers)) ≡ each_from (realm_at l.draft) 0 l.draft.powers
