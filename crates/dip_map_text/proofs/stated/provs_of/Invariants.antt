use Rattle.std.proofs.Common.{◌≡◌, drop, map}
use Rattle.dip_map_text.specs.Stated.{each, prov_at}
use Rattle.dip_map_file.proofs.Front.{with_front}
use Rattle.dip_map_text.proofs.stated.provs_of.Given as goal

abbrev pub invariant-loop-code : goal.invariant-loop-code
invariant-loop-code l =
    with_front l.provs.items (each (prov_at l.draft) (map (λ s. s.now) (drop l.code-index l.codes))) ≡ each (prov_at l.draft) (map (λ s. s.now) l.codes)
