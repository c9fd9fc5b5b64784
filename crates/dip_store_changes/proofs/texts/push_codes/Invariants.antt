use Rattle.std.proofs.Common.{◌≡◌, ◌++◌, codes, drop, flat_map, string_bytes}
use Rattle.dip_store_tables.specs.Boards.{code}
use Rattle.dip_store_changes.proofs.texts.push_codes.Given as goal

abbrev pub invariant-loop-prov : goal.invariant-loop-prov
invariant-loop-prov l =
    string_bytes l.out ++ flat_map (λ p. codes " " ++ code l.map p) (drop l.prov-index l.provs)
    ≡ string_bytes l.initial.out ++ flat_map (λ p. codes " " ++ code l.map p) l.provs
