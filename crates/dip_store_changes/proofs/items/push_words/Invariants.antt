use Rattle.std.proofs.Common.{◌≡◌, ◌++◌, codes, drop, flat_map, string_bytes}
use Rattle.dip_desk_state.specs.Rows as records
use Rattle.dip_store_changes.proofs.items.push_words.Given as goal

abbrev pub invariant-loop-word : goal.invariant-loop-word
invariant-loop-word l =
    string_bytes l.out ++ flat_map (λ v. codes " " ++ v) (records.lines (drop l.word-index l.words))
    ≡ string_bytes l.initial.out ++ flat_map (λ v. codes " " ++ v) (records.lines l.words)
