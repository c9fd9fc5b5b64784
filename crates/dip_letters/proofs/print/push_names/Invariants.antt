use Rattle.std.proofs.Common.{◌≡◌, ◌++◌, string_bytes}
use Rattle.dip_letters.specs.Letters.{words_of}
use Rattle.dip_letters.specs.Views.{names_in}
use Rattle.dip_letters.proofs.print.push_names.Given as goal

abbrev pub invariant-loop-name : goal.invariant-loop-name
invariant-loop-name l = string_bytes l.text ++ words_of (names_in l.name-iterator) ≡ string_bytes l.initial.text ++ words_of (names_in l.initial.name-iterator)
