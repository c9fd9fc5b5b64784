use Rattle.std.proofs.Common.{◌≡◌, ◌++◌, map, string_bytes}
use Rattle.dip_letters.specs.Letters.{text_line}
use Rattle.dip_letters_words.specs.Lines.{text_of}
use Rattle.dip_letters.specs.Views.{texts_in}
use Rattle.dip_letters.proofs.print.push_texts.Given as goal

abbrev pub invariant-loop-line : goal.invariant-loop-line
invariant-loop-line l =
    string_bytes l.text ++ text_of (map text_line (texts_in l.line-iterator)) ≡ string_bytes l.initial.text ++ text_of (map text_line (texts_in l.initial.line-iterator))
