use Rattle.std.proofs.Common.{◌≡◌}
use Rattle.std.specs.Str.{IsUtf8}
use Rattle.dip_letters.specs.Reading.{words_fit}
use Rattle.dip_letters_words.specs.Words.{is_name}
use Rattle.dip_letters.proofs.press.names_fit.Given as goal

abbrev pub invariant-loop-name : goal.invariant-loop-name
invariant-loop-name l = (words_fit is_name l.left l.at ≡ words_fit is_name 6 l.text) × IsUtf8 l.at

abbrev pub decreases-loop-name : goal.decreases-loop-name
decreases-loop-name l = l.left
