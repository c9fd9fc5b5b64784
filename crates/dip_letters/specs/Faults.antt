-- Why bytes are no letter, in words.
use Rattle.std.specs.Prelude.{ℕ, List, codes}
use Rattle.dip_letters.specs.declared.letters.LetterFault.{LetterFault}
use Rattle.dip_letters.specs.declared.letters.LetterFault.TheVariants.{Malformed, TooLong}

-- what a fault says
unfoldable pub fault_words : LetterFault → List ℕ
fault_words Malformed = codes "no letter of the grammar"
fault_words TooLong = codes "no end within 16,384 bytes"
