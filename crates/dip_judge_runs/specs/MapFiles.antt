-- A map's file: its text, and why it has none.
use Rattle.std.specs.Prelude.{◌≡◌, ◌≤◌, ℕ, List, Option, None, Some, IsSome, Ok, String, length, string_bytes}
use Rattle.std.specs.Str.{IsUtf8}
use Rattle.std.specs.declared.alloc.Global.{Global}
use Rattle.dip_names.specs.Results.{Fails}
use Rattle.dip_map.specs.Charts.{Chart}
use Rattle.dip_map_text.specs.Stated.{map_in}
use Rattle.dip_judge_runs.specs.declared.map_file.NoMap.{NoMap}
use Rattle.dip_judge_runs.specs.declared.map_file.NoMap.TheVariants.{File, Map}
use Rattle.dip_judge_runs.specs.Reading.{IsLonger, IsReadWithin}
use Rattle.dip_judge_runs.specs.declared.reading.ReadFault.TheVariants.{TooLong}
use Rattle.dip_judge_runs.specs.declared.map_file.FileFault.{FileFault}
use Rattle.dip_judge_runs.specs.declared.map_file.FileFault.TheVariants.{Unread, NotUtf8}

-- the text is all that the file has, which is at most 1,048,576 bytes
abbrev pub IsFileText : Option (List ℕ) → Option (List ℕ) → List ℕ → Type 0
IsFileText before after text = IsReadWithin 1048576 before after text

-- the file is too long; or it was read, and isn't UTF-8; or it can't be read, or memory ran out
abbrev pub IsFileFault : Option (List ℕ) → Option (List ℕ) → FileFault → Type 0
IsFileFault before after (Unread TooLong) = IsLonger 1048576 before
IsFileFault before after NotUtf8 = (bytes : List ℕ) × IsFileText before after bytes × ¬ IsUtf8 bytes
IsFileFault before after _ = Unit {0}

-- the text that a map was read of: the file's, or the standard one where there is no file
abbrev pub text_said : List ℕ → Option (String Global) → List ℕ
text_said standard None = standard
text_said standard (Some text) = string_bytes text

-- the map is the one that the text of the named file states; the standard one where no file is named
abbrev pub IsMapOf : List ℕ → Option (List ℕ) → List ℕ → Chart → Type 0
IsMapOf standard None text m = (text ≡ standard) × (map_in text ≡ Ok m)
IsMapOf standard (Some path) text m = (length text ≤ 1048576) × (map_in text ≡ Ok m)

-- why there is no map: the file that is named has no text, or the text states none, and this is its fault; or memory ran out
abbrev pub IsNoMapOf : List ℕ → Option (List ℕ) → NoMap → Type 0
IsNoMapOf standard path (File fault) = IsSome path
IsNoMapOf standard None (Map fault) = Fails fault (map_in standard)
IsNoMapOf standard (Some path) (Map fault) = (text : List ℕ) × (length text ≤ 1048576) × Fails fault (map_in text)
