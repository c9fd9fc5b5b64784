-- The forms of codes and names.
use Rattle.std.specs.Prelude.{ℕ, ◌==◌, ◌&&◌, ◌||◌, nat_le, not, Bool, List, length, codes}
use Rattle.std.specs.List.{list_all}
use Rattle.std.specs.Str.{bytes_eq}
use Rattle.std.specs.Char.{is_ascii_lowercase}

-- a code: three letters
abbrev pub is_code : List ℕ → Bool
is_code text = (length text == 3) && list_all is_ascii_lowercase text

-- the name of a coast: two letters
abbrev pub is_coast_name : List ℕ → Bool
is_coast_name text = (length text == 2) && list_all is_ascii_lowercase text

-- a printable byte
abbrev pub is_printable : ℕ → Bool
is_printable b = nat_le 32 b && nat_le b 126

-- a full name: 1 to 40 printable bytes
abbrev pub is_full_name : List ℕ → Bool
is_full_name text = nat_le 1 (length text) && (nat_le (length text) 40 && list_all is_printable text)

-- a word that letters use for something else
abbrev pub is_taken : List ℕ → Bool
is_taken text = bytes_eq text (codes "master") || (bytes_eq text (codes "all") || (bytes_eq text (codes "nobody") || bytes_eq text (codes "you")))

-- a power's name: 1 to 16 letters, and none of those words
abbrev pub is_power_name : List ℕ → Bool
is_power_name text = nat_le 1 (length text) && (nat_le (length text) 16 && (list_all is_ascii_lowercase text && not (is_taken text)))
