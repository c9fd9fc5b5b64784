-- How long a head says that its body is.
use Rattle.std.specs.Prelude.{ℕ, [], Bool, true, false, ◌&&◌, not, nat_le, if◌then◌else◌, Option, Some, None}
use Rattle.std.specs.Char.{is_ascii_digit}
use Rattle.std.specs.List.{list_all}
use Rattle.std.specs.Str.{bytes_eq}
use Rattle.std.specs.Str.Parse.{digits_value}
use Rattle.dip_http_messages.specs.Fields.{Found, never, once, often, is_there}
use Rattle.dip_http_messages.specs.declared.size.Size.{Size}
use Rattle.dip_http_messages.specs.declared.size.Size.TheVariants.{Unsaid, Fits, TooLarge}

-- a size, where it is within the limit
abbrev pub limited : ℕ → Size
limited n = if nat_le n 16384 then Fits n else TooLarge

-- the size that Content-Length says, in digits, of which the first may be zeros; none where it is refused
abbrev pub size_of : Found → Option Size
size_of never = Some Unsaid
size_of (once v) = if not (bytes_eq v []) && list_all is_ascii_digit v then Some (limited (digits_value 10 v)) else None
size_of often = None

-- a size is said
abbrev pub is_said : Size → Bool
is_said Unsaid = false
is_said (Fits n) = true
is_said TooLarge = true

-- a size that is said is refused where a transfer coding stands beside it
abbrev pub without_coding : Found → Option Size → Option Size
without_coding coding None = None
without_coding coding (Some size) = if is_there coding && is_said size then None else Some size
