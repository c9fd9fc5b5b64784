-- What a head is, and what it asks for.
use Rattle.std.specs.Prelude.{◌≤◌, ℕ, List, ◌&&◌, if◌then◌else◌, Option, Some, None, length, map, codes}
use Rattle.httparse.specs.Grammar.{RequestHead, ReadsRequest, print_request}
use Rattle.httparse.specs.Spans.{name_and_value}
use Rattle.dip_http_messages.specs.Fields.{field_of, has_host}
use Rattle.dip_http_messages.specs.Sizes.{size_of, without_coding}
use Rattle.dip_http_messages.specs.Targets.{before_query, is_target}
use Rattle.dip_http_messages.specs.declared.size.Size.{Size}

-- the input begins with this head of httparse's grammar, which is within the limits, and goes on with the rest
pub record IsHead (input : List ℕ) (head : RequestHead) (rest : List ℕ) : Type 0 where
  pub reads : ReadsRequest input head rest
  pub size : length (print_request head) ≤ 8192
  pub fields : length head.fields ≤ 32

-- the input begins with no such head
abbrev pub HasNoHead : List ℕ → Type 0
HasNoHead input = (head : RequestHead) (rest : List ℕ) → IsHead input head rest → ⊥

-- the names and values of a head's fields
abbrev pub fields_of : RequestHead → List (List ℕ × List ℕ)
fields_of head = map name_and_value head.fields

-- what a head asks for: a path, and the size of its body
abbrev pub Ask : Type 0
Ask = List ℕ × Size

abbrev pub ask_with : List ℕ → Option Size → Option Ask
ask_with path None = None
ask_with path (Some size) = Some (path, size)

-- what a version, a target and fields ask for; none where Host, the target or the fields of the size are refused
abbrev pub ask_in : ℕ → List ℕ → List (List ℕ × List ℕ) → Option Ask
ask_in minor target fields =
    if has_host minor (field_of (codes "host") fields) && is_target target
    then ask_with (before_query target)
    (without_coding (field_of (codes "transfer-encoding") fields) (size_of (field_of (codes "content-length") fields)))
    else None

-- what a head asks for; none where it is refused
abbrev pub ask_of : RequestHead → Option Ask
ask_of head = ask_in head.minor head.target (fields_of head)
