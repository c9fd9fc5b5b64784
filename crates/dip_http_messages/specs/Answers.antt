-- The bytes of an answer.
use Rattle.std.specs.Prelude.{◌≤◌, ℕ, List, [], ◌++◌, Bool, if◌then◌else◌, Option, Some, None, codes, length, take, unwrap_or}
use Rattle.std.specs.Fmt.{decimal}
use Rattle.std.specs.Io.KnownBytes.{Appends}
use Rattle.http.specs.StatusCode.{reason_phrase}

-- the phrase of a status
abbrev pub phrase : ℕ → List ℕ
phrase status = unwrap_or (reason_phrase status) []

-- the field Allow, where methods are named
abbrev pub allow_field : Option (List ℕ) → List ℕ
allow_field None = []
allow_field (Some methods) = codes "\r\nAllow: " ++ methods

-- the status line, the fields in their order, and the empty line: of a status in digits, its phrase, a type, a size in digits and what
-- stands for Allow
abbrev pub head_of : List ℕ → List ℕ → List ℕ → List ℕ → List ℕ → List ℕ
head_of status words kind size allow =
    codes "HTTP/1.1 " ++ (status ++ (codes " " ++ (words
    ++ (codes "\r\nContent-Type: " ++ (kind
    ++ (codes "\r\nContent-Length: " ++ (size
    ++ (allow ++ codes "\r\nConnection: close\r\n\r\n"))))))))

-- the head of an answer: its status in digits with its phrase, its type, the size of its body in digits, and the methods that are allowed, where
-- there is such a field
abbrev pub head_bytes : ℕ → List ℕ → Option (List ℕ) → ℕ → List ℕ
head_bytes status kind allow size = head_of (decimal status) (phrase status) kind (decimal size) (allow_field allow)

-- an answer with a body; a quiet one leaves the body out, and tells its length all the same
abbrev pub answer_bytes : ℕ → List ℕ → Option (List ℕ) → Bool → List ℕ → List ℕ
answer_bytes status kind allow quiet body = head_bytes status kind allow (length body) ++ (if quiet then [] else body)

abbrev pub plain : List ℕ
plain = codes "text/plain"

-- the body of a refusal: the status, a space, the phrase and LF
abbrev pub refusal_body : ℕ → List ℕ
refusal_body status = decimal status ++ codes " " ++ phrase status ++ codes "\n"

-- a refusal by its status, with the methods that are allowed
abbrev pub refusal : ℕ → Option (List ℕ) → Bool → List ℕ
refusal status allow quiet = answer_bytes status plain allow quiet (refusal_body status)

-- a beginning of the text was written
pub record IsPart (before after : Option (List ℕ)) (text : List ℕ) : Type 0 where
  pub size : ℕ
  pub within : size ≤ length text
  pub written : Appends before after (take size text)
