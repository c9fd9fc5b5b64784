-- Where no head within the limits stands, whatever follows.
use Rattle.std.proofs.Common.{◌≡◌, ◌<◌, ◌≤◌, ℕ, List, [], ◌∷◌, ◌++◌, length, drop, refl, ap, arith}
use Rattle.httparse.specs.Grammar.{RequestHead, ReadsRequest, HasNoRequest, print_request}
use Rattle.httparse.specs.Spans.{RequestOverflows}
use Rattle.httparse.proofs.GrammarLemmas.{request_prefix_free}
use Rattle.dip_http_messages.specs.Heads.{HasNoHead}

-- the head at the front is too long
pub too_long : (buf more : List ℕ) (head : RequestHead) (rest : List ℕ) → ReadsRequest buf head rest → 8192 < length (print_request head) → HasNoHead (buf ++ more)
too_long buf more head rest reads long = λ other end is.
    let same = (request_prefix_free buf more head other rest end reads is.reads).0 in
    let e : length (print_request head) ≡ length (print_request other) = ap (λ (h : RequestHead). length (print_request h)) same in
    let size = is.size in
    absurd (omega arith)

front_of_longer : (a b c d : List ℕ) → a ++ b ≡ c ++ d → length c ≤ length a → a ≡ c ++ drop (length c) a
front_of_longer a b [] d e le = refl
front_of_longer [] b (x ∷ c) d e le = absurd (omega arith)
front_of_longer (y ∷ a) b (x ∷ c) d e le =
    let first : y ≡ x = cc in
    let rest : a ++ b ≡ c ++ d = cc in
    let tail = front_of_longer a b c d rest (omega arith) in
    rw first (ap (λ t. x ∷ t) tail)

-- no head ends within the bytes
pub too_late : (buf more : List ℕ) → HasNoRequest buf → 8192 ≤ length buf → HasNoHead (buf ++ more)
too_late buf more none long = λ head rest is.
    let size = is.size in
    none head (drop (length (print_request head)) buf) (is.reads.0, front_of_longer buf more (print_request head) rest is.reads.1 (omega arith))

-- each head has too many fields
pub too_many : (buf more : List ℕ) → RequestOverflows 32 buf → HasNoHead (buf ++ more)
too_many buf more over = λ head rest is.
    let big = over more head rest is.reads in
    let few = is.fields in
    absurd (omega arith)
