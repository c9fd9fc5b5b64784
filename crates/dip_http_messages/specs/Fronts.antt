-- What the first bytes of a connection are.
use Rattle.std.specs.Prelude.{◌≡◌, ◌≤◌, ◌<◌, Bool, true, false, ℕ, List, ◌++◌, option_map, IfSome, IsAscii, length, drop}
use Rattle.httparse.specs.Grammar.{RequestHead}
use Rattle.dip_http_messages.specs.Heads.{IsHead, HasNoHead, Ask, ask_of}
use Rattle.dip_http_messages.specs.declared.front.Asked.{Asked}
use Rattle.dip_http_messages.specs.declared.front.Front.{Front}
use Rattle.dip_http_messages.specs.declared.front.Front.TheVariants.{More, NoHead, Head}
use Rattle.dip_http_messages.specs.declared.front.RequestFront.{RequestFront}

abbrev pub ask_view : Asked → Ask
ask_view a = (a.path.now, a.size)

-- the front has what this head has and asks for
pub record Shows (r : RequestFront) (head : RequestHead) : Type 0 where
  pub method : r.method.now ≡ head.method
  pub asked : option_map ask_view r.asked ≡ ask_of head
  pub ascii : IfSome r.asked (λ a. IsAscii a.path.now)

-- no head so far, and room for one; none whatever follows; or this head
abbrev pub IsFront : List ℕ → Front → Type 0
IsFront bytes More = HasNoHead bytes × (length bytes < 8192)
IsFront bytes NoHead = (more : List ℕ) → HasNoHead (bytes ++ more)
IsFront bytes (Head r) = (r.size ≤ length bytes) × (head : RequestHead) × IsHead bytes head (drop r.size bytes) × Shows r head

-- more bytes don't make another of it
abbrev pub is_decided : Front → Bool
is_decided More = false
is_decided NoHead = true
is_decided (Head r) = true
