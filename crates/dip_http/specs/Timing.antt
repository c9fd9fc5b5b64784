-- How long a client has.
use Rattle.std.specs.Prelude.{Bool, Ok, Result, false, true, ℕ}

-- in nanoseconds: for its first byte two seconds, for its whole request ten, for taking its answer as many, and after it half a second
abbrev pub silent_limit : ℕ
silent_limit = 2000000000

abbrev pub request_limit : ℕ
request_limit = 10000000000

abbrev pub answer_limit : ℕ
answer_limit = 10000000000

abbrev pub dropping_limit : ℕ
dropping_limit = 500000000

-- after a read: a client from which something came at last has the time of a whole request, and each other what it had
abbrev pub limit_after : {A E : Type 0} → Result A E → Bool → ℕ → ℕ
limit_after (Ok count) true limit = request_limit
limit_after _ is_silent limit = limit
