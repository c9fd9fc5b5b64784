-- What is known of a letter's author before the letter is kept.
use Rattle.std.specs.Prelude.{List, Option, None, option_map}
use Rattle.dip_desk_state.specs.Records.{Own}
use Rattle.dip_desk_state.specs.State.{Author, Nobody, TheMaster, Seat}
use Rattle.dip_store_counts.specs.Knowing.{known_own}
use Rattle.dip_store_counts.specs.declared.known.KnownAuthor.{KnownAuthor}
use Rattle.dip_store_memory.specs.Owns.{own_among}

-- what own parts of a game say of a letter's author, where its own is among them
abbrev pub known_among : Author → List Own → Option KnownAuthor
known_among Nobody os = None
known_among TheMaster os = None
known_among (Seat power) os = option_map known_own (own_among power os)
