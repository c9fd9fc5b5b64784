-- The most that is counted of a game.
use Rattle.std.specs.Prelude.{ℕ}

-- the items of a seat's inbox
abbrev pub most_items : ℕ
most_items = 60000

-- the letters of press that a seat sends
abbrev pub most_sent : ℕ
most_sent = 10000

-- the papers of a game
abbrev pub most_papers : ℕ
most_papers = 999999999
