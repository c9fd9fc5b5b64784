-- Votes: nobody is told of one but by its draw.
use Rattle.std.specs.Prelude.{ℕ, ◌≡◌, Bool, None, map}
use Rattle.dip_desk_machine.specs.Drawing.{drawn_between}
use Rattle.dip_map.specs.Charts.{Chart}
use Rattle.dip_desk_machine.specs.Machine.{Ticks, Verdict}
use Rattle.dip_desk_state.specs.Records.{Own, No, Whole}

-- a game but for its votes
abbrev pub without_vote : Own → Own
without_vote o = record o { vote = No }

abbrev pub without_votes : Whole → Whole
without_votes w = record { public = w.public; seats = map without_vote w.seats }

-- a vote is told by its draw alone: what a tick comes to that draws no game doesn't depend on any
abbrev pub VotesAreUntold : Chart → Type 0
VotesAreUntold m = (tick : ℕ) (a b : Whole) (over due : Bool) (v : Verdict) → without_votes a ≡ without_votes b
    → drawn_between m a ≡ None → drawn_between m b ≡ None → Ticks m tick a over due v → Ticks m tick b over due v
