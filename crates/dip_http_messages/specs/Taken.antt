-- What a handler makes of matchit's parameters.
use Rattle.std.specs.Prelude.{ℕ, List, Option, Some, option_map, option_and_then, codes}
use Rattle.matchit.specs.Params.{walk, named}
use Rattle.matchit.specs.declared.params.Params.{Params}
use Rattle.dip_http_messages.specs.declared.table.Route.{Route}
use Rattle.dip_http_messages.specs.declared.table.Route.TheVariants.{Letters, Game, Paper}
use Rattle.dip_http_messages.specs.Places.{Place, letters, game, paper}

-- each parameter and what it took
abbrev pub taken : Params → List (List ℕ × List ℕ)
taken p = walk p.pattern.now p.text.now p.path.now p.names.now 0 0

abbrev pub place_with : Route → List (List ℕ × List ℕ) → Option Place
place_with Letters params = Some letters
place_with Game params = option_map (λ name. game name) (named (codes "game") params)
place_with Paper params = option_and_then (λ name. option_map (λ number. paper name number) (named (codes "number") params)) (named (codes "game") params)
