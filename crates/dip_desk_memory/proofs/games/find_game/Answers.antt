use Rattle.std.proofs.Common.{◌∙◌, ap, option_map}
use Rattle.dip_desk_memory.specs.Stored as stored
use Rattle.dip_desk_memory.proofs.GamesLemmas.{game_found, game_shown, named_shown}
use Rattle.dip_desk_memory.proofs.games.find_game.Goals as goal

pub returns-clause-found : goal.returns-clause-found
returns-clause-found c =
    game_shown c.args.name.now c.get.result ∙ ap (option_map (stored.game c.args.name.now)) c.get.ensures.value
    ∙ game_found c.args.name.now c.args.games.now.entries

pub returns-clause-named : goal.returns-clause-named
returns-clause-named c named = named_shown c.args.name.now c.args.games.now.entries c.get.result named c.get.ensures.value
