-- The routes, as matchit keeps them.
use Rattle.std.specs.Prelude.{[], ◌∷◌, ◌++◌, codes}
use Rattle.matchit.specs.Rows.{RowsOf, param_token}
use Rattle.matchit.specs.Router.{RouteOf}
use Rattle.dip_http_messages.specs.declared.table.Route.{Route}
use Rattle.dip_http_messages.specs.declared.table.Route.TheVariants.{Letters, Game, Paper}

abbrev pub letters_route : RouteOf Route
letters_route = record { pattern = codes "/letters"; text = codes "/letters"; names = []; value = Letters }

abbrev pub game_route : RouteOf Route
game_route = record { pattern = codes "/games/" ++ param_token ∷ []; text = codes "/games/{game}"; names = (8, 12) ∷ []; value = Game }

abbrev pub paper_route : RouteOf Route
paper_route = record {
  pattern = codes "/games/" ++ (param_token ∷ codes "/papers/" ++ param_token ∷ []);
  text = codes "/games/{game}/papers/{number}";
  names = (8, 12) ∷ (22, 28) ∷ [];
  value = Paper;
}

-- the rows in matchit's order: the longer of two that begin alike comes first
abbrev pub table : RowsOf (RouteOf Route)
table = (paper_route.pattern, paper_route) ∷ (game_route.pattern, game_route) ∷ (letters_route.pattern, letters_route) ∷ []
