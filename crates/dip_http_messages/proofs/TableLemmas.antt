-- The table that the three routes make.
use Rattle.std.proofs.Common.{◌≡◌, [], ◌∷◌, Ok, Err, codes, refl}
use Rattle.matchit.specs.declared.error.InsertError.{InsertError}
use Rattle.matchit.specs.declared.error.InsertError.TheVariants.{Conflict, InvalidParamSegment, InvalidParam, InvalidCatchAll, OutOfMemory}
use Rattle.matchit.specs.Rows.{RowsOf}
use Rattle.matchit.specs.Router.{RouteOf, InsertsRead}
use Rattle.matchit.specs.Route.{parse_route}
use Rattle.matchit.proofs.OnLiterals.{matchit_on_literals}
use Rattle.dip_http_messages.specs.declared.table.Route.{Route}
use Rattle.dip_http_messages.specs.declared.table.Route.TheVariants.{Letters, Game, Paper}
use Rattle.dip_http_messages.specs.Table.{table, letters_route, game_route}

pub first_row : (new : RowsOf (RouteOf Route)) → InsertsRead (parse_route (codes "/letters")) Letters [] new (Ok tt) → new ≡ (letters_route.pattern, letters_route) ∷ []
unfolding matchit_on_literals
first_row new h = h.1

pub second_row : (new : RowsOf (RouteOf Route)) → InsertsRead (parse_route (codes "/games/{game}")) Game ((letters_route.pattern, letters_route) ∷ []) new (Ok tt) → new ≡ (game_route.pattern, game_route) ∷ (letters_route.pattern, letters_route) ∷ []
unfolding matchit_on_literals
second_row new h = h.1

pub third_row : (new : RowsOf (RouteOf Route)) → InsertsRead (parse_route (codes "/games/{game}/papers/{number}")) Paper ((game_route.pattern, game_route) ∷ (letters_route.pattern, letters_route) ∷ []) new (Ok tt) → new ≡ table
unfolding matchit_on_literals
third_row new h = h.1

-- no two of them are in conflict, so that want of memory alone keeps one out
pub first_fault : (new : RowsOf (RouteOf Route)) (e : InsertError) → InsertsRead (parse_route (codes "/letters")) Letters [] new (Err e) → e ≡ OutOfMemory
unfolding matchit_on_literals
first_fault new OutOfMemory h = refl
first_fault new (Conflict with) h = absurd (let is = h.1.1 in cc)
first_fault new InvalidParamSegment h = absurd h.1
first_fault new InvalidParam h = absurd h.1
first_fault new InvalidCatchAll h = absurd h.1

pub second_fault : (new : RowsOf (RouteOf Route)) (e : InsertError) → InsertsRead (parse_route (codes "/games/{game}")) Game ((letters_route.pattern, letters_route) ∷ []) new (Err e) → e ≡ OutOfMemory
unfolding matchit_on_literals
second_fault new OutOfMemory h = refl
second_fault new (Conflict with) h = absurd (let is = h.1.1 in cc)
second_fault new InvalidParamSegment h = absurd h.1
second_fault new InvalidParam h = absurd h.1
second_fault new InvalidCatchAll h = absurd h.1

pub third_fault : (new : RowsOf (RouteOf Route)) (e : InsertError) → InsertsRead (parse_route (codes "/games/{game}/papers/{number}")) Paper ((game_route.pattern, game_route) ∷ (letters_route.pattern, letters_route) ∷ []) new (Err e) → e ≡ OutOfMemory
unfolding matchit_on_literals
third_fault new OutOfMemory h = refl
third_fault new (Conflict with) h = absurd (let is = h.1.1 in cc)
third_fault new InvalidParamSegment h = absurd h.1
third_fault new InvalidParam h = absurd h.1
third_fault new InvalidCatchAll h = absurd h.1
