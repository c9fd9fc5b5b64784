-- What fits finds place in memory.
use Rattle.std.proofs.Common.{Option, None, Some, arith, inl, inr, sym, ◌∙◌}
use Rattle.std.proofs.lemmas.Bool.{false≢true}
use Rattle.dip_map.specs.Charts.{Chart}
use Rattle.dip_desk_keeper.specs.Fitting.{Fits, FitsGame}
use Rattle.dip_desk_memory.specs.Lacking.{LacksPlace}
use Rattle.dip_desk_state.specs.State.{Change, Effect, Game, Nothing, Pending, Votes, Delivers, Opens, Publishes, Seats, State, game_at}

-- a change that fits doesn't lack place
pub fits_in_place : (m : Chart) (c : Change) (s : State) → Fits m c s → LacksPlace c.game c.author c.effect (game_at c.game s) → ⊥
fits_in_place m c s fits = by c.effect (game_at c.game s) fits.effect
  where
    by : (e : Effect) (game : Option Game) → FitsGame m c.game c.author e game → LacksPlace c.game c.author e game → ⊥
    by Nothing game fit lacks = lacks
    by (Pending orders) game fit lacks = lacks
    by (Votes vote) game fit lacks = lacks
    by (Delivers readers item) None fit lacks = lacks
    by (Delivers readers item) (Some g) fit lacks = false≢true (sym lacks ∙ fit.1)
    by (Opens public paper seats) game fit lacks = elim lacks [
      | inl other ↦ other fit.1.0
      | inr more ↦ elim more [
        | inl many ↦ let one = fit.0.1 in omega (arith, one, many)
        | inr taken ↦ taken fit.1.1
      ]
    ]
    by (Publishes public paper played) None fit lacks = lacks
    by (Publishes public paper played) (Some g) fit lacks = let most = fit.1.1 in omega (arith, most, lacks)
    by (Seats seat) game fit lacks = lacks
