-- Games and seats keep their keys under any change.
use Rattle.std.proofs.Common.{◌≡◌, ◌==◌, Bool, true, false, cond, Some, refl}
use Rattle.std.specs.List.{list_any}
use Rattle.dip_desk_state.specs.Records.{Kept, Own}
use Rattle.dip_desk_state.specs.State.{Change, Effect, Nothing, Pending, Votes, Delivers, Opens, Publishes, Seats, Game, Part, after_paper, game_after, name_of, own_effect, power_in, public_after, with_digest, with_effect, with_item, with_letter}

-- an own part and a seat keep their power
pub own_power : (e : Effect) (o : Own) → (own_effect e o).power ≡ o.power
own_power Nothing o = refl
own_power (Pending orders) o = refl
own_power (Votes vote) o = refl
own_power (Delivers readers item) o = refl
own_power (Opens public paper seats) o = refl
own_power (Publishes public paper played) o = refl
own_power (Seats seat) o = refl

pub effect_power : (e : Effect) (s : Part) → power_in (with_effect e s) ≡ power_in s
effect_power Nothing s = refl
effect_power (Pending orders) s = refl
effect_power (Votes vote) s = refl
effect_power (Delivers readers item) s = go (list_any (λ p. p == power_in s) readers)
  where
    go : (t : Bool) → power_in (cond t (with_item item s) s) ≡ power_in s
    go true = refl
    go false = refl
effect_power (Opens public paper seats) s = refl
effect_power (Publishes public paper played) s = go played
  where
    go : (t : Bool) → power_in (after_paper t s) ≡ power_in s
    go true = refl
    go false = refl
effect_power (Seats seat) s = go (seat.power == power_in s)
  where
    go : (t : Bool) → power_in (cond t (with_digest seat.digest s) s) ≡ power_in s
    go true = refl
    go false = refl

pub letter_power : (k : Kept) (e : Effect) (s : Part) → power_in (with_letter k e s) ≡ power_in s
letter_power k e s = own_power e (record s.own { kept = Some k })

-- a game keeps its name under any change
pub name_kept : (c : Change) (g : Game) → name_of (game_after c g) ≡ name_of g
name_kept c g = go c.effect
  where
    go : (e : Effect) → (public_after e g.public).game ≡ g.public.game
    go Nothing = refl
    go (Pending orders) = refl
    go (Votes vote) = refl
    go (Delivers readers item) = refl
    go (Opens public paper seats) = refl
    go (Publishes public paper played) = refl
    go (Seats seat) = refl
