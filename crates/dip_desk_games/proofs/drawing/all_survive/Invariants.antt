use Rattle.std.proofs.Common.{◌≡◌, drop}
use Rattle.std.specs.List.{list_all}
use Rattle.dip_desk_games.specs.Among.{is_among}
use Rattle.dip_desk_games.proofs.drawing.all_survive.Given as goal

abbrev pub invariant-loop-power : goal.invariant-loop-power
invariant-loop-power l = list_all (λ p. is_among p l.survivors) (drop l.power-index l.set) ≡ list_all (λ p. is_among p l.survivors) l.set
