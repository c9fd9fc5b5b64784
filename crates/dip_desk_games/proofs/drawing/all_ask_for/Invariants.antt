use Rattle.std.proofs.Common.{◌≡◌, ℕ, Bool, drop, map}
use Rattle.std.specs.List.{list_all}
use Rattle.dip_desk_games.specs.Drawing as d
use Rattle.dip_desk_state.specs.Rows as rows
use Rattle.dip_desk_games.proofs.drawing.all_ask_for.Given as goal

abbrev pub invariant-loop-power : goal.invariant-loop-power
invariant-loop-power l =
    let asks : ℕ → Bool = λ p. d.is_set l.set (d.asked l.survivors (d.vote_of (map (λ o. rows.own o) l.seats) p)) in
    list_all asks (drop l.power-index l.powers) ≡ list_all asks l.powers
