-- What the desk's records say, without where they lie in memory.
use Rattle.std.specs.Prelude.{map, option_map, string_bytes}
use Rattle.dip_desk_state.specs.State as s
use Rattle.dip_desk_state.specs.Rows as rows
use Rattle.dip_desk_state.specs.declared.changes.Desk.{Desk}
use Rattle.dip_desk_state.specs.declared.changes.Author.{Author}
use Rattle.dip_desk_state.specs.declared.changes.Author.TheVariants.{Nobody, TheMaster, Seat}
use Rattle.dip_desk_state.specs.declared.changes.NewSeat.{NewSeat}
use Rattle.dip_desk_state.specs.declared.changes.Effect.{Effect}
use Rattle.dip_desk_state.specs.declared.changes.Effect.TheVariants.{Nothing, Pending, Votes, Delivers, Opens, Publishes, Seats}
use Rattle.dip_desk_state.specs.declared.changes.Change.{Change}

abbrev pub desk : Desk → s.Desk
desk d = record { digest = d.digest; kept = option_map rows.kept d.kept }

abbrev pub author : Author → s.Author
author Nobody = s.Nobody
author TheMaster = s.TheMaster
author (Seat power) = s.Seat power

abbrev pub new_seat : NewSeat → s.NewSeat
new_seat n = record { power = n.power; digest = n.digest }

abbrev pub effect : Effect → s.Effect
effect Nothing = s.Nothing
effect (Pending orders) = s.Pending (rows.standings orders.items)
effect (Votes vote) = s.Votes (rows.vote vote)
effect (Delivers readers item) = s.Delivers readers.items (rows.item item.value)
effect (Opens public paper seats) = s.Opens (rows.public public) (string_bytes paper) (map new_seat seats.items)
effect (Publishes public paper played) = s.Publishes (rows.public public) (string_bytes paper) played
effect (Seats seat) = s.Seats (new_seat seat)

abbrev pub change : Change → s.Change
change c = record { game = string_bytes c.game; author = author c.author; kept = rows.kept c.kept; effect = effect c.effect }
