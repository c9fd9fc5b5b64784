-- What the parts of a change make of the tables, with its counts handed over.
use Rattle.std.specs.Prelude.{ℕ, Bool, List, Option}
use Rattle.dip_map.specs.Charts.{Chart}
use Rattle.dip_desk_state.specs.Records.{Standing}
use Rattle.dip_desk_state.specs.State.{Author, Nobody, TheMaster, Seat, Effect, Nothing, Pending, Votes, Delivers, Opens, Publishes, Seats, Change}
use Rattle.dip_store_tables.specs.Boards.{power_name}
use Rattle.dip_store_tables.specs.Changing.{opening, publishing, replacing, voting_by}
use Rattle.dip_store_tables.specs.Tables.{Tables}
use Rattle.dip_store_sql.specs.Keys.{OrdersDiffer}
use Rattle.dip_store_changes.specs.Delivering.{delivering_all}
use Rattle.dip_store_counts.specs.Noting.{noting_row}
use Rattle.dip_store_changes.specs.Orders.{with_orders_over}
use Rattle.dip_store_counts.specs.declared.readers.Reader.{Reader}
use Rattle.dip_store_counts.specs.declared.known.AuthorRow.{AuthorRow}

-- the effect on its game, where press goes to these readers
abbrev pub reaching_all : List Reader → Chart → List ℕ → Effect → Tables → Tables
reaching_all rs m name Nothing t = t
reaching_all rs m name (Pending orders) t = t
reaching_all rs m name (Votes vote) t = t
reaching_all rs m name (Delivers readers item) t = delivering_all m name item rs t
reaching_all rs m name (Opens public paper seats) t = opening m public paper seats t
reaching_all rs m name (Publishes public paper played) t = publishing m name public paper played t
reaching_all rs m name (Seats seat) t = replacing m name seat t

-- where the effect gives its author orders, no two orders agree on their key
abbrev pub GivenOrdersDiffer : Effect → Tables → Type 0
GivenOrdersDiffer Nothing t = Unit {0}
GivenOrdersDiffer (Pending orders) t = OrdersDiffer t
GivenOrdersDiffer (Votes vote) t = Unit {0}
GivenOrdersDiffer (Delivers readers item) t = Unit {0}
GivenOrdersDiffer (Opens public paper seats) t = Unit {0}
GivenOrdersDiffer (Publishes public paper played) t = Unit {0}
GivenOrdersDiffer (Seats seat) t = Unit {0}

abbrev pub ordering_by_over : Bool → Chart → Author → List ℕ → List Standing → Tables → Tables
ordering_by_over none m Nobody name orders t = t
ordering_by_over none m TheMaster name orders t = t
ordering_by_over none m (Seat power) name orders t = with_orders_over none m name (power_name m power) orders t

-- what the author orders or votes for, where the effect says it
abbrev pub ordering_over : Bool → Chart → Author → List ℕ → Effect → Tables → Tables
ordering_over none m who name Nothing t = t
ordering_over none m who name (Pending orders) t = ordering_by_over none m who name orders t
ordering_over none m who name (Votes vote) t = voting_by m who name vote t
ordering_over none m who name (Delivers readers item) t = t
ordering_over none m who name (Opens public paper seats) t = t
ordering_over none m who name (Publishes public paper played) t = t
ordering_over none m who name (Seats seat) t = t

-- a change: its author's row, whose other columns are these, the author's orders, and the effect on the game
abbrev pub changing_row : Option AuthorRow → Bool → List Reader → Chart → Change → Tables → Tables
changing_row row none rs m c t =
    reaching_all rs m c.game c.effect (ordering_over none m c.author c.game c.effect (noting_row row m c.author c.game c.kept t))
