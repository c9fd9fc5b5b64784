-- After a change no key comes twice, so none does of its orders.
use Rattle.std.proofs.Common.{ℕ, Bool, List}
use Rattle.dip_map.specs.Charts.{Chart}
use Rattle.dip_desk_state.specs.State.{Author, Effect, Nothing, Pending, Votes, Delivers, Opens, Publishes, Seats}
use Rattle.dip_store_tables.specs.Tables.{Tables}
use Rattle.dip_store_sql.specs.Keys.{AreKeyed}
use Rattle.dip_store_counts.specs.declared.readers.Reader.{Reader}
use Rattle.dip_store_changes.specs.Parts.{GivenOrdersDiffer, ordering_over, reaching_all}

pub orders_keyed : (none : Bool) (rs : List Reader) (m : Chart) (who : Author) (name : List ℕ) (e : Effect) (t : Tables) → AreKeyed (reaching_all rs m name e (ordering_over none m who name e t)) → GivenOrdersDiffer e (ordering_over none m who name e t)
orders_keyed none rs m who name Nothing t keyed = tt
orders_keyed none rs m who name (Pending orders) t keyed = keyed.pending
orders_keyed none rs m who name (Votes vote) t keyed = tt
orders_keyed none rs m who name (Delivers readers item) t keyed = tt
orders_keyed none rs m who name (Opens public paper seats) t keyed = tt
orders_keyed none rs m who name (Publishes public paper played) t keyed = tt
orders_keyed none rs m who name (Seats seat) t keyed = tt
