use Rattle.std.proofs.Common.{◌≡◌, map, take}
use Rattle.sqlite.specs.Order.{bytes, column}
use Rattle.dip_store_tables.specs.Boards.{power_name}
use Rattle.dip_store_counts.specs.Counts.{shown_reader}
use Rattle.dip_store_counts.proofs.readers.readers_in.Given as goal

abbrev pub invariant-loop-row : goal.invariant-loop-row
invariant-loop-row l = record {
  shown : l.readers.items ≡ map (shown_reader l.map) (take l.row-index l.rows);
  names : map (λ r. power_name l.map r.power) l.readers.items ≡ map (λ r. bytes (column r 0)) (take l.row-index l.rows);
}
