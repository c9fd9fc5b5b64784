use Rattle.std.proofs.Common.{refl, [], None}
use Rattle.dip_store_tables.proofs.table_laws.new_tables_are_new.Goals as goal

pub returns : goal.returns
returns g m map_sum digest = record {
  says = refl;
  coded = record { desk = (_, refl, refl); seats = tt; games = tt; ballots = tt };
  counted = record { papers = tt; items = tt };
  apart = record { games = tt; seats = tt };
  written = λ wide. record { desk = (record { digest = wide; letter = ([], None, (refl, refl, refl)) }, tt); games = tt; seats = tt; pending = tt; boxes = tt; ballots = tt };
}
