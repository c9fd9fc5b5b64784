-- Rows whose texts are short can be stored.
use Rattle.std.proofs.Common.{◌≡◌, ◌≤◌, ◌<◌, ◌^◌, inl, inr, ℕ, ℤ, pos, negsuc, true, [], ◌∷◌, length, lt-ltb, arith}
use Rattle.std.specs.List.{AllByRecursion}
use Rattle.std.specs.Float.{NotNan}
use Rattle.std.proofs.lemmas.List.Elements.{All-from_recursion}
use Rattle.std.proofs.lemmas.Nat.Bits.{bit_at-zero}
use Rattle.sqlite.specs.declared.types.Value.{Value}
use Rattle.sqlite.specs.declared.types.Value.TheVariants.{Int}
use Rattle.sqlite.specs.Order.{Row, number}
use Rattle.sqlite.specs.Edit.{IsOversized, id_in}
use Rattle.sqlite.specs.Ops.{fits_i64}
use Rattle.sqlite.specs.Table.{Table}
use Rattle.sqlite.specs.Tree.{rowid}
use Rattle.sqlite_schema.specs.declared.schema.Index.{Index}
use Rattle.sqlite_schema.specs.Rules.{index_reals, table_reals}
use Rattle.sqlite_sql.specs.Catalog.{entry_of}
use Rattle.sqlite_trees.specs.View.{IsStorable}
use Rattle.dip_store_rows.specs.Tables.{BallotRow, ChoiceRow, DeskRow, SeatRow}
use Rattle.dip_store_sql.specs.Rows.{put_ballot, put_choice, put_desk, put_seat}
use Rattle.dip_store_sql.specs.Schema.{our_schema, ballot_table, choice_table, desk_table, seat_table}
use Rattle.dip_store_sql.specs.Storing.{CanStand, IsShortBallot, IsShortDesk, IsShortSeat}
use Rattle.dip_store_sql.proofs.Founding.{each_has}

-- an entry of each index of the table can be stored
abbrev EntriesFit : Table → Row → Type 0
EntriesFit table row = AllByRecursion (λ (i : Index). i.table ≡ table.tree → IsStorable (index_reals (table_reals table) i.columns) (entry_of i.columns row)) our_schema.indexes

stands : (table : Table) (row : Row) → IsStorable (table_reals table) row → 1 < length row → EntriesFit table row → fits_i64 (id_in (rowid row)) ≡ true → CanStand table row
stands table row whole long entries fits = (not_big, fits)
  where
    not_big : IsOversized our_schema table row → ⊥
    not_big (inl big) = big (whole, long)
    not_big (inr i) = i.3 (each_has (λ (i : Index). i.table ≡ table.tree → IsStorable (index_reals (table_reals table) i.columns) (entry_of i.columns row)) our_schema.indexes i.0 entries i.1 i.2)

whole_number : (z : ℤ) → NotNan (number (Int z))
unfolding lib.Ieee.is_nan
whole_number (pos n) = tt
whole_number (negsuc n) = tt

abbrev IsNumbered : Value → Type 0
IsNumbered v = NotNan (number v)

pub fits_number : (n : ℕ) → n < 2 ^ 63 → fits_i64 (pos n) ≡ true
fits_number n low = lt-ltb n (2 ^ 63) low

module _ (z : ℤ) (fits : fits_i64 z ≡ true) where
  pub ballot_stands_short : (b : BallotRow) → IsShortBallot b → CanStand ballot_table (Int z ∷ put_ballot b)
  unfolding lib.Ieee.is_nan
  ballot_stands_short b short =
      let row = Int z ∷ put_ballot b in
      let whole : IsStorable (table_reals ballot_table) row = record {
        typed = λ c h. absurd (omega (arith, h, bit_at-zero c));
        columns = (omega arith, omega arith);
        numbers = All-from_recursion IsNumbered row (whole_number z, (tt, (tt, (tt, tt))));
        short = omega (arith, short.game, short.power, short.names);
      } in
      let entry : IsStorable (index_reals (table_reals ballot_table) (1 ∷ 2 ∷ [])) (entry_of (1 ∷ 2 ∷ []) row) = record {
        typed = λ c h. absurd (omega (arith, h, bit_at-zero c));
        columns = (omega arith, omega arith);
        numbers = All-from_recursion IsNumbered (entry_of (1 ∷ 2 ∷ []) row) (tt, (tt, (whole_number z, tt)));
        short = omega (arith, short.game, short.power);
      } in
      stands ballot_table row whole (omega arith)
      (λ h. absurd (omega (arith, h)), (λ h. absurd (omega (arith, h)), (λ h. absurd (omega (arith, h)), (λ h. absurd (omega (arith, h)), (λ h. absurd (omega (arith, h)), (λ h. absurd (omega (arith, h)), (λ h. absurd (omega (arith, h)), (λ h. absurd (omega (arith, h)), (λ h. entry, (λ h. absurd (omega (arith, h)), tt)))))))))) fits

  pub choice_stands_short : (x : ChoiceRow) → length x.game ≤ 10 ^ 8 → CanStand choice_table (Int z ∷ put_choice x)
  unfolding lib.Ieee.is_nan
  choice_stands_short x short =
      let row = Int z ∷ put_choice x in
      let whole : IsStorable (table_reals choice_table) row = record {
        typed = λ c h. absurd (omega (arith, h, bit_at-zero c));
        columns = (omega arith, omega arith);
        numbers = All-from_recursion IsNumbered row (whole_number z, (tt, (tt, tt)));
        short = omega (arith, short);
      } in
      let entry : IsStorable (index_reals (table_reals choice_table) (1 ∷ [])) (entry_of (1 ∷ []) row) = record {
        typed = λ c h. absurd (omega (arith, h, bit_at-zero c));
        columns = (omega arith, omega arith);
        numbers = All-from_recursion IsNumbered (entry_of (1 ∷ []) row) (tt, (whole_number z, tt));
        short = omega (arith, short);
      } in
      stands choice_table row whole (omega arith)
      (λ h. absurd (omega (arith, h)), (λ h. absurd (omega (arith, h)), (λ h. absurd (omega (arith, h)), (λ h. absurd (omega (arith, h)), (λ h. absurd (omega (arith, h)), (λ h. absurd (omega (arith, h)), (λ h. absurd (omega (arith, h)), (λ h. absurd (omega (arith, h)), (λ h. absurd (omega (arith, h)), (λ h. entry, tt)))))))))) fits

  pub seat_stands_short : (s : SeatRow) → IsShortSeat s → CanStand seat_table (Int z ∷ put_seat s)
  unfolding lib.Ieee.is_nan
  seat_stands_short s short =
      let row = Int z ∷ put_seat s in
      let whole : IsStorable (table_reals seat_table) row = record {
        typed = λ c h. absurd (omega (arith, h, bit_at-zero c));
        columns = (omega arith, omega arith);
        numbers = All-from_recursion IsNumbered row (whole_number z, (tt, (tt, (tt, (tt, (tt, (tt, (tt, (tt, (tt, tt))))))))));
        short = omega (arith, short.game, short.power, short.digest, short.kept, short.reply);
      } in
      let entry : IsStorable (index_reals (table_reals seat_table) (1 ∷ 2 ∷ [])) (entry_of (1 ∷ 2 ∷ []) row) = record {
        typed = λ c h. absurd (omega (arith, h, bit_at-zero c));
        columns = (omega arith, omega arith);
        numbers = All-from_recursion IsNumbered (entry_of (1 ∷ 2 ∷ []) row) (tt, (tt, (whole_number z, tt)));
        short = omega (arith, short.game, short.power);
      } in
      stands seat_table row whole (omega arith)
      (λ h. absurd (omega (arith, h)), (λ h. absurd (omega (arith, h)), (λ h. entry, (λ h. absurd (omega (arith, h)), (λ h. absurd (omega (arith, h)), (λ h. absurd (omega (arith, h)), (λ h. absurd (omega (arith, h)), (λ h. absurd (omega (arith, h)), (λ h. absurd (omega (arith, h)), (λ h. absurd (omega (arith, h)), tt)))))))))) fits

  pub desk_stands_short : (d : DeskRow) → IsShortDesk d → CanStand desk_table (Int z ∷ put_desk d)
  unfolding lib.Ieee.is_nan
  desk_stands_short d short =
      let row = Int z ∷ put_desk d in
      let whole : IsStorable (table_reals desk_table) row = record {
        typed = λ c h. absurd (omega (arith, h, bit_at-zero c));
        columns = (omega arith, omega arith);
        numbers = All-from_recursion IsNumbered row (whole_number z, (tt, (tt, (tt, (tt, (tt, (tt, (tt, tt))))))));
        short = omega (arith, short.map, short.digest, short.kept, short.reply);
      } in
      let entry : IsStorable (index_reals (table_reals desk_table) (1 ∷ [])) (entry_of (1 ∷ []) row) = record {
        typed = λ c h. absurd (omega (arith, h, bit_at-zero c));
        columns = (omega arith, omega arith);
        numbers = All-from_recursion IsNumbered (entry_of (1 ∷ []) row) (tt, (whole_number z, tt));
        short = omega arith;
      } in
      stands desk_table row whole (omega arith)
      (λ h. entry, (λ h. absurd (omega (arith, h)), (λ h. absurd (omega (arith, h)), (λ h. absurd (omega (arith, h)), (λ h. absurd (omega (arith, h)), (λ h. absurd (omega (arith, h)), (λ h. absurd (omega (arith, h)), (λ h. absurd (omega (arith, h)), (λ h. absurd (omega (arith, h)), (λ h. absurd (omega (arith, h)), tt)))))))))) fits
