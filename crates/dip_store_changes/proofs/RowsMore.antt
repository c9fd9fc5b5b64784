-- Orders, units and centres after the others, some more and none.
use Rattle.std.proofs.Common.{◌≡◌, ℕ, List, [], ◌∷◌, ◌++◌, map, Option, ap, sym, ◌∙◌, append_assoc, append-nil, arith, ◌≤◌, ◌-◌, length, get_or, take, drop}
use Rattle.std.proofs.lemmas.List.{take_all}
use Rattle.sqlite.specs.State.{State}
use Rattle.sqlite.specs.declared.error.Error.{Error}
use Rattle.dip_store_sql.proofs.Parts.{went, writes_none}
use Rattle.dip_store_sql.specs.Transactions.{Does, always}
use Rattle.dip_store_tables.specs.Lists.{delete_where}
use Rattle.dip_names.specs.declared.names.Unit.{Unit as AUnit}
use Rattle.dip_map.specs.Charts.{Chart}
use Rattle.dip_map.specs.Boards.{Position}
use Rattle.dip_map.specs.declared.boards.Dislodged.{Dislodged}
use Rattle.dip_store_tables.specs.Boards.{UnitRow, CentreRow, centre_rows, centre_rows_from, dislodged_row, standing_row}
use Rattle.dip_store_sql.specs.TablesAfter.{more_orders, no_centres, no_units}
use Rattle.dip_store_tables.specs.Tables.{PendingRow, Tables, is_unit_in, is_centre_in}
use Rattle.dip_store_changes.specs.Boards.{more_units, more_centres, with_board}

pub orders_more : (ps qs rs : List PendingRow) → rs ≡ ps ++ qs → (t : Tables) → more_orders qs (more_orders ps t) ≡ more_orders rs t
orders_more ps qs rs is t = ap (λ rows. record t { pending = rows }) (append_assoc t.pending ps qs ∙ ap (λ xs. t.pending ++ xs) (sym is))

-- a list by its first three
pub three_front : {A : Type 0} (xs : List A) (a b c : A) → 3 ≤ length xs → a ≡ get_or xs 0 a → b ≡ get_or xs 1 b → c ≡ get_or xs 2 c → xs ≡ a ∷ b ∷ c ∷ take (length xs - 3) (drop 3 xs)
three_front [] a b c long one other third = absurd (omega (arith, long))
three_front (x ∷ []) a b c long one other third = absurd (omega (arith, long))
three_front (x ∷ y ∷ []) a b c long one other third = absurd (omega (arith, long))
three_front (x ∷ y ∷ z ∷ zs) a b c long one other third =
    let left : length (x ∷ y ∷ z ∷ zs) - 3 ≡ length zs = omega arith in
    let rest : zs ≡ take (length (x ∷ y ∷ z ∷ zs) - 3) zs = sym (ap (λ (n : ℕ). take n zs) left ∙ take_all (length zs) zs (omega arith)) in
    λ i. sym one i ∷ sym other i ∷ sym third i ∷ rest i

-- three rows by other names
pub three_rows : (a b c x y z : PendingRow) → a ≡ x → b ≡ y → c ≡ z → a ∷ b ∷ c ∷ [] ≡ x ∷ y ∷ z ∷ []
three_rows a b c x y z one other third = λ i. one i ∷ other i ∷ third i ∷ []

pub units_more : (ps qs rs : List UnitRow) → rs ≡ ps ++ qs → (t : Tables) → more_units qs (more_units ps t) ≡ more_units rs t
units_more ps qs rs is t = ap (λ rows. record t { units = rows }) (append_assoc t.units ps qs ∙ ap (λ xs. t.units ++ xs) (sym is))

pub centres_more : (ps qs rs : List CentreRow) → rs ≡ ps ++ qs → (t : Tables) → more_centres qs (more_centres ps t) ≡ more_centres rs t
centres_more ps qs rs is t = ap (λ rows. record t { centres = rows }) (append_assoc t.centres ps qs ∙ ap (λ xs. t.centres ++ xs) (sym is))

pub no_orders_more : (t : Tables) → more_orders [] t ≡ t
no_orders_more t = ap (λ rows. record t { pending = rows }) (append-nil t.pending)

-- no order is put in
pub no_orders_put : (a : State) → Does (more_orders []) always a a (went (Unit {0}) Error tt)
no_orders_put a = record { writes = writes_none (more_orders []) a (Unit {0}) Error tt no_orders_more; ready = λ clean ready. ready; fails = λ clean ready keep. tt; blames = λ clean ready. tt }

pub no_units_more : (t : Tables) → more_units [] t ≡ t
no_units_more t = ap (λ rows. record t { units = rows }) (append-nil t.units)

pub no_centres_more : (t : Tables) → more_centres [] t ≡ t
no_centres_more t = ap (λ rows. record t { centres = rows }) (append-nil t.centres)

-- the statements of a board, one after the other
pub board_put : (m : Chart) (name : List ℕ) (b : Position) (us : List AUnit) (ds : List Dislodged) (os : List (Option ℕ)) → us ≡ b.units → ds ≡ b.dislodged → os ≡ b.owners → (t : Tables)
    → more_centres (centre_rows_from m name 0 os) (no_centres name (more_units (map (dislodged_row m name) ds) (more_units (map (standing_row m name) us) (no_units name t)))) ≡ with_board m name b t
board_put m name b us ds os u d o t = rw (u, d, o) (ap (λ rows. record t { units = rows; centres = delete_where (is_centre_in name) t.centres ++ centre_rows m name b })
    (append_assoc (delete_where (is_unit_in name) t.units) (map (standing_row m name) b.units) (map (dislodged_row m name) b.dislodged)))
