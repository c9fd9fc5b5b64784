-- The master's row says the same map after a change, and after tables are made anew.
use Rattle.std.proofs.Common.{◌≡◌, [], ◌∷◌, ap, inl, inr, refl, ◌∙◌, ℕ, List, codes, option_map}
use Rattle.std.proofs.lemmas.Bool.{cases_Bool}
use Rattle.std.specs.List.{find}
use Rattle.dip_store_tables.specs.Lists.{update_where}
use Rattle.dip_map.specs.Charts.{Chart}
use Rattle.dip_desk_state.specs.Records.{Kept}
use Rattle.dip_desk_state.specs.State.{Author, Change, Delivers, Effect, Nobody, Nothing, Opens, Pending, Publishes, Seat, Seats, TheMaster, Votes}
use Rattle.dip_store_schema.specs.Desk.{DeskSays}
use Rattle.dip_store_sql.specs.TablesAfter.{is_first}
use Rattle.dip_store_tables.specs.Changing.{changing, noting, ordering, reaching}
use Rattle.dip_store_tables.specs.Renewing.{renewed, second}
use Rattle.dip_store_tables.specs.Tables.{DeskRow, Tables}
use Rattle.dip_store_tables.specs.Writing.{as_printed, desk_noted}

-- the first row stays the first, where a change of it leaves its key
first_changed : (f : DeskRow → DeskRow) → ((d : DeskRow) → is_first (f d) ≡ is_first d) → (ds : List DeskRow) → find is_first (update_where is_first f ds) ≡ option_map f (find is_first ds)
first_changed f keeps [] = refl
first_changed f keeps (d ∷ ds) = elim (cases_Bool (is_first d)) [
  | inl e ↦ rw (e, keeps d ∙ e) refl
  | inr e ↦ rw (e, e) (first_changed f keeps ds)
]

-- whatever else the tables have
same_row : (map_sum : List ℕ) (t u : Tables) → u.desk ≡ t.desk → DeskSays 2 map_sum t → DeskSays 2 map_sum u
same_row map_sum t u same it = record {
  desk = it.desk;
  found = ap (find is_first) same ∙ it.found;
  version_is = it.version_is;
  map_is = it.map_is;
}

-- with the master's last letter, too
noted_says : (m : Chart) (name : List ℕ) (k : Kept) (e : Effect) (map_sum : List ℕ) (t : Tables) (who : Author) → DeskSays 2 map_sum t → DeskSays 2 map_sum (noting m who name k e t)
noted_says m name k e map_sum t Nobody it = it
noted_says m name k e map_sum t TheMaster it = record {
  desk = desk_noted (as_printed name (codes "master") k) it.desk;
  found = first_changed (desk_noted (as_printed name (codes "master") k)) (λ d. refl) t.desk ∙ ap (option_map (desk_noted (as_printed name (codes "master") k))) it.found;
  version_is = it.version_is;
  map_is = it.map_is;
}
noted_says m name k e map_sum t (Seat power) it = same_row map_sum t (noting m (Seat power) name k e t) refl it

-- no order, vote or effect touches the row
ordered_desk : (m : Chart) (name : List ℕ) (t : Tables) (who : Author) (e : Effect) → (ordering m who name e t).desk ≡ t.desk
ordered_desk m name t Nobody (Pending orders) = refl
ordered_desk m name t TheMaster (Pending orders) = refl
ordered_desk m name t (Seat power) (Pending orders) = refl
ordered_desk m name t Nobody (Votes vote) = refl
ordered_desk m name t TheMaster (Votes vote) = refl
ordered_desk m name t (Seat power) (Votes vote) = refl
ordered_desk m name t who Nothing = refl
ordered_desk m name t who (Delivers readers item) = refl
ordered_desk m name t who (Opens public paper seats) = refl
ordered_desk m name t who (Publishes public paper played) = refl
ordered_desk m name t who (Seats seat) = refl

reached_desk : (m : Chart) (name : List ℕ) (t : Tables) (e : Effect) → (reaching m name e t).desk ≡ t.desk
reached_desk m name t Nothing = refl
reached_desk m name t (Pending orders) = refl
reached_desk m name t (Votes vote) = refl
reached_desk m name t (Delivers readers item) = refl
reached_desk m name t (Opens public paper seats) = refl
reached_desk m name t (Publishes public paper played) = refl
reached_desk m name t (Seats seat) = refl

pub changed_says : (m : Chart) (c : Change) (map_sum : List ℕ) (t : Tables) → DeskSays 2 map_sum t → DeskSays 2 map_sum (changing m c t)
changed_says m c map_sum t it =
    let noted = noting m c.author c.game c.kept c.effect t in
    let u = ordering m c.author c.game c.effect noted in
    same_row map_sum noted (changing m c t) (reached_desk m c.game u c.effect ∙ ordered_desk m c.game noted c.author c.effect)
    (noted_says m c.game c.kept c.effect map_sum t c.author it)

-- a master's row of version 1 becomes one of version 2
pub renewed_says : (map_sum : List ℕ) (t : Tables) → DeskSays 1 map_sum t → DeskSays 2 map_sum (renewed t)
renewed_says map_sum t it = record {
  desk = second it.desk;
  found = first_changed second (λ d. refl) t.desk ∙ ap (option_map second) it.found;
  version_is = refl;
  map_is = it.map_is;
}
