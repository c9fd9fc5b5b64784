-- What the open places hold, as the rules of reading a retreat ask for it.
use Rattle.std.proofs.Common.{◌≡◌, ℕ, ◌==◌, ◌&&◌, List, ap, Option, None}
use Rattle.std.specs.Prelude.{if◌then◌else◌}
use Rattle.std.specs.List.{filter}
use Rattle.std.specs.Str.{bytes_eq}
use Rattle.std.proofs.lemmas.Bool.{and_parts, eqb-true}
use Rattle.dip_names.specs.declared.names.Place.{Place}
use Rattle.dip_map.specs.Charts.{Chart, shore}
use Rattle.dip_map.specs.Boards.{Position}
use Rattle.dip_orders.specs.Conditions.{first_in, count_in, named_in}
use Rattle.dip_orders_placed.specs.Retreats.{is_open}
use Rattle.dip_orders_placed.proofs.KeptLaws.{find_kept, count_kept}

-- the first open place in a province, how many there are, and the one of a coast
pub first_open : (b : Position) (o : Option ℕ) (places : List Place) (q : ℕ) → first_in (filter (λ a. is_open b o a.prov) places) q ≡ if is_open b o q then first_in places q else None
first_open b o places q = find_kept (λ a. is_open b o a.prov) (λ a. a.prov == q) (is_open b o q) (λ a h. ap (is_open b o) (eqb-true a.prov q h)) places

pub count_open : (b : Position) (o : Option ℕ) (places : List Place) (q : ℕ) → count_in (filter (λ a. is_open b o a.prov) places) q ≡ if is_open b o q then count_in places q else 0
count_open b o places q = count_kept (λ a. is_open b o a.prov) (λ a. a.prov == q) (is_open b o q) (λ a h. ap (is_open b o) (eqb-true a.prov q h)) places

pub named_open : (m : Chart) (b : Position) (o : Option ℕ) (places : List Place) (q : ℕ) (name : List ℕ) → named_in m (filter (λ a. is_open b o a.prov) places) q name ≡ if is_open b o q then named_in m places q name else None
named_open m b o places q name = find_kept (λ a. is_open b o a.prov) (λ a. (a.prov == q) && bytes_eq (shore m a).name name) (is_open b o q) (λ a h. ap (is_open b o) (eqb-true a.prov q (and_parts _ _ h).0)) places
