-- What the tables note are distances.
use Rattle.std.proofs.Common.{◌≡◌, ℕ, ◌+◌, ◌<◌, ◌≤◌, Bool, get_or, length, map, List, [], ◌∷◌, ◌++◌, sym, ◌∙◌, ap, subst, inl, inr, arith, nat_lt, cond}
use Rattle.std.proofs.lemmas.Bool.{cases_lt, lt-ltb, le-ltb}
use Rattle.std.proofs.lemmas.List.{get_or_past, get_or_append_left, get_or_push, length_push, map_push, length-map}
use Rattle.std.specs.List.{range_with_len}
use Rattle.std.specs.Prelude.{Vec}
use Rattle.std.specs.declared.alloc.Global.{Global}
use Rattle.std.proofs.lemmas.List.FromFn.{length-map-range_with_len, map-range_with_len_more}
use Rattle.dip_map_chart.specs.Walk.{at, rows_of, AreLeast}
use Rattle.dip_names.specs.declared.names.Kind.{Kind}
use Rattle.dip_names.specs.declared.names.Kind.TheVariants.{Army, Fleet}
use Rattle.dip_names.specs.declared.names.Place.{Place}
use Rattle.dip_map_chart.specs.Charts.{Chart, IsMap}
use Rattle.dip_map_chart.specs.Walks.{Walk, IsDistance}
use Rattle.dip_map_chart.specs.Distances.{vertex, vertices, row, is_home_at, graph, homes, AreTables, Tables, noted_at, distance_in, AreDistances}
use Rattle.dip_map_chart.proofs.GraphLaws.{few_coasts}
use Rattle.dip_map_chart.proofs.WalkLaws.{march_to, march_back, sails_from, sail_to, sail_back, no_walk}

-- the graphs are small

vertices_most : (m : Chart) (kind : Kind) → length m.provinces ≤ 200 → vertices m kind ≤ 800
vertices_most m Army few = omega arith
vertices_most m Fleet few = omega arith

length-graph : (m : Chart) (kind : Kind) → length (graph m kind) ≡ vertices m kind
length-graph m kind = length-map-range_with_len (λ v. row m kind v) 0 (vertices m kind)

pub few_rows : (m : Chart) (kind : Kind) (g : List (Vec ℕ Global)) → length m.provinces ≤ 200 → rows_of g ≡ graph m kind → length g < 999
few_rows m kind g few same =
    let count : length g ≡ vertices m kind = sym (length-map g (λ (r : Vec ℕ Global). r.items)) ∙ ap (λ (xs : List (List ℕ)). length xs) same ∙ length-graph m kind in
    omega (arith, vertices_most m kind few)

-- one more vertex

pub graph_step : (m : Chart) (kind : Kind) (front : List (Vec ℕ Global)) (v : ℕ) (more : Vec ℕ Global) → rows_of front ≡ map (λ x. row m kind x) (range_with_len 0 v)
    → more.items ≡ row m kind v → rows_of (front ++ more ∷ []) ≡ map (λ x. row m kind x) (range_with_len 0 (v + 1))
graph_step m kind front v more before new =
    map_push (λ (r : Vec ℕ Global). r.items) front more
    ∙ ap (λ (xs : List (List ℕ)). xs ++ more.items ∷ []) before
    ∙ ap (λ (xs : List ℕ). map (λ x. row m kind x) (range_with_len 0 v) ++ xs ∷ []) new
    ∙ sym (map-range_with_len_more (λ x. row m kind x) 0 v v (omega arith))

pub homes_step : (m : Chart) (kind : Kind) (r : ℕ) (front : List Bool) (v : ℕ) → front ≡ map (λ x. is_home_at m kind r x) (range_with_len 0 v)
    → front ++ is_home_at m kind r v ∷ [] ≡ map (λ x. is_home_at m kind r x) (range_with_len 0 (v + 1))
homes_step m kind r front v before =
    ap (λ (xs : List Bool). xs ++ is_home_at m kind r v ∷ []) before
    ∙ sym (map-range_with_len_more (λ x. is_home_at m kind r x) 0 v v (omega arith))

-- one more table

pub tables_step : (m : Chart) (kind : Kind) (n : ℕ) (tables : List (List ℕ)) (table : List ℕ) → AreTables m kind n tables → AreLeast (graph m kind) (homes m kind n) table
    → AreTables m kind (n + 1) (tables ++ table ∷ [])
tables_step m kind n tables table before new = record {
  count = omega (arith, length_push tables table, before.count);
  least = λ r h.
      elim (cases_lt r n) [
        | inl old ↦
            let same : get_or (tables ++ table ∷ []) r [] ≡ get_or tables r [] = get_or_append_left tables (table ∷ []) [] r (omega (arith, before.count)) in
            subst (λ (t : List ℕ). AreLeast (graph m kind) (homes m kind r) t) (sym same) (before.least r old)
        | inr last ↦
            let e : r ≡ n = omega arith in
            let same : get_or (tables ++ table ∷ []) n [] ≡ table = get_or_push tables table [] n before.count in
            subst (λ (k : ℕ). AreLeast (graph m kind) (homes m kind k) (get_or (tables ++ table ∷ []) k [])) (sym e)
            (subst (λ (t : List ℕ). AreLeast (graph m kind) (homes m kind n) t) (sym same) new)
      ];
}

-- one more table of least distances after those of the powers before it, in the terms of the loop that makes them
pub tables_more : (m : Chart) (kind : Kind) (n r : ℕ) (front : List (Vec ℕ Global)) (table : Vec ℕ Global) (g : List (List ℕ)) (h : List Bool) → AreTables m kind n (rows_of front)
    → g ≡ graph m kind → h ≡ homes m kind r → r ≡ n → AreLeast g h table.items → AreTables m kind (n + 1) (rows_of (front ++ table ∷ []))
tables_more m kind n r front table g h before same_graph same_homes same new =
    let in_graph = subst (λ (x : List (List ℕ)). AreLeast x h table.items) same_graph new in
    let to_homes = subst (λ (x : List Bool). AreLeast (graph m kind) x table.items) same_homes in_graph in
    let least = subst (λ (x : ℕ). AreLeast (graph m kind) (homes m kind x) table.items) same to_homes in
    rw (map_push (λ (x : Vec ℕ Global). x.items) front table) (tables_step m kind n (rows_of front) table.items before least)

-- where there is no walk

far : (m : Chart) (kind : Kind) (a : Place) (r : ℕ) → ((k : ℕ) → Walk m kind r k a → ⊥) → IsDistance m kind a r 1000
far m kind a r never = record {
  walk = λ h. absurd (omega arith);
  least = λ k w. absurd (never k w);
  none = λ k w. absurd (never k w);
  most = omega arith;
}

-- a coast that isn't there
no_coast : (m : Chart) (r : ℕ) (a : Place) → IsMap m → 4 ≤ a.coast → (k : ℕ) → Walk m Fleet r k a → ⊥
no_coast m r a ok over k w = let low : a.coast < 4 = few_coasts m a ok (sails_from m r k a w) in omega arith

-- where a table has the least distances

of_army : (m : Chart) (r : ℕ) (dist : List ℕ) (a : Place) → IsMap m → AreLeast (graph m Army) (homes m Army r) dist → IsDistance m Army a r (at dist a.prov)
of_army m r dist a ok table = record {
  walk = λ h. march_back m r ok (at dist a.prov) a.prov (table.walk a.prov h);
  least = λ k w. table.least a.prov k (march_to m r ok k a.prov w);
  none = λ k w. table.none a.prov k (march_to m r ok k a.prov w);
  most = table.capped a.prov;
}

of_fleet : (m : Chart) (r : ℕ) (dist : List ℕ) (a : Place) → IsMap m → a.coast < 4 → AreLeast (graph m Fleet) (homes m Fleet r) dist → IsDistance m Fleet a r (at dist (vertex a))
of_fleet m r dist a ok low table = record {
  walk = λ h. sail_back m r ok (at dist (vertex a)) a low (table.walk (vertex a) h);
  least = λ k w. table.least (vertex a) k (sail_to m r ok k a low w);
  none = λ k w. table.none (vertex a) k (sail_to m r ok k a low w);
  most = table.capped (vertex a);
}

-- a power past the end has no table
no_table : (m : Chart) (kind : Kind) (tables : List (List ℕ)) (r v : ℕ) → AreTables m kind (length m.realms) tables → length m.realms ≤ r → noted_at tables r v ≡ 1000
no_table m kind tables r v known past = ap (λ (t : List ℕ). at t v) (get_or_past tables r [] (omega (arith, known.count)))

army_noted : (m : Chart) (tables : List (List ℕ)) (a : Place) (r : ℕ) → IsMap m → AreTables m Army (length m.realms) tables → IsDistance m Army a r (noted_at tables r a.prov)
army_noted m tables a r ok known =
    elim (cases_lt r (length m.realms)) [
      | inl low ↦ of_army m r (get_or tables r []) a ok (known.least r low)
      | inr past ↦ rw (no_table m Army tables r a.prov known past) (far m Army a r (λ k w. no_walk m Army r past k a w))
    ]

fleet_noted : (m : Chart) (tables : List (List ℕ)) (a : Place) (r : ℕ) → IsMap m → AreTables m Fleet (length m.realms) tables
    → IsDistance m Fleet a r (cond (nat_lt a.coast 4) (noted_at tables r (vertex a)) 1000)
fleet_noted m tables a r ok known =
    elim (cases_lt a.coast 4) [
      | inr over ↦ rw (le-ltb a.coast 4 over) (far m Fleet a r (no_coast m r a ok over))
      | inl few ↦
          rw (lt-ltb a.coast 4 few) (elim (cases_lt r (length m.realms)) [
            | inl low ↦ of_fleet m r (get_or tables r []) a ok few (known.least r low)
            | inr past ↦ rw (no_table m Fleet tables r (vertex a) known past) (far m Fleet a r (λ k w. no_walk m Fleet r past k a w))
          ])
    ]

each_noted : (m : Chart) (d : Tables) → IsMap m → AreTables m Army (length m.realms) d.armies → AreTables m Fleet (length m.realms) d.fleets
    → (kind : Kind) (a : Place) (r : ℕ) → IsDistance m kind a r (distance_in d kind a r)
each_noted m d ok armies fleets Army a r = army_noted m d.armies a r ok armies
each_noted m d ok armies fleets Fleet a r = fleet_noted m d.fleets a r ok fleets

-- the tables of all powers note the distances
pub distances_law : (m : Chart) (d : Tables) → IsMap m → AreTables m Army (length m.realms) d.armies → AreTables m Fleet (length m.realms) d.fleets → AreDistances m d
distances_law m d ok armies fleets = record { each = each_noted m d ok armies fleets }
