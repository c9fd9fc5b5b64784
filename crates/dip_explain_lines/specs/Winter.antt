-- The explanation of a Winter: a line for each build, removal and waiver, with the numbers that it rests on.
use Rattle.std.specs.Prelude.{ℕ, ◌==◌, nat_lt, not, Bool, List, [], ◌∷◌, ◌++◌, codes, filter, flat_map, if◌then◌else◌}
use Rattle.std.specs.Fmt.{decimal}
use Rattle.dip_names.specs.Kinds.{is_kind}
use Rattle.dip_names.specs.declared.names.Unit.{Unit as AUnit}
use Rattle.dip_map.specs.Boards.{Position, centres_owned, units_counted}
use Rattle.dip_map.specs.Charts.{Chart, powers, province, realm}
use Rattle.dip_orders_placed.specs.Allowances.{builds_due, removals_due, vacant_homes}
use Rattle.dip_orders.specs.Texts.{unit_text}
use Rattle.dip_turn.specs.Adjusting.{is_among, units_of_power}
use Rattle.dip_turn.specs.Disorder.{distance_home, first_to_go, without}
use Rattle.dip_turn_phases.specs.declared.report.Adjustment.{Adjustment}
use Rattle.dip_turn.specs.Waiver.{Waiver}

-- how many units a power may build, and by which numbers
unfoldable pub builds_text : Chart → Position → ℕ → List ℕ
builds_text m b r = (realm m r).name ++ (codes " may build " ++ (decimal (builds_due m b r) ++ (codes " (centres " ++ (decimal (centres_owned b r)
    ++ (codes ", units " ++ (decimal (units_counted b r) ++ (codes ", free home centres " ++ (decimal (vacant_homes m b r) ++ codes ")"))))))))

-- how many it has to remove
unfoldable pub removals_text : Chart → Position → ℕ → List ℕ
removals_text m b r = (realm m r).name ++ (codes " has to remove " ++ (decimal (removals_due b r) ++ (codes " (centres " ++ (decimal (centres_owned b r)
    ++ (codes ", units " ++ (decimal (units_counted b r) ++ codes ")"))))))

abbrev pub build_text : Chart → Position → AUnit → List ℕ
build_text m b u = unit_text m u ++ codes " is built: " ++ builds_text m b u.power ++ codes "; " ++ (province m u.place.prov).code
    ++ codes " is a free home centre of its own\n"

abbrev pub waiver_text : Chart → Position → Waiver → List ℕ
waiver_text m b w = (realm m w.power).name ++ codes " waives " ++ decimal w.builds ++ codes ": " ++ builds_text m b w.power ++ codes "\n"

abbrev pub removal_text : Chart → Position → AUnit → List ℕ
removal_text m b u = unit_text m u ++ codes " is removed by order: " ++ removals_text m b u.power ++ codes "\n"

-- how far a unit is from a home centre of its power
abbrev pub distance : Chart → AUnit → ℕ
distance m u = distance_home m u.power u

-- the second unit is nearer
unfoldable pub nearer_text : Chart → AUnit → List ℕ
nearer_text m v = codes " is nearer, " ++ decimal (distance m v)

-- the name of the first unit's province comes before that of the second
unfoldable pub named_text : Chart → AUnit → AUnit → List ℕ
named_text m u v = codes " is as far, and " ++ ((province m u.place.prov).name ++ (codes " comes before " ++ ((province m v.place.prov).name
    ++ codes " by name")))

-- one is a fleet, the other an army
unfoldable pub kinds_text : List ℕ
kinds_text = codes " is as far, and a fleet goes before an army"

-- by which rule the first unit goes before the second: the distance, the kind, or the name of the province
abbrev pub rule_text : Chart → AUnit → AUnit → List ℕ
rule_text m u v =
    if nat_lt (distance m v) (distance m u) then nearer_text m v
    else if is_kind u.kind v.kind then named_text m u v
    else kinds_text

unfoldable pub alone_text : List ℕ
alone_text = codes "its power has no other unit"

-- the unit that would go next, and why the first goes before it
unfoldable pub before_text : Chart → AUnit → AUnit → List ℕ
before_text m u v = codes "the next, " ++ unit_text m v ++ codes "," ++ rule_text m u v

-- the unit that would go next of those that are left of the power
abbrev pub next_text : Chart → AUnit → List AUnit → List ℕ
next_text m u [] = alone_text
next_text m u (v ∷ vs) = before_text m u (first_to_go m u.power v vs)

-- why a unit goes in disorder
unfoldable pub owing_text : Chart → Position → AUnit → List ℕ
owing_text m b u = unit_text m u ++ codes " is removed in disorder: " ++ removals_text m b u.power

unfoldable pub distance_text : Chart → AUnit → List ℕ
distance_text m u = codes "; its distance from a home centre is " ++ (decimal (distance m u) ++ codes "; ")

-- a unit that is removed in disorder, where these are left
unfoldable pub disorder_text : Chart → Position → List AUnit → AUnit → List ℕ
disorder_text m b left u = owing_text m b u ++ distance_text m u ++ next_text m u (units_of_power u.power left) ++ codes "\n"

-- units that go in this order from these
abbrev pub disorder_texts : Chart → Position → List AUnit → List AUnit → List ℕ
disorder_texts m b us [] = []
disorder_texts m b us (u ∷ gone) = disorder_text m b (without u.place.prov us) u ++ disorder_texts m b (without u.place.prov us) gone

-- the units whose removal wasn't ordered
abbrev pub kept_in : Position → Adjustment → List AUnit
kept_in b t = filter (λ u. not (is_among t.removals.items u)) b.units

abbrev pub is_by : ℕ → Waiver → Bool
is_by r w = w.power == r

-- what a Winter brought a power
abbrev pub power_text : Chart → Position → Adjustment → ℕ → List ℕ
power_text m b t r = flat_map (build_text m b) (units_of_power r t.builds.items)
    ++ flat_map (removal_text m b) (units_of_power r t.removals.items)
    ++ disorder_texts m b (kept_in b t) (units_of_power r t.disorder.items)
    ++ flat_map (waiver_text m b) (filter (is_by r) t.waivers.items)

-- the explanation of a Winter
abbrev pub winter_explained : Chart → Position → Adjustment → List ℕ
winter_explained m b t = flat_map (power_text m b t) (powers m)
