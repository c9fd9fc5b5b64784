-- Laws of phases: what holds of each phase that is adjudicated, by the definitions.
use Rattle.std.specs.Prelude.{◌≡◌, ◌≢◌, ℕ, ◌<◌, ◌≤◌, ◌+◌, ◌-◌, ◌*◌, Bool, true, false, ◌⊎◌, All, Contains, List, length, Option, Some, is_some}
use Rattle.dip_names.specs.declared.names.Unit.{Unit as AUnit}
use Rattle.dip_map.specs.Charts.{Chart, IsMap, is_centre}
use Rattle.dip_map.specs.declared.boards.Dislodged.{Dislodged}
use Rattle.dip_map.specs.declared.boards.Phase.{Phase}
use Rattle.dip_map.specs.declared.boards.Season.{Season}
use Rattle.dip_map.specs.declared.boards.Season.TheVariants.{SpringMoves, SpringRetreats, FallMoves, FallRetreats, Winter}
use Rattle.dip_map.specs.Boards.{Position, IsOf, centres_owned, owner, season_number, units_counted}
use Rattle.dip_orders.specs.Given.{AreGiven, IsEachGiven}
use Rattle.dip_orders.specs.Laws.{IsEmpty}
use Rattle.dip_orders_placed.specs.declared.placed.Order.TheVariants.{Build}
use Rattle.dip_orders_placed.specs.declared.placed.PlacedOrder.{PlacedOrder}
use Rattle.dip_decide.specs.Deciding.{Assignment}
use Rattle.dip_decide.specs.Decision.{Decision}
use Rattle.dip_decide.specs.Laws.{AreOrders}
use Rattle.dip_decide.specs.Matching.{order_at, situation}
use Rattle.dip_decide.specs.Movement.{Satisfies}
use Rattle.dip_decide.specs.Resolution.{Resolution}
use Rattle.dip_turn_phases.specs.Moving.{is_driven_out, prov, unit_after}
use Rattle.dip_orders.specs.Conditions.{is_retreat}
use Rattle.dip_turn_phases.specs.Adjusting.{after_adjustment, builds_given, disorder, is_among, is_given, units_built}
use Rattle.dip_turn_phases.specs.Centres.{has_won, holder}
use Rattle.dip_turn_phases.specs.Phases.{has_dislodged, last_year}
use Rattle.dip_turn.specs.Reports.{IsPlayed}
use Rattle.dip_turn_phases.specs.Retreating.{after_retreat, after_retreats}
use Rattle.dip_turn_phases.specs.declared.report.Account.{Account}
use Rattle.dip_turn_phases.specs.declared.report.Account.TheVariants.{Movement as OfMovement, Retreats as OfRetreats, Adjustment as OfAdjustment}
use Rattle.dip_turn_phases.specs.declared.lines.Course.{Course}
use Rattle.dip_turn_phases.specs.declared.lines.Course.TheVariants.{GoesOn, Won, Ended}
use Rattle.dip_turn_phases.specs.declared.report.Report.{Report}

-- after a movement no two units stand in one province: two that aren't dislodged and stand in one came from one
abbrev pub UnitsStandApart : Type 0
UnitsStandApart =
    (m : Chart) (b : Position) (orders : List PlacedOrder) (broken : Decision → Bool) (a : Assignment) (o w : PlacedOrder)
    → AreOrders m b orders → Satisfies (situation m orders) broken a
    → order_at orders (prov o) ≡ Some o → order_at orders (prov w) ≡ Some w
    → is_driven_out a orders o ≡ false → is_driven_out a orders w ≡ false
    → (unit_after a o).place.prov ≡ (unit_after a w).place.prov → prov o ≡ prov w

-- the movement of Fall and its retreats
abbrev pub is_fall : Season → Bool
is_fall SpringMoves = false
is_fall SpringRetreats = false
is_fall FallMoves = true
is_fall FallRetreats = true
is_fall Winter = false

-- a season follows another one
abbrev pub may_follow : Season → Season → Bool
may_follow SpringMoves SpringRetreats = true
may_follow SpringMoves FallMoves = true
may_follow SpringRetreats FallMoves = true
may_follow FallMoves FallRetreats = true
may_follow FallMoves Winter = true
may_follow FallMoves SpringMoves = true
may_follow FallRetreats Winter = true
may_follow FallRetreats SpringMoves = true
may_follow Winter SpringMoves = true
may_follow _ _ = false

-- the year of a phase in that season after a phase of that year: Spring is the next year's
abbrev pub year_after : Season → ℕ → ℕ
year_after SpringMoves year = year + 1
year_after SpringRetreats year = year
year_after FallMoves year = year
year_after FallRetreats year = year
year_after Winter year = year

-- how many phases there are at most after one, up to the last year's Winter
abbrev pub phases_left : Phase → ℕ
phases_left p = 5 * (last_year - p.year) + (4 - season_number p.season)

-- the second phase is the next one of a game
pub record IsNext (p q : Phase) : Type 0 where
  pub season : may_follow p.season q.season ≡ true
  pub year : q.year ≡ year_after q.season p.year
  pub fewer : phases_left q < phases_left p

-- the phase of a board after a phase: a game that goes on has the next one, and one that is over keeps its last
abbrev pub IsAfter : Phase → Course → Phase → Type 0
IsAfter p GoesOn q = IsNext p q
IsAfter p (Won r) q = q ≡ p
IsAfter p Ended q = (q ≡ p) × (last_year ≤ p.year)

-- phases follow one another in their order, and fewer and fewer are left, so that each game ends
abbrev pub PhasesFollow : Type 0
PhasesFollow =
    (m : Chart) (b : Position) (pending : List PlacedOrder) (new : Position) (report : Report)
    → IsPlayed m b pending new report → IsAfter b.phase report.course new.phase

-- no phase changes the option INTENT
abbrev pub PhasesKeepIntent : Type 0
PhasesKeepIntent =
    (m : Chart) (b : Position) (pending : List PlacedOrder) (new : Position) (report : Report)
    → IsPlayed m b pending new report → new.intent ≡ b.intent

-- a power that has won owns more than half of all centres
abbrev pub WinnersOwnMore : Type 0
WinnersOwnMore =
    (m : Chart) (b : Position) (pending : List PlacedOrder) (new : Position) (report : Report) (power : ℕ)
    → IsPlayed m b pending new report → report.course ≡ Won power → has_won m new power ≡ true

-- at most one power owns more than half of all centres
abbrev pub WinnersAreOne : Type 0
WinnersAreOne =
    (m : Chart) (b : Position) (pending : List PlacedOrder) (new : Position) (report : Report) (power other : ℕ)
    → IsOf m b → IsPlayed m b pending new report → has_won m new power ≡ true → has_won m new other ≡ true → power ≡ other

-- after the retreats each unit stood before or is a dislodged one that retreated, and each that stood still stands
pub record RetreatsKeepUnits (b : Position) (pending : List PlacedOrder) : Type 0 where
  pub units : All (λ u. Contains b.units u ⊎ ((d : Dislodged) × Contains b.dislodged d × (after_retreat pending b.dislodged d ≡ Some u))) (after_retreats b pending).units
  pub standing : All (Contains (after_retreats b pending).units) b.units

abbrev pub RetreatsLoseNobodyElse : Type 0
RetreatsLoseNobodyElse = (b : Position) (pending : List PlacedOrder) → RetreatsKeepUnits b pending

-- a retreat leads to where nobody stands, no standoff was, and the attacker didn't come from
pub record IsOpenTo (b : Position) (d : Dislodged) (u : AUnit) : Type 0 where
  pub empty : IsEmpty b u.place.prov
  pub no_standoff : Contains b.standoff u.place.prov → ⊥
  pub not_origin : d.origin ≢ Some u.place.prov

-- where the orders are ones that can be given, each unit that retreated stands in a province that was open to it
abbrev pub RetreatsAreOpen : Type 0
RetreatsAreOpen =
    (m : Chart) (b : Position) (pending : List PlacedOrder) (d : Dislodged) (u : AUnit)
    → IsMap m → IsOf m b → IsEachGiven m b pending
    → Contains b.dislodged d → after_retreat pending b.dislodged d ≡ Some u → IsOpenTo b d u

-- two dislodged units that end in one province are one, whatever was ordered
abbrev pub RetreatsMeetNowhere : Type 0
RetreatsMeetNowhere =
    (b : Position) (pending : List PlacedOrder) (d e : Dislodged) (u v : AUnit)
    → Contains b.dislodged d → Contains b.dislodged e
    → after_retreat pending b.dislodged d ≡ Some u → after_retreat pending b.dislodged e ≡ Some v
    → u.place.prov ≡ v.place.prov → d ≡ e

-- after a Winter each unit stood before or was built
abbrev pub WintersAddBuildsAlone : Type 0
WintersAddBuildsAlone =
    (m : Chart) (b : Position) (pending : List PlacedOrder)
    → All (λ u. Contains b.units u ⊎ Contains (units_built pending) u) (after_adjustment m b pending).units

-- each that stood stands after a Winter, or was removed: by its order, or in disorder
abbrev pub WintersRemoveAlone : Type 0
WintersRemoveAlone =
    (m : Chart) (b : Position) (pending : List PlacedOrder) (u : AUnit) → Contains b.units u
    → Contains (after_adjustment m b pending).units u ⊎ ((is_given pending u ≡ true) ⊎ (is_among (disorder m b pending) u ≡ true))

-- nobody is dislodged on a board whose phase is no retreat
abbrev pub OnlyRetreatsHaveDislodged : Type 0
OnlyRetreatsHaveDislodged =
    (m : Chart) (b : Position) (pending : List PlacedOrder) (new : Position) (report : Report)
    → IsPlayed m b pending new report → has_dislodged new ≡ true → is_retreat new.phase.season ≡ true

-- a centre fell to the power of the unit that stands in it
abbrev pub IsTaken : Chart → List AUnit → ℕ → Option ℕ → Type 0
IsTaken m us p r = (is_centre m p ≡ true) × (u : AUnit) × (holder us p ≡ Some u) × (r ≡ Some u.power)

-- the owner of a province stayed, or it is a centre with a unit of its new owner in it
abbrev pub IsKeptOrTaken : Chart → Position → Position → ℕ → Type 0
IsKeptOrTaken m b new p = (owner new p ≡ owner b p) ⊎ IsTaken m new.units p (owner new p)

-- centres change hands in Fall alone, and only to a power with a unit there; the number of owners stays
pub record CentresStay (m : Chart) (b new : Position) : Type 0 where
  pub owners : (p : ℕ) → IsKeptOrTaken m b new p
  pub count : length new.owners ≡ length b.owners
  pub elsewhere : is_fall b.phase.season ≡ false → new.owners ≡ b.owners

abbrev pub CentresChangeInFall : Type 0
CentresChangeInFall =
    (m : Chart) (b : Position) (pending : List PlacedOrder) (new : Position) (report : Report)
    → IsPlayed m b pending new report → CentresStay m b new

-- from a board of the map on, only centres are owned
abbrev pub OnlyCentresAreOwned : Type 0
OnlyCentresAreOwned =
    (m : Chart) (b : Position) (pending : List PlacedOrder) (new : Position) (report : Report)
    → IsOf m b → IsPlayed m b pending new report → (p : ℕ) → is_some (owner new p) ≡ true → is_centre m p ≡ true

-- two resolutions decide the same: the same moves, paths and supports are true, and the same paths are broken
pub record DecideAlike (r q : Resolution) : Type 0 where
  pub moves : r.moves.items ≡ q.moves.items
  pub paths : r.paths.items ≡ q.paths.items
  pub supports : r.supports.items ≡ q.supports.items
  pub broken : r.broken.items ≡ q.broken.items

-- the two accounts tell the same, but for the steps that explain a movement and the number of tests
abbrev pub AreAlike : Account → Account → Type 0
AreAlike (OfMovement s) (OfMovement t) = (s.orders ≡ t.orders) × DecideAlike s.resolution t.resolution × (s.lines.items ≡ t.lines.items)
AreAlike (OfRetreats s) (OfRetreats t) = s.items ≡ t.items
AreAlike (OfAdjustment s) (OfAdjustment t) = (s.builds.items ≡ t.builds.items) × (s.removals.items ≡ t.removals.items) × (s.disorder.items ≡ t.disorder.items) × (s.waivers.items ≡ t.waivers.items)
AreAlike _ _ = ⊥

-- the board after a phase is one of its map, where the orders are ones that can be given beside one another
abbrev pub BoardsStayOfTheirMap : Type 0
BoardsStayOfTheirMap =
    (m : Chart) (b : Position) (pending : List PlacedOrder) (new : Position) (report : Report)
    → IsMap m → IsOf m b → AreGiven m b pending → IsPlayed m b pending new report → IsOf m new

-- what a Winter leaves a power: no more units than centres; as many as centres where it had as many or more, so that it lost
-- none that it could keep; and else those that it had and those that it built
pub record IsEvened (b : Position) (pending : List PlacedOrder) (new : Position) (power : ℕ) : Type 0 where
  pub within : units_counted new power ≤ centres_owned new power
  pub least : centres_owned b power ≤ units_counted b power → units_counted new power ≡ centres_owned b power
  pub most : units_counted b power ≤ centres_owned b power → units_counted new power ≡ units_counted b power + builds_given pending power

abbrev pub WintersEvenUnits : Type 0
WintersEvenUnits =
    (m : Chart) (b : Position) (pending : List PlacedOrder) (new : Position) (report : Report) (power : ℕ)
    → IsMap m → IsOf m b → AreGiven m b pending → b.phase.season ≡ Winter → has_dislodged b ≡ false
    → IsPlayed m b pending new report → IsEvened b pending new power

-- each unit that was ordered to be built stands after the Winter
abbrev pub BuildsStand : Type 0
BuildsStand =
    (m : Chart) (b : Position) (pending : List PlacedOrder) (new : Position) (report : Report) (o : PlacedOrder)
    → b.phase.season ≡ Winter → IsPlayed m b pending new report → Contains pending o → o.order ≡ Build → Contains new.units o.unit

-- two boards and reports are the same
pub record IsSame (new other : Position) (one two : Report) : Type 0 where
  pub board : new ≡ other
  pub account : AreAlike one.account two.account
  pub phase : one.phase ≡ two.phase
  pub centres : one.centres.items ≡ two.centres.items
  pub course : one.course ≡ two.course

-- a phase of one board with the same orders comes to the same, whoever adjudicates it
abbrev pub PhasesHaveOneResult : Type 0
PhasesHaveOneResult =
    (m : Chart) (b : Position) (pending : List PlacedOrder) (new other : Position) (one two : Report)
    → IsPlayed m b pending new one → IsPlayed m b pending other two → IsSame new other one two
