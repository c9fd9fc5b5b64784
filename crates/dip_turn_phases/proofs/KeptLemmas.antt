-- A movement loses and doubles nobody.
use Rattle.std.proofs.Common.{◌≡◌, inl, inr, ℕ, ◌+◌, Bool, true, false, cond, not, List, [], ◌∷◌, Option, Some, None, filter, length, get_or, zero, suc, arith, refl, ap, ◌∙◌}
use Rattle.std.proofs.lemmas.Bool.{cases_Bool}
use Rattle.std.proofs.lemmas.List.{length-map}
use Rattle.std.specs.Prelude.{All, Contains}
use Rattle.std.specs.List.{AllByRecursion, cons_option, filter_map}
use Rattle.std.proofs.lemmas.List.Elements.{All-contains_itself, All-from_recursion, All-map, recursion_from_All}
use Rattle.std.proofs.lemmas.List.Filters.{length-filter_both}
use Rattle.dip_names.specs.declared.names.Unit.{Unit as AUnit}
use Rattle.dip_map.specs.Charts.{Chart}
use Rattle.dip_map.specs.declared.boards.Dislodged.{Dislodged}
use Rattle.dip_orders_placed.specs.declared.placed.PlacedOrder.{PlacedOrder}
use Rattle.dip_decide_rules.specs.Deciding.{Assignment}
use Rattle.dip_turn_phases.specs.Moving.{dislodged_after, dislodged_unit, is_driven_out, standing_after, unit_after}
use Rattle.dip_turn_phases.specs.Laws.{MovementsKeepUnits}

-- what holds of each of a list holds of those that pass, and each of them passes
pub passed : {X : Type 0} (p : X → Bool) (P : X → Type 0) (xs : List X) → AllByRecursion P xs → AllByRecursion (λ x. P x × (p x ≡ true)) (filter p xs)
passed p P [] all = tt
passed p P (x ∷ xs) all = go (p x) refl (passed p P xs all.1)
  where
    go : (c : Bool) → p x ≡ c → AllByRecursion (λ y. P y × (p y ≡ true)) (filter p xs) → AllByRecursion (λ y. P y × (p y ≡ true)) (cond c (x ∷ filter p xs) (filter p xs))
    go true is rest = ((all.0, is), rest)
    go false is rest = rest

-- those that a function gives are each given by one of the list
pub given : {X Y : Type 0} (h : X → Option Y) (P : X → Type 0) (xs : List X) → AllByRecursion P xs → AllByRecursion (λ y. (x : X) × P x × (h x ≡ Some y)) (filter_map h xs)
given h P [] all = tt
given {X} {Y} h P (x ∷ xs) all = go (h x) refl (given h P xs all.1)
  where
    go : (o : Option Y) → h x ≡ o → AllByRecursion (λ y. (z : X) × P z × (h z ≡ Some y)) (filter_map h xs) → AllByRecursion (λ y. (z : X) × P z × (h z ≡ Some y)) (cons_option o (filter_map h xs))
    go None is rest = rest
    go (Some y) is rest = ((x, all.0, is), rest)

pub weaker : {X : Type 0} (P Q : X → Type 0) (xs : List X) → ((x : X) → P x → Q x) → All P xs → All Q xs
weaker P Q xs step all = λ k d h. step (get_or xs k d) (all k d h)

pub not_true : (b : Bool) → not b ≡ true → b ≡ false
not_true true h = absurd (cc)
not_true false h = refl

StaysOf : Assignment → List PlacedOrder → AUnit → Type 0
StaysOf a orders u = (o : PlacedOrder) × Contains orders o × (is_driven_out a orders o ≡ false) × (u ≡ unit_after a o)

GoesOf : Chart → Assignment → List PlacedOrder → Dislodged → Type 0
GoesOf m a orders d = (o : PlacedOrder) × Contains orders o × (is_driven_out a orders o ≡ true) × (d ≡ dislodged_unit m a orders o)

twice : (c : Bool) → c ≡ not (not c)
twice true = refl
twice false = refl

both : (p : PlacedOrder → Bool) (xs : List PlacedOrder) → length (filter (λ o. not (p o)) xs) + length (filter p xs) ≡ length xs
both p xs = length-filter_both (λ o. not (p o)) p (λ x. twice (p x)) xs

keeps_count : (m : Chart) (a : Assignment) (orders : List PlacedOrder) → length (standing_after a orders) + length (dislodged_after m a orders) ≡ length orders
keeps_count m a orders =
    ap (λ (n : ℕ). n + length (dislodged_after m a orders)) (length-map (filter (λ o. not (is_driven_out a orders o)) orders) (unit_after a))
    ∙ ap (λ (n : ℕ). length (filter (λ o. not (is_driven_out a orders o)) orders) + n) (length-map (filter (is_driven_out a orders) orders) (dislodged_unit m a orders))
    ∙ both (is_driven_out a orders) orders

pub all_here : {X : Type 0} (xs : List X) → AllByRecursion (Contains xs) xs
all_here xs = recursion_from_All (Contains xs) xs (All-contains_itself xs)

keeps_standing : (a : Assignment) (orders : List PlacedOrder) → All (StaysOf a orders) (standing_after a orders)
unfolding StaysOf
keeps_standing a orders =
    let stays : PlacedOrder → Bool = λ o. not (is_driven_out a orders o) in
    All-map (StaysOf a orders) (unit_after a) (filter stays orders)
    (weaker (λ o. Contains orders o × (stays o ≡ true)) (λ o. StaysOf a orders (unit_after a o)) (filter stays orders)
    (λ o h. (o, h.0, not_true (is_driven_out a orders o) h.1, refl))
    (All-from_recursion (λ o. Contains orders o × (stays o ≡ true)) (filter stays orders) (passed stays (Contains orders) orders (all_here orders))))

keeps_dislodged : (m : Chart) (a : Assignment) (orders : List PlacedOrder) → All (GoesOf m a orders) (dislodged_after m a orders)
unfolding GoesOf
keeps_dislodged m a orders =
    let goes : PlacedOrder → Bool = λ o. is_driven_out a orders o in
    All-map (GoesOf m a orders) (dislodged_unit m a orders) (filter goes orders)
    (weaker (λ o. Contains orders o × (goes o ≡ true)) (λ o. GoesOf m a orders (dislodged_unit m a orders o)) (filter goes orders)
    (λ o h. (o, h.0, h.1, refl))
    (All-from_recursion (λ o. Contains orders o × (goes o ≡ true)) (filter goes orders) (passed goes (Contains orders) orders (all_here orders))))

pub movements_keep_units : MovementsKeepUnits
unfolding StaysOf GoesOf
movements_keep_units m a orders = record { count = keeps_count m a orders; standing = keeps_standing a orders; dislodged = keeps_dislodged m a orders }

-- an element that passes is kept
pub kept_in : {X : Type 0} (p : X → Bool) (xs : List X) (x : X) → Contains xs x → p x ≡ true → Contains (filter p xs) x
kept_in p [] x (k, low, at) t = absurd (omega arith)
kept_in {X = X} p (y ∷ ys) x (zero, low, at) t =
    let first : p y ≡ true = ap p at ∙ t in
    rw first (0, (omega arith), at)
kept_in {X = X} p (y ∷ ys) x (suc k, low, at) t =
    let (n, below, there) = kept_in p ys x (k, (omega arith), at) t in
    elim (cases_Bool (p y)) [
      | inl yes_here ↦ rw yes_here (suc n, (omega arith), there)
      | inr other ↦ rw other (n, below, there)
    ]
