-- No centre changes hands in a Winter.
use Rattle.std.proofs.Common.{◌≡◌, ◌+◌, ℕ, Bool, true, false, cond, List, [], ◌∷◌, nat_le, Option, Some, None, option_map, refl, ap, ap₂, ◌∙◌}
use Rattle.std.specs.Prelude.{slice_index_or}
use Rattle.std.specs.List.{cons_option, filter_map}
use Rattle.std.proofs.lemmas.Bool.{eq-eqb}
use Rattle.dip_map.specs.Boards.{Position, owner}
use Rattle.dip_map.specs.Charts.{Chart, provs}
use Rattle.dip_map.specs.declared.boards.Season.TheVariants.{SpringMoves, Winter}
use Rattle.dip_orders_placed.specs.declared.placed.PlacedOrder.{PlacedOrder}
use Rattle.dip_turn.specs.Adjusting.{after_adjustment}
use Rattle.dip_turn.specs.Centres.{centre_line, centre_lines, is_same_owner}
use Rattle.dip_turn.specs.Phases.{Sequel, follow, in_phase, last_year, new_year, sequel}
use Rattle.dip_turn.specs.CentreLine.{CentreLine}
use Rattle.dip_turn.specs.Course.{Course}
use Rattle.dip_turn.specs.Course.TheVariants.{Ended, GoesOn}

same_owner : (o : Option ℕ) → is_same_owner o o ≡ true
same_owner None = refl
same_owner (Some r) = eq-eqb r r refl

module _ (b new : Position) (same : new.owners ≡ b.owners) where
  unchanged : (p : ℕ) → centre_line b new p ≡ None
  unchanged p =
      let owns : owner new p ≡ owner b p = ap (λ (os : List (Option ℕ)). slice_index_or os p None) same in
      let alike : is_same_owner (owner b p) (owner new p) ≡ true = ap (is_same_owner (owner b p)) owns ∙ same_owner (owner b p) in
      ap (λ (t : Bool). cond {A = Option CentreLine} t None (option_map (λ r. record { prov = p; power = r }) (owner new p))) alike

  none_changed : (ps : List ℕ) → filter_map (centre_line b new) ps ≡ []
  none_changed [] = refl
  none_changed (p ∷ ps) = ap₂ (λ (o : Option CentreLine) (cs : List CentreLine). cons_option o cs) (unchanged p) (none_changed ps)

year_owners : (left : Position) → (new_year left).board.owners ≡ left.owners
year_owners left = go (nat_le last_year left.phase.year)
  where
    go : (t : Bool) → (cond {A = Sequel} t (sequel left Ended) (sequel (in_phase left (left.phase.year + 1) SpringMoves) GoesOn)).board.owners ≡ left.owners
    go true = refl
    go false = refl

-- on the board after a Winter the centres are in the same hands
pub winter_centres : (m : Chart) (b left new : Position) (ps : List PlacedOrder) (course : Course) → left ≡ after_adjustment m b ps → sequel new course ≡ follow m Winter left → centre_lines m b new ≡ []
winter_centres m b left new ps course is next =
    none_changed b new (ap (λ (s : Sequel). s.board.owners) next ∙ year_owners left ∙ ap (λ (x : Position). x.owners) is) (provs m)
