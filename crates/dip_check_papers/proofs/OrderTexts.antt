-- The bytes of orders' texts.
use Rattle.std.proofs.Common.{◌≡◌, ◌≢◌, ◌==◌, ◌&&◌, ℕ, Bool, true, false, List, [], ◌∷◌, ◌++◌, codes, nat_le, not, refl, arith}
use Rattle.std.specs.Char.{is_ascii_lowercase}
use Rattle.std.specs.List.{list_all}
use Rattle.std.proofs.lemmas.Bool.{and_from}
use Rattle.std.proofs.lemmas.Bool.Decides.{nat_tests}
use Rattle.dip_names.specs.declared.names.Kind.{Kind}
use Rattle.dip_names.specs.declared.names.Kind.TheVariants.{Army, Fleet}
use Rattle.dip_names.specs.declared.names.Place.{Place}
use Rattle.dip_map.specs.Charts.{Chart, IsMap, province, shore}
use Rattle.dip_orders.specs.Texts.{action_text, behind_slash, kind_letter, order_text, other_text, place_text, verb_text, via_text}
use Rattle.dip_orders_placed.specs.declared.placed.Order.{Order}
use Rattle.dip_orders_placed.specs.declared.placed.Order.TheVariants.{Hold, Move, SupportHold, SupportMove, Convoy, Retreat, Disband, Build, Remove}
use Rattle.dip_orders_placed.specs.declared.placed.Other.{Other}
use Rattle.dip_orders_placed.specs.declared.placed.PlacedOrder.{PlacedOrder}
use Rattle.dip_check_papers.proofs.LineLemmas.{AreAll, all_both}
use Rattle.dip_check_papers.proofs.NameTexts.{coast_all, code_all}

-- a byte at which no order is cut: no LF, and no colon
abbrev pub is_told : ℕ → Bool
is_told b = nat_le 32 b && not (b == 58)

pub small_told : (b : ℕ) → is_ascii_lowercase b ≡ true → is_told b ≡ true
small_told b h = grind (arith, nat_tests)

pub told_no_lf : (b : ℕ) → is_told b ≡ true → b ≢ 10
told_no_lf b h same = grind (arith, nat_tests)

pub told_no_colon : (b : ℕ) → is_told b ≡ true → b ≢ 58
told_no_colon b h same = grind (arith, nat_tests)

pub low_no_lf : (b : ℕ) → nat_le 32 b ≡ true → b ≢ 10
low_no_lf b h same = grind (arith, nat_tests)

pub small_no_space : (b : ℕ) → is_ascii_lowercase b ≡ true → b ≢ 32
small_no_space b h same = grind (arith, nat_tests)

-- the place of a unit
module _ (m : Chart) (laws : IsMap m) (t : ℕ → Bool) (small : (b : ℕ) → is_ascii_lowercase b ≡ true → t b ≡ true) (slash : t 47 ≡ true) where
  after_slash : (name : List ℕ) → AreAll t name → AreAll t (behind_slash name)
  after_slash [] all = refl
  after_slash (b ∷ bs) all = and_from (t 47) (list_all t (b ∷ bs)) slash all

  pub place_all : (k : Kind) (a : Place) → AreAll t (place_text m k a)
  place_all Army a = code_all m laws t small a.prov
  place_all Fleet a = all_both t (province m a.prov).code (behind_slash (shore m a).name) (code_all m laws t small a.prov) (after_slash (shore m a).name (coast_all m laws t small a))

module _ (m : Chart) (laws : IsMap m) where
  letter_told : (k : Kind) → AreAll is_told (kind_letter k)
  letter_told Army = refl
  letter_told Fleet = refl

  code : (p : ℕ) → AreAll is_told (province m p).code
  code p = code_all m laws is_told small_told p

  place_told : (k : Kind) (a : Place) → AreAll is_told (place_text m k a)
  place_told k a = place_all m laws is_told small_told refl k a

  other_told : (o : Other) → AreAll is_told (other_text m o)
  other_told o = all_both is_told (kind_letter o.kind) (province m o.prov).code (letter_told o.kind) (code o.prov)

  via_told : (via : Bool) → AreAll is_told (via_text via)
  via_told true = refl
  via_told false = refl

  after_mark : (mark text : List ℕ) → AreAll is_told mark → AreAll is_told text → AreAll is_told (mark ++ text)
  after_mark mark text one two = all_both is_told mark text one two

  action_told : (k : Kind) (o : Order) → AreAll is_told (action_text m k o)
  action_told k Hold = refl
  action_told k (Move to via) =
      all_both is_told (codes " - " ++ place_text m k to) (via_text via) (after_mark (codes " - ") (place_text m k to) refl (place_told k to)) (via_told via)
  action_told k (SupportHold at) = after_mark (codes " S ") (other_text m at) refl (other_told at)
  action_told k (SupportMove at to) =
      all_both is_told (codes " S " ++ other_text m at ++ codes " - ") (province m to).code
      (all_both is_told (codes " S " ++ other_text m at) (codes " - ") (after_mark (codes " S ") (other_text m at) refl (other_told at)) refl) (code to)
  action_told k (Convoy at to) =
      all_both is_told (codes " C " ++ other_text m at ++ codes " - ") (province m to).code
      (all_both is_told (codes " C " ++ other_text m at) (codes " - ") (after_mark (codes " C ") (other_text m at) refl (other_told at)) refl) (code to)
  action_told k (Retreat to) = after_mark (codes " R ") (place_text m k to) refl (place_told k to)
  action_told k Disband = refl
  action_told k Build = refl
  action_told k Remove = refl

  verb_told : (o : Order) → AreAll is_told (verb_text o)
  verb_told Hold = refl
  verb_told (Move to via) = refl
  verb_told (SupportHold at) = refl
  verb_told (SupportMove at to) = refl
  verb_told (Convoy at to) = refl
  verb_told (Retreat to) = refl
  verb_told Disband = refl
  verb_told Build = refl
  verb_told Remove = refl

  pub order_told : (o : PlacedOrder) → AreAll is_told (order_text m o)
  order_told o =
      all_both is_told (verb_text o.order) (kind_letter o.unit.kind ++ (place_text m o.unit.kind o.unit.place ++ action_text m o.unit.kind o.order)) (verb_told o.order)
      (all_both is_told (kind_letter o.unit.kind) (place_text m o.unit.kind o.unit.place ++ action_text m o.unit.kind o.order) (letter_told o.unit.kind)
      (all_both is_told (place_text m o.unit.kind o.unit.place) (action_text m o.unit.kind o.order) (place_told o.unit.kind o.unit.place) (action_told o.unit.kind o.order)))
