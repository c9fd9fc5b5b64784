-- The laws in a player's words, from the equations.
use Rattle.std.proofs.Common.{◌≡◌, ◌≢◌, ℕ, ◌≤◌, ◌⊎◌, inl, inr, List, refl, sym, subst, ap, ◌∙◌, arith, ◌<◌}
use Rattle.std.specs.Prelude.{◌==◌, Bool, true, false, not, ◌&&◌, Contains, Option, None, Some, is_some}
use Rattle.std.proofs.lemmas.Bool.{eqb-true, eq-eqb, or_cases, or_left, or_right, cases_Bool, both_ways, and_parts, and_from, not-true}
use Rattle.dip_map.specs.Charts.{Chart, are_units_single}
use Rattle.dip_map.specs.Boards.{Position}
use Rattle.dip_orders_placed.specs.Standing.{units_of}
use Rattle.dip_orders_placed.specs.declared.placed.Order.{Order}
use Rattle.dip_orders_placed.specs.declared.placed.Order.TheVariants.{Hold, Move, SupportHold, SupportMove, Convoy, Retreat, Disband, Build, Remove}
use Rattle.dip_orders_placed.specs.declared.placed.PlacedOrder.{PlacedOrder}
use Rattle.dip_decide.specs.Decision.TheVariants.{Path as Paths, Move as Moves}
use Rattle.dip_decide.specs.Deciding.{Assignment}
use Rattle.dip_decide.specs.Laws.{AreOrders}
use Rattle.dip_decide.specs.Matching.{situation, order_at, target_of}
use Rattle.dip_decide.specs.Movement.{Situation, goes, has_path, head_to_head, prevent, support, is_support, is_at, has_move, support_against}
use Rattle.dip_decide_laws.specs.Words.{IsDecided, prov, is_a_move, moves, goes_to, goes_itself, are_head_to_head, helps, is_support_of, has_moved, has_helped, was_carried, was_dislodged_by, WasDislodged, HasWay, helpers_but, has_entered, helpers}
use Rattle.dip_decide_laws.specs.Laws.{IsCutBy, IsOverpowered, AreRivalsWeaker, Stays, AreOthersBelow, IsLeft, IsNoLoser}
use Rattle.dip_decide_laws.proofs.EquationLemmas as equations
use Rattle.dip_decide_laws.proofs.OrderLemmas as order
use Rattle.dip_decide_laws.proofs.ListLemmas.{any_at}

-- each unit is alone in its province
pub single : (m : Chart) (b : Position) (orders : List PlacedOrder) → AreOrders m b orders → are_units_single (units_of orders) ≡ true
single m b orders o = rw o.units o.is_of.apart

no_same : (x y : ℕ) → (x == y) ≡ false → x ≢ y
no_same x y e q = both_ways _ e (eq-eqb x y q)

not_same : (x y : ℕ) → x ≢ y → (x == y) ≡ false
not_same x y n = go (cases_Bool (x == y))
  where
    go : ((x == y) ≡ true) ⊎ ((x == y) ≡ false) → (x == y) ≡ false
    go (inl e) = absurd (n (eqb-true x y e))
    go (inr e) = e

-- who supports has no move
helper_stays : (r : Order) (o : PlacedOrder) → is_support_of r o ≡ true → is_a_move r ≡ false
helper_stays Hold o h = refl
helper_stays (Move to via) o h = absurd (both_ways false refl h)
helper_stays (SupportHold at) o h = refl
helper_stays (SupportMove at to) o h = refl
helper_stays (Convoy at to) o h = refl
helper_stays (Retreat to) o h = refl
helper_stays Disband o h = refl
helper_stays Build o h = refl
helper_stays Remove o h = refl

turned : (m : Chart) (o w : PlacedOrder) → are_head_to_head m o w ≡ true → are_head_to_head m w o ≡ true
turned m o w f =
    let x = and_parts (goes_to o (prov w) && goes_to w (prov o)) (goes_itself m o && goes_itself m w) f in
    let y = and_parts (goes_to o (prov w)) _ x.0 in
    let z = and_parts (goes_itself m o) _ x.1 in
    and_from _ _ (and_from _ _ y.1 y.0) (and_from _ _ z.1 z.0)

module _ (m : Chart) (b : Position) (orders : List PlacedOrder) (a : Assignment) (d : IsDecided m b orders a) where
  s : Situation
  s = situation m orders

  one : are_units_single (units_of orders) ≡ true
  one = single m b orders d.standing

  -- the way of a unit
  way : (o : PlacedOrder) → Contains orders o → has_path (situation m orders) a (prov o) ≡ true → (goes_itself m o ≡ true) ⊎ (was_carried a o ≡ true)
  way o c h = go (or_cases _ _ (rw (order.convoyed_law m orders one o c) at h))
    where
      twice : (b : Bool) → not (not b) ≡ true → b ≡ true
      twice true e = refl
      twice false e = absurd (both_ways false refl e)

      go : (not (not (goes_itself m o)) ≡ true) ⊎ (a (Paths (prov o)) ≡ true) → (goes_itself m o ≡ true) ⊎ (was_carried a o ≡ true)
      go (inl e) = inl (twice _ e)
      go (inr e) = inr e

  has_way : (o : PlacedOrder) → Contains orders o → (goes_itself m o ≡ true) ⊎ (was_carried a o ≡ true) → has_path (situation m orders) a (prov o) ≡ true
  has_way o c (inl e) = or_left (not ((situation m orders).convoyed (prov o))) _ (rw (order.convoyed_law m orders one o c, e) refl)
  has_way o c (inr e) = or_right (not ((situation m orders).convoyed (prov o))) _ e

  -- a unit without a move
  pub remains : (o : PlacedOrder) → Contains orders o → moves o ≡ false → has_moved a o ≡ false
  remains o c n = equations.unmoved (situation m orders) d.broken d.paths_alone a d.equations (prov o) (order.move_law m orders one o c ∙ n)

  pub stays : (o : PlacedOrder) → Contains orders o → moves o ≡ false → Stays a orders o
  stays o c n = record {
    remains = remains o c n;
    kept = λ k w. both_ways _ (k w.0 w.1) (and_parts (not (has_moved a o)) _ w.2).1;
  }

  -- who dislodged a unit
  pub overpowered : (o w : PlacedOrder) → Contains orders o → Contains orders w → was_dislodged_by a o w ≡ true → IsOverpowered m a orders o w
  overpowered o w c e h =
      let x = and_parts (not (has_moved a o)) _ h in
      let y = and_parts (goes_to w (prov o)) _ x.1 in
      let r = equations.overpowered (situation m orders) d.broken d.paths_alone a d.equations (prov w) (prov o) (order.goes_law m orders one w (prov o) e ∙ y.0) y.1 (order.occupied_law m orders one o c) (not-true _ x.0) in
      record {
        foreign = no_same _ _ (sym (order.power_law m orders one w o e c) ∙ r.foreign);
        helped = rw (order.against_law m orders one a w o e c) at r.helped;
        stayed = λ n. rw (order.against_law m orders one a w o e c, order.support_law m orders one a o c) at (r.stayed (order.move_law m orders one o c ∙ n));
        faced = λ f. rw (order.against_law m orders one a w o e c, order.support_law m orders one a o c) at (r.faced (order.head_law m orders one w o e c ∙ turned m o w f));
      }

  -- a dislodged unit's support
  pub ungiven : (h : PlacedOrder) → Contains orders h → WasDislodged a orders h → has_helped a h ≡ false
  ungiven h c w = go (cases_Bool (has_helped a h))
    where
      go : (has_helped a h ≡ true) ⊎ (has_helped a h ≡ false) → has_helped a h ≡ false
      go (inr e) = e
      go (inl e) =
          let x = and_parts (not (has_moved a h)) _ w.2 in
          let y = and_parts (goes_to w.0 (prov h)) _ x.1 in
          let f = overpowered h w.0 c w.1 w.2 in
          absurd (equations.given_unentered (situation m orders) d.broken d.paths_alone a d.equations (prov h) (prov w.0) (order.listed_law m orders one w.0 w.1) e
          (order.goes_law m orders one w.0 (prov h) w.1 ∙ y.0) y.1 (order.power_law m orders one w.0 h w.1 c ∙ not_same _ _ f.foreign))

  -- who cut a support
  pub cut_by : (h o : PlacedOrder) → Contains orders h → Contains orders o → helps h o ≡ true → has_helped a h ≡ false → (w : PlacedOrder) × Contains orders w × IsCutBy m a h w
  cut_by h o c e k n =
      let i : is_support (situation m orders) (prov h) ≡ true = any_at (λ p. (situation m orders).supports (prov h) p) (situation m orders).places (prov o) (order.listed_law m orders one o e) (order.supports_law m orders one h o c e ∙ k) in
      let x = equations.was_cut (situation m orders) d.broken d.paths_alone a d.equations (prov h) i n in
      let g = order.goer m orders x.0 (prov h) x.1.attacks in
      let u : equations.Cut (situation m orders) a (prov h) (prov g.order) = subst (λ (y : ℕ). equations.Cut (situation m orders) a (prov h) y) (sym g.is.there) x.1 in (
        g.order,
        g.is.among,
        record {
          attacks = g.goes;
          foreign = no_same _ _ (sym (order.power_law m orders one g.order h g.is.among c) ∙ u.foreign);
          comes = way g.order g.is.among u.comes;
          dislodges = λ t. and_from _ _ (ap not (remains h c (helper_stays h.order o k))) (and_from _ _ g.goes (u.aimed (order.aim_law m orders one h (prov g.order) c ∙ t)));
        },
      )

  -- who comes to where the winner came from
  pub let_in : (loser winner w : PlacedOrder) → Contains orders loser → Contains orders winner → Contains orders w → are_head_to_head m loser winner ≡ true → has_moved a winner ≡ true
      → goes_to w (prov winner) ≡ true → prov w ≢ prov loser → (goes_itself m w ≡ true) ⊎ (was_carried a w ≡ true)
      → AreRivalsWeaker a orders (prov winner) loser w → has_moved a w ≡ true
  let_in loser winner w c e k f v g n p rivals =
      equations.gets_in (situation m orders) d.broken d.paths_alone a d.equations (prov w) (prov winner) (order.goes_law m orders one w (prov winner) k ∙ g) v apart (has_way w k p) each
    where
      back : goes_to winner (prov loser) ≡ true
      back = (and_parts (goes_to loser (prov winner)) _ (and_parts (goes_to loser (prov winner) && goes_to winner (prov loser)) (goes_itself m loser && goes_itself m winner) f).0).1

      apart : head_to_head (situation m orders) (prov w) (prov winner) ≡ false
      apart = go (cases_Bool (head_to_head (situation m orders) (prov w) (prov winner)))
        where
          go : (head_to_head (situation m orders) (prov w) (prov winner) ≡ true) ⊎ (head_to_head (situation m orders) (prov w) (prov winner) ≡ false) → head_to_head (situation m orders) (prov w) (prov winner) ≡ false
          go (inr x) = x
          go (inl x) =
              let y = sym (order.head_law m orders one w winner k e) ∙ x in
              let z = and_parts (goes_to w (prov winner)) _ (and_parts (goes_to w (prov winner) && goes_to winner (prov w)) (goes_itself m w && goes_itself m winner) y).0 in
              absurd (n (order.goes_once winner (prov w) (prov loser) z.1 back))

      each : (x : ℕ) → goes (situation m orders) x (prov winner) ≡ true → (x == prov w) ≡ false → prevent (situation m orders) a x (prov winner) ≤ support (situation m orders) a (prov w)
      each x h l = go (order.goer m orders x (prov winner) h)
        where
          go : order.Goer orders x (prov winner) → prevent (situation m orders) a x (prov winner) ≤ support (situation m orders) a (prov w)
          go r = test (cases_Bool (x == prov loser))
            where
              test : ((x == prov loser) ≡ true) ⊎ ((x == prov loser) ≡ false) → prevent (situation m orders) a x (prov winner) ≤ support (situation m orders) a (prov w)
              test (inl y) =
                  let z : prevent (situation m orders) a x (prov winner) ≡ 0 = subst (λ (i : ℕ). prevent (situation m orders) a i (prov winner) ≡ 0) (sym (eqb-true _ _ y))
                  (equations.loser_prevents_none (situation m orders) d.broken d.paths_alone a d.equations (prov loser) (prov winner) (order.head_law m orders one loser winner c e ∙ f) v) in
                  omega arith
              test (inr y) =
                  let t = r.is.there in
                  let q = rivals r.order r.is.among r.goes (λ i. no_same _ _ y (sym t ∙ i)) (λ i. no_same _ _ l (sym t ∙ i)) in
                  let u = order.support_law m orders one a r.order r.is.among in
                  let z = order.support_law m orders one a w k in
                  let i = equations.prevents_most (situation m orders) d.broken d.paths_alone a d.equations x (prov winner) in
                  let j : support (situation m orders) a (prov r.order) ≡ support (situation m orders) a x = ap (support (situation m orders) a) t in
                  omega arith

  -- others go there with less
  below : (w : PlacedOrder) (q n : ℕ) → AreOthersBelow a orders q w n → (x : ℕ) → goes (situation m orders) x q ≡ true → (x == prov w) ≡ false → prevent (situation m orders) a x q ≤ n
  below w q n others x h l =
      let r = order.goer m orders x q h in
      let t = r.is.there in
      let k = others r.order r.is.among r.goes (λ i. no_same _ _ l (sym t ∙ i)) in
      let u = order.support_law m orders one a r.order r.is.among in
      let j : support (situation m orders) a (prov r.order) ≡ support (situation m orders) a x = ap (support (situation m orders) a) t in
      let i = equations.prevents_most (situation m orders) d.broken d.paths_alone a d.equations x q in
      omega arith

  -- who enters has the most support
  pub outdone : (w x : PlacedOrder) (q : ℕ) → Contains orders w → Contains orders x → has_entered a w q ≡ true → goes_to x q ≡ true → prov x ≢ prov w → HasWay m a x → IsNoLoser m a orders x → helpers a orders x < helpers a orders w
  outdone w x q c e h g n p no_loser =
      let y = and_parts (goes_to w q) _ h in
      let r = equations.outdoes (situation m orders) d.broken d.paths_alone a d.equations (prov w) (prov x) q (order.goes_law m orders one w q c ∙ y.0) y.1 (order.listed_law m orders one x e)
      (order.goes_law m orders one x q e ∙ g) (not_same _ _ n) (has_way x e p) (unbeaten (cases_Bool (head_to_head (situation m orders) (prov x) q))) in
      rw (order.support_law m orders one a x e, order.support_law m orders one a w c) at r
    where
      unbeaten : (head_to_head (situation m orders) (prov x) q ≡ true) ⊎ (head_to_head (situation m orders) (prov x) q ≡ false) → (head_to_head (situation m orders) (prov x) q && a (Moves q)) ≡ false
      unbeaten (inr f) = ap (λ (b : Bool). b && a (Moves q)) f
      unbeaten (inl f) =
          let z = and_parts (goes (situation m orders) (prov x) q && goes (situation m orders) q (prov x)) (not ((situation m orders).convoyed (prov x)) && not ((situation m orders).convoyed q)) f in
          let v = order.goer m orders q (prov x) (and_parts (goes (situation m orders) (prov x) q) (goes (situation m orders) q (prov x)) z.0).1 in
          let k : head_to_head (situation m orders) (prov x) (prov v.order) ≡ true = subst (λ (i : ℕ). head_to_head (situation m orders) (prov x) i ≡ true) (sym v.is.there) f in
          let l = no_loser v.order v.is.among (sym (order.head_law m orders one x v.order e v.is.among) ∙ k) in
          ap (λ (b : Bool). b && a (Moves q)) f ∙ (ap (λ (i : ℕ). a (Moves i)) (sym v.is.there) ∙ l)

  -- who has the most support enters a province that is empty or left
  pub enters : (w : PlacedOrder) (q : ℕ) → Contains orders w → goes_to w q ≡ true → HasWay m a w → IsLeft m a orders q w → AreOthersBelow a orders q w (helpers a orders w) → has_moved a w ≡ true
  enters w q c g p left others = go (order_at orders q) refl
    where
      there : goes (situation m orders) (prov w) q ≡ true
      there = order.goes_law m orders one w q c ∙ g

      rivals : (x : ℕ) → goes (situation m orders) x q ≡ true → (x == prov w) ≡ false → prevent (situation m orders) a x q ≤ support (situation m orders) a (prov w)
      rivals x h l = let z = order.support_law m orders one a w c in let k = below w q (helpers a orders w) others x h l in omega arith

      none_back : (g k c e : Bool) → k ≡ false → ((g && k) && (not c && not e)) ≡ false
      none_back true k c e n = rw n refl
      none_back false k c e n = refl

      go : (o : Option PlacedOrder) → order_at orders q ≡ o → has_moved a w ≡ true
      go None e =
          let back : goes (situation m orders) q (prov w) ≡ false = ap (λ (o : Option PlacedOrder). is_at (target_of o) (prov w)) e in
          let apart : head_to_head (situation m orders) (prov w) q ≡ false = none_back (goes (situation m orders) (prov w) q) (goes (situation m orders) q (prov w)) ((situation m orders).convoyed (prov w)) ((situation m orders).convoyed q) back in
          equations.gets_in_empty (situation m orders) d.broken d.paths_alone a d.equations (prov w) q there (ap is_some e) apart (has_way w c p) rivals
      go (Some o) e =
          let t = order.met orders q o e in
          let l = left o t.among t.there in
          equations.gets_in (situation m orders) d.broken d.paths_alone a d.equations (prov w) q there (ap (λ (i : ℕ). a (Moves i)) (sym t.there) ∙ l.0)
          (ap (head_to_head (situation m orders) (prov w)) (sym t.there) ∙ order.head_law m orders one w o c t.among ∙ l.1) (has_way w c p) rivals

  -- who is overpowered is dislodged
  pub thrown_out : (o w : PlacedOrder) → Contains orders o → Contains orders w → has_moved a o ≡ false → goes_to w (prov o) ≡ true → HasWay m a w → IsOverpowered m a orders o w
      → AreOthersBelow a orders (prov o) w (helpers_but a orders w o.unit.power) → was_dislodged_by a o w ≡ true
  thrown_out o w c e n g p more others = and_from _ _ (ap not n) (and_from _ _ g moved)
    where
      u : support_against (situation m orders) a (prov w) (prov o) ≡ helpers_but a orders w o.unit.power
      u = order.against_law m orders one a w o e c

      z : support (situation m orders) a (prov o) ≡ helpers a orders o
      z = order.support_law m orders one a o c

      rivals : (x : ℕ) → goes (situation m orders) x (prov o) ≡ true → (x == prov w) ≡ false → prevent (situation m orders) a x (prov o) ≤ support_against (situation m orders) a (prov w) (prov o)
      rivals x h l = let i = u in let k = below w (prov o) (helpers_but a orders w o.unit.power) others x h l in omega arith

      helped : 0 < support_against (situation m orders) a (prov w) (prov o)
      helped = let i = u in let k = more.helped in omega arith

      stayed : has_move (situation m orders) (prov o) ≡ false → support (situation m orders) a (prov o) < support_against (situation m orders) a (prov w) (prov o)
      stayed f = let i = u in let j = z in let k = more.stayed (sym (order.move_law m orders one o c) ∙ f) in omega arith

      faced : head_to_head (situation m orders) (prov w) (prov o) ≡ true → support (situation m orders) a (prov o) < support_against (situation m orders) a (prov w) (prov o)
      faced f = let i = u in let j = z in let k = more.faced (turned m w o (sym (order.head_law m orders one w o e c) ∙ f)) in omega arith

      moved : has_moved a w ≡ true
      moved = equations.throws_out (situation m orders) d.broken d.paths_alone a d.equations (prov w) (prov o) (order.goes_law m orders one w (prov o) e ∙ g) (order.occupied_law m orders one o c) n
          (order.power_law m orders one w o e c ∙ not_same _ _ more.foreign) (has_way w e p) helped stayed faced rivals
