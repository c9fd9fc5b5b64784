-- The two ways to say what a line is read as, and what follows of an order's own text.
use Rattle.std.proofs.Common.{◌≡◌, ℕ, true, List, [], refl, sym, ap, ◌∙◌, Option, Some, None, Ok, Err}
use Rattle.dip_map.specs.Charts.{Chart, IsMap}
use Rattle.dip_map.specs.Boards.{Position, IsOf}
use Rattle.dip_orders_lines.specs.Forms.{Says, is_form}
use Rattle.dip_orders_lines.specs.Reading.{form_in}
use Rattle.dip_orders_lines.specs.Texts.{canonical_text}
use Rattle.dip_orders_lines.specs.declared.forms.Form.{Form}
use Rattle.dip_orders.specs.Reading.{answer_to, order_of}
use Rattle.dip_orders.specs.Rules.{answer, checks_of, order_in}
use Rattle.dip_orders.specs.Texts.{order_text}
use Rattle.dip_orders.specs.declared.faults.OrderFault.TheVariants.{CannotBeRead}
use Rattle.dip_orders_placed.specs.declared.placed.PlacedOrder.{PlacedOrder}
use Rattle.dip_orders.proofs.CheckLaws.{holds_ok, ok_holds}
use Rattle.dip_orders.proofs.FormLaws.{printed}
use Rattle.dip_orders.proofs.RoundTrip.{checks_alone, order_again}

-- what is known of forms
pub record Forms : Type 0 where
  pub said : (line : List ℕ) (d : Form) → Says line d → form_in line ≡ Some d
  pub read : (line : List ℕ) (d : Form) → form_in line ≡ Some d → Says line d
  pub again : (d : Form) → is_form d ≡ true → Says (canonical_text d) d

-- a line that is an order says something, of which it is the answer
pub read_form : (m : Chart) (b : Position) (power : ℕ) (pending : List PlacedOrder) (line : List ℕ) (o : PlacedOrder) → order_of m b power pending line ≡ Ok o
    → (d : Form) × (form_in line ≡ Some d) × (answer m b power pending d ≡ Ok o)
unfolding order_of
read_form m b power pending line o h = go (form_in line) refl h
  where
    go : (r : Option Form) → form_in line ≡ r → answer_to m b power pending r ≡ Ok o → (d : Form) × (form_in line ≡ Some d) × (answer m b power pending d ≡ Ok o)
    go None is found = let bad : Err CannotBeRead ≡ Ok o = found in absurd (cc)
    go (Some d) is found = (d, is, found)

pub form_read : (m : Chart) (b : Position) (power : ℕ) (pending : List PlacedOrder) (line : List ℕ) (d : Form) (o : PlacedOrder) → form_in line ≡ Some d → answer m b power pending d ≡ Ok o
    → order_of m b power pending line ≡ Ok o
unfolding order_of
form_read m b power pending line d o is h = ap (answer_to m b power pending) is ∙ h

-- the text of an order that was read is read again as the same order
pub read_again : Forms → (m : Chart) (b : Position) (power : ℕ) (pending : List PlacedOrder) (line : List ℕ) (o : PlacedOrder) → IsMap m → IsOf m b → order_of m b power pending line ≡ Ok o
    → order_of m b power pending (order_text m o) ≡ Ok o
read_again forms m b power pending line o ok of h =
    let (d, is, found) = read_form m b power pending line o h in
    let again = order_again m b power pending d o ok of (forms.read line d is).places found in
    let said : form_in (canonical_text (printed m o.unit o.order)) ≡ Some (printed m o.unit o.order) = forms.said _ _ (forms.again (printed m o.unit o.order) again.fine) in
    form_read m b power pending (order_text m o) (printed m o.unit o.order) o (ap form_in again.text ∙ said) again.same

-- an order beside others that stand is one beside none
pub read_alone : (m : Chart) (b : Position) (power : ℕ) (pending : List PlacedOrder) (line : List ℕ) (o : PlacedOrder) → order_of m b power pending line ≡ Ok o → order_of m b power [] line ≡ Ok o
read_alone m b power pending line o h =
    let (d, is, found) = read_form m b power pending line o h in
    let (checks, same) = ok_holds (checks_of m b power pending d) (order_in m b power d) o found in
    form_read m b power [] line d o is (holds_ok (checks_of m b power [] d) (order_in m b power d) (checks_alone m b power pending d checks) ∙ ap (λ x. Ok x) same)

-- two orders with one text are one order
pub told_apart : Forms → (m : Chart) (b : Position) (power : ℕ) (ps qs : List PlacedOrder) (line text : List ℕ) (o p : PlacedOrder) → IsMap m → IsOf m b → order_of m b power ps line ≡ Ok o
    → order_of m b power qs text ≡ Ok p → order_text m o ≡ order_text m p → o ≡ p
told_apart forms m b power ps qs line text o p ok of h k same =
    let first : order_of m b power [] (order_text m o) ≡ Ok o = read_again forms m b power [] line o ok of (read_alone m b power ps line o h) in
    let second : order_of m b power [] (order_text m p) ≡ Ok p = read_again forms m b power [] text p ok of (read_alone m b power qs text p k) in
    let one : Ok o ≡ Ok p = sym first ∙ (ap (order_of m b power []) same ∙ second) in
    cc
