-- Checks in order, and one step after the other.
use Rattle.std.proofs.Common.{◌≡◌, Bool, true, false, List, [], ◌∷◌, ◌++◌, refl, Option, Some, None, Result, Ok, Err, cond, is_some}
use Rattle.std.specs.Option.{ok_or, unwrap_or}
use Rattle.dip_orders.specs.Checks.{Check, must, outcome}
use Rattle.dip_orders.specs.Checking.{need}
use Rattle.dip_names.specs.Results.{◌>>=◌}
use Rattle.dip_orders.specs.declared.faults.OrderFault.{OrderFault}

-- all checks hold
abbrev pub Hold : List Check → Type 0
Hold [] = Unit {0}
Hold (c ∷ cs) = (c.holds ≡ true) × Hold cs

pub hold_front : (xs ys : List Check) → Hold (xs ++ ys) → Hold xs
hold_front [] ys h = tt
hold_front (x ∷ xs) ys h = (h.0, hold_front xs ys h.1)

pub hold_back : (xs ys : List Check) → Hold (xs ++ ys) → Hold ys
hold_back [] ys h = h
hold_back (x ∷ xs) ys h = hold_back xs ys h.1

pub hold_both : (xs ys : List Check) → Hold xs → Hold ys → Hold (xs ++ ys)
hold_both [] ys h k = k
hold_both (x ∷ xs) ys h k = (h.0, hold_both xs ys h.1 k)

-- what came to something passed all checks
pub ok_holds : {A : Type 0} (cs : List Check) (x y : A) → outcome cs x ≡ Ok y → Hold cs × (x ≡ y)
ok_holds [] x y h = (tt, cc)
ok_holds (c ∷ cs) x y h = go c.holds refl h (ok_holds cs x y)
  where
    go : (t : Bool) → c.holds ≡ t → cond t (outcome cs x) (Err c.fault) ≡ Ok y → (outcome cs x ≡ Ok y → Hold cs × (x ≡ y)) → Hold (c ∷ cs) × (x ≡ y)
    go true is e more = ((is, (more e).0), (more e).1)
    go false is e more = absurd (cc)

pub holds_ok : {A : Type 0} (cs : List Check) (x : A) → Hold cs → outcome cs x ≡ Ok x
holds_ok [] x h = refl
holds_ok (c ∷ cs) x h = rw h.0 (holds_ok cs x h.1)

-- what a step comes to: the outcome of these checks
pub record Comes {A : Type 0} (r : Result A OrderFault) (cs : List Check) (x : A) : Type 0 where
  pub is : r ≡ outcome cs x

-- a test, and what is after it
pub if_step : {A : Type 0} (t : Bool) (e : OrderFault) (r : Result A OrderFault) (cs : List Check) (y : A) → r ≡ outcome cs y → cond t r (Err e) ≡ outcome (must t e ∷ cs) y
if_step true e r cs y h = h
if_step false e r cs y h = refl

pub need_step : {A B : Type 0} (t : Bool) (e : OrderFault) (x : A) (f : A → Result B OrderFault) (cs : List Check) (y : B) → Comes (f x) cs y → Comes (need t e x >>= f) (must t e ∷ cs) y
need_step true e x f cs y h = record { is = h.is }
need_step false e x f cs y h = record { is = refl }

pub need_last : {A : Type 0} (t : Bool) (e : OrderFault) (x : A) → Comes (need t e x) (must t e ∷ []) x
need_last true e x = record { is = refl }
need_last false e x = record { is = refl }

-- a look-up, and what is after it
pub found_step : {A B : Type 0} (o : Option A) (e : OrderFault) (d : A) (f : A → Result B OrderFault) (cs : List Check) (y : B) → Comes (f (unwrap_or o d)) cs y
    → Comes (ok_or o e >>= f) (must (is_some o) e ∷ cs) y
found_step None e d f cs y h = record { is = refl }
found_step (Some x) e d f cs y h = record { is = h.is }
