-- What is read, or the first fault.
use Rattle.std.specs.Prelude.{◌≡◌, Result, Ok, Err}
use Rattle.dip_names.specs.declared.faults.MapFault.{MapFault}
use Rattle.dip_names.specs.declared.faults.MapFault.TheVariants.{Memory}

-- what is read after what was read, or the first fault
infixl 10 ◌>>=◌
abbrev pub ◌>>=◌ : {A B E : Type 0} → Result A E → (A → Result B E) → Result B E
(Ok x) >>= f = f x
(Err e) >>= f = Err e

-- reading ends with this fault; want of memory may come in any place
abbrev pub Fails : {Y : Type 0} → MapFault → Result Y MapFault → Type 0
Fails Memory read = Unit {0}
Fails e read = read ≡ Err e

-- what a function returned is what reading gives, unless memory ran out
abbrev pub Gives : {X Y : Type 0} → (X → Y) → Result X MapFault → Result Y MapFault → Type 0
Gives view (Ok x) read = read ≡ Ok (view x)
Gives view (Err e) read = Fails e read
