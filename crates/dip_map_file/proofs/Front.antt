use Rattle.std.proofs.Common.{◌≡◌, ℕ, List, [], ◌∷◌, ◌++◌, Result, Ok, Err, refl, ap, append_assoc}
use Rattle.toml.specs.Data.{Data, Items, item, Members, member}
use Rattle.dip_names.specs.declared.faults.MapFault.{MapFault}
use Rattle.dip_names.specs.declared.faults.MapFault.TheVariants.{Memory}
use Rattle.dip_map_file.specs.Fields.{each_item, each_member}
use Rattle.dip_names.specs.Results.{◌>>=◌, Fails}

-- what is read after these
abbrev pub with_front : {A : Type 0} → List A → Result (List A) MapFault → Result (List A) MapFault
with_front front read = read >>= λ xs. Ok (front ++ xs)

pub front_more : {A : Type 0} → (front : List A) (x : A) (r : Result (List A) MapFault) → with_front (front ++ x ∷ []) r ≡ with_front front (r >>= λ xs. Ok (x ∷ xs))
front_more front x (Ok xs) = ap Ok (append_assoc front (x ∷ []) xs)
front_more front x (Err e) = refl

pub front_none : {A : Type 0} → (r : Result (List A) MapFault) → with_front [] r ≡ r
front_none (Ok xs) = refl
front_none (Err e) = refl

pub items_step : {A : Type 0} → (f : Data → Result A MapFault) (front : List A) (d : Data) (x : A) (ds : Items) → f d ≡ Ok x → with_front (front ++ x ∷ []) (each_item f ds) ≡ with_front front (each_item f (item d ds))
items_step f front d x ds e = rw e (front_more front x (each_item f ds))

-- a fault in the next item is the fault of them all
pub items_stop : {A : Type 0} → (f : Data → Result A MapFault) (front : List A) (d : Data) (ds : Items) (e : MapFault) → Fails e (f d) → Fails e (with_front front (each_item f (item d ds)))
items_stop f front d ds Memory h = tt
items_stop f front d ds e h = rw h refl

pub members_step : {A : Type 0} → (f : List ℕ → Data → Result A MapFault) (front : List A) (key : List ℕ) (d : Data) (x : A) (ms : Members) → f key d ≡ Ok x → with_front (front ++ x ∷ []) (each_member f ms) ≡ with_front front (each_member f (member key d ms))
members_step f front key d x ms e = rw e (front_more front x (each_member f ms))

pub members_stop : {A : Type 0} → (f : List ℕ → Data → Result A MapFault) (front : List A) (key : List ℕ) (d : Data) (ms : Members) (e : MapFault) → Fails e (f key d) → Fails e (with_front front (each_member f (member key d ms)))
members_stop f front key d ms Memory h = tt
members_stop f front key d ms e h = rw h refl
