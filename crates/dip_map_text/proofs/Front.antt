use Rattle.std.proofs.Common.{◌≡◌, ℕ, ◌+◌, List, [], ◌∷◌, ◌++◌, Result, Ok, Err, refl, ap, append_assoc}
use Rattle.dip_names.specs.declared.faults.MapFault.{MapFault}
use Rattle.dip_names.specs.declared.faults.MapFault.TheVariants.{Memory}
use Rattle.dip_map_text.specs.Stated.{each, each_from}
use Rattle.dip_names.specs.Results.{◌>>=◌, Fails}
use Rattle.dip_map_file.proofs.Front.{front_more, front_none, with_front}

pub each_step : {A B : Type 0} → (f : A → Result B MapFault) (front : List B) (x : A) (y : B) (xs : List A) → f x ≡ Ok y → with_front (front ++ y ∷ []) (each f xs) ≡ with_front front (each f (x ∷ xs))
each_step f front x y xs e = rw e (front_more front y (each f xs))

-- a fault of the next is the fault of them all
pub each_stop : {A B : Type 0} → (f : A → Result B MapFault) (front : List B) (x : A) (xs : List A) (e : MapFault) → Fails e (f x) → Fails e (with_front front (each f (x ∷ xs)))
each_stop f front x xs Memory h = tt
each_stop f front x xs e h = rw h refl

pub each_from_step : {A B : Type 0} → (f : ℕ → A → Result B MapFault) (front : List B) (k : ℕ) (x : A) (y : B) (xs : List A) → f k x ≡ Ok y → with_front (front ++ y ∷ []) (each_from f (k + 1) xs) ≡ with_front front (each_from f k (x ∷ xs))
each_from_step f front k x y xs e = rw e (front_more front y (each_from f (k + 1) xs))

pub each_from_stop : {A B : Type 0} → (f : ℕ → A → Result B MapFault) (front : List B) (k : ℕ) (x : A) (xs : List A) (e : MapFault) → Fails e (f k x) → Fails e (with_front front (each_from f k (x ∷ xs)))
each_from_stop f front k x xs Memory h = tt
each_from_stop f front k x xs e h = rw h refl
