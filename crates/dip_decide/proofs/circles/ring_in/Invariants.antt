use Rattle.std.proofs.Common.{◌≡◌, ℕ, take, true, None}
use Rattle.dip_decide_rules.specs.declared.decisions.Decision.TheVariants.{Move}
use Rattle.dip_decide_rules.specs.Given.{situation_of, known_of}
use Rattle.dip_decide_rules.specs.Movement.{is_listed}
use Rattle.dip_decide_rules.specs.Rings.{leaves}
use Rattle.dip_decide.proofs.circles.ring_in.Given as goal

abbrev pub invariant-loop-place : goal.invariant-loop-place
invariant-loop-place l = (p : ℕ) → is_listed (take l.place-index l.table.places.items) p ≡ true → known_of l.values (Move p) ≡ None → (n : ℕ) × (leaves (situation_of l.table) (known_of l.values) n p ≡ true)
