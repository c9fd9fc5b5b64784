-- A change that fits can be written.
use Rattle.std.proofs.Common.{◌≡◌, ◌<◌, ◌≤◌, ◌^◌, ◌==◌, ◌||◌, ℕ, true, false, List, [], ◌∷◌, inl, inr, subst, arith}
use Rattle.std.specs.List.{list_all}
use Rattle.std.proofs.lemmas.Bool.{cases_Bool, and_parts, eqb-true}
use Rattle.dip_map.specs.Charts.{Chart}
use Rattle.dip_letters.specs.Words.{is_digit, is_game, is_lower}
use Rattle.dip_desk_state.specs.Fitting.{FitsMap}
use Rattle.dip_desk_state.specs.State.{Effect, Nothing, Pending, Votes, Delivers, Opens, Publishes, Seats}
use Rattle.dip_desk_state.specs.Writable.{Lacks}
use Rattle.dip_store_tables.specs.Coding.{IsEffectOf}
use Rattle.dip_store_tables.specs.ChangeColumns.{FitsColumns}
use Rattle.dip_store.specs.Laws.{FitsIsWritable}

-- neither a letter nor a digit ends a line
plain : (b : ℕ) → (is_lower b || is_digit b) ≡ true → (b == 10) ≡ false
plain b named = elim (cases_Bool (b == 10)) [
  | inl e ↦ absurd (let x = subst (λ n. (is_lower n || is_digit n) ≡ true) (eqb-true b 10 e) named in cc)
  | inr e ↦ e
]

all_plain : (w : List ℕ) → list_all (λ b. is_lower b || is_digit b) w ≡ true → Lacks 10 w
all_plain [] all = tt
all_plain (b ∷ w) all = let parts = and_parts _ _ all in (plain b parts.0, all_plain w parts.1)

named_plainly : (name : List ℕ) → is_game name ≡ true → Lacks 10 name
named_plainly name named = all_plain name (and_parts _ _ (and_parts _ _ named).1).1

-- a letter's number isn't 0
not_zero : (n : ℕ) → 1 ≤ n → (n == 0) ≡ false
not_zero n least = elim (cases_Bool (n == 0)) [
  | inl e ↦ let is = eqb-true n 0 e in absurd (omega (arith, least, is))
  | inr e ↦ e
]

of_map : (m : Chart) (e : Effect) → FitsMap m e → IsEffectOf m e
of_map m Nothing fits = tt
of_map m (Pending orders) fits = fits.1
of_map m (Votes vote) fits = fits
of_map m (Delivers readers item) fits = fits.1
of_map m (Opens public paper seats) fits = (fits.0.board, fits.0.status, fits.3)
of_map m (Publishes public paper played) fits = (fits.board, fits.status)
of_map m (Seats seat) fits = fits

-- a due tick of the grammar and a period are far below what a column takes
due_fits : (due : ℕ) → due ≤ 1000000999998 → due < 2 ^ 63
due_fits due most = omega (arith, most)

in_columns : (m : Chart) (e : Effect) → FitsMap m e → FitsColumns e
in_columns m Nothing fits = tt
in_columns m (Pending orders) fits = tt
in_columns m (Votes vote) fits = tt
in_columns m (Delivers readers item) fits = tt
in_columns m (Opens public paper seats) fits = (due_fits public.due fits.0.due, fits.1)
in_columns m (Publishes public paper played) fits = due_fits public.due fits.due
in_columns m (Seats seat) fits = tt

pub fits_is_writable : (m : Chart) → FitsIsWritable m
fits_is_writable m c s fits =
    let effect = fits.effect.0 in (
      record {
        author = fits.author;
        effect = of_map m c.effect effect;
        numbered = not_zero c.kept.number fits.least;
        named = named_plainly c.game fits.name;
      },
      in_columns m c.effect effect,
    )
