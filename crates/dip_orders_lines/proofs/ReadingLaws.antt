-- The two ways to say what a line is read as: the relation of the forms, and the function of the line.
use Rattle.std.proofs.Common.{◌≡◌, ℕ, ◌<◌, ◌≤◌, length, List, refl, sym, ap, arith, Option, Some, None, map, option_and_then}
use Rattle.std.proofs.lemmas.List.{length-map}
use Rattle.std.proofs.lemmas.Bool.{le-leb}
use Rattle.std.specs.Option.{IfSome, IfNone}
use Rattle.dip_orders_lines.specs.Tokens.{Spells}
use Rattle.dip_orders_lines.specs.Reading.{form_at}
use Rattle.dip_orders_lines.specs.Forms.{Says, form_tokens, small}
use Rattle.dip_orders_lines.specs.Reading.{form_in}
use Rattle.dip_orders_lines.specs.Scan.{few, tokens_at}
use Rattle.dip_orders_lines.specs.declared.forms.Form.{Form}
use Rattle.dip_orders_lines.proofs.FormLaws.{form_again, form_takes, tokens_short}
use Rattle.dip_orders_lines.proofs.SpellingLaws.{few_is, one_spelling, read_is_spelled, spelled_is_read}

-- what is read of tokens is what the line says
pub form_law : (line : List ℕ) (ts : List (List ℕ)) (r : Option Form) → Spells line ts → r ≡ form_at ts
    → IfSome r (λ d. Says line d) × IfNone r ((d : Form) → Says line d → ⊥)
form_law line ts None s e = (tt, λ d says. let again = form_again says.tokens d says.form says.places in let same = one_spelling line ts says.tokens s says.spells in absurd (cc))
form_law line ts (Some d) s e = let (form, places) = form_takes ts d (sym e) in (record { tokens = ts; spells = s; form = form; places = places }, tt)

-- a line that says a form has at most seven tokens
says_short : (line : List ℕ) (d : Form) (says : Says line d) → length says.tokens ≤ 7
says_short line d says = let count : length (map small says.tokens) ≡ length (form_tokens d) = ap length says.form in let short = tokens_short d in omega (arith, length-map says.tokens small)

-- a line of more tokens says nothing
pub form_long : (line : List ℕ) → ((ts : List (List ℕ)) → Spells line ts → 8 < length ts) → (d : Form) → Says line d → ⊥
form_long line long d says = let many = long says.tokens says.spells in absurd (omega (arith, says_short line d says))

few_of : (ts : List (List ℕ)) → length ts ≤ 7 → few (Some ts) ≡ Some ts
few_of ts h = rw (le-leb (length ts) 8 (omega arith)) refl

-- what a line says is what is read
pub says_read : (line : List ℕ) (d : Form) → Says line d → form_in line ≡ Some d
unfolding form_in
says_read line d says = rw (spelled_is_read line says.tokens says.spells, few_of says.tokens (says_short line d says)) (form_again says.tokens d says.form says.places)

-- what is read is what the line says
pub read_says : (line : List ℕ) (d : Form) → form_in line ≡ Some d → Says line d
unfolding form_in
read_says line d h = go (few (tokens_at line)) refl h
  where
    go : (o : Option (List (List ℕ))) → few (tokens_at line) ≡ o → option_and_then form_at o ≡ Some d → Says line d
    go None is found = absurd (cc)
    go (Some ts) is found = (form_law line ts (Some d) (read_is_spelled line ts (few_is (tokens_at line) ts is)) (sym found)).0
