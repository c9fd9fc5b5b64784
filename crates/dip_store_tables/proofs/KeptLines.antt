-- The lines of a printed reply.
use Rattle.std.proofs.Common.{◌≡◌, ℕ, List, [], ◌∷◌, ◌++◌, codes, Option, Some, None, Result, Ok, Err, IfNone, IfOk, refl, sym, ap, subst, ◌∙◌}
use Rattle.std.proofs.lemmas.Bool.{eq-eqb}
use Rattle.dip_desk_state.specs.Writable.{Lacks}
use Rattle.dip_store_tables.specs.Texts.{behind}
use Rattle.dip_store_tables.specs.Reading.{reply_lines, without_end}
use Rattle.dip_store_tables.proofs.Replies.{behind_first, ended_back}
use Rattle.dip_store_tables.specs.Columns.{IsPrinted}

-- what holds of none, or of what went well, gives what follows from it
pub none_as : {X : Type 0} {A B : Type 0} (o : Option X) → (A → B) → IfNone o A → IfNone o B
none_as None f h = f h
none_as (Some x) f h = tt

pub ok_as : {X E : Type 0} {P Q : X → Type 0} (r : Result X E) → ((x : X) → P x → Q x) → IfOk r P → IfOk r Q
ok_as (Ok x) f h = f x h
ok_as (Err e) f h = tt

pub lines_told : (text head more lines : List ℕ) → Lacks 10 head × (text ≡ head ++ 10 ∷ more) → more ≡ lines ++ codes "END\n" → lines ≡ reply_lines text
lines_told text head more lines off end =
    sym (ap reply_lines off.1 ∙ ap without_end (behind_first 10 head more off.0) ∙ ap without_end end ∙ ended_back lines)

-- a printed reply has a line end
holds_mark : (b : ℕ) (w rest : List ℕ) → Lacks b (w ++ b ∷ rest) → ⊥
holds_mark b [] rest lacks = let same = eq-eqb b b refl in let off = lacks.0 in cc
holds_mark b (x ∷ w) rest lacks = holds_mark b w rest lacks.1

pub no_line : (text : List ℕ) → Lacks 10 text → IsPrinted text → ⊥
no_line text lacks printed = holds_mark 10 printed.0 (printed.1 ++ codes "END\n") (subst (Lacks 10) printed.3 lacks)

-- and END after its lines
pub no_end : (text head more : List ℕ) → Lacks 10 head × (text ≡ head ++ 10 ∷ more) → ((t : List ℕ) → more ≡ t ++ codes "END\n" → ⊥) → IsPrinted text → ⊥
no_end text head more off never printed =
    never printed.1
    (sym (behind_first 10 head more off.0) ∙ ap (behind 10) (sym off.1 ∙ printed.3) ∙ behind_first 10 printed.0 (printed.1 ++ codes "END\n") printed.2)
