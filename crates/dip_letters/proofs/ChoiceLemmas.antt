-- The first of several commands that is there, in memory and in a note.
use Rattle.std.proofs.Common.{◌≡◌, ◌&&◌, ℕ, List, Option, Some, None, Bool, true, false, cond, option_map, refl, ap, ◌∙◌}
use Rattle.std.specs.Option.{option_or}
use Rattle.std.specs.Str.{bytes_eq}
use Rattle.dip_letters.specs.Reading.{◌<|>◌, plain_at}
use Rattle.dip_letters_words.specs.Words.{is_empty}

either_maps : {A B : Type 0} (f : A → B) (a b : Option A) → option_map f (option_or a b) ≡ (option_map f a <|> option_map f b)
either_maps f None b = refl
either_maps f (Some x) b = refl

-- the first of two says what the first of their notes says
pub said_by_either : {A B : Type 0} (f : A → B) (a b r : Option A) (x y : Option B) → r ≡ option_or a b → option_map f a ≡ x → option_map f b ≡ y → option_map f r ≡ (x <|> y)
said_by_either f a b r x y is first second = rw (← first, ← second) (ap (option_map f) is ∙ either_maps f a b)

pub said_plainly : {A B : Type 0} (f : A → B) (name : List ℕ) (command : A) (line body : List ℕ) (r : Option A) → r ≡ plain_at name command line body → option_map f r ≡ plain_at name (f command) line body
said_plainly f name command line body r is = ap (option_map f) is ∙ by_test (bytes_eq line name && is_empty body)
  where
    by_test : (t : Bool) → option_map f (cond t (Some command) None) ≡ cond t (Some (f command)) None
    by_test true = refl
    by_test false = refl
