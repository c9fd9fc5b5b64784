-- What was carried out of a verdict.
use Rattle.std.proofs.Common.{◌≡◌, ℕ, Bool, false, List, [], Option, None, Some, Result, Ok, Err, refl, sym, subst}
use Rattle.std.specs.Prelude.{IfErr, OnErr, OnOk}
use Rattle.std.specs.Io.KnownBytes.{Appends}
use Rattle.dip_map.specs.Charts.{Chart}
use Rattle.dip_desk_state.specs.State.{State, public_at}
use Rattle.dip_http_messages.specs.Answers.{IsPart, refusal}
use Rattle.dip_http_messages.specs.Verdicts.{refuse, show_game, show_paper, take_letter}
use Rattle.dip_http.specs.Answering.{game_answer, paper_answer, paper_named}
use Rattle.dip_http_messages.specs.Numbers.{IsNumber}
use Rattle.dip_http.specs.Ends.{Carried, CarriedBy, Shows, ShowsPart, WasLeft}
use Rattle.dip_http.specs.declared.faults.HttpFault.{HttpFault}
use Rattle.dip_http.specs.declared.faults.HttpFault.TheVariants.{Read, Write, Memory, Keep}

-- what a reader has left, of which nothing is known or all
pub left_of : (known : Option (List ℕ)) → (more : List ℕ) × WasLeft known more
left_of None = ([], tt)
left_of (Some xs) = (xs, refl)

-- a refusal was written whole
pub refused_whole : (m : Chart) (status : ℕ) (allow : Option (List ℕ)) (quiet : Bool) (start : List ℕ) (known : Option (List ℕ)) (desk : State) (a b : Option (List ℕ))
    (r : Result (Unit {0}) HttpFault) → OnOk r (Appends a b (refusal status allow quiet))
    → OnOk r (Carried m (refuse status allow) quiet start known desk desk a b)
refused_whole m status allow quiet start known desk a b (Ok u) h = record {
  more = (left_of known).0;
  left = (left_of known).1;
  answer = refusal status allow quiet;
  carries = (refl, refl);
  written = h;
}
refused_whole m status allow quiet start known desk a b (Err e) h = tt

-- or in part
pub refused_part : (m : Chart) (status : ℕ) (allow : Option (List ℕ)) (quiet : Bool) (start : List ℕ) (known : Option (List ℕ)) (desk : State) (a b : Option (List ℕ))
    (r : Result (Unit {0}) HttpFault) → OnErr r (IsPart a b (refusal status allow quiet)) → IfErr r (λ f. f ≡ Write)
    → IfErr r (λ f. CarriedBy m f (refuse status allow) quiet start known desk desk a b)
refused_part m status allow quiet start known desk a b (Ok u) h fault = tt
refused_part m status allow quiet start known desk a b (Err e) h fault =
    subst (λ (f : HttpFault). CarriedBy m f (refuse status allow) quiet start known desk desk a b) (sym fault) record {
      more = (left_of known).0;
      left = (left_of known).1;
      answer = refusal status allow quiet;
      carries = (refl, refl);
      written = h;
    }

-- a game was shown
pub game_whole : (m : Chart) (name : List ℕ) (quiet : Bool) (start : List ℕ) (known : Option (List ℕ)) (old new : State) (a b : Option (List ℕ))
    (r : Result (Unit {0}) HttpFault) → OnOk r (Shows (game_answer m quiet (public_at name old)) old new a b)
    → OnOk r (Carried m (show_game name) quiet start known old new a b)
game_whole m name quiet start known old new a b (Ok u) h = record {
  more = (left_of known).0;
  left = (left_of known).1;
  answer = game_answer m quiet (public_at name old);
  carries = (refl, h.same);
  written = h.written;
}
game_whole m name quiet start known old new a b (Err e) h = tt

part_of_game : (m : Chart) (name : List ℕ) (quiet : Bool) (start : List ℕ) (known : Option (List ℕ)) (old new : State) (a b : Option (List ℕ)) (f : HttpFault)
    → ShowsPart f quiet (game_answer m quiet (public_at name old)) old new a b → CarriedBy m f (show_game name) quiet start known old new a b
part_of_game m name quiet start known old new a b Read h = h
part_of_game m name quiet start known old new a b Memory h = h
part_of_game m name quiet start known old new a b Write h = record {
  more = (left_of known).0;
  left = (left_of known).1;
  answer = game_answer m quiet (public_at name old);
  carries = (refl, h.0);
  written = h.1;
}
part_of_game m name quiet start known old new a b (Keep fault) h = h

pub game_part : (m : Chart) (name : List ℕ) (quiet : Bool) (start : List ℕ) (known : Option (List ℕ)) (old new : State) (a b : Option (List ℕ))
    (r : Result (Unit {0}) HttpFault) → IfErr r (λ f. ShowsPart f quiet (game_answer m quiet (public_at name old)) old new a b)
    → IfErr r (λ f. CarriedBy m f (show_game name) quiet start known old new a b)
game_part m name quiet start known old new a b (Ok u) h = tt
game_part m name quiet start known old new a b (Err e) h = part_of_game m name quiet start known old new a b e h

-- a paper was shown
pub paper_whole : (m : Chart) (name number : List ℕ) (n : Option ℕ) (quiet : Bool) (start : List ℕ) (known : Option (List ℕ)) (old new : State) (a b : Option (List ℕ))
    (r : Result (Unit {0}) HttpFault) → IsNumber number n → OnOk r (Shows (paper_answer quiet (paper_named name n old)) old new a b)
    → OnOk r (Carried m (show_paper name number) quiet start known old new a b)
paper_whole m name number n quiet start known old new a b (Ok u) is h = record {
  more = (left_of known).0;
  left = (left_of known).1;
  answer = paper_answer quiet (paper_named name n old);
  carries = (n, is, refl, h.same);
  written = h.written;
}
paper_whole m name number n quiet start known old new a b (Err e) is h = tt

part_of_paper : (m : Chart) (name number : List ℕ) (quiet : Bool) (start : List ℕ) (known : Option (List ℕ)) (old new : State) (a b : Option (List ℕ)) (f : HttpFault)
    (n : Option ℕ) → IsNumber number n → ShowsPart f quiet (paper_answer quiet (paper_named name n old)) old new a b
    → CarriedBy m f (show_paper name number) quiet start known old new a b
part_of_paper m name number quiet start known old new a b Read n is h = h
part_of_paper m name number quiet start known old new a b Memory n is h = h
part_of_paper m name number quiet start known old new a b Write n is h = record {
  more = (left_of known).0;
  left = (left_of known).1;
  answer = paper_answer quiet (paper_named name n old);
  carries = (n, is, refl, h.0);
  written = h.1;
}
part_of_paper m name number quiet start known old new a b (Keep fault) n is h = h

pub paper_part : (m : Chart) (name number : List ℕ) (n : Option ℕ) (quiet : Bool) (start : List ℕ) (known : Option (List ℕ)) (old new : State) (a b : Option (List ℕ))
    (r : Result (Unit {0}) HttpFault) → IsNumber number n
    → IfErr r (λ f. ShowsPart f quiet (paper_answer quiet (paper_named name n old)) old new a b)
    → IfErr r (λ f. CarriedBy m f (show_paper name number) quiet start known old new a b)
paper_part m name number n quiet start known old new a b (Ok u) is h = tt
paper_part m name number n quiet start known old new a b (Err e) is h = part_of_paper m name number quiet start known old new a b e n is h

-- a letter was taken, whatever the method
pub letter_whole : (m : Chart) (size : ℕ) (quiet : Bool) (start : List ℕ) (known : Option (List ℕ)) (old new : State) (a b : Option (List ℕ))
    (r : Result (Unit {0}) HttpFault) → OnOk r (Carried m (take_letter size) false start known old new a b)
    → OnOk r (Carried m (take_letter size) quiet start known old new a b)
letter_whole m size quiet start known old new a b (Ok u) h = record {
  more = h.more;
  left = h.left;
  answer = h.answer;
  carries = h.carries;
  written = h.written;
}
letter_whole m size quiet start known old new a b (Err e) h = tt

part_of_letter : (m : Chart) (size : ℕ) (quiet : Bool) (start : List ℕ) (known : Option (List ℕ)) (old new : State) (a b : Option (List ℕ)) (f : HttpFault)
    → CarriedBy m f (take_letter size) false start known old new a b → CarriedBy m f (take_letter size) quiet start known old new a b
part_of_letter m size quiet start known old new a b Read h = h
part_of_letter m size quiet start known old new a b Memory h = h
part_of_letter m size quiet start known old new a b Write h = record {
  more = h.more;
  left = h.left;
  answer = h.answer;
  carries = h.carries;
  written = h.written;
}
part_of_letter m size quiet start known old new a b (Keep fault) h = h

pub letter_part : (m : Chart) (size : ℕ) (quiet : Bool) (start : List ℕ) (known : Option (List ℕ)) (old new : State) (a b : Option (List ℕ))
    (r : Result (Unit {0}) HttpFault) → IfErr r (λ f. CarriedBy m f (take_letter size) false start known old new a b)
    → IfErr r (λ f. CarriedBy m f (take_letter size) quiet start known old new a b)
letter_part m size quiet start known old new a b (Ok u) h = tt
letter_part m size quiet start known old new a b (Err e) h = part_of_letter m size quiet start known old new a b e h
