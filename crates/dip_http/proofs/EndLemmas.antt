-- Answers that are written whole, or in part.
use Rattle.std.proofs.Common.{◌≡◌, ℕ, Bool, List, Option, Result, Ok, Err, length, sym, subst, arith}
use Rattle.std.specs.Prelude.{IfErr, OnErr, OnOk}
use Rattle.std.specs.Io.KnownBytes.{Appends}
use Rattle.std.proofs.Math.Seq.{take-length}
use Rattle.dip_desk_state.specs.State.{State}
use Rattle.dip_http_messages.specs.Answers.{IsPart}
use Rattle.dip_map.specs.Charts.{Chart}
use Rattle.dip_http.specs.Answering.{Posts}
use Rattle.dip_http.specs.Ends.{PostsTo, PostsToPart, Shows, ShowsPart}
use Rattle.dip_http.specs.declared.faults.HttpFault.{HttpFault}
use Rattle.dip_http.specs.declared.faults.HttpFault.TheVariants.{Write}

-- a text that was written whole is a beginning of itself
pub part_of_whole : {E : Type 0} (r : Result (Unit {0}) E) (a b : Option (List ℕ)) (text : List ℕ) → OnOk r (Appends a b text) → OnErr r (IsPart a b text) → IsPart a b text
part_of_whole (Ok u) a b text whole part = record {
  size = length text;
  within = omega arith;
  written = subst (λ (t : List ℕ). Appends a b t) (sym (take-length text)) whole;
}
part_of_whole (Err e) a b text whole part = part

-- a text that is the answer was written whole
pub shown_whole : {E : Type 0} (r : Result (Unit {0}) E) (a b : Option (List ℕ)) (text answer : List ℕ) (old new : State) → text ≡ answer → new ≡ old → OnOk r (Appends a b text)
    → OnOk r (Shows answer old new a b)
shown_whole (Ok u) a b text answer old new is same h = record { same = same; written = subst (λ (t : List ℕ). Appends a b t) is h }
shown_whole (Err e) a b text answer old new is same h = tt

-- or in part
pub shown_part : (r : Result (Unit {0}) HttpFault) (a b : Option (List ℕ)) (quiet : Bool) (text answer : List ℕ) (old new : State) → text ≡ answer → new ≡ old → OnErr r (IsPart a b text)
    → IfErr r (λ f. f ≡ Write) → IfErr r (λ f. ShowsPart f quiet answer old new a b)
shown_part (Ok u) a b quiet text answer old new is same part fault = tt
shown_part (Err e) a b quiet text answer old new is same part fault =
    subst (λ (f : HttpFault). ShowsPart f quiet answer old new a b) (sym fault) (same, subst (λ (t : List ℕ). IsPart a b t) is part)

-- a body was answered by a text that was written whole
pub posted_whole : (m : Chart) (body : List ℕ) (old new : State) (a b : Option (List ℕ)) (answer : List ℕ) (r : Result (Unit {0}) HttpFault)
    → Posts m body old answer new → OnOk r (Appends a b answer) → OnOk r (PostsTo m body old new a b)
posted_whole m body old new a b answer (Ok u) posts h = (answer, posts, h)
posted_whole m body old new a b answer (Err e) posts h = tt

-- or in part
pub posted_part : (m : Chart) (body : List ℕ) (old new : State) (a b : Option (List ℕ)) (answer : List ℕ) (r : Result (Unit {0}) HttpFault)
    → Posts m body old answer new → OnErr r (IsPart a b answer) → IfErr r (λ f. f ≡ Write) → IfErr r (λ f. PostsToPart m f body old new a b)
posted_part m body old new a b answer (Ok u) posts h fault = tt
posted_part m body old new a b answer (Err e) posts h fault = subst (λ (f : HttpFault). PostsToPart m f body old new a b) (sym fault) (answer, posts, h)
