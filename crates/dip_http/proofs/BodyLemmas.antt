-- Bodies that are read of a reader.
use Rattle.std.proofs.Common.{◌≡◌, ◌≤◌, ◌∙◌, ℕ, List, [], ◌++◌, Option, None, Some, Result, Ok, Err, false, inl, length, take, refl, sym, ap, subst, append-nil, append_assoc, length-append, arith}
use Rattle.std.specs.Prelude.{IfErr, OnOk}
use Rattle.std.specs.Io.KnownBytes.{Consumes}
use Rattle.std.proofs.lemmas.List.{take-append-le}
use Rattle.dip_map.specs.Charts.{Chart}
use Rattle.dip_desk_state.specs.State.{State}
use Rattle.dip_http_messages.specs.Verdicts.Verdict.{take_letter}
use Rattle.dip_http.specs.Answering.{Posts}
use Rattle.dip_http.specs.Ends.{Carried, CarriedBy, PostsTo, PostsToPart, TakesBody, TakesMail, WasLeft}
use Rattle.dip_http.specs.declared.faults.HttpFault.{HttpFault}
use Rattle.dip_http.specs.declared.faults.HttpFault.TheVariants.{Read, Write, Memory, Keep}

-- all that a reader had left is what was read of it, and a rest
all_left : (known left : Option (List ℕ)) (read : List ℕ) → Consumes known left read → (more : List ℕ) × WasLeft known more × ((rest : List ℕ) × (more ≡ read ++ rest))
all_left None left read c = (read, tt, ([], sym (append-nil read)))
all_left (Some xs) None read c = absurd c
all_left (Some xs) (Some ys) read c = (xs, refl, (ys, c))

same_front : (size : ℕ) (start read rest more : List ℕ) → more ≡ read ++ rest → size ≤ length (start ++ read) → take size (start ++ read) ≡ take size (start ++ more)
same_front size start read rest more is fits =
    sym (take-append-le size (start ++ read) rest fits) ∙ ap (take size) (append_assoc start read rest ∙ ap (λ (t : List ℕ). start ++ t) (sym is))

longer : (size : ℕ) (start read rest more : List ℕ) → more ≡ read ++ rest → size ≤ length (start ++ read) → size ≤ length (start ++ more)
longer size start read rest more is fits =
    omega (arith, fits, length-append start read, length-append start more, ap length is, length-append read rest)

-- a body that was read is the one after the head, and what it is answered is carried by the verdict
pub body_carried : (m : Chart) (size : ℕ) (start read body : List ℕ) (known left : Option (List ℕ)) (old new : State) (before after : Option (List ℕ)) (r : Result (Unit {0}) HttpFault)
    → Consumes known left read → body ≡ take size (start ++ read) → size ≤ length (start ++ read)
    → OnOk r (PostsTo m body old new before after) → OnOk r (Carried m (take_letter size) false start known old new before after)
body_carried m size start read body known left old new before after (Ok u) cons is fits p =
    let a = all_left known left read cons in
    record {
      more = a.0;
      left = a.1;
      answer = p.0;
      carries = inl (longer size start read a.2.0 a.0 a.2.1 fits, subst (λ (b : List ℕ). Posts m b old p.0 new) (is ∙ same_front size start read a.2.0 a.0 a.2.1 fits) p.1);
      written = p.2;
    }
body_carried m size start read body known left old new before after (Err e) cons is fits p = tt

pub body_part : (m : Chart) (size : ℕ) (start read body : List ℕ) (known left : Option (List ℕ)) (old new : State) (before after : Option (List ℕ)) (r : Result (Unit {0}) HttpFault)
    → Consumes known left read → body ≡ take size (start ++ read) → size ≤ length (start ++ read)
    → IfErr r (λ f. PostsToPart m f body old new before after) → IfErr r (λ f. CarriedBy m f (take_letter size) false start known old new before after)
body_part m size start read body known left old new before after (Ok u) cons is fits p = tt
body_part m size start read body known left old new before after (Err Read) cons is fits p = p
body_part m size start read body known left old new before after (Err Memory) cons is fits p = p
body_part m size start read body known left old new before after (Err Write) cons is fits p =
    let a = all_left known left read cons in
    record {
      more = a.0;
      left = a.1;
      answer = p.0;
      carries = inl (longer size start read a.2.0 a.0 a.2.1 fits, subst (λ (b : List ℕ). Posts m b old p.0 new) (is ∙ same_front size start read a.2.0 a.0 a.2.1 fits) p.1);
      written = p.2;
    }
body_part m size start read body known left old new before after (Err (Keep f)) cons is fits p = p

-- the letter that it is was taken of what stands after the head
pub body_taken : (m : Chart) (size : ℕ) (start read body : List ℕ) (known left : Option (List ℕ)) (old new : State)
    → Consumes known left read → body ≡ take size (start ++ read) → size ≤ length (start ++ read)
    → TakesMail m body old new → TakesBody m size start known old new
body_taken m size start read body known left old new cons is fits taken =
    let a = all_left known left read cons in
    record {
      more = a.0;
      left = a.1;
      whole = longer size start read a.2.0 a.0 a.2.1 fits;
      takes = subst (λ (b : List ℕ). TakesMail m b old new) (is ∙ same_front size start read a.2.0 a.0 a.2.1 fits) taken;
    }
