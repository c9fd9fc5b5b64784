-- What was answered to all that a connection gave.
use Rattle.std.proofs.Common.{◌≡◌, ◌≢◌, ◌++◌, ◌∙◌, ◌<◌, ◌⊎◌, inl, inr, ℕ, Bool, true, false, if◌then◌else◌, List, [], Option, None, Some, Result, Ok, Err, drop, length, refl, sym, ap, subst, append-nil, append_assoc, length-append, arith, codes}
use Rattle.std.specs.Prelude.{IfErr, OnErr, OnOk, option_map}
use Rattle.std.specs.Io.KnownBytes.{Appends, Consumes, IsAtEnd}
use Rattle.std.specs.Str.{bytes_eq}
use Rattle.std.proofs.lemmas.Bool.{false≢true}
use Rattle.std.proofs.lemmas.List.{nil_from_length}
use Rattle.std.proofs.lemmas.Slice.Eq.{bytes_eq-Decides}
use Rattle.httparse.specs.Grammar.{RequestHead, print_request}
use Rattle.dip_map.specs.Charts.{Chart}
use Rattle.dip_desk_state.specs.State.{State}
use Rattle.dip_http_messages.specs.Heads.{Ask, HasNoHead, IsHead, ask_of}
use Rattle.dip_http_messages.specs.Fronts.{IsFront, Shows, ask_view, is_decided}
use Rattle.dip_http_messages.specs.declared.front.Front.{Front}
use Rattle.dip_http_messages.specs.declared.front.Front.TheVariants.{Head, More, NoHead}
use Rattle.dip_http_messages.specs.declared.size.Size.{Size}
use Rattle.dip_http_messages.specs.declared.size.Size.TheVariants.{Unsaid, Fits, TooLarge}
use Rattle.dip_http_messages.specs.declared.front.RequestFront.{RequestFront}
use Rattle.dip_http_messages.specs.Places.{Place, letters, game, paper, place_of}
use Rattle.dip_http_messages.specs.Answers.{IsPart, refusal}
use Rattle.dip_http_messages.specs.Verdicts.{Verdict, ask_verdict, is_get, is_head, letter_verdict, place_verdict, refuse, show_game, show_paper, take_letter, verdict_of}
use Rattle.dip_http.specs.Answering.{headed, headless, silent}
use Rattle.dip_http.specs.Ends.{Answered, Carried, CarriedBy, EndsBy, EndsQuietly, PartRefused, TakesBy, TakesPost, Tells, WasLeft, without_body}
use Rattle.dip_http.specs.declared.faults.HttpFault.{HttpFault}
use Rattle.dip_http.specs.declared.faults.HttpFault.TheVariants.{Read, Write, Memory, Keep}
use Rattle.dip_http.proofs.CarryLemmas.{left_of}

-- what had been read, and what was left, are what there was
input_of : (known left : Option (List ℕ)) (read more : List ℕ) → Consumes known left read → WasLeft left more → WasLeft known (read ++ more)
input_of None left read more c w = tt
input_of (Some xs) None read more c w = absurd c
input_of (Some xs) (Some ys) read more c w = c ∙ ap (λ (t : List ℕ). read ++ t) w

all_read : (known left : Option (List ℕ)) (read : List ℕ) → Consumes known left read → IsAtEnd left → WasLeft known read
all_read None left read c end = tt
all_read (Some xs) None read c end = absurd c
all_read (Some xs) (Some ys) read c end = c ∙ ap (λ (t : List ℕ). read ++ t) end ∙ append-nil read

nothing : (known : Option (List ℕ)) → Appends known known []
nothing None = tt
nothing (Some xs) = sym (append-nil xs)

-- nothing is answered to nothing
pub silence : (m : Chart) (known left : Option (List ℕ)) (bytes : List ℕ) (desk : State) (before : Option (List ℕ)) → Consumes known left bytes
    → IsAtEnd left → length bytes ≡ 0 → Answered m known desk desk before before
silence m known left bytes desk before c end empty = record {
  input = [];
  read = subst (λ (t : List ℕ). WasLeft known t) (nil_from_length bytes empty) (all_read known left bytes c end);
  answer = [];
  answers = silent desk;
  written = nothing before;
}

-- all that there was has no head, and isn't nothing
pub record IsHeadless (known : Option (List ℕ)) : Type 0 where
  pub input : List ℕ
  pub read : WasLeft known input
  pub some : input ≢ []
  pub none : HasNoHead input

longer : (bytes more : List ℕ) → 0 < length bytes → bytes ++ more ≢ []
longer bytes more some is = let none = ap length is in omega (arith, some, none, length-append bytes more)

-- whatever follows, there is no head
pub never_headed : (known left : Option (List ℕ)) (bytes : List ℕ) → Consumes known left bytes → 0 < length bytes
    → ((more : List ℕ) → HasNoHead (bytes ++ more)) → IsHeadless known
never_headed known left bytes c some none =
    let more = left_of left in
    record {
      input = bytes ++ more.0;
      read = input_of known left bytes more.0 c more.1;
      some = longer bytes more.0 some;
      none = none more.0;
    }

-- there is none so far, and no more to come
pub frontless : (known left : Option (List ℕ)) (bytes : List ℕ) → Consumes known left bytes
    → IsAtEnd left → 0 < length bytes → HasNoHead bytes → IsHeadless known
frontless known left bytes c end some none = record {
  input = bytes;
  read = all_read known left bytes c end;
  some = λ is. let empty = ap length is in omega (arith, some, empty);
  none = none;
}

-- neither a head so far nor one to come
pub no_front : (known left : Option (List ℕ)) (bytes : List ℕ) (front : Front) → Consumes known left bytes
    → IsAtEnd left ⊎ (is_decided front ≡ true) → 0 < length bytes → IsFront bytes front
    → (front ≡ More) ⊎ (front ≡ NoHead) → IsHeadless known
no_front known left bytes front c (inl end) some is (inl more) =
    frontless known left bytes c end some (subst (λ (f : Front). IsFront bytes f) more is).0
no_front known left bytes front c (inr decided) some is (inl more) =
    absurd (false≢true (subst (λ (f : Front). is_decided f ≡ true) more decided))
no_front known left bytes front c settled some is (inr none) =
    never_headed known left bytes c some (subst (λ (f : Front). IsFront bytes f) none is)

-- 400 was written whole
pub headless_whole : (m : Chart) (known : Option (List ℕ)) (desk : State) (a b : Option (List ℕ)) (r : Result (Unit {0}) HttpFault)
    → IsHeadless known → OnOk r (Appends a b (refusal 400 None false)) → OnOk r (Answered m known desk desk a b)
headless_whole m known desk a b (Ok u) is h = record {
  input = is.input;
  read = is.read;
  answer = refusal 400 None false;
  answers = headless is.input desk is.some is.none;
  written = h;
}
headless_whole m known desk a b (Err e) is h = tt

-- or in part
pub headless_part : (m : Chart) (known : Option (List ℕ)) (desk : State) (a b : Option (List ℕ)) (r : Result (Unit {0}) HttpFault)
    → IsHeadless known → OnErr r (IsPart a b (refusal 400 None false)) → IfErr r (λ f. f ≡ Write)
    → IfErr r (λ f. EndsBy m f known desk desk a b)
headless_part m known desk a b (Ok u) is h fault = tt
headless_part m known desk a b (Err e) is h fault =
    subst (λ (f : HttpFault). EndsBy m f known desk desk a b) (sym fault) record {
      input = is.input;
      read = is.read;
      answer = refusal 400 None false;
      answers = headless is.input desk is.some is.none;
      written = h;
    }

-- a front asks for what its head asks for
pub asks : (front : RequestFront) (head : RequestHead) → Shows front head
    → ask_verdict front.method.now (option_map ask_view front.asked) ≡ verdict_of head
asks front head shows = ap (λ (t : List ℕ). ask_verdict t (option_map ask_view front.asked)) shows.method ∙ ap (ask_verdict head.method) shows.asked

-- bytes after a head are none of it
head_stays : (bytes : List ℕ) (head : RequestHead) (rest more : List ℕ) → IsHead bytes head rest → IsHead (bytes ++ more) head (rest ++ more)
head_stays bytes head rest more is = record {
  reads = (is.reads.0, ap (λ (t : List ℕ). t ++ more) is.reads.1 ∙ append_assoc (print_request head) rest more);
  size = is.size;
  fields = is.fields;
}

-- only POST takes a letter
posted : (method : List ℕ) → bytes_eq method (codes "POST") ≡ true → is_head method ≡ false
posted method is = ap is_head ((bytes_eq-Decides method (codes "POST")).0 is)

bodiless_letter : (method : List ℕ) (size : Size) → is_head method ≡ false → without_body (letter_verdict size) (is_head method) ≡ is_head method
bodiless_letter method Unsaid no_head = refl
bodiless_letter method (Fits n) no_head = sym no_head
bodiless_letter method TooLarge no_head = refl

bodiless_post : (method : List ℕ) (size : Size) (is_post : Bool) → bytes_eq method (codes "POST") ≡ is_post
    → without_body (if is_post then letter_verdict size else refuse 405 (Some (codes "POST"))) (is_head method) ≡ is_head method
bodiless_post method size true is = bodiless_letter method size (posted method is)
bodiless_post method size false is = refl

bodiless_get : (allowed : Bool) (v : Verdict) (quiet : Bool) → without_body v quiet ≡ quiet
    → without_body (if allowed then v else refuse 405 (Some (codes "GET, HEAD"))) quiet ≡ quiet
bodiless_get true v quiet is = is
bodiless_get false v quiet is = refl

bodiless_place : (method : List ℕ) (size : Size) (place : Option Place) → without_body (place_verdict method size place) (is_head method) ≡ is_head method
bodiless_place method size None = refl
bodiless_place method size (Some letters) = bodiless_post method size (bytes_eq method (codes "POST")) refl
bodiless_place method size (Some (game name)) = bodiless_get (is_get method) _ (is_head method) refl
bodiless_place method size (Some (paper name number)) = bodiless_get (is_get method) _ (is_head method) refl

bodiless_ask : (method : List ℕ) (ask : Option Ask) → without_body (ask_verdict method ask) (is_head method) ≡ is_head method
bodiless_ask method None = refl
bodiless_ask method (Some ask) = bodiless_place method ask.1 (place_of ask.0)

-- what is refused for want of a keeper goes without its body exactly where the method is HEAD
bodiless : (head : RequestHead) → without_body (verdict_of head) (is_head head.method) ≡ is_head head.method
bodiless head = bodiless_ask head.method (ask_of head)

-- a head's verdict was carried out
pub headed_whole : (m : Chart) (known left : Option (List ℕ)) (bytes : List ℕ) (head : RequestHead) (rest : List ℕ) (old new : State) (a b : Option (List ℕ))
    (r : Result (Unit {0}) HttpFault) → Consumes known left bytes → IsHead bytes head rest
    → OnOk r (Carried m (verdict_of head) (is_head head.method) rest left old new a b) → OnOk r (Answered m known old new a b)
headed_whole m known left bytes head rest old new a b (Ok u) c is h = record {
  input = bytes ++ h.more;
  read = input_of known left bytes h.more c h.left;
  answer = h.answer;
  answers = headed (bytes ++ h.more) old h.answer new head (rest ++ h.more) (head_stays bytes head rest h.more is) h.carries;
  written = h.written;
}
headed_whole m known left bytes head rest old new a b (Err e) c is h = tt

-- a beginning of the 503 was written
refused : (known left : Option (List ℕ)) (bytes : List ℕ) (head : RequestHead) (rest : List ℕ) (a b : Option (List ℕ)) → Consumes known left bytes → IsHead bytes head rest
    → IsPart a b (refusal 503 None (without_body (verdict_of head) (is_head head.method))) → PartRefused known a b
refused known left bytes head rest a b c is h =
    let more = left_of left in
    record {
      input = bytes ++ more.0;
      read = input_of known left bytes more.0 c more.1;
      head = head;
      rest = rest ++ more.0;
      headed = head_stays bytes head rest more.0 is;
      written = subst (λ (quiet : Bool). IsPart a b (refusal 503 None quiet)) (bodiless head) h;
    }

part_of_headed : (m : Chart) (known left : Option (List ℕ)) (bytes : List ℕ) (head : RequestHead) (rest : List ℕ) (old new : State) (a b : Option (List ℕ))
    (f : HttpFault) → Consumes known left bytes → IsHead bytes head rest
    → CarriedBy m f (verdict_of head) (is_head head.method) rest left old new a b → EndsBy m f known old new a b
part_of_headed m known left bytes head rest old new a b Read c is h = h
part_of_headed m known left bytes head rest old new a b Memory c is h = h
part_of_headed m known left bytes head rest old new a b Write c is h = record {
  input = bytes ++ h.more;
  read = input_of known left bytes h.more c h.left;
  answer = h.answer;
  answers = headed (bytes ++ h.more) old h.answer new head (rest ++ h.more) (head_stays bytes head rest h.more is) h.carries;
  written = h.written;
}
part_of_headed m known left bytes head rest old new a b (Keep fault) c is h = (h.0, refused known left bytes head rest a b c is h.1)

pub headed_part : (m : Chart) (known left : Option (List ℕ)) (bytes : List ℕ) (head : RequestHead) (rest : List ℕ) (old new : State) (a b : Option (List ℕ))
    (r : Result (Unit {0}) HttpFault) → Consumes known left bytes → IsHead bytes head rest
    → IfErr r (λ f. CarriedBy m f (verdict_of head) (is_head head.method) rest left old new a b)
    → IfErr r (λ f. EndsBy m f known old new a b)
headed_part m known left bytes head rest old new a b (Ok u) c is h = tt
headed_part m known left bytes head rest old new a b (Err e) c is h = part_of_headed m known left bytes head rest old new a b e c is h

-- what a fault tells
told_of_headed : {K : Type 0} (known left : Option (List ℕ)) (bytes : List ℕ) (head : RequestHead) (rest : List ℕ) (old new : K) (a b : Option (List ℕ)) (f : HttpFault)
    → Consumes known left bytes → IsHead bytes head rest → Tells f (without_body (verdict_of head) (is_head head.method)) old new a b → EndsQuietly f known old new a b
told_of_headed known left bytes head rest old new a b Read c is h = h
told_of_headed known left bytes head rest old new a b Memory c is h = h
told_of_headed known left bytes head rest old new a b Write c is h = tt
told_of_headed known left bytes head rest old new a b (Keep fault) c is h = refused known left bytes head rest a b c is h

-- the letter that was taken is the one that the connection posts
posted_by : (m : Chart) (known left : Option (List ℕ)) (bytes : List ℕ) (head : RequestHead) (rest : List ℕ) (old new : State) (v : Verdict)
    → Consumes known left bytes → IsHead bytes head rest → v ≡ verdict_of head → TakesBy m v rest left old new → TakesPost m known old new
posted_by m known left bytes head rest old new (take_letter size) c is asks h = record {
  input = bytes ++ h.more;
  read = input_of known left bytes h.more c h.left;
  letter = h.takes.letter;
  post = record {
    head = head;
    rest = rest ++ h.more;
    headed = head_stays bytes head rest h.more is;
    size = size;
    asks = sym asks;
    whole = h.whole;
    letter = h.takes.is;
  };
  reply = h.takes.reply;
  step = h.takes.step;
}
posted_by m known left bytes head rest old new (refuse status allow) c is asks h = absurd h
posted_by m known left bytes head rest old new (show_game name) c is asks h = absurd h
posted_by m known left bytes head rest old new (show_paper name number) c is asks h = absurd h

-- an answer that carries out a verdict on a request's front, as the code found it, is the answer to all that the connection gives
pub fronted_whole : (m : Chart) (known left : Option (List ℕ)) (bytes : List ℕ) (front : RequestFront) (v : Verdict) (quiet : Bool) (start : List ℕ)
    (old new : State) (a b : Option (List ℕ)) (r : Result (Unit {0}) HttpFault) → Consumes known left bytes → IsFront bytes (Head front)
    → v ≡ ask_verdict front.method.now (option_map ask_view front.asked) → quiet ≡ is_head front.method.now → start ≡ drop front.size bytes
    → OnOk r (Carried m v quiet start left old new a b) → OnOk r (Answered m known old new a b)
fronted_whole m known left bytes front v quiet start old new a b r c is v_is quiet_is start_is h =
    let shows = is.3 in
    let by_verdict = subst (λ (w : Verdict). OnOk r (Carried m w quiet start left old new a b)) (v_is ∙ asks front is.1 shows) h in
    let by_quiet = subst (λ (q : Bool). OnOk r (Carried m (verdict_of is.1) q start left old new a b)) (quiet_is ∙ ap is_head shows.method) by_verdict in
    headed_whole m known left bytes is.1 _ old new a b r c is.2
    (subst (λ (s : List ℕ). OnOk r (Carried m (verdict_of is.1) (is_head is.1.method) s left old new a b)) start_is by_quiet)

pub fronted_part : (m : Chart) (known left : Option (List ℕ)) (bytes : List ℕ) (front : RequestFront) (v : Verdict) (quiet : Bool) (start : List ℕ)
    (old new : State) (a b : Option (List ℕ)) (r : Result (Unit {0}) HttpFault) → Consumes known left bytes → IsFront bytes (Head front)
    → v ≡ ask_verdict front.method.now (option_map ask_view front.asked) → quiet ≡ is_head front.method.now → start ≡ drop front.size bytes
    → IfErr r (λ f. CarriedBy m f v quiet start left old new a b) → IfErr r (λ f. EndsBy m f known old new a b)
fronted_part m known left bytes front v quiet start old new a b r c is v_is quiet_is start_is h =
    let shows = is.3 in
    let by_verdict = subst (λ (w : Verdict). IfErr r (λ f. CarriedBy m f w quiet start left old new a b)) (v_is ∙ asks front is.1 shows) h in
    let by_quiet = subst (λ (q : Bool). IfErr r (λ f. CarriedBy m f (verdict_of is.1) q start left old new a b)) (quiet_is ∙ ap is_head shows.method) by_verdict in
    headed_part m known left bytes is.1 _ old new a b r c is.2
    (subst (λ (s : List ℕ). IfErr r (λ f. CarriedBy m f (verdict_of is.1) (is_head is.1.method) s left old new a b)) start_is by_quiet)

pub fronted_tells : {K : Type 0} (known left : Option (List ℕ)) (bytes : List ℕ) (front : RequestFront) (v : Verdict) (quiet : Bool) (old new : K) (a b : Option (List ℕ))
    (r : Result (Unit {0}) HttpFault) → Consumes known left bytes → IsFront bytes (Head front)
    → v ≡ ask_verdict front.method.now (option_map ask_view front.asked) → quiet ≡ is_head front.method.now
    → IfErr r (λ f. Tells f (without_body v quiet) old new a b) → IfErr r (λ f. EndsQuietly f known old new a b)
fronted_tells known left bytes front v quiet old new a b (Ok u) c is v_is quiet_is h = tt
fronted_tells known left bytes front v quiet old new a b (Err f) c is v_is quiet_is h =
    let shows = is.3 in
    let by_verdict = subst (λ (w : Verdict). Tells f (without_body w quiet) old new a b) (v_is ∙ asks front is.1 shows) h in
    told_of_headed known left bytes is.1 _ old new a b f c is.2
    (subst (λ (q : Bool). Tells f (without_body (verdict_of is.1) q) old new a b) (quiet_is ∙ ap is_head shows.method) by_verdict)

pub fronted_taken : (m : Chart) (known left : Option (List ℕ)) (bytes : List ℕ) (front : RequestFront) (v : Verdict) (start : List ℕ) (old new : State)
    → Consumes known left bytes → IsFront bytes (Head front) → v ≡ ask_verdict front.method.now (option_map ask_view front.asked) → start ≡ drop front.size bytes
    → TakesBy m v start left old new → TakesPost m known old new
fronted_taken m known left bytes front v start old new c is v_is start_is h =
    posted_by m known left bytes is.1 (drop front.size bytes) old new v c is.2 (v_is ∙ asks front is.1 is.3)
    (subst (λ (s : List ℕ). TakesBy m v s left old new) start_is h)

-- where more may come, there is room for it
pub undecided : (bytes : List ℕ) (front : Front) → IsFront bytes front → is_decided front ≡ false → length bytes < 8192
undecided bytes More is may = is.1
undecided bytes NoHead is may = absurd (false≢true (sym may))
undecided bytes (Head r) is may = absurd (false≢true (sym may))
