-- What a posted letter is answered, and what it leaves.
use Rattle.std.proofs.Common.{◌≡◌, ◌∙◌, ◌≤◌, ◌⊎◌, inl, inr, ℕ, Bool, List, [], ◌∷◌, None, false, length, take, refl, sym, ap, subst, arith}
use Rattle.httparse.specs.Grammar.{RequestHead}
use Rattle.httparse.proofs.GrammarLemmas.{request_unique}
use Rattle.dip_map.specs.Charts.{Chart}
use Rattle.dip_desk_machine.specs.Machine.{Decides, SeatName, Step, Verdict, after, author, reply_of, seen_by}
use Rattle.dip_desk_machine.specs.Mail.{Mail}
use Rattle.dip_desk_state.specs.State.{Author, Seat, State}
use Rattle.dip_desk_machine.specs.View.{IsAnsweredFromSeen, IsRun, Turn}
use Rattle.dip_desk_state.specs.Records.{Reply}
use Rattle.dip_desk_state.specs.Texts.{reply_text}
use Rattle.dip_http_messages.specs.Answers.{answer_bytes, plain}
use Rattle.dip_http_messages.specs.Verdicts.{Verdict as Asked, is_head, refuse, show_game, show_paper, take_letter, verdict_of}
use Rattle.dip_http.specs.Answering.{Carries, IsAnswer, IsOneLetter, Posts, Takes, status_of}
use Rattle.dip_http_messages.specs.Heads.{IsHead}
use Rattle.dip_http.specs.Laws.{AreTurns, AreTurnsOf, IsPost, IsPostSettled}
use Rattle.dip_http.proofs.Cases.{IsHeaded, IsHeadless, IsSilent, carried, cases, no_head}
use Rattle.dip_http.proofs.OneAnswer.{letter_one}

-- a posted letter is taken
taken_body : (m : Chart) (body : List ℕ) (n : Mail) (old new : State) (answer : List ℕ) → Posts m body old answer new → IsOneLetter body n
    → Takes m n old answer new
taken_body m body n old new answer (inl p) is = subst (λ (k : Mail). Takes m k old answer new) (letter_one body p.0 n p.1 is) p.2
taken_body m body n old new answer (inr p) is = absurd (p.none n is)

taken_rest : (m : Chart) (size : ℕ) (quiet : Bool) (rest : List ℕ) (n : Mail) (old new : State) (answer : List ℕ)
    → Carries m (take_letter size) quiet rest old answer new → size ≤ length rest → IsOneLetter (take size rest) n → Takes m n old answer new
taken_rest m size quiet rest n old new answer (inl p) whole is = taken_body m (take size rest) n old new answer p.1 is
taken_rest m size quiet rest n old new answer (inr p) whole is = absurd (let short = p.0 in omega (arith, short, whole))

taken : (m : Chart) (input : List ℕ) (n : Mail) (old new : State) (answer : List ℕ) → IsPost input n → IsAnswer m input old answer new
    → Takes m n old answer new
taken m input n old new answer post p =
    let carries = carried m input old answer new post.head post.rest post.headed p in
    taken_rest m post.size (is_head post.head.method) post.rest n old new answer
    (subst (λ (v : Asked). Carries m v (is_head post.head.method) post.rest old answer new) post.asks carries) post.whole post.letter

abbrev seat_of : List ℕ → ℕ → SeatName
seat_of game power = record { game = game; power = power }

abbrev answer_to : Reply → List ℕ
answer_to r = answer_bytes (status_of r.outcome) plain None false (reply_text r)

-- a step of a seat's letter, with its author named
by_seat : (m : Chart) (n : Mail) (power : ℕ) (old new : State) (reply : Reply) → author m n old ≡ Seat power → Step m old n reply new
    → (v : Verdict) × Decides m old n (Seat power) v × (reply ≡ reply_of n v) × (new ≡ after n (Seat power) v old)
by_seat m n power old new reply is step = (
  step.0,
  subst (λ (who : Author). Decides m old n who step.0) is step.1,
  step.2,
  step.3 ∙ ap (λ (who : Author). after n who step.0 old) is,
)

settled_at : (m : Chart) → IsAnsweredFromSeen m → (n : Mail) (power : ℕ) (s t x y : State) (a b : List ℕ) → author m n s ≡ Seat power
    → author m n t ≡ Seat power → seen_by (record { game = n.note.game; power = power }) s ≡ seen_by (record { game = n.note.game; power = power }) t
    → Takes m n s a x → Takes m n t b y
    → (a ≡ b) × (seen_by (record { game = n.note.game; power = power }) x ≡ seen_by (record { game = n.note.game; power = power }) y)
settled_at m seen n power s t x y a b first second alike p q =
    let one = by_seat m n power s x p.reply first p.step in
    let two = by_seat m n power t y q.reply second q.step in
    let same = seen s t n power one.0 two.0 one.1 two.1 alike in
    let seat = seat_of n.note.game power in
    (p.carries ∙ ap answer_to (one.2 ∙ same.0 ∙ sym two.2) ∙ sym q.carries, ap (seen_by seat) one.3 ∙ same.1 ∙ sym (ap (seen_by seat) two.3))

pub posts_settled : (m : Chart) → IsAnsweredFromSeen m → IsPostSettled m
posts_settled m seen input n seat post named s t x y a b first second alike p q =
    let is = ap (λ (g : List ℕ). seat_of g seat.power) named in
    let there = settled_at m seen n seat.power s t x y a b first second
    (subst (λ (w : SeatName). seen_by w s ≡ seen_by w t) is alike) (taken m input n s x a post p) (taken m input n t y b post q) in
    (there.0, subst (λ (w : SeatName). seen_by w x ≡ seen_by w y) (sym is) there.1)

-- what a connection comes to as turns of a history
abbrev Turned : Chart → List ℕ → List ℕ → State → State → Type 0
Turned m input answer old new = (turns : List Turn) × IsRun m old turns new × AreTurnsOf input answer turns

no_turn : (m : Chart) (input answer : List ℕ) (old new : State) → new ≡ old → ((n : Mail) → IsPost input n → ⊥) → Turned m input answer old new
no_turn m input answer old new same none = ([], same, none)

abbrev turn_of : State → Mail → Verdict → Turn
turn_of old n v = record { before = old; letter = n; verdict = v }

one_turn : (m : Chart) (input : List ℕ) (n : Mail) (old new : State) (answer : List ℕ) → IsPost input n → Takes m n old answer new → Turned m input answer old new
one_turn m input n old new answer post p =
    let step = p.step in
    (turn_of old n step.0 ∷ [], (refl, step.1, step.3), record { post = post; carries = p.carries ∙ ap answer_to step.2 })

-- what the head of a posted letter asks for, and what stands after it
posted_as : (input : List ℕ) (head : RequestHead) (rest : List ℕ) (n : Mail) → IsHead input head rest → (post : IsPost input n)
    → (verdict_of head ≡ take_letter post.size) × (rest ≡ post.rest)
posted_as input head rest n is post =
    let same = request_unique input head post.head rest post.rest is.reads post.headed.reads in
    (ap verdict_of same.0 ∙ post.asks, same.1)

turn_of_posts : (m : Chart) (input : List ℕ) (head : RequestHead) (size : ℕ) (rest : List ℕ) (old new : State) (answer : List ℕ)
    → IsHead input head rest → verdict_of head ≡ take_letter size → size ≤ length rest → Posts m (take size rest) old answer new → Turned m input answer old new
turn_of_posts m input head size rest old new answer is asks whole (inl p) =
    one_turn m input p.0 old new answer (record { head = head; rest = rest; headed = is; size = size; asks = asks; whole = whole; letter = p.1 }) p.2
turn_of_posts m input head size rest old new answer is asks whole (inr p) = no_turn m input answer old new p.same none
  where
    none : (n : Mail) → IsPost input n → ⊥
    none n post =
        let head_is = posted_as input head rest n is post in
        let one : take_letter size ≡ take_letter post.size = sym asks ∙ head_is.0 in
        let sizes : post.size ≡ size = cc in
        p.none n (subst (λ (k : ℕ). IsOneLetter (take k rest) n) sizes (subst (λ (r : List ℕ). IsOneLetter (take post.size r) n) (sym head_is.1) post.letter))

turn_of_verdict : (m : Chart) (input : List ℕ) (head : RequestHead) (rest : List ℕ) (v : Asked) (quiet : Bool) (old new : State) (answer : List ℕ)
    → IsHead input head rest → verdict_of head ≡ v → Carries m v quiet rest old answer new → Turned m input answer old new
turn_of_verdict m input head rest (refuse status allow) quiet old new answer is asks p =
    no_turn m input answer old new p.1 (λ n post. let bad : refuse status allow ≡ take_letter post.size = sym asks ∙ (posted_as input head rest n is post).0 in absurd (cc))
turn_of_verdict m input head rest (show_game name) quiet old new answer is asks p =
    no_turn m input answer old new p.1 (λ n post. let bad : show_game name ≡ take_letter post.size = sym asks ∙ (posted_as input head rest n is post).0 in absurd (cc))
turn_of_verdict m input head rest (show_paper name number) quiet old new answer is asks p =
    no_turn m input answer old new p.3 (λ n post. let bad : show_paper name number ≡ take_letter post.size = sym asks ∙ (posted_as input head rest n is post).0 in absurd (cc))
turn_of_verdict m input head rest (take_letter size) quiet old new answer is asks (inl p) = turn_of_posts m input head size rest old new answer is asks p.0 p.1
turn_of_verdict m input head rest (take_letter size) quiet old new answer is asks (inr p) =
    no_turn m input answer old new p.2 (λ n post.
    let head_is = posted_as input head rest n is post in
    let one : take_letter size ≡ take_letter post.size = sym asks ∙ head_is.0 in
    let sizes : post.size ≡ size = cc in
    let rests : length rest ≡ length post.rest = ap length head_is.1 in
    let short = p.0 in
    let whole = post.whole in
    omega (arith, sizes, rests, short, whole))

turn_of_case : (m : Chart) (input : List ℕ) (old new : State) (answer : List ℕ)
    → IsSilent input old answer new ⊎ (IsHeadless input old answer new ⊎ IsHeaded m input old answer new) → Turned m input answer old new
turn_of_case m input old new answer (inl p) = no_turn m input answer old new p.same (λ n post. no_head input post.head post.rest post.headed p.empty)
turn_of_case m input old new answer (inr (inl p)) = no_turn m input answer old new p.same (λ n post. p.none post.head post.rest post.headed)
turn_of_case m input old new answer (inr (inr p)) = turn_of_verdict m input p.head p.rest (verdict_of p.head) (is_head p.head.method) old new answer p.is refl p.carries

pub turns : (m : Chart) → AreTurns m
turns m input old new answer p = turn_of_case m input old new answer (cases m input old answer new p)
