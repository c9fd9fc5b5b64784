-- Which of the three answers a connection has.
use Rattle.std.proofs.Common.{◌≡◌, ◌≢◌, ◌<◌, ◌++◌, ◌∙◌, ◌⊎◌, inl, inr, ℕ, List, [], ◌∷◌, None, false, length, refl, sym, ap, subst, length-append, arith}
use Rattle.httparse.specs.Grammar.{RequestHead, print_blank, print_end, print_request, print_section, print_version}
use Rattle.httparse.proofs.GrammarLemmas.{request_unique}
use Rattle.dip_map.specs.Charts.{Chart}
use Rattle.dip_desk_state.specs.State.{State}
use Rattle.dip_http_messages.specs.Heads.{HasNoHead, IsHead}
use Rattle.dip_http_messages.specs.Answers.{refusal}
use Rattle.dip_http_messages.specs.Verdicts.{is_head, verdict_of}
use Rattle.dip_http.specs.Answering.{Carries, IsAnswer, headed, headless, silent}

pub record IsSilent (input : List ℕ) (old : State) (answer : List ℕ) (new : State) : Type 0 where
  pub empty : input ≡ []
  pub nothing : answer ≡ []
  pub same : new ≡ old

pub record IsHeadless (input : List ℕ) (old : State) (answer : List ℕ) (new : State) : Type 0 where
  pub some : input ≢ []
  pub none : HasNoHead input
  pub bad : answer ≡ refusal 400 None false
  pub same : new ≡ old

pub record IsHeaded (m : Chart) (input : List ℕ) (old : State) (answer : List ℕ) (new : State) : Type 0 where
  pub head : RequestHead
  pub rest : List ℕ
  pub is : IsHead input head rest
  pub carries : Carries m (verdict_of head) (is_head head.method) rest old answer new

pub cases : (m : Chart) (input : List ℕ) (old : State) (answer : List ℕ) (new : State) → IsAnswer m input old answer new
    → IsSilent input old answer new ⊎ (IsHeadless input old answer new ⊎ IsHeaded m input old answer new)
cases m input old answer new (silent desk) = inl (record { empty = refl; nothing = refl; same = refl })
cases m input old answer new (headless given desk some none) = inr (inl (record { some = some; none = none; bad = refl; same = refl }))
cases m input old answer new (headed given before told after head rest is carries) =
    inr (inr (record { head = head; rest = rest; is = is; carries = carries }))

-- a head has the spaces round its target
spaced : (a b c d e f : List ℕ) → 0 < length (a ++ b ++ 32 ∷ c ++ 32 ∷ d ++ e ++ f)
spaced a b c d e f = rw (length-append, length-append, length-append, length-append, length-append) (omega arith)

has_bytes : (h : RequestHead) → 0 < length (print_request h)
unfolding print_request
has_bytes h = spaced (print_blank h.blank) h.method h.target (print_version h.minor) (print_end h.line_end) (print_section h.fields h.last)

-- nothing begins with no head
pub no_head : (input : List ℕ) (head : RequestHead) (rest : List ℕ) → IsHead input head rest → input ≡ [] → ⊥
no_head input head rest is empty =
    let whole = ap length (sym empty ∙ is.reads.1) in
    omega (arith, whole, length-append (print_request head) rest, has_bytes head)

-- what a head that is there is answered
pub carried : (m : Chart) (input : List ℕ) (old : State) (answer : List ℕ) (new : State) (head : RequestHead) (rest : List ℕ) → IsHead input head rest
    → IsAnswer m input old answer new → Carries m (verdict_of head) (is_head head.method) rest old answer new
carried m input old answer new head rest is answered = of_case (cases m input old answer new answered)
  where
    same_head : (k : RequestHead) (q : List ℕ) → IsHead input k q → Carries m (verdict_of k) (is_head k.method) q old answer new
        → Carries m (verdict_of head) (is_head head.method) rest old answer new
    same_head k q other c =
        let same = request_unique input k head q rest other.reads is.reads in
        let by_rest = subst (λ (r : List ℕ). Carries m (verdict_of k) (is_head k.method) r old answer new) same.1 c in
        subst (λ (h : RequestHead). Carries m (verdict_of h) (is_head h.method) rest old answer new) same.0 by_rest

    of_case : IsSilent input old answer new ⊎ (IsHeadless input old answer new ⊎ IsHeaded m input old answer new)
        → Carries m (verdict_of head) (is_head head.method) rest old answer new
    of_case (inl s) = absurd (no_head input head rest is s.empty)
    of_case (inr (inl h)) = absurd (h.none head rest is)
    of_case (inr (inr h)) = same_head h.head h.rest h.is h.carries
