-- An answer is one.
use Rattle.std.proofs.Common.{◌≡◌, ◌∙◌, ◌⊎◌, ◌++◌, inl, inr, ℕ, Bool, List, Option, None, false, replicate, take, sym, ap, subst, arith}
use Rattle.sha2.specs.Sha256.{sha256}
use Rattle.dip_map.specs.Charts.{Chart}
use Rattle.dip_letters.specs.Letters.{spelling}
use Rattle.dip_letters.specs.Notes.{Note}
use Rattle.dip_letters.proofs.AgainLemmas.{spelling_unique, letter_starts, text_settles}
use Rattle.dip_desk_machine.specs.Machine.{Step, Verdict, after, author, reply_of}
use Rattle.dip_desk_machine.specs.Mail.{Mail}
use Rattle.dip_desk_state.specs.State.{State}
use Rattle.dip_desk_machine.specs.View.{IsDecidedOnce}
use Rattle.dip_desk_state.specs.Records.{Reply}
use Rattle.dip_desk_state.specs.Texts.{reply_text}
use Rattle.dip_http_messages.specs.Answers.{answer_bytes, plain}
use Rattle.dip_http_messages.specs.Verdicts.{Verdict as Asked, refuse, show_game, show_paper, take_letter}
use Rattle.dip_http.specs.Answering.{Carries, IsAnswer, IsOneLetter, Posts, Takes, paper_answer, paper_named, status_of}
use Rattle.dip_http_messages.proofs.TextNumbers.{number_one}
use Rattle.dip_http.proofs.LetterLemmas.{skips_to}
use Rattle.dip_http.specs.Laws.{HasOneAnswer}
use Rattle.dip_http.proofs.Cases.{IsHeaded, IsHeadless, IsSilent, carried, cases, no_head}

abbrev mail_of : Note → List ℕ → Mail
mail_of note sum = record { note = note; sum = sum }

same_mail : (n k : Mail) → n.note ≡ k.note → n.sum ≡ k.sum → n ≡ k
same_mail n k note sum = ap (λ (t : Note). mail_of t n.sum) note ∙ ap (mail_of k.note) sum

-- a body is one letter
pub letter_one : (body : List ℕ) (n k : Mail) → IsOneLetter body n → IsOneLetter body k → n ≡ k
letter_one body n k x y =
    let at = text_settles body (spelling n.note ++ replicate x.after 10) (spelling k.note ++ replicate y.after 10)
    (letter_starts n.note (replicate x.after 10)) (letter_starts k.note (replicate y.after 10)) (skips_to body n x) (skips_to body k y) in
    let note = (spelling_unique n.note k.note (replicate x.after 10) (replicate y.after 10) x.fits y.fits at).0 in
    same_mail n k note (x.sum ∙ ap (λ (t : Note). sha256 (spelling t)) note ∙ sym y.sum)

step_one : (m : Chart) → IsDecidedOnce m → (n : Mail) (old x y : State) (r s : Reply) → Step m old n r x → Step m old n s y → (r ≡ s) × (x ≡ y)
step_one m once n old x y r s p q =
    let same = once old n (author m n old) p.0 q.0 p.1 q.1 in
    (p.2 ∙ ap (reply_of n) same ∙ sym q.2, p.3 ∙ ap (λ (v : Verdict). after n (author m n old) v old) same ∙ sym q.3)

takes_one : (m : Chart) → IsDecidedOnce m → (n : Mail) (old x y : State) (a b : List ℕ) → Takes m n old a x → Takes m n old b y → (a ≡ b) × (x ≡ y)
takes_one m once n old x y a b p q =
    let same = step_one m once n old x y p.reply q.reply p.step q.step in
    (p.carries ∙ ap (λ (r : Reply). answer_bytes (status_of r.outcome) plain None false (reply_text r)) same.0 ∙ sym q.carries, same.1)

posts_one : (m : Chart) → IsDecidedOnce m → (body : List ℕ) (old x y : State) (a b : List ℕ) → Posts m body old a x → Posts m body old b y → (a ≡ b) × (x ≡ y)
posts_one m once body old x y a b (inl p) (inl q) =
    let same = letter_one body q.0 p.0 q.1 p.1 in
    takes_one m once p.0 old x y a b p.2 (subst (λ (n : Mail). Takes m n old b y) same q.2)
posts_one m once body old x y a b (inl p) (inr q) = absurd (q.none p.0 p.1)
posts_one m once body old x y a b (inr p) (inl q) = absurd (p.none q.0 q.1)
posts_one m once body old x y a b (inr p) (inr q) = (p.carries ∙ sym q.carries, p.same ∙ sym q.same)

carries_one : (m : Chart) → IsDecidedOnce m → (v : Asked) (quiet : Bool) (rest : List ℕ) (old x y : State) (a b : List ℕ)
    → Carries m v quiet rest old a x → Carries m v quiet rest old b y → (a ≡ b) × (x ≡ y)
carries_one m once (refuse status allow) quiet rest old x y a b p q = (p.0 ∙ sym q.0, p.1 ∙ sym q.1)
carries_one m once (show_game name) quiet rest old x y a b p q = (p.0 ∙ sym q.0, p.1 ∙ sym q.1)
carries_one m once (show_paper name number) quiet rest old x y a b p q =
    let same = number_one number p.0 q.0 p.1 q.1 in
    (p.2 ∙ ap (λ (n : Option ℕ). paper_answer quiet (paper_named name n old)) same ∙ sym q.2, p.3 ∙ sym q.3)
carries_one m once (take_letter size) quiet rest old x y a b (inl p) (inl q) = posts_one m once (take size rest) old x y a b p.1 q.1
carries_one m once (take_letter size) quiet rest old x y a b (inl p) (inr q) = absurd (let fits = p.0 in let short = q.0 in omega (arith, fits, short))
carries_one m once (take_letter size) quiet rest old x y a b (inr p) (inl q) = absurd (let short = p.0 in let fits = q.0 in omega (arith, fits, short))
carries_one m once (take_letter size) quiet rest old x y a b (inr p) (inr q) = (p.1 ∙ sym q.1, p.2 ∙ sym q.2)

silent_one : (m : Chart) (input : List ℕ) (old x y : State) (a b : List ℕ) → IsSilent input old a x
    → IsSilent input old b y ⊎ (IsHeadless input old b y ⊎ IsHeaded m input old b y) → (a ≡ b) × (x ≡ y)
silent_one m input old x y a b p (inl q) = (p.nothing ∙ sym q.nothing, p.same ∙ sym q.same)
silent_one m input old x y a b p (inr (inl q)) = absurd (q.some p.empty)
silent_one m input old x y a b p (inr (inr q)) = absurd (no_head input q.head q.rest q.is p.empty)

headless_one : (m : Chart) (input : List ℕ) (old x y : State) (a b : List ℕ) → IsHeadless input old a x
    → IsSilent input old b y ⊎ (IsHeadless input old b y ⊎ IsHeaded m input old b y) → (a ≡ b) × (x ≡ y)
headless_one m input old x y a b p (inl q) = absurd (p.some q.empty)
headless_one m input old x y a b p (inr (inl q)) = (p.bad ∙ sym q.bad, p.same ∙ sym q.same)
headless_one m input old x y a b p (inr (inr q)) = absurd (p.none q.head q.rest q.is)

case_one : (m : Chart) → IsDecidedOnce m → (input : List ℕ) (old x y : State) (a b : List ℕ)
    → IsSilent input old a x ⊎ (IsHeadless input old a x ⊎ IsHeaded m input old a x) → IsAnswer m input old b y → (a ≡ b) × (x ≡ y)
case_one m once input old x y a b (inl p) q = silent_one m input old x y a b p (cases m input old b y q)
case_one m once input old x y a b (inr (inl p)) q = headless_one m input old x y a b p (cases m input old b y q)
case_one m once input old x y a b (inr (inr p)) q =
    carries_one m once _ _ p.rest old x y a b p.carries (carried m input old b y p.head p.rest p.is q)

pub answers_one : (m : Chart) → IsDecidedOnce m → HasOneAnswer m
answers_one m once input old x y a b p q = case_one m once input old x y a b (cases m input old a x p) q
