-- GET and HEAD are answered from what everybody is told.
use Rattle.std.proofs.Common.{◌≡◌, ◌∙◌, ℕ, Bool, true, false, if◌then◌else◌, List, Option, None, Some, codes, refl, sym, ap}
use Rattle.std.specs.Str.{bytes_eq}
use Rattle.std.proofs.lemmas.Bool.{false≢true}
use Rattle.std.proofs.lemmas.Slice.Eq.{bytes_eq-Decides}
use Rattle.dip_map.specs.Charts.{Chart}
use Rattle.dip_desk_state.specs.State.{State}
use Rattle.dip_http_messages.specs.Heads.{Ask, ask_of}
use Rattle.dip_http_messages.specs.declared.size.Size.{Size}
use Rattle.dip_http_messages.specs.Places.{Place, letters, game, paper, place_of}
use Rattle.dip_http_messages.specs.Verdicts.{Verdict, ask_verdict, is_get, letter_verdict, place_verdict, refuse, show_game, show_paper, take_letter}
use Rattle.dip_http.specs.Answering.{Carries, game_answer, paper_answer, paper_named}
use Rattle.dip_http.specs.Laws.{IsAnsweredFromPublic, TellAlike}
use Rattle.dip_http.proofs.Cases.{carried}
use Rattle.dip_http_messages.proofs.TextNumbers.{number_one}

-- everything but a letter
abbrev pub IsPublic : Verdict → Type 0
IsPublic (take_letter size) = ⊥
IsPublic (refuse status allow) = Unit {0}
IsPublic (show_game name) = Unit {0}
IsPublic (show_paper name number) = Unit {0}

no_post : (method : List ℕ) (size : Size) (is_post : Bool) → is_get method ≡ true → bytes_eq method (codes "POST") ≡ is_post
    → IsPublic (if is_post then letter_verdict size else refuse 405 (Some (codes "POST")))
no_post method size true get is = absurd (false≢true (sym (ap is_get ((bytes_eq-Decides method (codes "POST")).0 is)) ∙ get))
no_post method size false get is = tt

public_get : (allowed : Bool) (v : Verdict) → IsPublic v → IsPublic (if allowed then v else refuse 405 (Some (codes "GET, HEAD")))
public_get true v is = is
public_get false v is = tt

public_place : (method : List ℕ) (size : Size) (place : Option Place) → is_get method ≡ true → IsPublic (place_verdict method size place)
public_place method size None get = tt
public_place method size (Some letters) get = no_post method size (bytes_eq method (codes "POST")) get refl
public_place method size (Some (game name)) get = public_get (is_get method) (show_game name) tt
public_place method size (Some (paper name number)) get = public_get (is_get method) (show_paper name number) tt

public_ask : (method : List ℕ) (ask : Option Ask) → is_get method ≡ true → IsPublic (ask_verdict method ask)
public_ask method None get = tt
public_ask method (Some ask) get = public_place method ask.1 (place_of ask.0) get

same_paper : (s t : State) → TellAlike s t → (name : List ℕ) (n : Option ℕ) → paper_named name n s ≡ paper_named name n t
same_paper s t alike name None = refl
same_paper s t alike name (Some n) = alike.papers name n

alike_one : (m : Chart) (v : Verdict) (quiet : Bool) (rest : List ℕ) (s t x y : State) (a b : List ℕ) → IsPublic v → TellAlike s t
    → Carries m v quiet rest s a x → Carries m v quiet rest t b y → (a ≡ b) × (x ≡ s) × (y ≡ t)
alike_one m (refuse status allow) quiet rest s t x y a b is alike p q = (p.0 ∙ sym q.0, p.1, q.1)
alike_one m (show_game name) quiet rest s t x y a b is alike p q =
    (p.0 ∙ ap (game_answer m quiet) (alike.public name) ∙ sym q.0, p.1, q.1)
alike_one m (show_paper name number) quiet rest s t x y a b is alike p q =
    let same = ap (λ (n : Option ℕ). paper_answer quiet (paper_named name n s)) (number_one number p.0 q.0 p.1 q.1) in
    (p.2 ∙ same ∙ ap (paper_answer quiet) (same_paper s t alike name q.0) ∙ sym q.2, p.3, q.3)
alike_one m (take_letter size) quiet rest s t x y a b is alike p q = absurd is

pub public_answers : (m : Chart) → IsAnsweredFromPublic m
public_answers m input head rest is get s t x y a b alike p q =
    alike_one m _ _ rest s t x y a b (public_ask head.method (ask_of head) get) alike (carried m input s a x head rest is p) (carried m input t b y head rest is q)
