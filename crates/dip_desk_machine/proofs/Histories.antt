-- Histories, seen by one seat.
use Rattle.std.proofs.Common.{◌≡◌, ℕ, arith, zero, suc, ◌<◌, ◌+◌, cond, List, [], ◌∷◌, ◌++◌, map, take, length, get_or, refl, sym, ◌∙◌, ap, subst}
use Rattle.std.proofs.lemmas.List.{take_more, get_or-map, length-map}
use Rattle.std.proofs.lemmas.List.Elements.{Contains-get_or}
use Rattle.std.specs.Prelude.{Contains}
use Rattle.std.specs.List.{AllByRecursion}
use Rattle.dip_desk_machine.specs.Mail.{Mail}
use Rattle.dip_map.specs.Charts.{Chart}
use Rattle.dip_desk_state.specs.State.{State, Seat}
use Rattle.dip_desk_machine.specs.Machine.{Decides, SeatName, Seen, Step, Verdict, reply_of, seen_by, verdict_on}
use Rattle.dip_desk_state.specs.Records.{Reply}
use Rattle.dip_desk_machine.specs.View.{Event, IsAnsweredFromSeen, IsHistory, IsRun, IsSettledByView, Turn, absorb_all, author_in, left_by, replies_to, reply_in, events_for, events_in, replies_to_events, view, writes}
use Rattle.dip_desk_machine.proofs.Seeing.{absorb_all-append, step_seen, step_told, told-append}

pub answered_from_seen : (m : Chart) → IsAnsweredFromSeen m
answered_from_seen m a b n power v w da db same =
    let seat : SeatName = record { game = n.note.game; power = power } in
    let alike : v ≡ w = da ∙ ap (verdict_on m n) same ∙ sym db in (
      ap (reply_of n) alike,
      step_seen m seat a n (Seat power) v da
          ∙ ap (λ (s : Seen). absorb_all m power s (events_for seat n (Seat power) v)) same
          ∙ ap (λ (x : Verdict). absorb_all m power (seen_by seat b) (events_for seat n (Seat power) x)) alike
          ∙ sym (step_seen m seat b n (Seat power) w db),
    )

-- what a seat sees after the first step
first_seen : (m : Chart) (seat : SeatName) (t : Turn) (old : State) → t.before ≡ old → Decides m t.before t.letter (author_in m t) t.verdict
    → seen_by seat (left_by m t) ≡ absorb_all m seat.power (seen_by seat old) (events_in m seat t)
first_seen m seat t old here decides =
    step_seen m seat t.before t.letter (author_in m t) t.verdict decides ∙ ap (λ (s : State). absorb_all m seat.power (seen_by seat s) (events_in m seat t)) here

-- a history, seen by any seat
pub run_seen : (m : Chart) (seat : SeatName) (ts : List Turn) (old new : State) → IsRun m old ts new
    → seen_by seat new ≡ absorb_all m seat.power (seen_by seat old) (view m seat ts)
run_seen m seat [] old new h = ap (seen_by seat) h
run_seen m seat (t ∷ ts) old new h =
    run_seen m seat ts (left_by m t) new h.2
    ∙ ap (λ (s : Seen). absorb_all m seat.power s (view m seat ts)) (first_seen m seat t old h.0 h.1)
    ∙ sym (absorb_all-append m seat.power (seen_by seat old) (events_in m seat t) (view m seat ts))

pub run_told : (m : Chart) (seat : SeatName) (ts : List Turn) (old new : State) → IsRun m old ts new
    → replies_to m seat ts ≡ replies_to_events m seat.power (seen_by seat old) (view m seat ts)
run_told m seat [] old new h = refl
run_told m seat (t ∷ ts) old new h =
    let first : cond (writes seat t.letter (author_in m t)) (reply_in t ∷ []) [] ≡ replies_to_events m seat.power (seen_by seat old) (events_in m seat t) =
    step_told m seat t.before t.letter (author_in m t) t.verdict h.1 ∙ ap (λ (s : State). replies_to_events m seat.power (seen_by seat s) (events_in m seat t)) h.0 in
    ap (λ (rs : List Reply). rs ++ replies_to m seat ts) first
    ∙ ap (λ (rs : List Reply). replies_to_events m seat.power (seen_by seat old) (events_in m seat t) ++ rs)
    (run_told m seat ts (left_by m t) new h.2 ∙ ap (λ (s : Seen). replies_to_events m seat.power s (view m seat ts)) (first_seen m seat t old h.0 h.1))
    ∙ sym (told-append m seat.power (seen_by seat old) (events_in m seat t) (view m seat ts))

-- settled by view
pub settled : (m : Chart) (old new : State) (turns : List Turn) → IsRun m old turns new → IsSettledByView m old turns new
settled m old new turns run seat first last others other same events_for = (
  run_told m seat others first last other
      ∙ ap (λ (s : Seen). replies_to_events m seat.power s (view m seat others)) same
      ∙ ap (λ (es : List Event). replies_to_events m seat.power (seen_by seat old) es) events_for
      ∙ sym (run_told m seat turns old new run),
  run_seen m seat others first last other
      ∙ ap (λ (s : Seen). absorb_all m seat.power s (view m seat others)) same
      ∙ ap (λ (es : List Event). absorb_all m seat.power (seen_by seat old) es) events_for
      ∙ sym (run_seen m seat turns old new run),
)

-- a history goes on by one step
run_more : (m : Chart) (ts : List Turn) (old mid : State) (t : Turn) → IsRun m old ts mid → t.before ≡ mid → Decides m t.before t.letter (author_in m t) t.verdict
    → IsRun m old (ts ++ t ∷ []) (left_by m t)
run_more m [] old mid t h here decides = (here ∙ h, decides, refl)
run_more m (u ∷ us) old mid t h here decides = (h.0, h.1, run_more m us (left_by m u) mid t h.2 here decides)

pub map_more : {A B : Type 0} (f : A → B) (xs : List A) (x : A) → map f (xs ++ x ∷ []) ≡ map f xs ++ f x ∷ []
map_more f [] x = refl
map_more f (y ∷ ys) x = ap (λ zs. f y ∷ zs) (map_more f ys x)

pub history_more : (m : Chart) (old mid new : State) (letters : List Mail) (replies : List Reply) (n : Mail) (r : Reply)
    → (ts : List Turn) × IsHistory m old letters replies mid ts → Step m mid n r new → (ts : List Turn) × IsHistory m old (letters ++ n ∷ []) (replies ++ r ∷ []) new ts
history_more m old mid new letters replies n r h step =
    let t : Turn = record { before = mid; letter = n; verdict = step.0 } in (
      h.0 ++ t ∷ [],
      record {
        run = subst (λ (s : State). IsRun m old (h.0 ++ t ∷ []) s) (sym step.3) (run_more m h.0 old mid t h.1.run refl step.1);
        asked = map_more (λ t. t.letter) h.0 t ∙ ap (λ (ns : List Mail). ns ++ n ∷ []) h.1.asked;
        answered = map_more (λ t. reply_in t) h.0 t ∙ ap (λ (rs : List Reply). rs ++ reply_in t ∷ []) h.1.answered ∙ ap (λ (x : Reply). replies ++ x ∷ []) (sym step.2);
      },
    )

pub taken_more : {A B : Type 0} (f : A → B) (xs : List A) (i : ℕ) (d : A) → i < length xs → map f (take (i + 1) xs) ≡ map f (take i xs) ++ f (get_or xs i d) ∷ []
taken_more f xs i d lt = ap (λ ys. map f ys) (take_more xs i d lt) ∙ map_more f (take i xs) (get_or xs i d)

pub contains_said : {A B : Type 0} (f : A → B) (xs : List A) (i : ℕ) (d : A) → i < length xs → Contains (map f xs) (f (get_or xs i d))
contains_said f xs i d lt =
    let size : length (map f xs) ≡ length xs = length-map xs f in
    subst (Contains (map f xs)) (get_or-map f xs i d (f d) lt) (Contains-get_or (map f xs) i (f d) (omega (arith, size, lt)))

-- what holds of all that is said holds of what an element says
pub said_each : {A B : Type 0} (P : B → Type 0) (f : A → B) (xs : List A) (i : ℕ) (d : A) → i < length xs → AllByRecursion P (map f xs) → P (f (get_or xs i d))
said_each P f [] i d lt all = absurd (omega arith)
said_each P f (x ∷ xs) zero d lt all = all.0
said_each P f (x ∷ xs) (suc i) d lt all = said_each P f xs i d (omega arith) all.1
