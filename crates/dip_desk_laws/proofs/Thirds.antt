-- What third seats can't tell apart.
use Rattle.std.proofs.Common.{◌≡◌, ℕ, ◌==◌, ◌⊎◌, Bool, true, false, cond, not, List, [], ◌∷◌, ◌++◌, Option, Some, None, refl, sym, ◌∙◌, ap, ap₂, subst, bytes_eq, inl, inr}
use Rattle.std.specs.Prelude.{◌&&◌, ◌||◌, filter}
use Rattle.std.specs.List.{AllByRecursion, list_any}
use Rattle.std.proofs.lemmas.Bool.{false≢true}
use Rattle.dip_letters.specs.Notes.{Request}
use Rattle.dip_letters.specs.Notes.PlayerRequest.{Orders, Withdraw, Press, Vote, VoteFor, Show, Inbox}
use Rattle.dip_letters.specs.Notes.Request.{Player, Master}
use Rattle.dip_map.specs.Charts.{Chart, powers}
use Rattle.dip_desk_state.specs.Records.{Item}
use Rattle.dip_desk_state.proofs.KeyedLemmas.{powers_tell}
use Rattle.dip_desk_state.specs.State.{Author, Nobody, TheMaster, Seat, Nothing, Pending, Votes, Delivers, Opens, Publishes, Seats, State, is_seat}
use Rattle.dip_desk_machine.specs.Machine.{Decides, SeatName, Verdict, NotKnown, Again, OutOfTurn, Taken}
use Rattle.dip_desk_machine.specs.Mail.{Mail}
use Rattle.dip_desk_machine.specs.Pressing.{is_among, is_to_all, item_of, may_read, named_powers, names_all, other_powers, readers_of, readers_where}
use Rattle.dip_desk_laws.specs.Thirds.{AreLikeTurns, ComesAlike, IsSameGrey, IsSameLetter, ThirdSeatsSeeAlike, brings_press, is_aside, is_of, turns_left}
use Rattle.dip_desk_machine.specs.View.{Event, Heard, Turn, author_in, events_for, events_in, own_events, verdict_events, view, writes}
use Rattle.dip_desk_laws.specs.Others.{IsPressTo}
use Rattle.dip_desk_machine.proofs.Histories.{settled}
use Rattle.dip_desk_laws.proofs.Others.{IsDecided, IsSent, none_if, run_decided, seat_heard, seat_sent, shown_of}

-- a power that is none of these isn't one of them
apart : (those : ℕ → Bool) (p power : ℕ) → those p ≡ true → those power ≡ false → (p == power) ≡ false
apart those p power is none = go (p == power) refl
  where
    go : (b : Bool) → (p == power) ≡ b → b ≡ false
    go false same = refl
    go true same = absurd (false≢true (sym none ∙ ap those (sym (powers_tell.same p power same)) ∙ is))

-- press that comes to a power is accepted
press_brought : (m : Chart) (power : ℕ) (n : Mail) (who : Author) (v : Verdict) → IsPressTo m power n who v → brings_press v ≡ true
press_brought m power n who v press = ap brings_press press.accepted

-- what isn't accepted press isn't heard
unheard : (m : Chart) (s : State) (n : Mail) (p power : ℕ) (v : Verdict) → Decides m s n (Seat p) v → brings_press v ≡ false → verdict_events power v ≡ []
unheard m s n p power v d none = elim (seat_heard m s n p power v d) [
  | inl quiet ↦ quiet
  | inr press ↦ absurd (false≢true (sym none ∙ press_brought m power n (Seat p) v press))
]

-- what accepted press of these words shows a power
abbrev heard_by : Chart → ℕ → ℕ → Bool → List (List ℕ) → List (List ℕ) → Option (List ℕ) → List Event
heard_by m p power grey names text None = []
heard_by m p power grey names text (Some readers) = cond (is_among power readers) (Heard (item_of m p grey names text) ∷ []) []

abbrev heard_of : Chart → ℕ → ℕ → Request → List Event
heard_of m p power (Player (Press grey names text)) = heard_by m p power grey names text (readers_of m p names)
heard_of m p power (Player (Orders lines)) = []
heard_of m p power (Player Withdraw) = []
heard_of m p power (Player (Vote draw)) = []
heard_of m p power (Player (VoteFor names)) = []
heard_of m p power (Player Show) = []
heard_of m p power (Player (Inbox first)) = []
heard_of m p power (Master command) = []

heard : (m : Chart) (n : Mail) (p power : ℕ) (v : Verdict) → IsSent m n p v → brings_press v ≡ true → verdict_events power v ≡ heard_of m p power n.note.command
heard m n p power NotKnown sent is = absurd (false≢true is)
heard m n p power (Again text) sent is = absurd (false≢true is)
heard m n p power (OutOfTurn text) sent is = absurd (false≢true is)
heard m n p power (Taken text Nothing) sent is = absurd (false≢true is)
heard m n p power (Taken text (Pending orders)) sent is = absurd (false≢true is)
heard m n p power (Taken text (Votes vote)) sent is = absurd (false≢true is)
heard m n p power (Taken text (Opens public paper seats)) sent is = absurd (false≢true is)
heard m n p power (Taken text (Publishes public paper played)) sent is = absurd (false≢true is)
heard m n p power (Taken text (Seats seat)) sent is = absurd (false≢true is)
heard m n p power (Taken text (Delivers readers item)) sent is =
    ap (λ (i : Item). cond (is_among power readers) (Heard i ∷ []) []) sent.6
    ∙ sym (ap (heard_by m p power sent.0 sent.1 sent.2) sent.4)
    ∙ sym (ap (heard_of m p power) sent.3)

-- one letter of a power that is accepted press both times or neither has another hear the same
same_heard : (m : Chart) (s s₁ : State) (n : Mail) (p power : ℕ) (v w : Verdict) → Decides m s n (Seat p) v → Decides m s₁ n (Seat p) w
    → brings_press v ≡ brings_press w → verdict_events power v ≡ verdict_events power w
same_heard m s s₁ n p power v w d e same = go (brings_press v) refl
  where
    go : (b : Bool) → brings_press v ≡ b → verdict_events power v ≡ verdict_events power w
    go true is = heard m n p power v (seat_sent m s n p v d) is ∙ sym (heard m n p power w (seat_sent m s₁ n p w e) (sym same ∙ is))
    go false is = unheard m s n p power v d is ∙ sym (unheard m s₁ n p power w e (sym same ∙ is))

-- another than the writer is among the others where it is a power
among_others : (writer power : ℕ) (ps : List ℕ) → (writer == power) ≡ false → is_among power (filter (λ p. not (p == writer)) ps) ≡ is_among power ps
among_others writer power [] far = refl
among_others writer power (p ∷ ps) far = go (p == writer) refl (among_others writer power ps far)
  where
    go : (b : Bool) → (p == writer) ≡ b → is_among power (filter (λ q. not (q == writer)) ps) ≡ is_among power ps
        → is_among power (cond (not b) (p ∷ filter (λ q. not (q == writer)) ps) (filter (λ q. not (q == writer)) ps)) ≡ (p == power || is_among power ps)
    go true is rest = rest ∙ sym (ap (λ (b : Bool). b || is_among power ps) (ap (λ (q : ℕ). q == power) (powers_tell.same p writer is) ∙ far))
    go false is rest = ap (λ (b : Bool). p == power || b) rest

-- grey press to the same names shows a power the same, whichever of two others wrote it, where both might
grey_heard : (m : Chart) (one other power : ℕ) (names text : List (List ℕ)) (rs qs : List ℕ) → (one == power) ≡ false → (other == power) ≡ false
    → readers_of m one names ≡ Some rs → readers_of m other names ≡ Some qs → is_among power rs ≡ is_among power qs
grey_heard m one other power names text rs qs far far_other is_one is_other = go (is_to_all names) (list_any names_all names) is_one is_other
  where
    chosen : (writer : ℕ) (found readers : List ℕ) → readers_where writer (Some found) ≡ Some readers → found ≡ readers
    chosen writer found readers e = here (may_read writer found) e
      where
        here : (b : Bool) → cond b (Some found) None ≡ Some readers → found ≡ readers
        here true e = cc
        here false e = cc

    by : (o : Option (List ℕ)) → readers_where one o ≡ Some rs → readers_where other o ≡ Some qs → is_among power rs ≡ is_among power qs
    by None e f = cc
    by (Some found) e f = ap (is_among power) (sym (chosen one found rs e) ∙ chosen other found qs f)

    go : (a b : Bool) → cond a (Some (other_powers m one)) (cond b None (readers_where one (named_powers m names))) ≡ Some rs
        → cond a (Some (other_powers m other)) (cond b None (readers_where other (named_powers m names))) ≡ Some qs → is_among power rs ≡ is_among power qs
    go true b e f =
        let first : other_powers m one ≡ rs = cc in
        let second : other_powers m other ≡ qs = cc in
        ap (is_among power) (sym first) ∙ among_others one power (powers m) far ∙ sym (among_others other power (powers m) far_other) ∙ ap (is_among power) second
    go false true e f = cc
    go false false e f = by (named_powers m names) e f

-- a turn aside shows a third seat nothing
aside_shows : (m : Chart) (those : ℕ → Bool) (seat : SeatName) (t : Turn) → IsDecided m t → those seat.power ≡ false → is_aside m those seat.game t ≡ true → events_in m seat t ≡ []
aside_shows m those seat t d none is = here (bytes_eq t.letter.note.game seat.game) refl is
  where
    elsewhere : bytes_eq t.letter.note.game seat.game ≡ false → events_in m seat t ≡ []
    elsewhere differ =
        shown_of seat t.letter (author_in m t) t.verdict (ap (λ (b : Bool). b && is_seat (author_in m t) seat.power) differ)
        ∙ ap (λ (b : Bool). cond b (verdict_events seat.power t.verdict) []) differ

    by : (who : Author) → Decides m t.before t.letter who t.verdict → (is_of those who && not (brings_press t.verdict)) ≡ true → bytes_eq t.letter.note.game seat.game ≡ true
        → events_for seat t.letter who t.verdict ≡ []
    by Nobody d aside same =
        shown_of seat t.letter Nobody t.verdict (ap (λ (b : Bool). b && false) same)
        ∙ none_if (bytes_eq t.letter.note.game seat.game) (verdict_events seat.power t.verdict) (ap (verdict_events seat.power) d)
    by TheMaster d aside same = absurd (false≢true aside)
    by (Seat p) d aside same = quiet (those p) refl (brings_press t.verdict) refl aside
      where
        quiet : (a : Bool) → those p ≡ a → (b : Bool) → brings_press t.verdict ≡ b → (a && not b) ≡ true → events_for seat t.letter (Seat p) t.verdict ≡ []
        quiet false of b press e = absurd (false≢true e)
        quiet true of true press e = absurd (false≢true e)
        quiet true of false press e =
            shown_of seat t.letter (Seat p) t.verdict (ap (λ (b : Bool). b && (p == seat.power)) same ∙ apart those p seat.power of none)
            ∙ none_if (bytes_eq t.letter.note.game seat.game) (verdict_events seat.power t.verdict) (unheard m t.before t.letter p seat.power t.verdict d press)

    here : (b : Bool) → bytes_eq t.letter.note.game seat.game ≡ b → (not b || (is_of those (author_in m t) && not (brings_press t.verdict))) ≡ true → events_in m seat t ≡ []
    here false differ e = elsewhere differ
    here true same e = by (author_in m t) d e same

-- what is left shows a third seat all that it is shown
view_left : (m : Chart) (those : ℕ → Bool) (seat : SeatName) (ts : List Turn) → those seat.power ≡ false → AllByRecursion (IsDecided m) ts
    → view m seat (turns_left m those seat.game ts) ≡ view m seat ts
view_left m those seat [] none all = refl
view_left m those seat (t ∷ ts) none all = go (is_aside m those seat.game t) refl (view_left m those seat ts none all.1)
  where
    go : (b : Bool) → is_aside m those seat.game t ≡ b → view m seat (turns_left m those seat.game ts) ≡ view m seat ts
        → view m seat (cond (not b) (t ∷ turns_left m those seat.game ts) (turns_left m those seat.game ts)) ≡ events_in m seat t ++ view m seat ts
    go true is rest = rest ∙ sym (ap (λ (es : List Event). es ++ view m seat ts) (aside_shows m those seat t all.0 none is))
    go false is rest = ap (λ (es : List Event). events_in m seat t ++ es) rest

left_decided : (m : Chart) (those : ℕ → Bool) (game : List ℕ) (ts : List Turn) → AllByRecursion (IsDecided m) ts → AllByRecursion (IsDecided m) (turns_left m those game ts)
left_decided m those game [] all = tt
left_decided m those game (t ∷ ts) all = go (is_aside m those game t) (left_decided m those game ts all.1)
  where
    go : (b : Bool) → AllByRecursion (IsDecided m) (turns_left m those game ts)
        → AllByRecursion (IsDecided m) (cond (not b) (t ∷ turns_left m those game ts) (turns_left m those game ts))
    go true rest = rest
    go false rest = (all.0, rest)

-- one letter of one author shows every seat the same
letter_alike : (m : Chart) (seat : SeatName) (s s₁ : State) (n : Mail) (who : Author) (v w : Verdict) → Decides m s n who v → Decides m s₁ n who w → ComesAlike who v w
    → events_for seat n who v ≡ events_for seat n who w
letter_alike m seat s s₁ n who v w d e comes =
    ap (λ (es : List Event). own_events (writes seat n who) n ++ cond (bytes_eq n.note.game seat.game) es []) (by who d e comes)
  where
    by : (who : Author) → Decides m s n who v → Decides m s₁ n who w → ComesAlike who v w → verdict_events seat.power v ≡ verdict_events seat.power w
    by Nobody d e comes = ap (verdict_events seat.power) (d ∙ sym e)
    by TheMaster d e comes = ap (verdict_events seat.power) comes
    by (Seat p) d e comes = same_heard m s s₁ n p seat.power v w d e comes

-- and so does one grey press of two writers, but for these
grey_alike : (m : Chart) (those : ℕ → Bool) (seat : SeatName) (t u : Turn) → those seat.power ≡ false → IsDecided m t → IsDecided m u → IsSameGrey m those t u
    → events_in m seat t ≡ events_in m seat u
grey_alike m those seat t u none d e g =
    shown t g.one g.wrote g.is_one
    ∙ ap₂ (λ (name : List ℕ) (es : List Event). cond (bytes_eq name seat.game) es []) g.game same
    ∙ sym (shown u g.other g.other_wrote g.is_other)
  where
    shown : (x : Turn) (p : ℕ) → author_in m x ≡ Seat p → those p ≡ true → events_in m seat x ≡ cond (bytes_eq x.letter.note.game seat.game) (verdict_events seat.power x.verdict) []
    shown x p wrote of =
        shown_of seat x.letter (author_in m x) x.verdict
        (ap (λ (who : Author). bytes_eq x.letter.note.game seat.game && is_seat who seat.power) wrote
        ∙ ap (λ (b : Bool). bytes_eq x.letter.note.game seat.game && b) (apart those p seat.power of none)
        ∙ never (bytes_eq x.letter.note.game seat.game))
      where
        never : (b : Bool) → (b && false) ≡ false
        never true = refl
        never false = refl

    told : (x : Turn) (p : ℕ) → IsDecided m x → author_in m x ≡ Seat p → brings_press x.verdict ≡ true → x.letter.note.command ≡ Player (Press true g.names g.text)
        → verdict_events seat.power x.verdict ≡ heard_by m p seat.power true g.names g.text (readers_of m p g.names)
    told x p d wrote accepted asked =
        heard m x.letter p seat.power x.verdict (seat_sent m x.before x.letter p x.verdict (subst (λ (who : Author). Decides m x.before x.letter who x.verdict) wrote d)) accepted
        ∙ ap (heard_of m p seat.power) asked

    -- accepted press has readers
    has_readers : (x : Turn) (p : ℕ) → IsDecided m x → author_in m x ≡ Seat p → brings_press x.verdict ≡ true → x.letter.note.command ≡ Player (Press true g.names g.text)
        → (readers : List ℕ) × (readers_of m p g.names ≡ Some readers)
    has_readers x p d wrote accepted asked =
        go x.verdict (seat_sent m x.before x.letter p x.verdict (subst (λ (who : Author). Decides m x.before x.letter who x.verdict) wrote d)) accepted
      where
        go : (v : Verdict) → IsSent m x.letter p v → brings_press v ≡ true → (readers : List ℕ) × (readers_of m p g.names ≡ Some readers)
        go NotKnown sent is = absurd (false≢true is)
        go (Again text) sent is = absurd (false≢true is)
        go (OutOfTurn text) sent is = absurd (false≢true is)
        go (Taken text Nothing) sent is = absurd (false≢true is)
        go (Taken text (Pending orders)) sent is = absurd (false≢true is)
        go (Taken text (Votes vote)) sent is = absurd (false≢true is)
        go (Taken text (Opens public paper seats)) sent is = absurd (false≢true is)
        go (Taken text (Publishes public paper played)) sent is = absurd (false≢true is)
        go (Taken text (Seats seat)) sent is = absurd (false≢true is)
        go (Taken text (Delivers readers item)) sent is =
            let one : Player (Press sent.0 sent.1 sent.2) ≡ Player (Press true g.names g.text) = sym sent.3 ∙ asked in
            let names : sent.1 ≡ g.names = cc in
            (readers, subst (λ (ns : List (List ℕ)). readers_of m p ns ≡ Some readers) names sent.4)

    same : verdict_events seat.power t.verdict ≡ verdict_events seat.power u.verdict
    same =
        let rs = has_readers t g.one d g.wrote g.accepted g.asked in
        let qs = has_readers u g.other e g.other_wrote g.other_accepted g.other_asked in
        told t g.one d g.wrote g.accepted g.asked
        ∙ ap (heard_by m g.one seat.power true g.names g.text) rs.1
        ∙ ap (λ (b : Bool). cond b (Heard (item_of m g.one true g.names g.text) ∷ []) [])
        (grey_heard m g.one g.other seat.power g.names g.text rs.0 qs.0 (apart those g.one seat.power g.is_one none) (apart those g.other seat.power g.is_other none) rs.1 qs.1)
        ∙ sym (ap (heard_by m g.other seat.power true g.names g.text) qs.1)
        ∙ sym (told u g.other e g.other_wrote g.other_accepted g.other_asked)

like_views : (m : Chart) (those : ℕ → Bool) (seat : SeatName) (ts us : List Turn) → those seat.power ≡ false → AllByRecursion (IsDecided m) ts → AllByRecursion (IsDecided m) us
    → AreLikeTurns m those ts us → view m seat ts ≡ view m seat us
like_views m those seat [] [] none one other like = refl
like_views m those seat [] (u ∷ us) none one other like = absurd like
like_views m those seat (t ∷ ts) [] none one other like = absurd like
like_views m those seat (t ∷ ts) (u ∷ us) none one other like =
    ap₂ (λ (es fs : List Event). es ++ fs) (first like.0) (like_views m those seat ts us none one.1 other.1 like.1)
  where
    first : IsSameLetter m t u ⊎ IsSameGrey m those t u → events_in m seat t ≡ events_in m seat u
    first (inl same) =
        let twice : Decides m u.before t.letter (author_in m t) u.verdict =
        subst (λ (n : Mail). Decides m u.before n (author_in m t) u.verdict) (sym same.letter)
        (subst (λ (who : Author). Decides m u.before u.letter who u.verdict) (sym same.author) other.0) in
        letter_alike m seat t.before u.before t.letter (author_in m t) t.verdict u.verdict one.0 twice same.comes
        ∙ ap₂ (λ (n : Mail) (who : Author). events_for seat n who u.verdict) same.letter same.author
    first (inr grey) = grey_alike m those seat t u none one.0 other.0 grey

pub thirds_alike : (m : Chart) → ThirdSeatsSeeAlike m
thirds_alike m those seat old new first last ts us run other like none = (shown, λ begun. settled m old new ts run seat first last us other begun shown)
  where
    one : AllByRecursion (IsDecided m) ts
    one = run_decided m ts old new run

    two : AllByRecursion (IsDecided m) us
    two = run_decided m us first last other

    shown : view m seat us ≡ view m seat ts
    shown = sym (
        sym (view_left m those seat ts none one)
        ∙ like_views m those seat (turns_left m those seat.game ts) (turns_left m those seat.game us) none (left_decided m those seat.game ts one) (left_decided m those seat.game us two) like
        ∙ view_left m those seat us none two
        )
