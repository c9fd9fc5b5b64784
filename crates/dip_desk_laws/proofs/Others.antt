-- What the letters of others show a seat.
use Rattle.std.proofs.Common.{◌≡◌, ◌≢◌, length-append, ℕ, ◌+◌, ◌==◌, ◌⊎◌, Bool, true, false, cond, List, [], ◌∷◌, ◌++◌, length, Option, Some, None, option_map, map, refl, sym, ◌∙◌, ap, ap₂, subst, bytes_eq, eqb, arith, inl, inr}
use Rattle.std.specs.Prelude.{◌↔◌}
use Rattle.std.specs.List.{AllByRecursion}
use Rattle.std.proofs.lemmas.Bool.{false≢true}
use Rattle.dip_map.specs.Boards.{Position}
use Rattle.dip_letters.specs.Notes.{Request, SeatNote}
use Rattle.dip_letters.specs.Notes.MasterRequest.{Replace}
use Rattle.dip_letters.specs.Notes.PlayerRequest.{Press}
use Rattle.dip_letters.specs.Notes.Request.{Player, Master}
use Rattle.dip_orders_placed.specs.declared.placed.PlacedOrder.{PlacedOrder}
use Rattle.dip_turn.specs.Reports.{IsPlayed}
use Rattle.dip_reports.specs.Texts.{press_line, replaced_line}
use Rattle.dip_desk_machine.specs.Ordering.{orders_that_stand}
use Rattle.dip_desk_machine.specs.Pressing.{is_among, item_of, readers_of}
use Rattle.dip_desk_machine.specs.Ticking.{by_power, orders_of, orders_of_seats, public_played}
use Rattle.std.specs.Option.{option_or}
use Rattle.dip_map.specs.Charts.{Chart}
use Rattle.dip_desk_state.specs.Records.{Grey, Item, Own, Public, Whole}
use Rattle.dip_desk_state.specs.Keyed.{at}
use Rattle.dip_desk_machine.specs.Mail.{Mail}
use Rattle.dip_desk_machine.specs.Machine.{Decides, IsPublished, OnTime, SeatName, Ticks, Verdict, NotKnown, Again, OutOfTurn, Taken, after, author, change_of, new_seat, page_shown, paper_verdict, seat_command, seen_in, verdict_by, verdict_on}
use Rattle.dip_desk_state.specs.State.{State, Game, Author, Nobody, TheMaster, Seat, Effect, Nothing, Pending, Votes, Delivers, Opens, Publishes, Seats, NewSeat, Part, game_after, game_at, is_seat, name_of, new_games, opening_game, papers_after, power_in, seat_at}
use Rattle.dip_desk_machine.specs.View.{Event, Heard, IsRun, OwnLetter, Published, Seated, Turn, author_in, effect_events, left_by, own_events, events_for, events_in, seat_events, verdict_events, view, writes}
use Rattle.dip_desk_laws.specs.Others.{AreAlike, AreAlikeTurns, HistoriesLookAlike, IsBrought, IsGreyUnsigned, IsHeardIn, IsPressTo, IsReplacementOf, IsShownByOthers, IsUnseenByOthers, is_shown, papers_in, turns_for}
use Rattle.dip_desk_laws.specs.Untold.{VotesAreUntold, without_vote}
use Rattle.dip_desk_state.proofs.KeyedLemmas.{at_key, names_tell, powers_tell}
use Rattle.dip_desk_machine.proofs.Seeing.{both, game_left, option_or-none, other_game, same_game}
use Rattle.dip_desk_machine.proofs.Suiting.{Comes, IsFitting, VerdictSuits, command_holds, decides_suits, master_holds, master_where, readers_apart, seat_holds}

-- somebody else's letter shows what its verdict shows in the game
pub shown_of : (seat : SeatName) (n : Mail) (who : Author) (v : Verdict) → writes seat n who ≡ false
    → events_for seat n who v ≡ cond (bytes_eq n.note.game seat.game) (verdict_events seat.power v) []
shown_of seat n who v others = ap (λ (b : Bool). own_events b n ++ cond (bytes_eq n.note.game seat.game) (verdict_events seat.power v) []) others

-- what a seat's letter has others hear is press of its own, to its readers, without itself
abbrev pub IsSent : Chart → Mail → ℕ → Verdict → Type 0
IsSent m n p NotKnown = Unit {0}
IsSent m n p (Again text) = Unit {0}
IsSent m n p (OutOfTurn text) = Unit {0}
IsSent m n p (Taken text Nothing) = Unit {0}
IsSent m n p (Taken text (Pending orders)) = Unit {0}
IsSent m n p (Taken text (Votes vote)) = Unit {0}
IsSent m n p (Taken text (Delivers readers item)) =
    (grey : Bool) × (names : List (List ℕ)) × (lines : List (List ℕ)) × (n.note.command ≡ Player (Press grey names lines)) × (readers_of m p names ≡ Some readers)
    × (text ≡ press_line) × (item ≡ item_of m p grey names lines)
IsSent m n p (Taken text (Opens public paper seats)) = Unit {0}
IsSent m n p (Taken text (Publishes public paper played)) = Unit {0}
IsSent m n p (Taken text (Seats seat)) = Unit {0}

pub seat_sent : (m : Chart) (s : State) (n : Mail) (p : ℕ) (v : Verdict) → Decides m s n (Seat p) v → IsSent m n p v
seat_sent m s n p v d = go (game_at n.note.game s) d
  where
    part : (g : Game) (x : Option Part) → seat_at p g.seats ≡ x → IsSent m n p (verdict_by m n (Some g.public) x)
    part g None is = tt
    part g (Some x) is =
        seat_holds (IsSent m n p) (λ t. tt) (λ t. tt) n x.own.kept (seat_command m n.note.command g.public x.own (page_shown n.note.command x.box))
        (command_holds (IsSent m n p) m n.note.command g.public x.own (page_shown n.note.command x.box) (record {
          refused = λ r. tt;
          told = λ t. tt;
          ordered = λ lines. tt;
          withdrawn = tt;
          voted = λ draw. tt;
          voted_for = λ names set of found. tt;
          sent = λ grey names lines readers of found few. (
            grey,
            names,
            lines,
            of,
            subst (λ (q : ℕ). readers_of m q names ≡ Some readers) it found,
            refl,
            ap (λ (q : ℕ). item_of m q grey names lines) it,
          );
        }))
      where
        it : power_in x ≡ p
        it = powers_tell.same (power_in x) p (at_key eqb power_in p g.seats x is)

    go : (game : Option Game) → v ≡ verdict_on m n (seen_in p game) → IsSent m n p v
    go None is = subst (IsSent m n p) (sym is) tt
    go (Some g) is = subst (IsSent m n p) (sym is) (part g (seat_at p g.seats) refl)

pub none_if : (b : Bool) (es : List Event) → es ≡ [] → cond b es [] ≡ []
none_if true es is = is
none_if false es is = refl

-- what a seat's letter has another hear
pub seat_heard : (m : Chart) (s : State) (n : Mail) (p power : ℕ) (v : Verdict) → Decides m s n (Seat p) v → (verdict_events power v ≡ []) ⊎ IsPressTo m power n (Seat p) v
seat_heard m s n p power v d = go v (seat_sent m s n p v d) refl (suits v d)
  where
    suits : (v : Verdict) → Decides m s n (Seat p) v → VerdictSuits n.note.game (Seat p) (game_at n.note.game s) v
    suits v d = decides_suits m s n (Seat p) v d

    no : (game : Option Game) (e : Effect) → Comes (Seat p) game e → (effect_events power e ≡ []) ⊎ ((readers : List ℕ) × (item : Item) × (e ≡ Delivers readers item))
    no None e h = absurd h
    no (Some g) Nothing h = inl refl
    no (Some g) (Pending orders) h = inl refl
    no (Some g) (Votes vote) h = inl refl
    no (Some g) (Delivers readers item) h = inr (readers, item, refl)
    no (Some g) (Opens public paper seats) h = absurd h
    no (Some g) (Publishes public paper played) h = absurd h
    no (Some g) (Seats seat) h = absurd h

    heard : (text : List ℕ) (readers : List ℕ) (item : Item) → v ≡ Taken text (Delivers readers item) → IsSent m n p (Taken text (Delivers readers item))
        → (verdict_events power (Taken text (Delivers readers item)) ≡ []) ⊎ IsPressTo m power n (Seat p) v
    heard text readers item is sent = by (is_among power readers) refl
      where
        by : (b : Bool) → is_among power readers ≡ b → (cond b (Heard item ∷ []) [] ≡ []) ⊎ IsPressTo m power n (Seat p) v
        by false far = inl refl
        by true near = inr (record {
          writer = p;
          grey = sent.0;
          names = sent.1;
          text = sent.2;
          readers = readers;
          wrote = refl;
          asked = sent.3;
          found = sent.4;
          reaches = near;
          accepted = is ∙ ap (λ (t : List ℕ). Taken t (Delivers readers item)) sent.5 ∙ ap (λ (i : Item). Taken press_line (Delivers readers i)) sent.6;
        })

    go : (w : Verdict) → IsSent m n p w → v ≡ w → VerdictSuits n.note.game (Seat p) (game_at n.note.game s) w → (verdict_events power w ≡ []) ⊎ IsPressTo m power n (Seat p) v
    go NotKnown sent is fits = inl refl
    go (Again text) sent is fits = inl refl
    go (OutOfTurn text) sent is fits = inl refl
    go (Taken text e) sent is fits = elim (no (game_at n.note.game s) e fits.0) [
      | inl quiet ↦ inl quiet
      | inr press ↦ subst (λ (x : Effect). (verdict_events power (Taken text x) ≡ []) ⊎ IsPressTo m power n (Seat p) v) (sym press.2)
          (heard text press.0 press.1 (is ∙ ap (λ (x : Effect). Taken text x) press.2) (subst (λ (x : Effect). IsSent m n p (Taken text x)) press.2 sent))
    ]

-- a seat hears nothing of its own letters
pub own_quiet : (m : Chart) (s : State) (n : Mail) (p : ℕ) (v : Verdict) → Decides m s n (Seat p) v → verdict_events p v ≡ []
own_quiet m s n p v d = elim (seat_heard m s n p p v d) [
  | inl quiet ↦ quiet
  | inr press ↦
      let mine : press.writer ≡ p = cc in
      absurd (false≢true (sym (readers_apart m press.writer press.names press.readers press.found) ∙ ap (λ (q : ℕ). is_among q press.readers) mine ∙ press.reaches))
]

pub unseen : (m : Chart) → IsUnseenByOthers m
unseen m seat s n p v d others = go (bytes_eq n.note.game seat.game) refl
  where
    go : (b : Bool) → bytes_eq n.note.game seat.game ≡ b → (events_for seat n (Seat p) v ≡ []) ⊎ ((b ≡ true) × IsPressTo m seat.power n (Seat p) v)
    go false differ = inl (shown_of seat n (Seat p) v others ∙ ap (λ (b : Bool). cond b (verdict_events seat.power v) []) differ)
    go true same = elim (seat_heard m s n p seat.power v d) [
      | inl quiet ↦ inl (shown_of seat n (Seat p) v others ∙ none_if (bytes_eq n.note.game seat.game) (verdict_events seat.power v) quiet)
      | inr press ↦ inr (refl, press)
    ]

-- what press that reaches a power shows it
heard_events : (m : Chart) (power : ℕ) (n : Mail) (who : Author) (v : Verdict) (press : IsPressTo m power n who v)
    → verdict_events power v ≡ Heard (item_of m press.writer press.grey press.names press.text) ∷ []
heard_events m power n who v press =
    ap (verdict_events power) press.accepted
    ∙ ap (λ (b : Bool). cond b (Heard (item_of m press.writer press.grey press.names press.text) ∷ []) []) press.reaches

pub grey_unsigned : (m : Chart) → IsGreyUnsigned m
grey_unsigned m seat n o p q v w one other here there mine theirs grey second all text =
    shown_of seat n (Seat p) v mine
    ∙ ap (λ (b : Bool). cond b (verdict_events seat.power v) []) here
    ∙ heard_events m seat.power n (Seat p) v one
    ∙ ap (λ (i : Item). Heard i ∷ []) (item one.grey other.grey grey second)
    ∙ sym (heard_events m seat.power o (Seat q) w other)
    ∙ sym (ap (λ (b : Bool). cond b (verdict_events seat.power w) []) there)
    ∙ sym (shown_of seat o (Seat q) w theirs)
  where
    item : (a b : Bool) → a ≡ true → b ≡ true → item_of m one.writer a one.names one.text ≡ item_of m other.writer b other.names other.text
    item true true first more = ap₂ (λ (t : Bool) (ls : List (List ℕ)). Grey t ls) all text
    item true false first more = absurd (false≢true more)
    item false b first more = absurd (false≢true first)

-- an effect that publishes nothing
abbrev pub IsUnpublished : Effect → Type 0
IsUnpublished e = (new_games e ≡ []) × ((ps : List (List ℕ)) → papers_after e ps ≡ ps)

pub seat_unpublished : (p : ℕ) (game : Option Game) (e : Effect) → Comes (Seat p) game e → IsUnpublished e
seat_unpublished p None e h = absurd h
seat_unpublished p (Some g) Nothing h = (refl, λ ps. refl)
seat_unpublished p (Some g) (Pending orders) h = (refl, λ ps. refl)
seat_unpublished p (Some g) (Votes vote) h = (refl, λ ps. refl)
seat_unpublished p (Some g) (Delivers readers item) h = (refl, λ ps. refl)
seat_unpublished p (Some g) (Opens public paper seats) h = absurd h
seat_unpublished p (Some g) (Publishes public paper played) h = absurd h
seat_unpublished p (Some g) (Seats seat) h = absurd h

-- each game has as many papers as before
same_papers : (s : State) (n : Mail) (who : Author) (text : List ℕ) (e : Effect) (name : List ℕ) → IsFitting n.note.game who (game_at n.note.game s) e → IsUnpublished e
    → papers_in (game_at name (after n who (Taken text e) s)) ≡ papers_in (game_at name s)
same_papers s n who text e name fits none = go (bytes_eq n.note.game name) refl
  where
    kept : (game : Option Game) → papers_in (option_map (game_after (change_of n who text e)) game) ≡ papers_in game
    kept None = refl
    kept (Some g) = ap (λ (ps : List (List ℕ)). length ps) (none.1 g.papers)

    here : papers_in (game_at n.note.game (after n who (Taken text e) s)) ≡ papers_in (game_at n.note.game s)
    here =
        ap papers_in (same_game (change_of n who text e) s
        ∙ ap (λ (gs : List Game). option_or (option_map (game_after (change_of n who text e)) (game_at n.note.game s)) (at bytes_eq name_of n.note.game gs)) none.0
        ∙ option_or-none (option_map (game_after (change_of n who text e)) (game_at n.note.game s)))
        ∙ kept (game_at n.note.game s)

    go : (b : Bool) → bytes_eq n.note.game name ≡ b → papers_in (game_at name (after n who (Taken text e) s)) ≡ papers_in (game_at name s)
    go true same = subst (λ (x : List ℕ). papers_in (game_at x (after n who (Taken text e) s)) ≡ papers_in (game_at x s)) (names_tell.same n.note.game name same) here
    go false differ = ap papers_in (other_game (change_of n who text e) s name fits.1 differ)

-- a digest is given by REPLACE
abbrev IsGiven : Chart → Mail → Request → Verdict → Type 0
IsGiven m n command NotKnown = Unit {0}
IsGiven m n command (Again text) = Unit {0}
IsGiven m n command (OutOfTurn text) = Unit {0}
IsGiven m n command (Taken text Nothing) = Unit {0}
IsGiven m n command (Taken text (Pending orders)) = Unit {0}
IsGiven m n command (Taken text (Votes vote)) = Unit {0}
IsGiven m n command (Taken text (Delivers readers item)) = Unit {0}
IsGiven m n command (Taken text (Opens public paper seats)) = Unit {0}
IsGiven m n command (Taken text (Publishes public paper played)) = Unit {0}
IsGiven m n command (Taken text (Seats seat)) =
    (note : SeatNote) × (command ≡ Master (Replace note)) × (new_seat m n.note.game note ≡ Some seat) × (text ≡ replaced_line note.power)

replaced_by : (m : Chart) (s : State) (n : Mail) (text : List ℕ) (given : NewSeat) → Decides m s n TheMaster (Taken text (Seats given))
    → (note : SeatNote) × (n.note.command ≡ Master (Replace note)) × (new_seat m n.note.game note ≡ Some given) × (text ≡ replaced_line note.power)
replaced_by m s n text given d =
    master_holds (λ game. IsGiven m n n.note.command) m n s.desk.kept n.note.command (game_at n.note.game s) (Taken text (Seats given)) (record {
      unknown = tt;
      again = λ game text. tt;
      out = λ game text. tt;
      free = λ r. tt;
      opened = λ due period grey intent notes found of is all. tt;
      in_game = λ g. record {
        refused = λ r. tt;
        played = λ tick v of p. subst (IsGiven m n n.note.command) (sym p.verdict) tt;
        noted = λ text paper public next told spoiled. tt;
        seated = λ note seat of new low s found. (note, of, new, refl);
      };
    }) d

-- nothing shown, and nothing brought
none_brought : (m : Chart) (seat : SeatName) (s : State) (n : Mail) (who : Author) (v : Verdict) → events_for seat n who v ≡ []
    → papers_in (game_at seat.game (after n who v s)) ≡ papers_in (game_at seat.game s)
    → (bytes_eq n.note.game seat.game ≡ true → IsPressTo m seat.power n who v → ⊥) → (bytes_eq n.note.game seat.game ≡ true → IsReplacementOf m seat.power n v → ⊥)
    → (events_for seat n who v ≢ []) ↔ IsBrought m seat s n who v
none_brought m seat s n who v none same press digest = (
  λ some. absurd (some none),
  λ brought. elim brought [
    | inl more ↦ absurd (omega (arith, same, more))
    | inr here ↦ elim here.1 [
      | inl heard ↦ absurd (press here.0 heard)
      | inr seated ↦ absurd (digest here.0 seated)
    ]
  ],
)

-- something shown, and brought
one_brought : (m : Chart) (seat : SeatName) (s : State) (n : Mail) (who : Author) (v : Verdict) (e : Event) (es : List Event) → events_for seat n who v ≡ e ∷ es
    → IsBrought m seat s n who v → (events_for seat n who v ≢ []) ↔ IsBrought m seat s n who v
one_brought m seat s n who v e es some brought = (λ shown. brought, λ b none. let bad : ◌≡◌ {A = List Event} (e ∷ es) [] = sym some ∙ none in absurd (cc))

pub shown_as_brought : (m : Chart) → IsShownByOthers m
shown_as_brought m seat s n v d others = go (author m n s) v d others
  where
    Law : Author → Verdict → Type 0
    Law who v = (events_for seat n who v ≢ []) ↔ IsBrought m seat s n who v

    -- in another game nothing is shown
    elsewhere : (who : Author) (v : Verdict) → writes seat n who ≡ false → bytes_eq n.note.game seat.game ≡ false
        → papers_in (game_at seat.game (after n who v s)) ≡ papers_in (game_at seat.game s) → Law who v
    elsewhere who v o differ same =
        none_brought m seat s n who v (shown_of seat n who v o ∙ ap (λ (b : Bool). cond b (verdict_events seat.power v) []) differ) same
        (λ here press. absurd (false≢true (sym differ ∙ here))) (λ here digest. absurd (false≢true (sym differ ∙ here)))

    idle : (who : Author) (v : Verdict) → writes seat n who ≡ false → verdict_events seat.power v ≡ [] → papers_in (game_at seat.game (after n who v s)) ≡ papers_in (game_at seat.game s)
        → ((text : List ℕ) (e : Effect) → v ≡ Taken text e → (e ≡ Nothing)) → Law who v
    idle who v o none same does =
        none_brought m seat s n who v (shown_of seat n who v o ∙ none_if (bytes_eq n.note.game seat.game) (verdict_events seat.power v) none) same
        (λ here press. let bad = does press_line (Delivers press.readers (item_of m press.writer press.grey press.names press.text)) press.accepted in absurd (cc))
        (λ here given. let bad = does (replaced_line given.note.power) (Seats given.seat) given.accepted in absurd (cc))

    by_open : (text : List ℕ) (public : Public) (paper : List ℕ) (seats : List NewSeat) → IsFitting n.note.game TheMaster (game_at n.note.game s) (Opens public paper seats)
        → game_at n.note.game s ≡ None → public.game ≡ n.note.game → writes seat n TheMaster ≡ false → Law TheMaster (Taken text (Opens public paper seats))
    by_open text public paper seats fits free named o = there (bytes_eq n.note.game seat.game) refl
      where
        open_it : Verdict
        open_it = Taken text (Opens public paper seats)

        there : (b : Bool) → bytes_eq n.note.game seat.game ≡ b → Law TheMaster open_it
        there true same =
            let name : n.note.game ≡ seat.game = names_tell.same n.note.game seat.game same in
            let here : bytes_eq public.game n.note.game ≡ true = ap (λ (x : List ℕ). bytes_eq x n.note.game) named ∙ names_tell.self n.note.game in
            let more : papers_in (game_at n.note.game (after n TheMaster open_it s)) ≡ papers_in (game_at n.note.game s) + 1 =
            ap papers_in (same_game (change_of n TheMaster text (Opens public paper seats)) s
            ∙ ap (λ (g : Option Game). option_or (option_map (game_after (change_of n TheMaster text (Opens public paper seats))) g) (at bytes_eq name_of n.note.game (opening_game public paper seats ∷ []))) free)
            ∙ rw here refl
            ∙ sym (ap (λ (g : Option Game). papers_in g + 1) free) in
            one_brought m seat s n TheMaster open_it (Published public paper false) (seat_events seat.power seats)
            (shown_of seat n TheMaster open_it o ∙ ap (λ (b : Bool). cond b (verdict_events seat.power open_it) []) same)
            (inl (subst (λ (x : List ℕ). papers_in (game_at x (after n TheMaster open_it s)) ≡ papers_in (game_at x s) + 1) name more))
        there false differ = elsewhere TheMaster open_it o differ (ap papers_in (other_game (change_of n TheMaster text (Opens public paper seats)) s seat.game fits.1 differ))

    by_paper : (text : List ℕ) (public : Public) (paper : List ℕ) (played : Bool) → IsFitting n.note.game TheMaster (game_at n.note.game s) (Publishes public paper played)
        → (g : Game) → game_at n.note.game s ≡ Some g → writes seat n TheMaster ≡ false → Law TheMaster (Taken text (Publishes public paper played))
    by_paper text public paper played fits g found o = there (bytes_eq n.note.game seat.game) refl
      where
        publish_it : Verdict
        publish_it = Taken text (Publishes public paper played)

        there : (b : Bool) → bytes_eq n.note.game seat.game ≡ b → Law TheMaster publish_it
        there true same =
            let name : n.note.game ≡ seat.game = names_tell.same n.note.game seat.game same in
            let more : papers_in (game_at n.note.game (after n TheMaster publish_it s)) ≡ papers_in (game_at n.note.game s) + 1 =
            ap papers_in (game_left (change_of n TheMaster text (Publishes public paper played)) s g found)
            ∙ length-append g.papers (paper ∷ [])
            ∙ sym (ap (λ (x : Option Game). papers_in x + 1) found) in
            one_brought m seat s n TheMaster publish_it (Published public paper played) []
            (shown_of seat n TheMaster publish_it o ∙ ap (λ (b : Bool). cond b (verdict_events seat.power publish_it) []) same)
            (inl (subst (λ (x : List ℕ). papers_in (game_at x (after n TheMaster publish_it s)) ≡ papers_in (game_at x s) + 1) name more))
        there false differ = elsewhere TheMaster publish_it o differ (ap papers_in (other_game (change_of n TheMaster text (Publishes public paper played)) s seat.game fits.1 differ))

    by_seat : (text : List ℕ) (given : NewSeat) → Decides m s n TheMaster (Taken text (Seats given)) → IsFitting n.note.game TheMaster (game_at n.note.game s) (Seats given)
        → writes seat n TheMaster ≡ false → Law TheMaster (Taken text (Seats given))
    by_seat text given d fits o = there (bytes_eq n.note.game seat.game) refl (given.power == seat.power) refl
      where
        give_it : Verdict
        give_it = Taken text (Seats given)

        papers : papers_in (game_at seat.game (after n TheMaster give_it s)) ≡ papers_in (game_at seat.game s)
        papers = same_papers s n TheMaster text (Seats given) seat.game fits (refl, λ ps. refl)

        there : (b : Bool) → bytes_eq n.note.game seat.game ≡ b → (c : Bool) → (given.power == seat.power) ≡ c → Law TheMaster give_it
        there false differ c whose = elsewhere TheMaster give_it o differ papers
        there true same false whose =
            none_brought m seat s n TheMaster give_it
            (shown_of seat n TheMaster give_it o ∙ none_if (bytes_eq n.note.game seat.game) (verdict_events seat.power give_it) (ap (λ (b : Bool). cond b (Seated given.digest ∷ []) []) whose)) papers
            (λ here press. let bad : TheMaster ≡ Seat press.writer = press.wrote in absurd (cc))
            (λ here seated.
            let is : Seats given ≡ Seats seated.seat = cc in
            let one : given ≡ seated.seat = cc in
            absurd (false≢true (sym whose ∙ ap (λ (x : NewSeat). x.power == seat.power) one ∙ seated.of)))
        there true same true whose =
            let by = replaced_by m s n text given d in
            one_brought m seat s n TheMaster give_it (Seated given.digest) []
            (shown_of seat n TheMaster give_it o ∙ ap (λ (b : Bool). cond b (verdict_events seat.power give_it) []) same ∙ ap (λ (b : Bool). cond b (Seated given.digest ∷ []) []) whose)
            (inr (
              same,
              inr (record {
                note = by.0;
                seat = given;
                asked = by.1;
                found = by.2;
                of = whose;
                accepted = ap (λ (t : List ℕ). Taken t (Seats given)) by.3;
              }),
            ))

    by_master : (text : List ℕ) (e : Effect) → Decides m s n TheMaster (Taken text e) → IsFitting n.note.game TheMaster (game_at n.note.game s) e → writes seat n TheMaster ≡ false
        → Law TheMaster (Taken text e)
    by_master text e d fits o = elim (master_where n.note.game (game_at n.note.game s) e fits) [
      | inl nothing ↦ idle TheMaster (Taken text e) o (ap (effect_events seat.power) nothing)
          (same_papers s n TheMaster text e seat.game fits (subst IsUnpublished (sym nothing) (refl, λ ps. refl)))
          (λ t x is. let one : e ≡ x = cc in sym one ∙ nothing)
      | inr more ↦ elim more [
        | inl opens ↦ subst (λ (x : Effect). Law TheMaster (Taken text x)) (sym opens.3)
            (by_open text opens.0 opens.1 opens.2 (subst (IsFitting n.note.game TheMaster (game_at n.note.game s)) opens.3 fits) opens.4 opens.5 o)
        | inr rest ↦ elim rest [
          | inl paper ↦ subst (λ (x : Effect). Law TheMaster (Taken text x)) (sym paper.3)
              (by_paper text paper.0 paper.1 paper.2 (subst (IsFitting n.note.game TheMaster (game_at n.note.game s)) paper.3 fits) paper.4 paper.5 o)
          | inr seats ↦ subst (λ (x : Effect). Law TheMaster (Taken text x)) (sym seats.1)
              (by_seat text seats.0 (subst (λ (x : Effect). Decides m s n TheMaster (Taken text x)) seats.1 d) (subst (IsFitting n.note.game TheMaster (game_at n.note.game s)) seats.1 fits) o)
        ]
      ]
    ]

    by_power : (p : ℕ) (text : List ℕ) (e : Effect) → Decides m s n (Seat p) (Taken text e) → writes seat n (Seat p) ≡ false → Law (Seat p) (Taken text e)
    by_power p text e d o =
        let fits = decides_suits m s n (Seat p) (Taken text e) d in
        let papers = same_papers s n (Seat p) text e seat.game fits (seat_unpublished p (game_at n.note.game s) e fits.0) in
        elim (unseen m seat s n p (Taken text e) d o) [
          | inl none ↦ none_brought m seat s n (Seat p) (Taken text e) none papers
              (λ here press.
              let bad : ◌≡◌ {A = List Event} [] (Heard (item_of m press.writer press.grey press.names press.text) ∷ []) =
              sym none ∙ shown_of seat n (Seat p) (Taken text e) o ∙ ap (λ (b : Bool). cond b (verdict_events seat.power (Taken text e)) []) here
              ∙ heard_events m seat.power n (Seat p) (Taken text e) press in absurd (cc))
              (λ here given. absurd (gives_not p (game_at n.note.game s) e given.seat fits.0 (let is : e ≡ Seats given.seat = cc in is)))
          | inr press ↦ one_brought m seat s n (Seat p) (Taken text e) (Heard (item_of m press.1.writer press.1.grey press.1.names press.1.text)) []
              (shown_of seat n (Seat p) (Taken text e) o ∙ ap (λ (b : Bool). cond b (verdict_events seat.power (Taken text e)) []) press.0
              ∙ heard_events m seat.power n (Seat p) (Taken text e) press.1)
              (inr (press.0, inl press.1))
        ]
      where
        gives_not : (p : ℕ) (game : Option Game) (e : Effect) (given : NewSeat) → Comes (Seat p) game e → e ≡ Seats given → ⊥
        gives_not p game e given comes is = none game (subst (Comes (Seat p) game) is comes)
          where
            none : (game : Option Game) → Comes (Seat p) game (Seats given) → ⊥
            none None h = h
            none (Some g) h = h

    go : (who : Author) (v : Verdict) → Decides m s n who v → writes seat n who ≡ false → Law who v
    go who NotKnown d o = idle who NotKnown o refl refl (λ t x is. absurd (cc))
    go who (Again text) d o = idle who (Again text) o refl refl (λ t x is. absurd (cc))
    go who (OutOfTurn text) d o = idle who (OutOfTurn text) o refl refl (λ t x is. absurd (cc))
    go Nobody (Taken text e) d o = absurd (decides_suits m s n Nobody (Taken text e) d).0
    go TheMaster (Taken text e) d o = by_master text e d (decides_suits m s n TheMaster (Taken text e) d) o
    go (Seat p) (Taken text e) d o = by_power p text e d o

view_of : (m : Chart) (seat : SeatName) (ts : List Turn) → view m seat (turns_for m seat ts) ≡ view m seat ts
view_of m seat [] = refl
view_of m seat (t ∷ ts) = go (events_in m seat t) refl (view_of m seat ts)
  where
    go : (es : List Event) → events_in m seat t ≡ es → view m seat (turns_for m seat ts) ≡ view m seat ts
        → view m seat (cond (is_shown es) (t ∷ turns_for m seat ts) (turns_for m seat ts)) ≡ es ++ view m seat ts
    go [] is rest = rest
    go (e ∷ es) is rest = ap (λ (x : List Event). x ++ view m seat (turns_for m seat ts)) is ∙ ap (λ (x : List Event). (e ∷ es) ++ x) rest

pub alike : (m : Chart) → AreAlike m
alike m seat ts us same = sym (view_of m seat ts) ∙ ap (view m seat) same ∙ view_of m seat us

-- histories that look alike

own_events_alike : (m : Chart) (seat : SeatName) (s : State) (n : Mail) (who : Author) (v : Verdict) → Decides m s n who v → writes seat n who ≡ true → events_for seat n who v ≡ OwnLetter n ∷ []
own_events_alike m seat s n who v d mine =
    ap (λ (b : Bool). own_events b n ++ cond (bytes_eq n.note.game seat.game) (verdict_events seat.power v) []) mine
    ∙ ap (λ (es : List Event). OwnLetter n ∷ es) (none_if (bytes_eq n.note.game seat.game) (verdict_events seat.power v) (quiet who d (both (bytes_eq n.note.game seat.game) (is_seat who seat.power) mine).1))
  where
    quiet : (who : Author) → Decides m s n who v → is_seat who seat.power ≡ true → verdict_events seat.power v ≡ []
    quiet Nobody d is = absurd (false≢true is)
    quiet TheMaster d is = absurd (false≢true is)
    quiet (Seat p) d is = subst (λ (q : ℕ). verdict_events q v ≡ []) (powers_tell.same p seat.power is) (own_quiet m s n p v d)

heard_alike : (m : Chart) (seat : SeatName) (item : Item) (t : Turn) → IsHeardIn m seat item t → events_in m seat t ≡ Heard item ∷ []
heard_alike m seat item t h =
    shown_of seat t.letter (author_in m t) t.verdict h.others
    ∙ ap (λ (b : Bool). cond b (verdict_events seat.power t.verdict) []) h.game
    ∙ heard_events m seat.power t.letter (author_in m t) t.verdict h.press
    ∙ ap (λ (i : Item). Heard i ∷ []) h.shown

abbrev pub IsDecided : Chart → Turn → Type 0
IsDecided m t = Decides m t.before t.letter (author_in m t) t.verdict

pub run_decided : (m : Chart) (ts : List Turn) (old new : State) → IsRun m old ts new → AllByRecursion (IsDecided m) ts
run_decided m [] old new run = tt
run_decided m (t ∷ ts) old new run = (run.1, run_decided m ts (left_by m t) new run.2)

filtered : (m : Chart) (seat : SeatName) (ts : List Turn) → AllByRecursion (IsDecided m) ts → AllByRecursion (IsDecided m) (turns_for m seat ts)
filtered m seat [] all = tt
filtered m seat (t ∷ ts) all = go (is_shown (events_in m seat t)) (filtered m seat ts all.1)
  where
    go : (b : Bool) → AllByRecursion (IsDecided m) (turns_for m seat ts) → AllByRecursion (IsDecided m) (cond b (t ∷ turns_for m seat ts) (turns_for m seat ts))
    go true rest = (all.0, rest)
    go false rest = rest

alike_views : (m : Chart) (seat : SeatName) (ts us : List Turn) → AllByRecursion (IsDecided m) ts → AllByRecursion (IsDecided m) us → AreAlikeTurns m seat ts us → view m seat ts ≡ view m seat us
alike_views m seat [] [] one other same = refl
alike_views m seat [] (u ∷ us) one other same = absurd same
alike_views m seat (t ∷ ts) [] one other same = absurd same
alike_views m seat (t ∷ ts) (u ∷ us) one other same = ap₂ (λ (es fs : List Event). es ++ fs) first (alike_views m seat ts us one.1 other.1 same.1)
  where
    first : events_in m seat t ≡ events_in m seat u
    first = elim same.0 [
      | inl own ↦
          own_events_alike m seat t.before t.letter (author_in m t) t.verdict one.0 own.0
          ∙ ap (λ (n : Mail). OwnLetter n ∷ []) own.2
          ∙ sym (own_events_alike m seat u.before u.letter (author_in m u) u.verdict other.0 own.1)
      | inr heard ↦ heard_alike m seat heard.0 t heard.1 ∙ sym (heard_alike m seat heard.0 u heard.2)
    ]

pub look_alike : (m : Chart) → HistoriesLookAlike m
look_alike m seat old new first last ts us run other same =
    sym (view_of m seat ts)
    ∙ alike_views m seat (turns_for m seat ts) (turns_for m seat us) (filtered m seat ts (run_decided m ts old new run)) (filtered m seat us (run_decided m us first last other)) same
    ∙ view_of m seat us

-- a vote is told by its draw alone

unvoted_orders : (m : Chart) (b : Position) (os : List Own) → orders_of_seats m b (map without_vote os) ≡ orders_of_seats m b os
unvoted_orders m b [] = refl
unvoted_orders m b (o ∷ os) = ap (λ (ps : List PlacedOrder). orders_that_stand m b o.power o.pending ++ ps) (unvoted_orders m b os)

pub votes_untold : (m : Chart) → VotesAreUntold m
votes_untold m tick a b over due v same quiet silent h = go over due h
  where
    public : a.public ≡ b.public
    public = ap (λ (w : Whole). w.public) same

    orders : orders_of m a ≡ orders_of m b
    orders =
        ap (by_power m) (sym (unvoted_orders m a.public.board a.seats)
        ∙ ap (λ (w : Whole). orders_of_seats m w.public.board w.seats) same
        ∙ unvoted_orders m b.public.board b.seats)

    published : IsPublished m tick a v → IsPublished m tick b v
    published p = record {
      board = p.board;
      report = p.report;
      played = subst (λ (os : List PlacedOrder). IsPlayed m b.public.board os p.board p.report) orders
          (subst (λ (q : Public). IsPlayed m q.board (orders_of m a) p.board p.report) public p.played);
      verdict = p.verdict ∙ ap (λ (q : Public). paper_verdict m p.report (public_played tick q p.board p.report.course)) public;
    }

    go : (over due : Bool) → Ticks m tick a over due v → Ticks m tick b over due v
    go true due h = h
    go false false h = h
    go false true h =
        subst (λ (o : Option (List ℕ)). OnTime m tick b o v) (sym silent) (published (subst (λ (o : Option (List ℕ)). OnTime m tick a o v) quiet h))
