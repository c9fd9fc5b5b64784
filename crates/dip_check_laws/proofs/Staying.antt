-- After each letter the papers of each game are those of a game.
use Rattle.std.proofs.Common.{◌≡◌, ℕ, List, [], ◌∷◌, ◌++◌, Option, Some, None, refl, sym, ap, subst, bytes_eq}
use Rattle.std.specs.List.{AllByRecursion}
use Rattle.dip_letters.specs.Letters.{FitsRequest, is_on}
use Rattle.dip_letters.specs.Notes.MasterRequest.{Create}
use Rattle.dip_letters.specs.Notes.Request.{Master}
use Rattle.dip_map.specs.Charts.{Chart}
use Rattle.dip_desk_state.specs.Keyed.{change_at}
use Rattle.dip_map.specs.Boards.{IsOf, Position}
use Rattle.dip_desk_machine.specs.Lawful.{IsLawful, StaysLawful}
use Rattle.dip_desk_machine.specs.View.{IsRun, Turn, left_by, reply_in}
use Rattle.dip_desk_machine.proofs.LawfulOrders.{AreRead}
use Rattle.dip_desk_state.specs.Records.{Kept, Public}
use Rattle.dip_desk_state.specs.State.{Author, Nobody, TheMaster, Seat, Effect, Nothing, Pending, Votes, Delivers, Opens, Publishes, Seats, Game, NewSeat, State, game_after, game_at, name_of, new_games, papers_after, public_after}
use Rattle.dip_desk_machine.specs.Machine.{Decides, DecidesIn, MasterDecides, NumberedBy, Step, old_number, Verdict, NotKnown, Again, OutOfTurn, Taken, after, author, change_of}
use Rattle.dip_desk_machine.specs.Mail.{IsMail, Mail}
use Rattle.dip_desk_machine.proofs.ListLemmas.{all_change}
use Rattle.dip_desk_machine.proofs.Suiting.{Comes, IsFitting, decides_suits, master_holds, numbered_holds}
use Rattle.dip_check_papers.specs.Games.{AreOfGame, IsNext, IsOpening}
use Rattle.dip_check_laws.specs.Published.{AreGames, HistoriesAreRight, PublishedIsNext, StaysGames}
use Rattle.dip_check_laws.proofs.Publishing.{VerdictNext, decided_next, is_ready, with_next}

abbrev IsRightGame : Chart → Game → Type 0
IsRightGame m g = AreOfGame m g.papers g.public

all_append : {A : Type 0} (P : A → Type 0) (xs ys : List A) → AllByRecursion P xs → AllByRecursion P ys → AllByRecursion P (xs ++ ys)
all_append P [] ys one two = two
all_append P (x ∷ xs) ys one two = (one.0, all_append P xs ys one.1 two)

-- ---- a new game

abbrev VerdictOpens : Chart → Verdict → Type 0
VerdictOpens m NotKnown = Unit {0}
VerdictOpens m (Again text) = Unit {0}
VerdictOpens m (OutOfTurn text) = Unit {0}
VerdictOpens m (Taken text Nothing) = Unit {0}
VerdictOpens m (Taken text (Pending orders)) = Unit {0}
VerdictOpens m (Taken text (Votes vote)) = Unit {0}
VerdictOpens m (Taken text (Delivers readers item)) = Unit {0}
VerdictOpens m (Taken text (Opens public paper seats)) = IsOpening m paper public
VerdictOpens m (Taken text (Publishes public paper played)) = Unit {0}
VerdictOpens m (Taken text (Seats seat)) = Unit {0}

opened : (m : Chart) (s : State) (n : Mail) (v : Verdict) → IsMail n → Decides m s n TheMaster v → VerdictOpens m v
opened m s n v mail d =
    master_holds (λ game w. VerdictOpens m w) m n s.desk.kept n.note.command (game_at n.note.game s) v (record {
      unknown = tt;
      again = λ game text. tt;
      out = λ game text. tt;
      free = λ r. tt;
      opened = λ due period grey intent notes found of is all.
          let fits : FitsRequest (Master (Create due period grey intent notes)) = subst FitsRequest of mail.command in
          record {
            game = n.note.game;
            due = due;
            period = period;
            grey = grey;
            intent = is_on intent;
            named = mail.game;
            timely = fits.0;
            least = fits.1;
            most = fits.2;
            after = refl;
            told = refl;
          };
      in_game = λ g. record {
        refused = λ r. tt;
        played = λ tick w is p. subst (VerdictOpens m) (sym p.verdict) tt;
        noted = λ text paper public next told spoiled. tt;
        seated = λ note seat of new low s found. tt;
      };
    }) d

new_right : (m : Chart) (s : State) (n : Mail) (who : Author) (text : List ℕ) (e : Effect) → IsMail n → Decides m s n who (Taken text e)
    → AllByRecursion (IsRightGame m) (new_games e)
new_right m s n who text e mail d = by e who d (decides_suits m s n who (Taken text e) d).0
  where
    seat_opens : (p : ℕ) (game : Option Game) (public : Public) (paper : List ℕ) (seats : List NewSeat) → Comes (Seat p) game (Opens public paper seats) → ⊥
    seat_opens p None public paper seats h = h
    seat_opens p (Some g) public paper seats h = h

    by : (e : Effect) (who : Author) → Decides m s n who (Taken text e) → Comes who (game_at n.note.game s) e → AllByRecursion (IsRightGame m) (new_games e)
    by Nothing who d comes = tt
    by (Pending orders) who d comes = tt
    by (Votes vote) who d comes = tt
    by (Delivers readers item) who d comes = tt
    by (Opens public paper seats) Nobody d comes = absurd comes
    by (Opens public paper seats) TheMaster d comes = ((public, opened m s n (Taken text (Opens public paper seats)) mail d, refl), tt)
    by (Opens public paper seats) (Seat p) d comes = absurd (seat_opens p (game_at n.note.game s) public paper seats comes)
    by (Publishes public paper played) who d comes = tt
    by (Seats seat) who d comes = tt

-- ---- a game that is there

pub master_next : (m : Chart) → ((b : Position) → IsOf m b → AreRead m b) → (s : State) (n : Mail) (g : Game) (v : Verdict) → IsMail n → IsLawful m s
    → game_at n.note.game s ≡ Some g → Decides m s n TheMaster v → VerdictNext m g.public v
master_next m read s n g v mail l found d = by (game_at n.note.game s) found d
  where
    k : Option Kept
    k = s.desk.kept

    by : (o : Option Game) → o ≡ Some g → MasterDecides m n k n.note.command o v → VerdictNext m g.public v
    by None is d = cc
    by (Some h) is d = let same : h ≡ g = cc in numbered (old_number n k) refl (subst (λ (x : Game). NumberedBy (old_number n k) (DecidesIn m n n.note.command x) v) same d)
      where
        numbered : (o : Option Verdict) → old_number n k ≡ o → NumberedBy o (DecidesIn m n n.note.command g) v → VerdictNext m g.public v
        numbered None new d = decided_next m n n.note.command g (is_ready m read s n g mail l found new) mail.command v d
        numbered (Some old) was d =
            numbered_holds (VerdictNext m g.public) (λ text. tt) (λ text. tt) n k (λ (x : Verdict). ⊥) v (λ bad. absurd bad)
            (subst (λ (o : Option Verdict). NumberedBy o (λ (x : Verdict). ⊥) v) (sym was) d)

effect_right : (m : Chart) → ((b : Position) → IsOf m b → AreRead m b) → (s : State) (n : Mail) (who : Author) (text : List ℕ) (e : Effect) (g : Game) → IsMail n → IsLawful m s → game_at n.note.game s ≡ Some g
    → Decides m s n who (Taken text e) → IsRightGame m g → AreOfGame m (papers_after e g.papers) (public_after e g.public)
effect_right m read s n who text e g mail l found d right = by e who d (subst (λ (o : Option Game). IsFitting n.note.game who o e) found (decides_suits m s n who (Taken text e) d))
  where
    by : (e : Effect) (who : Author) → Decides m s n who (Taken text e) → IsFitting n.note.game who (Some g) e → AreOfGame m (papers_after e g.papers) (public_after e g.public)
    by Nothing who d fits = right
    by (Pending orders) who d fits = right
    by (Votes vote) who d fits = right
    by (Delivers readers item) who d fits = right
    by (Opens public paper seats) who d fits = right
    by (Publishes public paper played) Nobody d fits = absurd fits.0
    by (Publishes public paper played) (Seat p) d fits = absurd fits.0
    by (Publishes public paper played) TheMaster d fits =
        let next : IsNext m g.public paper public = master_next m read s n g (Taken text (Publishes public paper played)) mail l found d in
        subst (AreOfGame m (g.papers ++ paper ∷ [])) (ap (λ (name : List ℕ). record public { game = name }) fits.1)
        (with_next m g.papers g.public paper public right next)
    by (Seats seat) who d fits = right

pub stays_games : (m : Chart) → ((b : Position) → IsOf m b → AreRead m b) → StaysGames m
stays_games m read old n r new mail l right step = subst (AreGames m) (sym step.3) (by step.0 step.1)
  where
    by : (v : Verdict) → Decides m old n (author m n old) v → AreGames m (after n (author m n old) v old)
    by NotKnown d = right
    by (Again text) d = right
    by (OutOfTurn text) d = right
    by (Taken text e) d =
        let who : Author = author m n old in
        let f : Game → Game = game_after (change_of n who text e) in
        all_append (IsRightGame m) (change_at bytes_eq name_of n.note.game f old.games) (new_games e)
        (all_change bytes_eq name_of n.note.game f (IsRightGame m) old.games right (λ g found was. effect_right m read old n who text e g mail l found d was))
        (new_right m old n who text e mail d)

pub published_is_next : (m : Chart) → ((b : Position) → IsOf m b → AreRead m b) → PublishedIsNext m
published_is_next m read s n g mail l found text paper public played d = master_next m read s n g (Taken text (Publishes public paper played)) mail l found d

-- ---- histories

run_right : (m : Chart) → StaysLawful m → StaysGames m → (ts : List Turn) (old new : State) → IsLawful m old → AreGames m old
    → AllByRecursion (λ (t : Turn). IsMail t.letter) ts → IsRun m old ts new → AreGames m new
run_right m lawful stays [] old new l right all h = subst (AreGames m) (sym h) right
run_right m lawful stays (t ∷ ts) old new l right all h =
    let here : IsLawful m t.before = subst (IsLawful m) (sym h.0) l in
    let were : AreGames m t.before = subst (AreGames m) (sym h.0) right in
    let step : Step m t.before t.letter (reply_in t) (left_by m t) = (t.verdict, h.1, refl, refl) in
    run_right m lawful stays ts (left_by m t) new (lawful t.before t.letter (reply_in t) (left_by m t) all.0 here step)
    (stays t.before t.letter (reply_in t) (left_by m t) all.0 here were step) all.1 h.2

pub histories_right : (m : Chart) → StaysLawful m → StaysGames m → HistoriesAreRight m
histories_right m lawful stays old new turns l none mail run =
    run_right m lawful stays turns old new l (subst (AllByRecursion (IsRightGame m)) (sym none) tt) mail run
