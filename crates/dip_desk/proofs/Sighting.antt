-- What is decided by an author's sight is what the machine decides.
use Rattle.std.proofs.Common.{◌≡◌, ℕ, ◌<◌, ◌+◌, ◌⊎◌, arith, nat_lt, Bool, true, false, cond, List, Option, None, Some, option_map, refl, sym, ◌∙◌, ap, subst, inl, inr, bytes_eq, codes}
use Rattle.std.specs.Prelude.{option_and_then}
use Rattle.std.proofs.lemmas.Bool.{ltb-false, ltb-true}
use Rattle.dip_letters.specs.Notes.{Request}
use Rattle.dip_letters.specs.Notes.MasterRequest.{Create, Tick, Replace, Notify}
use Rattle.dip_letters.specs.Notes.Request.{Player, Master}
use Rattle.dip_map.specs.Charts.{Chart, power_of}
use Rattle.dip_desk_state.specs.Bounds.{most_papers}
use Rattle.dip_desk_state.specs.Records.{Item, Public, Reply}
use Rattle.dip_desk_keeper.specs.Fitting.{FindsPlace, Fits, FitsGame}
use Rattle.dip_desk_machine.specs.Machine.{DecidedBy, Decides, IsDamagedBy, IsDamagedGame, IsForeign, IsDamagedSight, IsForeignTo, IsFull, IsSpoiledIn, MayBeDamaged, Settles, Step, after, OfMaster, OfNobody, OfSeat, Sight, Verdict, NotKnown, Again, OutOfTurn, Taken, author, author_of, change_of, digest, master_author, master_sees, master_sight, page_shown, power_author, power_sight, seat_author, seat_sight, seen_in, sight_of, verdict_by, verdict_on}
use Rattle.dip_desk_machine.specs.Fitting.{EffectsFit, LawfulEffectsFit}
use Rattle.dip_desk_machine.specs.Lawful.{IsNeverDamaged}
use Rattle.dip_desk_machine.specs.Mail.{IsMail, Mail}
use Rattle.dip_desk_state.specs.State.{Author, Effect, Game, have_room, Nobody, Nothing, Part, Pending, Votes, Delivers, Opens, Publishes, Seats, Seat, State, TheMaster, game_at, own_of, seat_at}
use Rattle.dip_desk_machine.specs.Ticking.{public_played}
use Rattle.dip_desk.specs.Fitting.{ChangesFit, VerdictFits}
use Rattle.dip_desk.specs.Looked.{DecidedFor}
use Rattle.dip_desk_machine.proofs.LawfulStates.{master_new}
use Rattle.dip_desk_machine.proofs.Suiting.{Comes, IsPosted, decides_suits, master_posted, opens_where}
use Rattle.dip_desk_machine.proofs.WritableLemmas.{author_known}

-- a sight is the author's, and what is decided by it is what may be decided
abbrev pub IsRight : Chart → Mail → State → Author → Sight → Type 0
IsRight m n s who sight =
    (author_of sight ≡ who) × ((v : Verdict) → DecidedBy m n sight v → Decides m s n who v) × (IsDamagedSight m n sight → MayBeDamaged m s n who)

seat_right : (m : Chart) (n : Mail) (s : State) (p : ℕ) (game : Option Game) → game_at n.note.game s ≡ game
    → IsRight m n s (seat_author n p (option_and_then (λ g. own_of (seat_at p g.seats)) game)) (seat_sight n p (option_map (λ g. g.public) game) (option_and_then (λ g. seat_at p g.seats) game))
seat_right m n s p None is = (refl, λ v d. d, λ bad. bad)
seat_right m n s p (Some g) is = own (seat_at p g.seats) refl
  where
    own : (x : Option Part) → seat_at p g.seats ≡ x → IsRight m n s (seat_author n p (own_of x)) (seat_sight n p (Some g.public) x)
    own None e = (refl, λ v d. d, λ bad. bad)
    own (Some x) e = told (bytes_eq (digest n.note.game n.note.sender n.note.secret) x.own.digest)
      where
        decided : verdict_on m n (seen_in p (game_at n.note.game s)) ≡ verdict_by m n (Some g.public) (Some x)
        decided = ap (λ (y : Option Game). verdict_on m n (seen_in p y)) is ∙ ap (λ (y : Option Part). verdict_by m n (Some g.public) y) e

        foreign : IsForeignTo m (Some g.public) (Some x.own) → IsForeign m (seen_in p (game_at n.note.game s))
        foreign f = subst (λ (y : Option Game). IsForeign m (seen_in p y)) (sym is) (subst (λ (y : Option Part). IsForeignTo m (Some g.public) (own_of y)) (sym e) f)

        told : (b : Bool) → IsRight m n s (cond b (Seat p) Nobody) (cond b (OfSeat p g.public x.own (page_shown n.note.command x.box)) OfNobody)
        told true = (refl, λ v d. d ∙ sym decided, λ f. inl (foreign f))
        told false = (refl, λ v d. d, λ bad. bad)

-- where the master's sight is of a game in which nothing can be decided, its command can't be done there
game_spoiled : (m : Chart) (command : Request) (game : Option Game) → IsDamagedGame m (master_sees m command game) → IsSpoiledIn m command game
game_spoiled m command None bad = bad
game_spoiled m (Player command) (Some g) bad = bad
game_spoiled m (Master (Create due period grey intent seats)) (Some g) bad = bad
game_spoiled m (Master (Tick tick)) (Some g) bad = λ can of. bad can
game_spoiled m (Master (Replace seat)) (Some g) bad = bad
game_spoiled m (Master (Notify notice)) (Some g) bad = λ can of. bad can

pub is_right : (m : Chart) (n : Mail) (s : State) → IsRight m n s (author m n s) (sight_of m n s)
is_right m n s = go (bytes_eq n.note.sender (codes "master"))
  where
    master : (b : Bool) → IsRight m n s (cond b TheMaster Nobody) (cond b (OfMaster s.desk.kept (master_sees m n.note.command (game_at n.note.game s))) OfNobody)
    master true = (refl, λ v d. d (game_at n.note.game s) refl, λ bad. (bad.0, game_spoiled m n.note.command (game_at n.note.game s) bad.1))
    master false = (refl, λ v d. d, λ bad. bad)

    power : (q : Option ℕ) → IsRight m n s (power_author n q s) (power_sight n q s)
    power None = (refl, λ v d. d, λ bad. bad)
    power (Some q) = seat_right m n s q (game_at n.note.game s) refl

    go : (b : Bool) → IsRight m n s (cond b (master_author n s) (power_author n (power_of m n.note.sender) s)) (cond b (master_sight m n s) (power_sight n (power_of m n.note.sender) s))
    go true = master (bytes_eq (digest (codes "desk") (codes "master") n.note.secret) s.desk.digest)
    go false = power (power_of m n.note.sender)

-- what is settled by a sight's verdict is a step
pub settled_by_sight : (m : Chart) (n : Mail) (s t : State) (who : Author) (v : Verdict) (r : Reply) → DecidedFor m n (sight_of m n s) who v → Settles n who v s r t → Step m s n r t
settled_by_sight m n s t who v r decided done =
    let right = is_right m n s in (v, right.1 v decided.1, done.0, done.1 ∙ ap (λ (a : Author). after n a v s) (decided.0 ∙ right.0))

-- a count is below the greatest number of papers, or not
few_papers : (k : ℕ) → (k < most_papers) ⊎ (k < most_papers → ⊥)
few_papers k = go (nat_lt k most_papers) refl
  where
    go : (b : Bool) → nat_lt k most_papers ≡ b → (k < most_papers) ⊎ (k < most_papers → ⊥)
    go true is = inl (ltb-true k most_papers is)
    go false is = inr (λ less. let most = ltb-false k most_papers is in omega (arith, less, most))

-- what is published has the next number of its game, where that has not as many papers as a game has; and where it has, the command can't
-- be done in it
paper_place : (m : Chart) (name : List ℕ) (who : Author) (command : Request) (game : Option Game) (text : List ℕ) (public : Public) (paper : List ℕ) (played : Bool)
    → IsPosted m command game (Taken text (Publishes public paper played)) → FindsPlace name who (Publishes public paper played) game ⊎ IsSpoiledIn m command game
paper_place m name who command game text public paper true by =
    let p = by.4 in
    let played_on : public ≡ public_played by.0 by.1.public p.board p.report.course = cc in
    let next : public.papers ≡ by.1.public.papers + 1 = ap (λ (q : Public). q.papers) played_on in
    subst (λ (x : Option Game). FindsPlace name who (Publishes public paper true) x ⊎ IsSpoiledIn m command x) (sym by.3)
    (subst (λ (c : Request). FindsPlace name who (Publishes public paper true) (Some by.1) ⊎ IsSpoiledIn m c (Some by.1)) (sym by.2)
    (elim (few_papers by.1.public.papers) [
      | inl few ↦ inl (next, omega (arith, next, few))
      | inr full ↦ inr (λ can of. full can.papers)
    ]))
paper_place m name who command game text public paper false by =
    let next : public.papers ≡ by.0.public.papers + 1 = by.2.papers in
    subst (λ (x : Option Game). FindsPlace name who (Publishes public paper false) x ⊎ IsSpoiledIn m command x) (sym by.1)
    (elim (few_papers by.0.public.papers) [
      | inl few ↦ inl (next, omega (arith, next, few))
      | inr full ↦ inr (by.3 (λ of low. full low))
    ])

-- a paper comes from the master, in a game that is there
published : (m : Chart) (s : State) (n : Mail) (who : Author) (text : List ℕ) (public : Public) (paper : List ℕ) (played : Bool) → Decides m s n who (Taken text (Publishes public paper played))
    → FindsPlace n.note.game who (Publishes public paper played) (game_at n.note.game s) ⊎ MayBeDamaged m s n who
published m s n Nobody text public paper played d = absurd (decides_suits m s n Nobody (Taken text (Publishes public paper played)) d).0
published m s n TheMaster text public paper played d =
    elim (paper_place m n.note.game TheMaster n.note.command (game_at n.note.game s) text public paper played
    (master_posted m n s.desk.kept n.note.command (game_at n.note.game s) (Taken text (Publishes public paper played)) d)) [
      | inl place ↦ inl place
      | inr spoiled ↦ inr (master_new m n s.desk.kept n.note.command (game_at n.note.game s) text (Publishes public paper played) d, spoiled)
    ]
published m s n (Seat p) text public paper played d = absurd (none (game_at n.note.game s) (decides_suits m s n (Seat p) (Taken text (Publishes public paper played)) d).0)
  where
    none : (game : Option Game) → Comes (Seat p) game (Publishes public paper played) → ⊥
    none None comes = comes
    none (Some g) comes = comes

-- press finds room, or a count is full
press_place : (m : Chart) (n : Mail) (p : ℕ) (text : List ℕ) (readers : List ℕ) (item : Item) (game : Option Game)
    → Taken text (Delivers readers item) ≡ verdict_on m n (seen_in p game) → FindsPlace n.note.game (Seat p) (Delivers readers item) game ⊎ IsFull m n p game
press_place m n p text readers item None d = inl tt
press_place m n p text readers item (Some g) d = go (have_room (Seat p) readers g.seats) refl
  where
    go : (b : Bool) → have_room (Seat p) readers g.seats ≡ b → FindsPlace n.note.game (Seat p) (Delivers readers item) (Some g) ⊎ IsFull m n p (Some g)
    go true is = inl is
    go false is = inr (text, readers, item, d, is)

delivered : (m : Chart) (s : State) (n : Mail) (who : Author) (text : List ℕ) (readers : List ℕ) (item : Item) → Decides m s n who (Taken text (Delivers readers item))
    → FindsPlace n.note.game who (Delivers readers item) (game_at n.note.game s) ⊎ MayBeDamaged m s n who
delivered m s n Nobody text readers item d = absurd (decides_suits m s n Nobody (Taken text (Delivers readers item)) d).0
delivered m s n TheMaster text readers item d = absurd (decides_suits m s n TheMaster (Taken text (Delivers readers item)) d).0
delivered m s n (Seat p) text readers item d = elim (press_place m n p text readers item (game_at n.note.game s) d) [
  | inl place ↦ inl place
  | inr full ↦ inr (inr (inr full))
]

-- what is decided finds place, or the record of its author may be Damaged
finds_place : (m : Chart) (s : State) (n : Mail) (who : Author) (text : List ℕ) (e : Effect) → Decides m s n who (Taken text e)
    → FindsPlace n.note.game who e (game_at n.note.game s) ⊎ MayBeDamaged m s n who
finds_place m s n who text Nothing d = inl tt
finds_place m s n who text (Pending orders) d = inl tt
finds_place m s n who text (Votes vote) d = inl tt
finds_place m s n who text (Delivers readers item) d = delivered m s n who text readers item d
finds_place m s n who text (Publishes public paper played) d = published m s n who text public paper played d
finds_place m s n who text (Seats seat) d = inl tt
finds_place m s n who text (Opens public paper seats) d =
    let all = opens_where n.note.game who (game_at n.note.game s) public paper seats (decides_suits m s n who (Taken text (Opens public paper seats)) d) in inl (all.2, all.1)

-- a change of a letter of the grammar fits where its effect does
whole : (m : Chart) (s : State) (n : Mail) (text : List ℕ) (e : Effect) → IsMail n → FitsGame m n.note.game (author m n s) e (game_at n.note.game s)
    → Fits m (change_of n (author m n s) text e) s
whole m s n text e is effect = record { author = author_known m n s; least = is.number_least; most = is.number_most; name = is.game; effect = effect }

-- in a lawful state each change fits: nothing there is Damaged
pub changes_fit : (m : Chart) → LawfulEffectsFit m → IsNeverDamaged m → ChangesFit m
changes_fit m fit never s n text e l is d = whole m s n text e is (fit s n (author m n s) text e l is d, place (finds_place m s n (author m n s) text e d))
  where
    place : FindsPlace n.note.game (author m n s) e (game_at n.note.game s) ⊎ MayBeDamaged m s n (author m n s) → FindsPlace n.note.game (author m n s) e (game_at n.note.game s)
    place (inl found) = found
    place (inr damaged) = absurd (never s n (author m n s) is l damaged)

-- what is decided by a sight finds place and fits the map, or else its author's record may be Damaged
pub unfit_by_sight : (m : Chart) (n : Mail) (s : State) (who : Author) (v : Verdict) → EffectsFit m → IsMail n → DecidedFor m n (sight_of m n s) who v → (VerdictFits m n who v s → ⊥)
    → IsDamagedBy m n s
unfit_by_sight m n s who v fit is_mail decided unfit =
    let right = is_right m n s in blamed v (right.1 v decided.1) (subst (λ (a : Author). VerdictFits m n a v s → ⊥) (decided.0 ∙ right.0) unfit)
  where
    blamed : (v : Verdict) → Decides m s n (author m n s) v → (VerdictFits m n (author m n s) v s → ⊥) → IsDamagedBy m n s
    blamed NotKnown d unfit = absurd (unfit tt)
    blamed (Again text) d unfit = absurd (unfit tt)
    blamed (OutOfTurn text) d unfit = absurd (unfit tt)
    blamed (Taken text e) d unfit = elim (finds_place m s n (author m n s) text e d) [
      | inl place ↦ fit s n (author m n s) text e is_mail d (λ on_map. unfit (whole m s n text e is_mail (on_map, place)))
      | inr damaged ↦ damaged
    ]

-- a fault of the sight is one of the letter's author
pub blamed_by_sight : (m : Chart) (n : Mail) (s : State) → IsDamagedSight m n (sight_of m n s) → IsDamagedBy m n s
blamed_by_sight m n s bad = let right = is_right m n s in right.2 bad
