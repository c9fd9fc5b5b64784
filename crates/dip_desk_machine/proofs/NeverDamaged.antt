-- In a lawful state nothing is Damaged: each line is an order, each phase can be adjudicated, and each count that is raised has room.
use Rattle.std.proofs.Common.{◌≡◌, ◌<◌, ◌≤◌, ◌*◌, ℕ, suc, nat_lt, length, lt-ltb, arith, ◌==◌, ◌+◌, Bool, true, false, cond, ◌&&◌, List, [], ◌∷◌, inl, inr, refl, sym, ap, subst, ◌∙◌, Option, Some, None, bytes_eq, map}
use Rattle.std.specs.Prelude.{count_by, ◌||◌}
use Rattle.std.specs.List.{AllByRecursion, list_any}
use Rattle.std.proofs.lemmas.Bool.{eqb-true, false≢true}
use Rattle.dip_letters.specs.Notes.{Request}
use Rattle.dip_letters.specs.Notes.MasterRequest.{Create, Tick, Replace, Notify}
use Rattle.dip_letters.specs.Notes.Request.{Player, Master}
use Rattle.dip_map.specs.Boards.{Position, IsOf}
use Rattle.dip_map.specs.Charts.{Chart}
use Rattle.dip_desk_state.specs.Bounds.{most_items, most_sent}
use Rattle.dip_desk_state.specs.Records.{Item, Kept}
use Rattle.dip_desk_state.specs.Keyed.{at}
use Rattle.dip_desk_machine.specs.Lawful.{IsLawful, IsLawfulGame, IsLawfulSeat, IsNeverDamaged, last_number, sent_by_others}
use Rattle.dip_desk_machine.specs.Machine.{Decides, IsForeignTo, IsFull, IsOffMap, IsSpoiled, IsSpoiledIn, Verdict, NumberedBy, NotKnown, Taken, old_number, seen_in, verdict_by, verdict_on}
use Rattle.dip_desk_machine.specs.Mail.{IsMail, Mail}
use Rattle.dip_desk_machine.specs.Pressing.{is_among}
use Rattle.dip_desk_state.specs.State.{State, Game, Part, Nobody, TheMaster, Seat, Nothing, Delivers, game_at, has_room, have_room, may_get, may_send, name_of, own_of, power_in, seat_at, whole_of}
use Rattle.dip_desk_state.specs.Writable.{IsPublicOf}
use Rattle.dip_desk_games.specs.Ordering.{has_foreign}
use Rattle.dip_desk_games.specs.Ticking.{IsPlayable}
use Rattle.dip_orders_placed.proofs.KeptLaws.{count_cons}
use Rattle.dip_desk_state.proofs.KeyedLemmas.{at_key, powers_tell}
use Rattle.dip_desk_machine.proofs.LawfulOrders.{AreRead, standing_own}
use Rattle.dip_desk_games.proofs.ListLemmas.{all_weaker}
use Rattle.dip_desk_machine.proofs.Counting.{all_both}
use Rattle.dip_desk_machine.proofs.ListLemmas.{all_at}
use Rattle.dip_desk_machine.proofs.Suiting.{Comes, decides_suits}
use Rattle.dip_desk_machine.proofs.Handing.{each_counted, whole_given}
use Rattle.dip_desk_machine.proofs.LawfulStates.{numbered_newer, seat_fits, sent_within}

-- ---- games that can be played

none_foreign : (m : Chart) (b : Position) (seats : List Part) → AreRead m b → AllByRecursion (IsLawfulSeat m b) seats
    → list_any (λ o. has_foreign m b o.power o.pending) (map (λ s. s.own) seats) ≡ false
none_foreign m b [] read all = refl
none_foreign m b (s ∷ ss) read all =
    ap (λ (t : Bool). t || list_any (λ o. has_foreign m b o.power o.pending) (map (λ s. s.own) ss)) (standing_own m b (power_in s) s.own.pending read all.0.pending)
    ∙ none_foreign m b ss read all.1

-- the public part of a lawful state's game is one of the map
pub public_of : (m : Chart) (s : State) (name : List ℕ) (g : Game) → IsLawful m s → game_at name s ≡ Some g → IsPublicOf m g.public
public_of m s name g l found = (all_at bytes_eq name_of name (IsLawfulGame m) s.games g l.games found).public

-- the phase of a lawful state's game can be adjudicated while the master's last number isn't the greatest
pub playable : (m : Chart) → ((b : Position) → IsOf m b → AreRead m b) → (s : State) (name : List ℕ) (g : Game) → IsLawful m s → last_number s.desk.kept < 999999999
    → game_at name s ≡ Some g → IsPlayable m (whole_of g)
playable m read s name g l more found =
    let lg : IsLawfulGame m g = all_at bytes_eq name_of name (IsLawfulGame m) s.games g l.games found in
    let few : g.public.papers ≤ last_number s.desk.kept = all_at bytes_eq name_of name (λ (h : Game). h.public.papers ≤ last_number s.desk.kept) s.games g l.numbered found in
    record {
      board = lg.public.board;
      lines = none_foreign m g.public.board g.seats (read g.public.board lg.public.board) lg.seats;
      given = whole_given m g (read g.public.board lg.public.board) lg;
      papers = omega (arith, few, more);
    }

-- where no old number answers a letter, its author's last number isn't the greatest
pub new_number : (n : Mail) (k : Option Kept) → IsMail n → old_number n k ≡ None → last_number k < 999999999
new_number n k is new =
    let less = numbered_newer n k (λ v. Unit {0}) [] Nothing is (subst (λ (o : Option Verdict). NumberedBy o (λ v. Unit {0}) (Taken [] Nothing)) (sym new) tt) in
    let most = is.number_most in
    omega (arith, less, most)

-- ---- room for press

-- one whose quota isn't used up is among the others
sent_less : (power p : ℕ) (seats : List Part) (x : Part) → AllByRecursion (λ s. s.own.sent ≤ most_sent) seats → seat_at p seats ≡ Some x → x.own.sent < most_sent → (p == power) ≡ false
    → suc (sent_by_others power seats + most_sent * count_by (λ s. power_in s == power) seats) ≤ most_sent * length seats
sent_less power p [] x all there few other = absurd (cc)
sent_less power p (s ∷ ss) x all there few other = go (power_in s == p) refl there (λ later. sent_less power p ss x all.1 later few other)
  where
    head : count_by (λ (y : Part). power_in y == power) (s ∷ ss) ≡ cond (power_in s == power) 1 0 + count_by (λ (y : Part). power_in y == power) ss
    head = count_cons (λ (y : Part). power_in y == power) s ss

    apart : (power_in s == p) ≡ true → (power_in s == power) ≡ false
    apart same = ap (λ (q : ℕ). q == power) (powers_tell.same (power_in s) p same) ∙ other

    more : (c : Bool) → suc (sent_by_others power ss + most_sent * count_by (λ s. power_in s == power) ss) ≤ most_sent * length ss
        → count_by (λ (y : Part). power_in y == power) (s ∷ ss) ≡ cond c 1 0 + count_by (λ (y : Part). power_in y == power) ss
        → suc ((cond c 0 s.own.sent + sent_by_others power ss) + most_sent * count_by (λ (y : Part). power_in y == power) (s ∷ ss)) ≤ most_sent * suc (length ss)
    more true low many = omega (arith, low, many)
    more false low many = let most = all.0 in omega (arith, low, many, most)

    here : (c : Bool) → c ≡ false → s.own.sent < most_sent
        → count_by (λ (y : Part). power_in y == power) (s ∷ ss) ≡ cond c 1 0 + count_by (λ (y : Part). power_in y == power) ss
        → suc ((cond c 0 s.own.sent + sent_by_others power ss) + most_sent * count_by (λ (y : Part). power_in y == power) (s ∷ ss)) ≤ most_sent * suc (length ss)
    here true is low many = absurd (false≢true (sym is))
    here false is low many = let rest = sent_within power ss all.1 in omega (arith, rest, low, many)

    go : (b : Bool) → (power_in s == p) ≡ b → cond b (Some s) (seat_at p ss) ≡ Some x
        → (seat_at p ss ≡ Some x → suc (sent_by_others power ss + most_sent * count_by (λ s. power_in s == power) ss) ≤ most_sent * length ss)
        → suc (sent_by_others power (s ∷ ss) + most_sent * count_by (λ (y : Part). power_in y == power) (s ∷ ss)) ≤ most_sent * suc (length ss)
    go true is at later =
        let same : s ≡ x = cc in
        here (power_in s == power) (apart is) (subst (λ (y : Part). y.own.sent < most_sent) (sym same) few) head
    go false is at later = more (power_in s == power) (later at) head

none_passes : (test : Part → Bool) (seats : List Part) → count_by test seats ≡ 0 → AllByRecursion (λ s. test s ≡ false) seats
none_passes test [] none = tt
none_passes test (s ∷ ss) none = go (test s) refl (count_cons test s ss) (none_passes test ss)
  where
    go : (b : Bool) → test s ≡ b → count_by test (s ∷ ss) ≡ cond b 1 0 + count_by test ss → (count_by test ss ≡ 0 → AllByRecursion (λ s. test s ≡ false) ss)
        → (test s ≡ false) × AllByRecursion (λ s. test s ≡ false) ss
    go true is head more = absurd (omega (arith, head, none))
    go false is head more = (is, more (omega (arith, head, none)))

-- a power that has one seat has the one that is found
found_alone : (p : ℕ) (seats : List Part) (x : Part) → count_by (λ s. power_in s == p) seats ≡ 1 → seat_at p seats ≡ Some x → AllByRecursion (λ s. (power_in s == p) ≡ true → s ≡ x) seats
found_alone p [] x one there = tt
found_alone p (s ∷ ss) x one there = go (power_in s == p) refl there (count_cons (λ (y : Part). power_in y == p) s ss) (found_alone p ss x)
  where
    go : (b : Bool) → (power_in s == p) ≡ b → cond b (Some s) (seat_at p ss) ≡ Some x
        → count_by (λ (y : Part). power_in y == p) (s ∷ ss) ≡ cond b 1 0 + count_by (λ (y : Part). power_in y == p) ss
        → (count_by (λ (y : Part). power_in y == p) ss ≡ 1 → seat_at p ss ≡ Some x → AllByRecursion (λ s. (power_in s == p) ≡ true → s ≡ x) ss)
        → ((power_in s == p) ≡ true → s ≡ x) × AllByRecursion (λ s. (power_in s == p) ≡ true → s ≡ x) ss
    go true is at head more =
        let same : s ≡ x = cc in (
          λ on. same,
          all_weaker (λ y. (power_in y == p) ≡ false) (λ y. (power_in y == p) ≡ true → y ≡ x) ss (λ y off on. absurd (false≢true (sym off ∙ on)))
              (none_passes (λ (y : Part). power_in y == p) ss (omega (arith, one, head))),
        )
    go false is at head more = (λ on. absurd (false≢true (sym is ∙ on)), more (omega (arith, one, head)) at)

-- press that its writer may send finds room in each seat of a lawful game: the writer's own count has room, and a reader's box holds no
-- more than the others have sent, of whom the writer is one
module _ (m : Chart) (g : Game) (l : IsLawfulGame m g) (p : ℕ) (readers : List ℕ) (x : Part) (there : seat_at p g.seats ≡ Some x) (few : x.own.sent < most_sent)
    (apart : is_among p readers ≡ false) where
  once : (q : ℕ) → q < length m.realms → count_by (λ (s : Part). power_in s == q) g.seats ≡ 1
  once q low =
      eqb-true (count_by (λ (s : Part). power_in s == q) g.seats) 1
      (each_counted (λ q. count_by (λ (s : Part). power_in s == q) g.seats == 1) 0 (length m.realms) q l.powers (omega arith) (omega (arith, low)))

  other : (power : ℕ) → is_among power readers ≡ true → (p == power) ≡ false
  other power near = go (p == power) refl
    where
      go : (b : Bool) → (p == power) ≡ b → b ≡ false
      go true same = absurd (false≢true (sym apart ∙ ap (λ (q : ℕ). is_among q readers) (powers_tell.same p power same) ∙ near))
      go false differ = refl

  gets : (s : Part) → IsLawfulSeat m g.public.board s → length s.box ≤ sent_by_others (power_in s) g.seats → may_get readers s.own ≡ true
  gets s ls box = go (is_among (power_in s) readers) refl
    where
      go : (b : Bool) → is_among (power_in s) readers ≡ b → cond b (nat_lt s.own.items most_items) true ≡ true
      go false is = refl
      go true is =
          let sent = sent_less (power_in s) p g.seats x (all_weaker (IsLawfulSeat m g.public.board) (λ y. y.own.sent ≤ most_sent) g.seats (λ y r. r.sent) l.seats) there few (other (power_in s) is) in
          let one = once (power_in s) ls.power in
          let most = l.few in
          let items = ls.items in
          lt-ltb s.own.items most_items (omega (arith, sent, one, most, items, box))

  sends : (s : Part) → ((power_in s == p) ≡ true → s ≡ x) → may_send (Seat p) s.own ≡ true
  sends s alone = go (p == power_in s) refl
    where
      go : (b : Bool) → (p == power_in s) ≡ b → cond b (nat_lt s.own.sent most_sent) true ≡ true
      go false is = refl
      go true is =
          let same : s ≡ x = alone (subst (λ (q : ℕ). (power_in s == q) ≡ true) (sym (powers_tell.same p (power_in s) is)) (powers_tell.self (power_in s))) in
          lt-ltb s.own.sent most_sent (subst (λ (y : Part). y.own.sent < most_sent) (sym same) few)

  pub press_finds_room : have_room (Seat p) readers g.seats ≡ true
  press_finds_room = tested g.seats (all_both AreSmall (λ s. (power_in s == p) ≡ true → s ≡ x) (λ s. has_room (Seat p) readers s.own ≡ true) g.seats
      (λ s small alone. ap (λ (t : Bool). t && may_get readers s.own) (sends s alone) ∙ gets s small.0 small.1)
      (all_both (IsLawfulSeat m g.public.board) (λ s. length s.box ≤ sent_by_others (power_in s) g.seats) AreSmall g.seats (λ s ls box. (ls, box)) l.seats l.boxes)
      (found_alone p g.seats x (once p author) there))
    where
      AreSmall : Part → Type 0
      AreSmall s = IsLawfulSeat m g.public.board s × (length s.box ≤ sent_by_others (power_in s) g.seats)

      author : p < length m.realms
      author =
          let mine = powers_tell.same (power_in x) p (at_key (λ a b. a == b) power_in p g.seats x there) in
          subst (λ (q : ℕ). q < length m.realms) mine (all_at (λ a b. a == b) power_in p (IsLawfulSeat m g.public.board) g.seats x l.seats there).power

      tested : (ss : List Part) → AllByRecursion (λ s. has_room (Seat p) readers s.own ≡ true) ss → have_room (Seat p) readers ss ≡ true
      tested [] all = refl
      tested (s ∷ ss) all = ap (λ (t : Bool). t && have_room (Seat p) readers ss) all.0 ∙ tested ss all.1

-- press that is decided of a letter in a lawful state finds room
pub room_for_press : (m : Chart) (s : State) (n : Mail) (p : ℕ) (text : List ℕ) (readers : List ℕ) (item : Item) (g : Game) → ((b : Position) → IsOf m b → AreRead m b) → IsMail n → IsLawful m s
    → Decides m s n (Seat p) (Taken text (Delivers readers item)) → game_at n.note.game s ≡ Some g → have_room (Seat p) readers g.seats ≡ true
room_for_press m s n p text readers item g read is l d found = go (seat_at p g.seats) refl
  where
    lg : IsLawfulGame m g
    lg = all_at bytes_eq name_of n.note.game (IsLawfulGame m) s.games g l.games found

    told : Taken text (Delivers readers item) ≡ verdict_on m n (seen_in p (Some g))
    told = d ∙ ap (λ (x : Option Game). verdict_on m n (seen_in p x)) found

    go : (x : Option Part) → seat_at p g.seats ≡ x → have_room (Seat p) readers g.seats ≡ true
    go None at =
        let bad : ◌≡◌ {A = Verdict} (Taken text (Delivers readers item)) NotKnown = told ∙ ap (λ (x : Option Part). verdict_by m n (Some g.public) x) at in absurd (cc)
    go (Some x) at =
        let lx : IsLawfulSeat m g.public.board x = all_at (λ a b. a == b) power_in p (IsLawfulSeat m g.public.board) g.seats x lg.seats at in
        press_finds_room m g lg p readers x at (seat_fits m n g p text (Delivers readers item) is (read g.public.board lg.public.board) told x at lx)
        (subst (λ (y : Option Game). Comes (Seat p) y (Delivers readers item)) found (decides_suits m s n (Seat p) (Taken text (Delivers readers item)) d).0)

-- ---- nothing Damaged

pub never_damaged : (m : Chart) → ((b : Position) → IsOf m b → AreRead m b) → IsNeverDamaged m
never_damaged m read s n Nobody is l h = h
never_damaged m read s n TheMaster is l h = go n.note.command (game_at n.note.game s) refl h.1
  where
    more : last_number s.desk.kept < 999999999
    more = new_number n s.desk.kept is h.0

    spoiled : (command : Request) (g : Game) → game_at n.note.game s ≡ Some g → IsSpoiled m command g → ⊥
    spoiled (Player command) g at h = h
    spoiled (Master (Create due period grey intent seats)) g at h = h
    spoiled (Master (Tick tick)) g at h = h (playable m read s n.note.game g l more at) (public_of m s n.note.game g l at)
    spoiled (Master (Replace seat)) g at h = h
    spoiled (Master (Notify notice)) g at h = let can = playable m read s n.note.game g l more at in h (record { board = can.board; papers = can.papers }) (public_of m s n.note.game g l at)

    go : (command : Request) (game : Option Game) → game_at n.note.game s ≡ game → IsSpoiledIn m command game → ⊥
    go command None at h = h
    go command (Some g) at h = spoiled command g at h
never_damaged m read s n (Seat power) is l h = elim h [
  | inl foreign ↦ go (game_at n.note.game s) refl foreign
  | inr other ↦ elim other [
    | inl off ↦ on_map (game_at n.note.game s) refl off
    | inr full ↦ room (game_at n.note.game s) refl full
  ]
]
  where
    seat : (g : Game) → IsLawfulGame m g → (x : Option Part) → seat_at power g.seats ≡ x → IsForeignTo m (Some g.public) (own_of x) → ⊥
    seat g lg None at foreign = absurd foreign
    seat g lg (Some x) at foreign =
        let lx : IsLawfulSeat m g.public.board x = all_at (λ a b. a == b) power_in power (IsLawfulSeat m g.public.board) g.seats x lg.seats at in
        absurd (false≢true (sym (standing_own m g.public.board (power_in x) x.own.pending (read g.public.board lg.public.board) lx.pending) ∙ foreign))

    on_map : (game : Option Game) → game_at n.note.game s ≡ game → IsOffMap m (seen_in power game).public → ⊥
    on_map None at off = absurd off
    on_map (Some g) at off = off (public_of m s n.note.game g l at).board

    room : (game : Option Game) → game_at n.note.game s ≡ game → IsFull m n power game → ⊥
    room None at full = full
    room (Some g) at full =
        let decided : Decides m s n (Seat power) (Taken full.0 (Delivers full.1 full.2)) = full.3 ∙ ap (λ (x : Option Game). verdict_on m n (seen_in power x)) (sym at) in
        false≢true (sym full.4 ∙ room_for_press m s n power full.0 full.1 full.2 g read is l decided at)

    go : (game : Option Game) → game_at n.note.game s ≡ game → IsForeignTo m (seen_in power game).public (own_of (seen_in power game).seat) → ⊥
    go None at foreign = absurd foreign
    go (Some g) at foreign = seat g (all_at bytes_eq name_of n.note.game (IsLawfulGame m) s.games g l.games at) (seat_at power g.seats) refl foreign
