-- A letter that comes twice acts once.
use Rattle.std.proofs.Common.{◌≡◌, ◌⊎◌, inl, inr, ℕ, ◌<◌, ◌==◌, Bool, true, false, cond, List, refl, sym, ap, subst, ◌∙◌, arith, Option, Some, None, option_map, unwrap_or, nat_lt, bytes_eq, codes}
use Rattle.std.specs.Prelude.{option_and_then}
use Rattle.std.specs.List.{list_any}
use Rattle.std.proofs.lemmas.Bool.{eq-eqb, false≢true, ltb-true}
use Rattle.dip_letters.specs.Notes.{Request}
use Rattle.dip_letters.specs.Letters.{is_on}
use Rattle.dip_letters.specs.Notes.MasterRequest.{Create, Tick, Replace, Notify}
use Rattle.dip_letters.specs.Notes.Request.{Player, Master}
use Rattle.dip_map.specs.Charts.{Chart, power_of}
use Rattle.dip_desk_state.specs.Records.{Own, Kept, Public, Reply}
use Rattle.dip_reports.specs.declared.refusals.Refusal.TheVariants.{Malformed, NumberUsed, Stale}
use Rattle.dip_desk_machine.specs.Machine.{Decides, DecidesIn, DecidesNew, MasterDecides, change_of, open_game, NumberedBy, Step, Verdict, NotKnown, Again, OutOfTurn, Taken, after, author, creation, digest, kept_of, master_author, new_seats, old_number, opening_public, page_shown, power_author, refusal_verdict, repeat_verdict, reply_of, seat_author, seat_command, seen_in, verdict_by, verdict_on}
use Rattle.dip_desk_state.specs.Fitting.{are_complete}
use Rattle.dip_reports.specs.Texts.{refusal_line}
use Rattle.dip_desk_machine.specs.Mail.{Mail}
use Rattle.dip_desk_laws.specs.Repeats.{ActsOnce}
use Rattle.dip_desk_laws.specs.Strangers.{is_create}
use Rattle.dip_desk_state.specs.State.{State, Game, Part, Author, Nobody, TheMaster, Seat, Effect, Nothing, Pending, Votes, Delivers, Opens, Publishes, Seats, NewSeat, game_after, game_at, own_at, own_of, power_in, public_after, seat_at, with_effect, with_item, with_letter}
use Rattle.dip_desk_state.proofs.KeyedLemmas.{names_tell}
use Rattle.dip_desk_machine.proofs.Seeing.{author_part, game_left, seat_left}
use Rattle.dip_desk_machine.proofs.Suiting.{Comes, decides_suits, in_game_holds, seat_where}

-- a verdict by which the letter isn't taken
abbrev pub IsUntaken : Verdict → Type 0
IsUntaken NotKnown = Unit {0}
IsUntaken (Again text) = Unit {0}
IsUntaken (OutOfTurn text) = Unit {0}
IsUntaken (Taken text e) = ⊥

numbered_one : (o : Option Verdict) (New : Verdict → Type 0) (a b : Verdict) → (New b → ⊥) → NumberedBy o New a → NumberedBy o New b → a ≡ b
numbered_one None New a b taken x y = absurd (taken y)
numbered_one (Some old) New a b taken x y = x ∙ sym y

-- what is decided of a new number is taken
pub in_game_taken : (m : Chart) (n : Mail) (command : Request) (g : Game) (v : Verdict) → IsUntaken v → DecidesIn m n command g v → ⊥
in_game_taken m n command g v untaken d =
    in_game_holds (λ w. IsUntaken w → ⊥) m n command g v (record {
      refused = λ r u. u;
      played = λ tick w of p u. subst IsUntaken p.verdict u;
      noted = λ text paper public next told spoiled u. u;
      seated = λ note seat of new low s found u. u;
    }) d untaken

created_taken : (m : Chart) (p : Public) (found : Option (List NewSeat)) → IsUntaken (creation m p found None) → ⊥
created_taken m p None h = h
created_taken m p (Some seats) h = go (are_complete m seats) h
  where
    go : (b : Bool) → IsUntaken (cond b (open_game m p seats None) (refusal_verdict Malformed)) → ⊥
    go true h = h
    go false h = h

new_one : (m : Chart) (n : Mail) (k : Option Kept) (command : Request) (v w : Verdict) → IsUntaken w → DecidesNew m n k command v → DecidesNew m n k command w → v ≡ w
new_one m n k (Player command) v w untaken x y = x ∙ sym y
new_one m n k (Master (Create due period grey intent seats)) v w untaken x y =
    numbered_one (old_number n k) (λ v. v ≡ creation m (opening_public m n.note.game due period grey (is_on intent)) (new_seats m n.note.game seats) None) v w
    (λ is. created_taken m (opening_public m n.note.game due period grey (is_on intent)) (new_seats m n.note.game seats) (subst IsUntaken is untaken)) x y
new_one m n k (Master (Tick tick)) v w untaken x y = x ∙ sym y
new_one m n k (Master (Replace seat)) v w untaken x y = x ∙ sym y
new_one m n k (Master (Notify notice)) v w untaken x y = x ∙ sym y

-- where a letter may go untaken, nothing else is decided of it
pub decides_one : (m : Chart) (s : State) (n : Mail) (who : Author) (v w : Verdict) → IsUntaken w → Decides m s n who v → Decides m s n who w → v ≡ w
decides_one m s n Nobody v w untaken d e = d ∙ sym e
decides_one m s n (Seat p) v w untaken d e = d ∙ sym e
decides_one m s n TheMaster v w untaken d e = go (game_at n.note.game s) d e
  where
    go : (game : Option Game) → MasterDecides m n s.desk.kept n.note.command game v → MasterDecides m n s.desk.kept n.note.command game w → v ≡ w
    go None x y = new_one m n s.desk.kept n.note.command v w untaken x y
    go (Some g) x y = numbered_one (old_number n s.desk.kept) (DecidesIn m n n.note.command g) v w (in_game_taken m n n.note.command g w untaken) x y

not_below : (a : ℕ) → nat_lt a a ≡ false
not_below a = go (nat_lt a a) refl
  where
    go : (b : Bool) → nat_lt a a ≡ b → b ≡ false
    go true is = let lt : a < a = ltb-true a a is in absurd (omega (arith, lt))
    go false is = refl

-- the number that was just kept, of the same letter
number_again : (n : Mail) (text : List ℕ) → old_number n (Some (kept_of n text)) ≡ Some (Again text)
number_again n text =
    ap (λ (b : Bool). cond b (Some (OutOfTurn (refusal_line (Stale n.note.number)))) (cond (n.note.number == n.note.number) (Some (repeat_verdict n (kept_of n text))) None)) (not_below n.note.number)
    ∙ ap (λ (b : Bool). cond b (Some (repeat_verdict n (kept_of n text))) None) (eq-eqb n.note.number n.note.number refl)
    ∙ ap (λ (b : Bool). Some (cond b (Again text) (OutOfTurn (refusal_line (NumberUsed n.note.number))))) (names_tell.self n.sum)

-- an author is told by digests alone

abbrev pub digest_of : Option Own → Option (List ℕ)
digest_of o = option_map (λ x. x.digest) o

seat_author_same : (n : Mail) (power : ℕ) (a b : Option Own) → digest_of a ≡ digest_of b → seat_author n power a ≡ seat_author n power b
seat_author_same n power None None e = refl
seat_author_same n power None (Some b) e = absurd (cc)
seat_author_same n power (Some a) None e = absurd (cc)
seat_author_same n power (Some a) (Some b) e =
    let same : a.digest ≡ b.digest = cc in
    ap (λ (x : List ℕ). cond (bytes_eq (digest n.note.game n.note.sender n.note.secret) x) (Seat power) Nobody) same

no_seat : (b : Bool) (p : ℕ) → cond b TheMaster Nobody ≡ Seat p → ⊥
no_seat true p e = let bad : ◌≡◌ {A = Author} TheMaster (Seat p) = e in absurd (cc)
no_seat false p e = let bad : ◌≡◌ {A = Author} Nobody (Seat p) = e in absurd (cc)

no_master : (n : Mail) (power : ℕ) (o : Option Own) → seat_author n power o ≡ TheMaster → ⊥
no_master n power None e = let bad : ◌≡◌ {A = Author} Nobody TheMaster = e in absurd (cc)
no_master n power (Some o) e = go (bytes_eq (digest n.note.game n.note.sender n.note.secret) o.digest) e
  where
    go : (b : Bool) → cond b (Seat power) Nobody ≡ TheMaster → ⊥
    go true e = let bad : ◌≡◌ {A = Author} (Seat power) TheMaster = e in absurd (cc)
    go false e = let bad : ◌≡◌ {A = Author} Nobody TheMaster = e in absurd (cc)

pub master_stays : (m : Chart) (n : Mail) (s t : State) → t.desk.digest ≡ s.desk.digest → author m n s ≡ TheMaster → author m n t ≡ TheMaster
master_stays m n s t same is = go (bytes_eq n.note.sender (codes "master")) is
  where
    other : (power : Option ℕ) → power_author n power s ≡ TheMaster → ⊥
    other None e = let bad : ◌≡◌ {A = Author} Nobody TheMaster = e in absurd (cc)
    other (Some power) e = no_master n power (own_at n.note.game power s) e

    go : (b : Bool) → cond b (master_author n s) (power_author n (power_of m n.note.sender) s) ≡ TheMaster
        → cond b (master_author n t) (power_author n (power_of m n.note.sender) t) ≡ TheMaster
    go true e = ap (λ (d : List ℕ). cond (bytes_eq (digest (codes "desk") (codes "master") n.note.secret) d) TheMaster Nobody) same ∙ e
    go false e = absurd (other (power_of m n.note.sender) e)

seat_stays : (m : Chart) (n : Mail) (p : ℕ) (s t : State) → ((q : ℕ) → digest_of (own_at n.note.game q t) ≡ digest_of (own_at n.note.game q s)) → author m n s ≡ Seat p → author m n t ≡ Seat p
seat_stays m n p s t same is = go (bytes_eq n.note.sender (codes "master")) is
  where
    power : (q : Option ℕ) → power_author n q s ≡ Seat p → power_author n q t ≡ Seat p
    power None e = e
    power (Some q) e = seat_author_same n q (own_at n.note.game q t) (own_at n.note.game q s) (same q) ∙ e

    go : (b : Bool) → cond b (master_author n s) (power_author n (power_of m n.note.sender) s) ≡ Seat p
        → cond b (master_author n t) (power_author n (power_of m n.note.sender) t) ≡ Seat p
    go true e = absurd (no_seat (bytes_eq (digest (codes "desk") (codes "master") n.note.secret) s.desk.digest) p e)
    go false e = power (power_of m n.note.sender) e

-- a seat after a letter that gives no seat away has its digest
letter_digest : (k : Kept) (e : Effect) (s : Part) → (with_letter k e s).own.digest ≡ s.own.digest
letter_digest k Nothing s = refl
letter_digest k (Pending orders) s = refl
letter_digest k (Votes vote) s = refl
letter_digest k (Delivers readers item) s = refl
letter_digest k (Opens public paper seats) s = refl
letter_digest k (Publishes public paper played) s = refl
letter_digest k (Seats seat) s = refl

seat_digest : (p : ℕ) (game : Option Game) (e : Effect) (s : Part) → Comes (Seat p) game e → (with_effect e s).own.digest ≡ s.own.digest
seat_digest p None e s h = absurd h
seat_digest p (Some g) Nothing s h = refl
seat_digest p (Some g) (Pending orders) s h = refl
seat_digest p (Some g) (Votes vote) s h = refl
seat_digest p (Some g) (Delivers readers item) s h = go (list_any (λ p. p == power_in s) readers)
  where
    go : (b : Bool) → (cond b (with_item item s) s).own.digest ≡ s.own.digest
    go true = refl
    go false = refl
seat_digest p (Some g) (Opens public paper seats) s h = absurd h
seat_digest p (Some g) (Publishes public paper played) s h = absurd h
seat_digest p (Some g) (Seats seat) s h = absurd h

-- what is kept of a seat's letter
letter_kept : (k : Kept) (e : Effect) (s : Part) → (with_letter k e s).own.kept ≡ Some k
letter_kept k Nothing s = refl
letter_kept k (Pending orders) s = refl
letter_kept k (Votes vote) s = refl
letter_kept k (Delivers readers item) s = refl
letter_kept k (Opens public paper seats) s = refl
letter_kept k (Publishes public paper played) s = refl
letter_kept k (Seats seat) s = refl

seat_kept : (p : ℕ) (game : Option Game) (e : Effect) (s : Part) → Comes (Seat p) game e → (with_effect e s).own.kept ≡ s.own.kept
seat_kept p None e s h = absurd h
seat_kept p (Some g) Nothing s h = refl
seat_kept p (Some g) (Pending orders) s h = refl
seat_kept p (Some g) (Votes vote) s h = refl
seat_kept p (Some g) (Delivers readers item) s h = go (list_any (λ p. p == power_in s) readers)
  where
    go : (b : Bool) → (cond b (with_item item s) s).own.kept ≡ s.own.kept
    go true = refl
    go false = refl
seat_kept p (Some g) (Opens public paper seats) s h = absurd h
seat_kept p (Some g) (Publishes public paper played) s h = absurd h
seat_kept p (Some g) (Seats seat) s h = absurd h

-- a letter that a seat has sent leaves each seat its digest
digests_stay : (s : State) (n : Mail) (p : ℕ) (text : List ℕ) (e : Effect) (g : Game) → Comes (Seat p) (game_at n.note.game s) e → game_at n.note.game s ≡ Some g → (q : ℕ)
    → digest_of (own_at n.note.game q (after n (Seat p) (Taken text e) s)) ≡ digest_of (own_at n.note.game q s)
digests_stay s n p text e g comes found q =
    ap (λ (x : Option Game). digest_of (option_and_then (λ (y : Game). own_of (seat_at q y.seats)) x)) (game_left (change_of n (Seat p) text e) s g found)
    ∙ ap (λ (x : Option Part). digest_of (own_of x)) (seat_left (change_of n (Seat p) text e) g q)
    ∙ stay (seat_at q g.seats)
    ∙ sym (ap (λ (x : Option Game). digest_of (option_and_then (λ (y : Game). own_of (seat_at q y.seats)) x)) found)
  where
    one : (b : Bool) (x : Part) → (cond b (with_letter (kept_of n text) e x) x).own.digest ≡ x.own.digest
    one true x = letter_digest (kept_of n text) e x
    one false x = refl

    stay : (o : Option Part) → digest_of (own_of (option_map (with_effect e) (option_map (author_part (Seat p) (kept_of n text) e q) o))) ≡ digest_of (own_of o)
    stay None = refl
    stay (Some x) = ap (λ (d : List ℕ). Some d) (seat_digest p (game_at n.note.game s) e (author_part (Seat p) (kept_of n text) e q x) comes ∙ one (p == q) x)

-- a seat's letter that was taken, decided again
seat_again : (m : Chart) (s : State) (n : Mail) (p : ℕ) (text : List ℕ) (e : Effect) (g : Game) → Comes (Seat p) (game_at n.note.game s) e → game_at n.note.game s ≡ Some g
    → Taken text e ≡ verdict_on m n (seen_in p (Some g)) → verdict_on m n (seen_in p (game_at n.note.game (after n (Seat p) (Taken text e) s))) ≡ Again text
seat_again m s n p text e g comes found d =
    ap (λ (x : Option Game). verdict_on m n (seen_in p x)) (game_left (change_of n (Seat p) text e) s g found)
    ∙ ap (λ (x : Option Part). verdict_by m n (Some (public_after e g.public)) x) (seat_left (change_of n (Seat p) text e) g p)
    ∙ known (seat_at p g.seats) d
  where
    mine : (x : Part) → (with_effect e (author_part (Seat p) (kept_of n text) e p x)).own.kept ≡ Some (kept_of n text)
    mine x =
        seat_kept p (game_at n.note.game s) e (author_part (Seat p) (kept_of n text) e p x) comes
        ∙ ap (λ (b : Bool). (cond b (with_letter (kept_of n text) e x) x).own.kept) (eq-eqb p p refl) ∙ letter_kept (kept_of n text) e x

    known : (o : Option Part) → Taken text e ≡ verdict_by m n (Some g.public) o
        → verdict_by m n (Some (public_after e g.public)) (option_map (with_effect e) (option_map (author_part (Seat p) (kept_of n text) e p) o)) ≡ Again text
    known None d = let bad : ◌≡◌ {A = Verdict} (Taken text e) NotKnown = d in absurd (cc)
    known (Some x) d =
        let y : Part = with_effect e (author_part (Seat p) (kept_of n text) e p x) in
        ap (λ (k : Option Kept). unwrap_or (old_number n k) (seat_command m n.note.command (public_after e g.public) y.own (page_shown n.note.command y.box))) (mine x)
        ∙ ap (λ (old : Option Verdict). unwrap_or old (seat_command m n.note.command (public_after e g.public) y.own (page_shown n.note.command y.box))) (number_again n text)

known_again : (n : Mail) (text : List ℕ) (New : Verdict → Type 0) → NumberedBy (old_number n (Some (kept_of n text))) New (Again text)
known_again n text New = subst (λ (o : Option Verdict). NumberedBy o New (Again text)) (sym (number_again n text)) refl

none_there : (false ≡ true) ⊎ ((h : Game) × (◌≡◌ {A = Option Game} None (Some h))) → ⊥
none_there (inl bad) = false≢true bad
none_there (inr found) = let bad : ◌≡◌ {A = Option Game} None (Some found.0) = found.1 in cc

-- a letter of the master that was taken, decided again
again_in : (m : Chart) (n : Mail) (text : List ℕ) (command : Request) (after : Option Game) → (is_create command ≡ true) ⊎ ((h : Game) × (after ≡ Some h))
    → MasterDecides m n (Some (kept_of n text)) command after (Again text)
again_in m n text command (Some h) there = known_again n text (DecidesIn m n command h)
again_in m n text (Master (Create due period grey intent seats)) None there =
    known_again n text (λ w. w ≡ creation m (opening_public m n.note.game due period grey (is_on intent)) (new_seats m n.note.game seats) None)
again_in m n text (Player command) None there = absurd (none_there there)
again_in m n text (Master (Tick tick)) None there = absurd (none_there there)
again_in m n text (Master (Replace seat)) None there = absurd (none_there there)
again_in m n text (Master (Notify notice)) None there = absurd (none_there there)

master_again : (m : Chart) (n : Mail) (k : Option Kept) (text : List ℕ) (e : Effect) (command : Request) (game after : Option Game)
    → MasterDecides m n k command game (Taken text e) → ((g : Game) → game ≡ Some g → (h : Game) × (after ≡ Some h)) → MasterDecides m n (Some (kept_of n text)) command after (Again text)
master_again m n k text e command (Some g) after d stays = again_in m n text command after (inr (stays g refl))
master_again m n k text e (Master (Create due period grey intent seats)) None after d stays = again_in m n text (Master (Create due period grey intent seats)) after (inl refl)
master_again m n k text e (Player command) None after d stays = let bad : ◌≡◌ {A = Verdict} (Taken text e) NotKnown = d in absurd (cc)
master_again m n k text e (Master (Tick tick)) None after d stays = let bad : ◌≡◌ {A = Verdict} (Taken text e) NotKnown = d in absurd (cc)
master_again m n k text e (Master (Replace seat)) None after d stays = let bad : ◌≡◌ {A = Verdict} (Taken text e) NotKnown = d in absurd (cc)
master_again m n k text e (Master (Notify notice)) None after d stays = let bad : ◌≡◌ {A = Verdict} (Taken text e) NotKnown = d in absurd (cc)

-- who is decided so again
abbrev pub IsRepeat : Chart → State → Mail → List ℕ → Type 0
IsRepeat m s n text = (who : Author) × (author m n s ≡ who) × Decides m s n who (Again text)

taken_again : (m : Chart) (s : State) (n : Mail) (who : Author) (text : List ℕ) (e : Effect) → author m n s ≡ who → Decides m s n who (Taken text e)
    → Comes who (game_at n.note.game s) e → IsRepeat m (after n who (Taken text e) s) n text
taken_again m s n Nobody text e is d comes = absurd comes
taken_again m s n TheMaster text e is d comes = (
  TheMaster,
  master_stays m n s (after n TheMaster (Taken text e) s) refl is,
  (master_again m n s.desk.kept text e n.note.command (game_at n.note.game s) (game_at n.note.game (after n TheMaster (Taken text e) s)) d
      (λ g found. (game_after (change_of n TheMaster text e) g, game_left (change_of n TheMaster text e) s g found))),
)
taken_again m s n (Seat p) text e is d comes =
    let there = seat_where p (game_at n.note.game s) e comes in (
      Seat p,
      seat_stays m n p s (after n (Seat p) (Taken text e) s) (digests_stay s n p text e there.0 comes there.1) is,
      sym (seat_again m s n p text e there.0 comes there.1 (d ∙ ap (λ (x : Option Game). verdict_on m n (seen_in p x)) there.1)),
    )

-- and its author is the same
stays_author : (m : Chart) (s : State) (n : Mail) (who : Author) (text : List ℕ) (e : Effect) → author m n s ≡ who
    → Comes who (game_at n.note.game s) e → author m n (after n who (Taken text e) s) ≡ who
stays_author m s n Nobody text e is comes = absurd comes
stays_author m s n TheMaster text e is comes = master_stays m n s (after n TheMaster (Taken text e) s) refl is
stays_author m s n (Seat p) text e is comes =
    let there = seat_where p (game_at n.note.game s) e comes in
    seat_stays m n p s (after n (Seat p) (Taken text e) s) (digests_stay s n p text e there.0 comes there.1) is

-- a verdict that changes nothing
abbrev pub StaysPut : Verdict → Type 0
StaysPut v = (n : Mail) (who : Author) (s : State) → after n who v s ≡ s

-- what a letter comes to again: it isn't taken, and changes nothing
pub record IsAgain (m : Chart) (old mid : State) (n : Mail) (first : Reply) : Type 0 where
  pub verdict : Verdict
  pub decided : Decides m mid n (author m n mid) verdict
  pub told : first ≡ reply_of n verdict
  pub stays : StaysPut verdict
  pub author : author m n mid ≡ author m n old
  pub untaken : IsUntaken verdict

-- what the same letter comes to after its first step
pub repeats : (m : Chart) (old mid : State) (n : Mail) (first : Reply) → Step m old n first mid → IsAgain m old mid n first
repeats m old mid n first one = go one.0 one.1 one.2 one.3
  where
    same : mid ≡ old → author m n mid ≡ author m n old
    same left = ap (author m n) left

    go : (v : Verdict) → Decides m old n (author m n old) v → first ≡ reply_of n v → mid ≡ after n (author m n old) v old → IsAgain m old mid n first
    go NotKnown d told left = record {
      verdict = NotKnown;
      decided = subst (λ (s : State). Decides m s n (author m n s) NotKnown) (sym left) d;
      told = told;
      stays = λ n who s. refl;
      author = same left;
      untaken = tt;
    }
    go (Again text) d told left = record {
      verdict = Again text;
      decided = subst (λ (s : State). Decides m s n (author m n s) (Again text)) (sym left) d;
      told = told;
      stays = λ n who s. refl;
      author = same left;
      untaken = tt;
    }
    go (OutOfTurn text) d told left = record {
      verdict = OutOfTurn text;
      decided = subst (λ (s : State). Decides m s n (author m n s) (OutOfTurn text)) (sym left) d;
      told = told;
      stays = λ n who s. refl;
      author = same left;
      untaken = tt;
    }
    go (Taken text e) d told left =
        let next = subst (λ (s : State). IsRepeat m s n text × (author m n s ≡ author m n old)) (sym left) (
          taken_again m old n (author m n old) text e refl d (decides_suits m old n (author m n old) (Taken text e) d).0,
          stays_author m old n (author m n old) text e refl (decides_suits m old n (author m n old) (Taken text e) d).0,
        ) in
        record {
          verdict = Again text;
          decided = subst (λ (who : Author). Decides m mid n who (Again text)) (sym next.0.1) next.0.2;
          told = told;
          stays = λ n who s. refl;
          author = next.1;
          untaken = tt;
        }

pub acts_once : (m : Chart) → ActsOnce m
acts_once m old mid new n first again one two =
    let next = repeats m old mid n first one in
    let same : two.0 ≡ next.verdict = decides_one m mid n (author m n mid) two.0 next.verdict next.untaken two.1 next.decided in
    (two.2 ∙ ap (λ (w : Verdict). reply_of n w) same ∙ sym next.told, two.3 ∙ ap (λ (w : Verdict). after n (author m n mid) w mid) same ∙ next.stays n (author m n mid) mid)
