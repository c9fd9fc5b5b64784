-- Whose letters are nobody's.
use Rattle.std.proofs.Common.{◌≡◌, ◌⊎◌, inl, inr, ℕ, Bool, true, false, cond, List, Option, Some, None, refl, sym, ap, subst, ◌∙◌, bytes_eq, codes}
use Rattle.std.specs.Prelude.{option_and_then}
use Rattle.dip_letters.specs.Notes.{Request}
use Rattle.dip_letters.specs.Letters.{is_on}
use Rattle.dip_letters.specs.Notes.MasterRequest.{Create, Tick, Replace, Notify}
use Rattle.dip_letters.specs.Notes.Request.{Player, Master}
use Rattle.dip_map.specs.Charts.{Chart, power_of}
use Rattle.dip_desk_state.specs.Records.{Head, Item, Kept, Own, Public, Reply}
use Rattle.dip_reports.specs.declared.refusals.Refusal.TheVariants.{Malformed}
use Rattle.dip_desk_machine.specs.Machine.{Decides, DecidesIn, MasterDecides, NotKnown, Again, OutOfTurn, Taken, Verdict, author, creation, digest, head_of, master_author, new_seats, open_game, opening_public, page_shown, power_author, refusal_verdict, reply_of, seat_author, seat_command, seen_in, verdict_by, verdict_on}
use Rattle.dip_desk_state.specs.Fitting.{are_complete}
use Rattle.dip_desk_machine.specs.Mail.{Mail}
use Rattle.dip_desk_state.specs.State.{Author, Game, NewSeat, Nobody, Part, Seat, State, TheMaster, game_at, own_of, seat_at}
use Rattle.dip_desk_laws.specs.Strangers.{IsNobodys, IsToNobodyExactly, is_create}
use Rattle.dip_desk_machine.proofs.Suiting.{command_holds, in_game_holds, numbered_holds, seat_holds}

-- the author is somebody
abbrev pub IsKnown : Verdict → Type 0
IsKnown NotKnown = ⊥
IsKnown (Again text) = Unit {0}
IsKnown (OutOfTurn text) = Unit {0}
IsKnown (Taken text e) = Unit {0}

known_head : (n : Mail) (v : Verdict) → IsKnown v → (reply_of n v).head ≡ None → ⊥
known_head n NotKnown h is = h
known_head n (Again text) h is = let bad : ◌≡◌ {A = Option Head} (Some (head_of n)) None = is in absurd (cc)
known_head n (OutOfTurn text) h is = let bad : ◌≡◌ {A = Option Head} (Some (head_of n)) None = is in absurd (cc)
known_head n (Taken text e) h is = let bad : ◌≡◌ {A = Option Head} (Some (head_of n)) None = is in absurd (cc)

command_known : (m : Chart) (command : Request) (p : Public) (o : Own) (page : List Item) → IsKnown (seat_command m command p o page)
command_known m command p o page = command_holds IsKnown m command p o page (record {
  refused = λ r. tt;
  told = λ t. tt;
  ordered = λ lines. tt;
  withdrawn = tt;
  voted = λ draw. tt;
  voted_for = λ names set of found. tt;
  sent = λ grey names lines readers of found few. tt;
})

-- the master's letter is nobody's exactly where it isn't CREATE and names no game
abbrev IsKnownIn : Request → Option Game → Verdict → Type 0
IsKnownIn command game v = IsKnown v ⊎ ((v ≡ NotKnown) × (is_create command ≡ false) × (game ≡ None))

master_known : (m : Chart) (n : Mail) (k : Option Kept) (command : Request) (game : Option Game) (v : Verdict) → MasterDecides m n k command game v → IsKnownIn command game v
master_known m n k command (Some g) v d =
    inl (numbered_holds IsKnown (λ t. tt) (λ t. tt) n k (DecidesIn m n command g) v (in_game_holds IsKnown m n command g v (record {
      refused = λ r. tt;
      played = λ tick w of p. subst IsKnown (sym p.verdict) tt;
      noted = λ text paper public next told spoiled. tt;
      seated = λ note seat of new low s found. tt;
    })) d)
master_known m n k (Player command) None v d = inr (d, refl, refl)
master_known m n k (Master (Create due period grey intent seats)) None v d =
    inl (numbered_holds IsKnown (λ t. tt) (λ t. tt) n k (λ w. w ≡ creation m (opening_public m n.note.game due period grey (is_on intent)) (new_seats m n.note.game seats) None) v
    (λ is. subst IsKnown (sym is) (by (new_seats m n.note.game seats))) d)
  where
    by : (found : Option (List NewSeat)) → IsKnown (creation m (opening_public m n.note.game due period grey (is_on intent)) found None)
    by None = tt
    by (Some found) = go (are_complete m found)
      where
        go : (b : Bool) → IsKnown (cond b (open_game m (opening_public m n.note.game due period grey (is_on intent)) found None) (refusal_verdict Malformed))
        go true = tt
        go false = tt
master_known m n k (Master (Tick tick)) None v d = inr (d, refl, refl)
master_known m n k (Master (Replace seat)) None v d = inr (d, refl, refl)
master_known m n k (Master (Notify notice)) None v d = inr (d, refl, refl)

-- a seat that is the author is there
seat_there : (m : Chart) (n : Mail) (s : State) (p : ℕ) → author m n s ≡ Seat p → (v : Verdict) → v ≡ verdict_on m n (seen_in p (game_at n.note.game s)) → IsKnown v
seat_there m n s p is v d = go (bytes_eq n.note.sender (codes "master")) is
  where
    decided : (g : Game) (x : Part) → IsKnown (verdict_by m n (Some g.public) (Some x))
    decided g x =
        seat_holds IsKnown (λ t. tt) (λ t. tt) n x.own.kept (seat_command m n.note.command g.public x.own (page_shown n.note.command x.box))
        (command_known m n.note.command g.public x.own (page_shown n.note.command x.box))

    own : (q : ℕ) (game : Option Game) → seat_author n q (option_and_then (λ g. own_of (seat_at q g.seats)) game) ≡ Seat p → v ≡ verdict_on m n (seen_in p game) → IsKnown v
    own q None e is = let bad : ◌≡◌ {A = Author} Nobody (Seat p) = e in absurd (cc)
    own q (Some g) e is = found (seat_at q g.seats) refl e
      where
        found : (x : Option Part) → seat_at q g.seats ≡ x → seat_author n q (own_of x) ≡ Seat p → IsKnown v
        found None at e = let bad : ◌≡◌ {A = Author} Nobody (Seat p) = e in absurd (cc)
        found (Some x) at e = told (bytes_eq (digest n.note.game n.note.sender n.note.secret) x.own.digest) e
          where
            told : (b : Bool) → cond b (Seat q) Nobody ≡ Seat p → IsKnown v
            told true e =
                let same : q ≡ p = cc in
                let there : seat_at p g.seats ≡ Some x = subst (λ (y : ℕ). seat_at y g.seats ≡ Some x) same at in
                subst IsKnown (sym (is ∙ ap (λ (y : Option Part). verdict_by m n (Some g.public) y) there)) (decided g x)
            told false e = let bad : ◌≡◌ {A = Author} Nobody (Seat p) = e in absurd (cc)

    power : (q : Option ℕ) → power_author n q s ≡ Seat p → IsKnown v
    power None e = let bad : ◌≡◌ {A = Author} Nobody (Seat p) = e in absurd (cc)
    power (Some q) e = own q (game_at n.note.game s) e d

    master : (b : Bool) → cond b TheMaster Nobody ≡ Seat p → IsKnown v
    master true e = let bad : ◌≡◌ {A = Author} TheMaster (Seat p) = e in absurd (cc)
    master false e = let bad : ◌≡◌ {A = Author} Nobody (Seat p) = e in absurd (cc)

    go : (b : Bool) → cond b (master_author n s) (power_author n (power_of m n.note.sender) s) ≡ Seat p → IsKnown v
    go true e = master (bytes_eq (digest (codes "desk") (codes "master") n.note.secret) s.desk.digest) e
    go false e = power (power_of m n.note.sender) e

-- what is decided of a letter is of nobody exactly where it is nobody's
decided_known : (m : Chart) (n : Mail) (s : State) (who : Author) (v : Verdict) → author m n s ≡ who → Decides m s n who v
    → (IsKnown v × (IsNobodys m n s → ⊥)) ⊎ ((v ≡ NotKnown) × IsNobodys m n s)
decided_known m n s Nobody v is d = inr (d, inl is)
decided_known m n s TheMaster v is d = elim (master_known m n s.desk.kept n.note.command (game_at n.note.game s) v d) [
  | inl known ↦ inl (
    known,
    λ nobodys. elim nobodys [
      | inl none ↦ let bad : ◌≡◌ {A = Author} TheMaster Nobody = sym is ∙ none in absurd (cc)
      | inr master ↦ unknown known n.note.command (game_at n.note.game s) master.1 master.2 d
    ],
  )
  | inr none ↦ inr (none.0, inr (is, none.1, none.2))
]
  where
    unknown : IsKnown v → (command : Request) (game : Option Game) → is_create command ≡ false → game ≡ None → MasterDecides m n s.desk.kept command game v → ⊥
    unknown known command (Some g) other none h = absurd (cc)
    unknown known (Player command) None other none h = subst IsKnown h known
    unknown known (Master (Create due period grey intent seats)) None other none h = absurd (cc)
    unknown known (Master (Tick tick)) None other none h = subst IsKnown h known
    unknown known (Master (Replace seat)) None other none h = subst IsKnown h known
    unknown known (Master (Notify notice)) None other none h = subst IsKnown h known
decided_known m n s (Seat p) v is d = inl (
  seat_there m n s p is v d,
  λ nobodys. elim nobodys [
    | inl none ↦ let bad : ◌≡◌ {A = Author} (Seat p) Nobody = sym is ∙ none in absurd (cc)
    | inr master ↦ let bad : ◌≡◌ {A = Author} (Seat p) TheMaster = sym is ∙ master.0 in absurd (cc)
  ],
)

pub to_nobody_exactly : (m : Chart) → IsToNobodyExactly m
to_nobody_exactly m old n r new step = elim (decided_known m n old (author m n old) step.0 refl step.1) [
  | inl known ↦ (λ none. absurd (known_head n step.0 known.0 (sym (ap (λ (x : Reply). x.head) step.2) ∙ none)), λ nobodys. absurd (known.1 nobodys))
  | inr none ↦ (λ head. none.1, λ nobodys. ap (λ (x : Reply). x.head) step.2 ∙ ap (λ (v : Verdict). (reply_of n v).head) none.0)
]
