-- What letters of the grammar bring into a game can be written.
use Rattle.std.proofs.Common.{◌≡◌, ◌<◌, ◌≤◌, ◌==◌, ◌+◌, ◌*◌, ℕ, zero, suc, arith, Bool, true, false, cond, length, List, [], ◌∷◌, Option, Some, None, refl, subst, bytes_eq, codes}
use Rattle.std.specs.Prelude.{All, count_by, filter}
use Rattle.std.specs.List.{AllByRecursion, list_all, range_with_len}
use Rattle.std.proofs.lemmas.Bool.{and_parts, eqb-true, false≢true, ltb-true}
use Rattle.std.proofs.lemmas.Bool.Decides.{nat_tests}
use Rattle.std.proofs.lemmas.List.Quantifiers.{position-Some}
use Rattle.dip_map.specs.Boards.{Position, IsOf, is_power, is_power_if_any, opening}
use Rattle.dip_map.specs.Charts.{Chart, Realm, no_realm, power_of, powers}
use Rattle.dip_letters.specs.Letters.{FitsMaster, FitsNames, FitsNotice, FitsText, is_on}
use Rattle.dip_letters.specs.Notes.{NoticeRequest, SeatNote}
use Rattle.dip_letters.specs.Notes.MasterRequest.{Create}
use Rattle.dip_letters.specs.Notes.NoticeRequest.{Announce, Close, Pause, Period, Resume}
use Rattle.dip_names.specs.Forms.{is_printable}
use Rattle.dip_letters.specs.Words.{is_lower, is_name, is_text}
use Rattle.dip_orders_placed.proofs.KeptLaws.{count_cons}
use Rattle.dip_orders_placed.specs.declared.placed.PlacedOrder.{PlacedOrder}
use Rattle.dip_desk_state.specs.Records.{Own, Public}
use Rattle.dip_turn.specs.Centres.{centres}
use Rattle.dip_turn.specs.Laws.{WinnersOwnMore}
use Rattle.dip_turn.specs.Reports.{IsPlayed}
use Rattle.dip_turn.specs.Course.{Course}
use Rattle.dip_turn.specs.Course.TheVariants.{GoesOn, Won as WonBy, Ended as AtAnEnd}
use Rattle.dip_turn_phases.specs.declared.report.Report.{Report}
use Rattle.dip_desk_games.specs.Drawing.{public_drawn}
use Rattle.dip_desk_machine.specs.Machine.{author, digest, master_author, opening_public, power_author, seat_author}
use Rattle.dip_desk_machine.specs.Mail.{Mail}
use Rattle.dip_desk_games.specs.Noting.{public_noted}
use Rattle.dip_desk_machine.specs.Pressing.{item_of}
use Rattle.dip_desk_state.specs.State.{Nobody, Seat, State, TheMaster, own_at}
use Rattle.dip_desk_games.specs.Ticking.{due_after, public_played, status_after}
use Rattle.dip_desk_state.specs.Writable.{IsAuthorOf, IsPlainItem, IsPublicOf, IsStatusOf, IsWord, Lacks}
use Rattle.dip_desk_games.proofs.ListLemmas.{all_weaker}

-- ---- press

lower_apart : (b : ℕ) → is_lower b ≡ true → (b == 32) ≡ false
lower_apart b e = grind (arith, nat_tests)

printable_apart : (b : ℕ) → is_printable b ≡ true → (b == 10) ≡ false
printable_apart b e = grind (arith, nat_tests)

-- a text of which each byte passes a test lacks a byte that doesn't
each_lacks : (mark : ℕ) (test : ℕ → Bool) (text : List ℕ) → ((b : ℕ) → test b ≡ true → (b == mark) ≡ false) → list_all test text ≡ true → Lacks mark text
each_lacks mark test [] apart all = tt
each_lacks mark test (b ∷ text) apart all =
    let both = and_parts (test b) (list_all test text) all in (apart b both.0, each_lacks mark test text apart both.1)

name_is_word : (name : List ℕ) → is_name name ≡ true → IsWord 32 name
name_is_word [] is = absurd (false≢true is)
name_is_word (b ∷ name) is = each_lacks 32 is_lower (b ∷ name) lower_apart (and_parts _ (list_all is_lower (b ∷ name)) is).1

text_is_line : (text : List ℕ) → is_text text ≡ true → Lacks 10 text
text_is_line text is = each_lacks 10 is_printable text printable_apart (and_parts _ (list_all is_printable text) is).1

pub item_plain : (m : Chart) (writer : ℕ) (grey : Bool) (names text : List (List ℕ)) → FitsNames names → FitsText text → IsPlainItem (item_of m writer grey names text)
item_plain m writer true names text named lines = all_weaker (λ t. is_text t ≡ true) (Lacks 10) text text_is_line lines.2
item_plain m writer false names text named lines =
    (all_weaker (λ n. is_name n ≡ true) (IsWord 32) names name_is_word named.2, all_weaker (λ t. is_text t ≡ true) (Lacks 10) text text_is_line lines.2)

-- ---- powers

pub all_filtered : (P : ℕ → Type 0) (test : ℕ → Bool) (ps : List ℕ) → AllByRecursion P ps → AllByRecursion P (filter test ps)
all_filtered P test [] all = tt
all_filtered P test (p ∷ ps) all = go (test p) (all_filtered P test ps all.1)
  where
    go : (b : Bool) → AllByRecursion P (filter test ps) → AllByRecursion P (cond b (p ∷ filter test ps) (filter test ps))
    go true rest = (all.0, rest)
    go false rest = rest

numbers_low : (i n most : ℕ) → i + n ≡ most → AllByRecursion (λ p. p < most) (range_with_len i n)
numbers_low i zero most all = tt
numbers_low i (suc n) most all = (omega (arith, all), numbers_low (i + 1) n most (omega (arith, all)))

pub powers_low : (m : Chart) → AllByRecursion (λ p. p < length m.realms) (powers m)
powers_low m = numbers_low 0 (length m.realms) (length m.realms) (omega arith)

-- who owns anything is a power of the map
owned_low : (m : Chart) (power : ℕ) (owners : List (Option ℕ)) → All (λ o. is_power_if_any m o ≡ true) owners → 0 < count_by (λ o. is_power power o) owners → power < length m.realms
owned_low m power [] all some = absurd (omega (arith, some))
owned_low m power (o ∷ os) all some = go (is_power power o) refl (count_cons (λ (x : Option ℕ). is_power power x) o os) (owned_low m power os (λ k d low. all (suc k) d (omega (arith, low))))
  where
    here : (o : Option ℕ) → is_power power o ≡ true → is_power_if_any m o ≡ true → power < length m.realms
    here None is low = absurd (false≢true is)
    here (Some r) is low = let same : r ≡ power = eqb-true r power is in subst (λ (q : ℕ). q < length m.realms) same (ltb-true r (length m.realms) low)

    go : (b : Bool) → is_power power o ≡ b → count_by (λ (x : Option ℕ). is_power power x) (o ∷ os) ≡ cond b 1 0 + count_by (λ (x : Option ℕ). is_power power x) os
        → (0 < count_by (λ (x : Option ℕ). is_power power x) os → power < length m.realms) → power < length m.realms
    go true is sum rest = here o is (all 0 o (omega arith))
    go false is sum rest = rest (omega (arith, some, sum))

-- the author of a letter is of the map
pub author_known : (m : Chart) (n : Mail) (s : State) → IsAuthorOf m (author m n s)
author_known m n s = go (bytes_eq n.note.sender (codes "master"))
  where
    master : (b : Bool) → IsAuthorOf m (cond b TheMaster Nobody)
    master true = tt
    master false = tt

    seat : (p : ℕ) → p < length m.realms → (o : Option Own) → IsAuthorOf m (seat_author n p o)
    seat p low None = tt
    seat p low (Some o) = by (bytes_eq (digest n.note.game n.note.sender n.note.secret) o.digest)
      where
        by : (b : Bool) → IsAuthorOf m (cond b (Seat p) Nobody)
        by true = low
        by false = tt

    power : (q : Option ℕ) → power_of m n.note.sender ≡ q → IsAuthorOf m (power_author n q s)
    power None found = tt
    power (Some p) found = seat p (position-Some (λ (x : Realm). bytes_eq x.name n.note.sender) m.realms p no_realm found).0 (own_at n.note.game p s)

    go : (b : Bool) → IsAuthorOf m (cond b (master_author n s) (power_author n (power_of m n.note.sender) s))
    go true = master (bytes_eq (digest (codes "desk") (codes "master") n.note.secret) s.desk.digest)
    go false = power (power_of m n.note.sender) refl

-- ---- the public part

-- with the option or without it a board is of the same map
pub of_intent : (m : Chart) (b : Position) (intent : Bool) → IsOf m b → IsOf m (record b { intent = intent })
of_intent m b intent of = record {
  units = of.units;
  apart = of.apart;
  dislodged = of.dislodged;
  dislodged_apart = of.dislodged_apart;
  standoff = of.standoff;
  standoff_once = of.standoff_once;
  standoff_empty = of.standoff_empty;
  owners = of.owners;
  owners_count = of.owners_count;
  owners_centres = of.owners_centres;
}

-- under another name
pub of_renamed : (m : Chart) (name : List ℕ) (p : Public) → IsPublicOf m p → IsPublicOf m (record p { game = name })
of_renamed m name p of = record { board = of.board; status = of.status; due = of.due; period = of.period }

pub of_opening : (m : Chart) (game : List ℕ) (due period : ℕ) (grey : Bool) (intent : Option Bool) (seats : List SeatNote) → IsOf m (opening m) → FitsMaster (Create due period grey intent seats)
    → IsPublicOf m (opening_public m game due period grey (is_on intent))
of_opening m game due period grey intent seats fine fits =
    let first : due ≤ 999999999999 = fits.0 in record { board = of_intent m (opening m) (is_on intent) fine; status = tt; due = omega (arith, first); period = fits.2 }

pub of_drawn : (m : Chart) (powers : List ℕ) (p : Public) → AllByRecursion (λ q. q < length m.realms) powers → IsPublicOf m p → IsPublicOf m (public_drawn powers p)
of_drawn m powers p low of = record { board = of.board; status = low; due = of.due; period = of.period }

pub of_noted : (m : Chart) (notice : NoticeRequest) (p : Public) → FitsNotice notice → IsPublicOf m p → IsPublicOf m (public_noted notice p)
of_noted m Pause p fits of = record { board = of.board; status = tt; due = of.due; period = of.period }
of_noted m Resume p fits of = record { board = of.board; status = tt; due = of.due; period = of.period }
of_noted m (Period period) p fits of = record { board = of.board; status = of.status; due = of.due; period = fits.1 }
of_noted m (Announce text) p fits of = record { board = of.board; status = of.status; due = of.due; period = of.period }
of_noted m Close p fits of = record { board = of.board; status = tt; due = of.due; period = of.period }

due_low : (tick due period : ℕ) (course : Course) → tick ≤ 999999999999 → due ≤ 1000000999998 → period ≤ 999999 → due_after tick due period course ≤ 1000000999998
due_low tick due period GoesOn timely low short = omega (arith, timely, short)
due_low tick due period (WonBy power) timely low short = low
due_low tick due period AtAnEnd timely low short = low

pub of_played : (m : Chart) (tick : ℕ) (p : Public) (b : Position) (course : Course) → tick ≤ 999999999999 → IsPublicOf m p → IsOf m b → IsStatusOf m (status_after course)
    → IsPublicOf m (public_played tick p b course)
of_played m tick p b course timely of board status = record { board = board; status = status; due = due_low tick p.due p.period course timely of.due of.period; period = of.period }

-- whoever has won by a phase is a power of the map
pub status_played : (m : Chart) (b : Position) (pending : List PlacedOrder) (new : Position) (report : Report) → WinnersOwnMore → IsOf m new → IsPlayed m b pending new report
    → IsStatusOf m (status_after report.course)
status_played m b pending new report wins of played = go report.course refl
  where
    go : (course : Course) → report.course ≡ course → IsStatusOf m (status_after course)
    go GoesOn is = tt
    go AtAnEnd is = tt
    go (WonBy power) is =
        let won : centres m < 2 * count_by (λ o. is_power power o) new.owners = ltb-true _ _ (wins m b pending new report power played is) in
        owned_low m power new.owners of.owners (omega (arith, won))
