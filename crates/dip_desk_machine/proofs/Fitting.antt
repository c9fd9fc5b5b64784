-- What is decided of a letter fits the map.
use Rattle.std.proofs.Common.{◌≡◌, ℕ, not, arith, ◌<◌, ◌≤◌, ◌==◌, ◌&&◌, ◌+◌, Bool, nat_lt, length, inl, inr, true, false, List, [], ◌∷◌, map, Option, Some, None, Result, Ok, Err, refl, sym, ap, subst}
use Rattle.std.specs.List.{AllByRecursion, list_any}
use Rattle.std.proofs.lemmas.Bool.{and_parts, ltb-true}
use Rattle.dip_names.specs.declared.names.Kind.{Kind}
use Rattle.dip_names.specs.declared.names.Kind.TheVariants.{Army, Fleet}
use Rattle.dip_names.specs.declared.names.Unit.{Unit as AUnit}
use Rattle.dip_map.specs.declared.boards.Dislodged.{Dislodged}
use Rattle.dip_map.specs.Boards.{Position, IsOf, is_dislodged, opening}
use Rattle.dip_map.specs.Charts.{Chart, IsMap, home, is_unit, may_stand, powers}
use Rattle.dip_letters.specs.Letters.{FitsRequest}
use Rattle.dip_letters.specs.Notes.{Request}
use Rattle.dip_letters.specs.Notes.MasterRequest.{Tick}
use Rattle.dip_letters.specs.Notes.Request.{Master}
use Rattle.dip_orders_placed.proofs.FindLaws.{find_among}
use Rattle.dip_map.proofs.BoardLaws.{centre_low}
use Rattle.dip_orders.proofs.LawfulReadLaws.{home_centre}
use Rattle.dip_orders.specs.Lawful.{IsAllowed, IsDislodged, MayCome, Stands}
use Rattle.dip_orders.specs.Reading.{order_of}
use Rattle.dip_orders.specs.declared.faults.OrderFault.{OrderFault}
use Rattle.dip_orders_placed.specs.declared.placed.Order.{Order}
use Rattle.dip_orders_placed.specs.declared.placed.Order.TheVariants.{Hold, Move, SupportHold, SupportMove, Convoy, Retreat, Disband, Build, Remove}
use Rattle.dip_orders_placed.specs.declared.placed.PlacedOrder.{PlacedOrder}
use Rattle.dip_desk_state.specs.Records.{Item, Own, Public, Standing}
use Rattle.dip_desk_machine.specs.Fitting.{EffectsFit, LawfulEffectsFit}
use Rattle.dip_desk_state.specs.Fitting.{AreAscending, FitsMap}
use Rattle.dip_desk_machine.specs.Machine.{IsOffMap, IsPublished, IsSpoiledIn, Verdict, NotKnown, Again, OutOfTurn, Taken, page_shown, seat_command, seen_in, verdict_by, verdict_on}
use Rattle.dip_desk_machine.specs.Mail.{IsMail, Mail}
use Rattle.dip_desk_games.specs.Ordering.{Ordered, after_line, after_lines, kept_orders, orders_after, orders_that_stand, outcome_of_lines, prov_of, standing_with}
use Rattle.dip_desk_machine.specs.Pressing.{readers_of}
use Rattle.dip_desk_state.specs.State.{Effect, Game, Nobody, Nothing, Part, Pending, Votes, Delivers, Opens, Publishes, Seats, Seat, TheMaster, game_at, seat_at, whole_of}
use Rattle.dip_desk_games.specs.Ticking.{IsPlayable, orders_of, public_played}
use Rattle.dip_desk_state.specs.Writable.{IsPublicOf}
use Rattle.dip_desk_machine.proofs.LawfulOrders.{AreRead, all_with_order, with_order_ascending}
use Rattle.dip_desk_machine.proofs.LawfulStates.{OpensLawful, StaysOf, master_lawful, master_new, master_newer}
use Rattle.dip_desk_machine.proofs.NeverDamaged.{playable, public_of}
use Rattle.dip_desk_machine.proofs.Suiting.{Comes, IsPosted, command_holds, decides_suits, master_posted, readers_hold, seat_holds}
use Rattle.dip_desk_machine.proofs.VotingLemmas.{named_low, plain_fits, set_fits}
use Rattle.dip_desk_machine.proofs.WritableLemmas.{all_filtered, item_plain, of_played, powers_low}

-- the unit of an order that can be given is in a province of the map

unit_low : (m : Chart) (u : AUnit) → is_unit m u ≡ true → u.place.prov < length m.provinces
unit_low m u h = place u.kind (and_parts (nat_lt u.power (length m.realms)) (may_stand m u.kind u.place) h).1
  where
    place : (k : Kind) → may_stand m k u.place ≡ true → u.place.prov < length m.provinces
    place Army is = ltb-true _ _ (and_parts (nat_lt u.place.prov (length m.provinces)) _ is).0
    place Fleet is = ltb-true _ _ (and_parts (nat_lt u.place.prov (length m.provinces)) _ is).0

standing_low : (m : Chart) (b : Position) (power : ℕ) (u : AUnit) → IsOf m b → Stands b power u → u.place.prov < length m.provinces
standing_low m b power u of stands =
    unit_low m u (find_among (λ x. (x.power == power) && (x.place.prov == u.place.prov)) (λ x. is_unit m x) b.units u of.units stands.there)

dislodged_low : (m : Chart) (b : Position) (power : ℕ) (d : Dislodged) (u : AUnit) → IsOf m b → IsDislodged b power d u → u.place.prov < length m.provinces
dislodged_low m b power d u of stands =
    let on = find_among (λ x. (x.unit.power == power) && (x.unit.place.prov == u.place.prov)) (λ x. is_dislodged m x) b.dislodged d of.dislodged stands.there in
    subst (λ (v : AUnit). v.place.prov < length m.provinces) stands.unit (unit_low m d.unit (and_parts (is_unit m d.unit) _ on).0)

built_low : (m : Chart) (b : Position) (power : ℕ) (beside : List PlacedOrder) (u : AUnit) → IsMap m → MayCome m b power beside u → u.place.prov < length m.provinces
built_low m b power beside u ok come =
    let at_home = (and_parts (list_any (λ x. x == u.place.prov) (home m power)) _ come.home).0 in
    centre_low m u.place.prov (home_centre m power u.place.prov ok at_home)

allowed_low : (m : Chart) (b : Position) (power : ℕ) (beside : List PlacedOrder) (u : AUnit) (o : Order) → IsMap m → IsOf m b → IsAllowed m b power beside u o
    → u.place.prov < length m.provinces
allowed_low m b power beside u Hold ok of h = standing_low m b power u of h.1
allowed_low m b power beside u (Move to via) ok of h = standing_low m b power u of h.1.0
allowed_low m b power beside u (SupportHold at) ok of h = standing_low m b power u of h.1.0
allowed_low m b power beside u (SupportMove at to) ok of h = standing_low m b power u of h.1.0
allowed_low m b power beside u (Convoy at to) ok of h = standing_low m b power u of h.1.0
allowed_low m b power beside u (Retreat to) ok of h = dislodged_low m b power h.1.dislodged u of h.1.there
allowed_low m b power beside u Disband ok of h = dislodged_low m b power h.1.0 u of h.1.1
allowed_low m b power beside u Build ok of h = built_low m b power beside u ok h.1
allowed_low m b power beside u Remove ok of h = standing_low m b power u of h.1.unit

-- orders by province, each of a province of the map
record AreKept (m : Chart) (orders : List PlacedOrder) : Type 0 where
  pub ascending : AreAscending (map prov_of orders)
  pub low : AllByRecursion (λ o. prov_of o < length m.provinces) orders

one_kept : (m : Chart) (b : Position) (power : ℕ) (beside : List PlacedOrder) (line : List ℕ) (orders : List PlacedOrder) → IsMap m → IsOf m b → AreRead m b
    → AreKept m orders → AreKept m (orders_after (order_of m b power beside line) orders)
one_kept m b power beside line orders ok of read k = go (order_of m b power beside line) refl
  where
    go : (r : Result PlacedOrder OrderFault) → order_of m b power beside line ≡ r → AreKept m (orders_after r orders)
    go (Ok o) is = record {
      ascending = with_order_ascending o orders k.ascending;
      low = all_with_order (λ p. prov_of p < length m.provinces) o orders (allowed_low m b power beside o.unit o.order ok of (read.lawful power beside line o is)) k.low;
    }
    go (Err fault) is = k

standing_fit : (m : Chart) (b : Position) (power : ℕ) (orders : List PlacedOrder) (kept : List Standing) → IsMap m → IsOf m b → AreRead m b → AreKept m orders
    → AreKept m (standing_with m b power orders kept)
standing_fit m b power orders [] ok of read k = k
standing_fit m b power orders (s ∷ ss) ok of read k =
    standing_fit m b power (orders_after (order_of m b power [] s.line) orders) ss ok of read (one_kept m b power [] s.line orders ok of read k)

lines_fit : (m : Chart) (b : Position) (power number : ℕ) (lines : List (List ℕ)) (so_far : Ordered) → IsMap m → IsOf m b → AreRead m b → AreKept m so_far.orders
    → AreKept m (after_lines m b power number lines so_far).orders
lines_fit m b power number [] so_far ok of read k = k
lines_fit m b power number (line ∷ lines) so_far ok of read k =
    lines_fit m b power (number + 1) lines (after_line m number (order_of m b power so_far.orders line) so_far) ok of read
    (one_kept m b power so_far.orders line so_far.orders ok of read k)

kept_fit : (m : Chart) (orders : List PlacedOrder) → AreKept m orders → FitsMap m (Pending (kept_orders m orders))
kept_fit m orders k = (subst AreAscending (sym (provinces orders)) k.ascending, lows orders k.low)
  where
    provinces : (os : List PlacedOrder) → map (λ s. s.province) (kept_orders m os) ≡ map prov_of os
    provinces [] = refl
    provinces (o ∷ os) = ap (λ (ps : List ℕ). prov_of o ∷ ps) (provinces os)

    lows : (os : List PlacedOrder) → AllByRecursion (λ o. prov_of o < length m.provinces) os → AllByRecursion (λ s. s.province < length m.provinces) (kept_orders m os)
    lows [] all = tt
    lows (o ∷ os) all = (all.0, lows os all.1)

-- what a verdict has done fits
abbrev VerdictFits : Chart → Verdict → Type 0
VerdictFits m NotKnown = Unit {0}
VerdictFits m (Again text) = Unit {0}
VerdictFits m (OutOfTurn text) = Unit {0}
VerdictFits m (Taken text e) = FitsMap m e

pub readers_low : (m : Chart) (writer : ℕ) (names : List (List ℕ)) (readers : List ℕ) → readers_of m writer names ≡ Some readers → AllByRecursion (λ p. p < length m.realms) readers
readers_low m writer names readers =
    readers_hold (AllByRecursion (λ p. p < length m.realms)) m writer names readers
    (all_filtered (λ p. p < length m.realms) (λ p. not (p == writer)) (powers m) (powers_low m))
    (λ found is may. named_low m names found is)

command_fits : (m : Chart) (p : Public) (o : Own) (page : List Item) (command : Request) → FitsRequest command → IsMap m → IsOf m p.board → AreRead m p.board
    → VerdictFits m (seat_command m command p o page)
command_fits m p o page command fits ok of read = command_holds (VerdictFits m) m command p o page (record {
  refused = λ r. tt;
  told = λ t. tt;
  ordered = λ lines.
      kept_fit m (outcome_of_lines m p.board o.power o.pending lines).orders
      (lines_fit m p.board o.power 1 lines (record { orders = orders_that_stand m p.board o.power o.pending; answers = [] }) ok of read
      (standing_fit m p.board o.power [] o.pending ok of read (record { ascending = tt; low = tt })));
  withdrawn = (tt, tt);
  voted = λ draw. plain_fits m draw;
  voted_for = λ names set is found. set_fits m names set (subst FitsRequest is fits) found;
  sent = λ grey names lines readers is found few.
      let press = subst FitsRequest is fits in
      (readers_low m o.power names readers found, item_plain m o.power grey names lines press.0 press.1);
})

seat_fits : (m : Chart) (n : Mail) (p : Public) (x : Option Part) → IsMail n → IsMap m → IsOf m p.board → AreRead m p.board → VerdictFits m (verdict_by m n (Some p) x)
seat_fits m n p None is ok of read = tt
seat_fits m n p (Some x) is ok of read =
    seat_holds (VerdictFits m) (λ t. tt) (λ t. tt) n x.own.kept (seat_command m n.note.command p x.own (page_shown n.note.command x.box))
    (command_fits m p x.own (page_shown n.note.command x.box) n.note.command is.command ok of read)

-- what TICK publishes fits where the phase could be adjudicated
ticked_fits : (m : Chart) (tick : ℕ) (g : Game) (text paper : List ℕ) (public : Public) (played : Bool) → StaysOf m → tick ≤ 999999999999 → IsPlayable m (whole_of g)
    → IsPublicOf m g.public → IsPublished m tick (whole_of g) (Taken text (Publishes public paper played)) → IsPublicOf m public
ticked_fits m tick g text paper public played stays timely can of p =
    let after_phase : public ≡ public_played tick g.public p.board p.report.course = cc in
    let on = stays g.public.board (orders_of m (whole_of g)) p.board p.report can.board can.given p.played in
    subst (IsPublicOf m) (sym after_phase) (of_played m tick g.public p.board p.report.course timely of on.0 on.1)

-- the master's letters fit, but in a game where its command can't be done
master_fits : (m : Chart) (command : Request) (game : Option Game) (text : List ℕ) (e : Effect) → FitsRequest command → IsOf m (opening m) → StaysOf m → Comes TheMaster game e → OpensLawful m command (Taken text e)
    → IsPosted m command game (Taken text e) → (FitsMap m e → ⊥) → IsSpoiledIn m command game
master_fits m command game text Nothing fits fine stays comes h by unfit = absurd (unfit tt)
master_fits m command game text (Pending orders) fits fine stays comes h by unfit = absurd comes
master_fits m command game text (Votes vote) fits fine stays comes h by unfit = absurd comes
master_fits m command game text (Delivers readers item) fits fine stays comes h by unfit = absurd comes
master_fits m command game text (Opens public paper seats) fits fine stays comes h by unfit = absurd (unfit (h.of_map fine fits, h.papers, h.complete, h.known))
master_fits m command game text (Publishes public paper true) fits fine stays comes h by unfit =
    let timely : by.0 ≤ 999999999999 = subst FitsRequest by.2 fits in
    subst (λ (c : Request). IsSpoiledIn m c game) (sym by.2)
    (subst (IsSpoiledIn m (Master (Tick by.0))) (sym by.3) (λ can of. unfit (ticked_fits m by.0 by.1 text paper public true stays timely can of by.4)))
master_fits m command game text (Publishes public paper false) fits fine stays comes h by unfit =
    subst (IsSpoiledIn m command) (sym by.1) (by.3 (λ of low. unfit (by.2.stays fits of)))
master_fits m command game text (Seats seat) fits fine stays comes h by unfit = absurd (unfit by)

pub effects_fit : (m : Chart) → IsMap m → IsOf m (opening m) → ((b : Position) → IsOf m b → AreRead m b) → StaysOf m → EffectsFit m
effects_fit m ok fine read stays s n Nobody text e is d unfit = let bad : ◌≡◌ {A = Verdict} (Taken text e) NotKnown = d in absurd (cc)
effects_fit m ok fine read stays s n TheMaster text e is d unfit = (
  master_new m n s.desk.kept n.note.command (game_at n.note.game s) text e d,
  master_fits m n.note.command (game_at n.note.game s) text e is.command fine stays (decides_suits m s n TheMaster (Taken text e) d).0
      (master_lawful m n s.desk.kept n.note.command (game_at n.note.game s) (Taken text e) d)
      (master_posted m n s.desk.kept n.note.command (game_at n.note.game s) (Taken text e) d) unfit,
)
effects_fit m ok fine read stays s n (Seat power) text e is d unfit = inr (inl (go (game_at n.note.game s) d))
  where
    go : (game : Option Game) → Taken text e ≡ verdict_on m n (seen_in power game) → IsOffMap m (seen_in power game).public
    go None same = let bad : ◌≡◌ {A = Verdict} (Taken text e) NotKnown = same in absurd (cc)
    go (Some g) same = λ of. unfit (subst (VerdictFits m) (sym same) (seat_fits m n g.public (seat_at power g.seats) is ok of (read g.public.board of)))

-- in a game that is there, whose phase can be adjudicated and whose public part is of the map, the master's letters fit
master_sound : (m : Chart) (command : Request) (game : Option Game) (text : List ℕ) (e : Effect) → FitsRequest command → IsOf m (opening m) → StaysOf m → Comes TheMaster game e
    → OpensLawful m command (Taken text e) → IsPosted m command game (Taken text e) → ((g : Game) → game ≡ Some g → IsPlayable m (whole_of g) × IsPublicOf m g.public) → FitsMap m e
master_sound m command game text Nothing fits fine stays comes h by sound = tt
master_sound m command game text (Pending orders) fits fine stays comes h by sound = absurd comes
master_sound m command game text (Votes vote) fits fine stays comes h by sound = absurd comes
master_sound m command game text (Delivers readers item) fits fine stays comes h by sound = absurd comes
master_sound m command game text (Opens public paper seats) fits fine stays comes h by sound = (h.of_map fine fits, h.papers, h.complete, h.known)
master_sound m command game text (Publishes public paper true) fits fine stays comes h by sound =
    let timely : by.0 ≤ 999999999999 = subst FitsRequest by.2 fits in
    let here = sound by.1 by.3 in ticked_fits m by.0 by.1 text paper public true stays timely here.0 here.1 by.4
master_sound m command game text (Publishes public paper false) fits fine stays comes h by sound = by.2.stays fits (sound by.0 by.1).1
master_sound m command game text (Seats seat) fits fine stays comes h by sound = by

pub lawful_effects_fit : (m : Chart) → IsMap m → IsOf m (opening m) → ((b : Position) → IsOf m b → AreRead m b) → StaysOf m → LawfulEffectsFit m
lawful_effects_fit m ok fine read stays s n Nobody text e l is d = let bad : ◌≡◌ {A = Verdict} (Taken text e) NotKnown = d in absurd (cc)
lawful_effects_fit m ok fine read stays s n TheMaster text e l is d =
    master_sound m n.note.command (game_at n.note.game s) text e is.command fine stays (decides_suits m s n TheMaster (Taken text e) d).0
    (master_lawful m n s.desk.kept n.note.command (game_at n.note.game s) (Taken text e) d)
    (master_posted m n s.desk.kept n.note.command (game_at n.note.game s) (Taken text e) d)
    (λ g found.
    let newer = master_newer m n s.desk.kept n.note.command (game_at n.note.game s) text e is d in
    let most = is.number_most in
    (playable m read s n.note.game g l (omega (arith, newer, most)) found, public_of m s n.note.game g l found))
lawful_effects_fit m ok fine read stays s n (Seat power) text e l is d = go (game_at n.note.game s) refl d
  where
    go : (game : Option Game) → game_at n.note.game s ≡ game → Taken text e ≡ verdict_on m n (seen_in power game) → FitsMap m e
    go None found same = let bad : ◌≡◌ {A = Verdict} (Taken text e) NotKnown = same in absurd (cc)
    go (Some g) found same =
        let of = public_of m s n.note.game g l found in
        subst (VerdictFits m) (sym same) (seat_fits m n g.public (seat_at power g.seats) is ok of.board (read g.public.board of.board))
