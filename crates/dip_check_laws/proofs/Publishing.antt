-- What the machine publishes of a game may come next in it.
use Rattle.std.proofs.Common.{◌≡◌, ◌≤◌, ◌<◌, ◌==◌, ℕ, Bool, true, false, not, cond, length, List, [], ◌∷◌, ◌++◌, map, Option, Some, None, refl, sym, subst, inl, inr, arith, bytes_eq}
use Rattle.std.specs.Prelude.{◌&&◌}
use Rattle.std.specs.List.{AllByRecursion}
use Rattle.dip_letters.specs.Letters.{FitsRequest, is_on}
use Rattle.dip_letters.specs.Notes.{NoticeRequest, Request}
use Rattle.dip_letters.specs.Notes.MasterRequest.{Create, Tick, Replace, Notify}
use Rattle.dip_letters.specs.Notes.Request.{Player, Master}
use Rattle.dip_map.specs.Charts.{Chart}
use Rattle.dip_map.specs.Boards.{IsOf, Position, are_ascending}
use Rattle.dip_orders.specs.Given.{AreGiven}
use Rattle.dip_decide.proofs.ResultLaws.{ascending}
use Rattle.dip_desk_state.specs.Bounds.{most_papers}
use Rattle.dip_desk_state.specs.Records.{Own, Public, Vote, No, Yes, For}
use Rattle.dip_desk_state.specs.Writable.{IsVoteOf}
use Rattle.dip_desk_machine.specs.Draws.{AsksFor, IsAgreedOn, IsSurvivor}
use Rattle.dip_desk_games.specs.ByPlace.{are_by_place}
use Rattle.dip_desk_machine.specs.Lawful.{IsLawful, IsLawfulGame, IsLawfulSeat, last_number}
use Rattle.dip_desk_games.proofs.ListLemmas.{all_weaker}
use Rattle.dip_desk_machine.proofs.Draws.{drawn_so}
use Rattle.dip_desk_machine.proofs.Handing.{whole_given, whole_placed}
use Rattle.dip_desk_machine.proofs.LawfulOrders.{AreRead}
use Rattle.dip_desk_machine.proofs.ListLemmas.{all_at}
use Rattle.dip_desk_machine.proofs.NeverDamaged.{new_number}
use Rattle.dip_desk_machine.proofs.VotingLemmas.{drawn_low}
use Rattle.dip_desk_state.specs.State.{Effect, Nothing, Pending, Votes, Delivers, Opens, Publishes, Seats, Game, NewSeat, Part, State, game_at, name_of, whole_of}
use Rattle.dip_reports.specs.declared.refusals.Refusal.TheVariants.{GameOver, Malformed}
use Rattle.dip_desk_games.specs.Drawing.{agreed, drawn_between, survives, survivors, vote_of}
use Rattle.dip_desk_machine.specs.Machine.{DecidesIn, OnTime, Ticks, Verdict, NotKnown, Again, OutOfTurn, Taken, creation, has_seat, new_seat, new_seats, notified, notice_verdict, old_number, open_game, opening_public, refusal_verdict, replaced, replacement, unless}
use Rattle.dip_desk_state.specs.Fitting.{are_complete}
use Rattle.dip_desk_machine.specs.Mail.{IsMail, Mail}
use Rattle.dip_desk_games.specs.Noting.{is_announcement, public_noted}
use Rattle.dip_desk_games.specs.Ticking.{is_due, is_over, orders_of}
use Rattle.dip_check_papers.specs.Games.{AreNext, AreOfGame, IsNext}

-- what is needed of a game that publishes: its orders are given and come by place, there is room for a paper, and whom its votes name
-- share it by right
pub record IsReady (m : Chart) (g : Game) : Type 0 where
  pub given : AreGiven m g.public.board (orders_of m (whole_of g))
  pub by_place : are_by_place (orders_of m (whole_of g)) ≡ true
  pub room : g.public.papers < most_papers
  pub draws : (set : List ℕ) → drawn_between m (whole_of g) ≡ Some set
      → IsVoteOf m (For set) × AllByRecursion (λ r. survives m g.public.board r ≡ true) set

vote_lawful : (m : Chart) (b : Position) (power : ℕ) (seats : List Part) → AllByRecursion (IsLawfulSeat m b) seats → IsVoteOf m (vote_of (map (λ s. s.own) seats) power)
vote_lawful m b power [] all = tt
vote_lawful m b power (s ∷ ss) all = go (s.own.power == power) (vote_lawful m b power ss all.1)
  where
    go : (t : Bool) → IsVoteOf m (vote_of (map (λ s. s.own) ss) power) → IsVoteOf m (cond t s.own.vote (vote_of (map (λ s. s.own) ss) power))
    go true rest = all.0.vote
    go false rest = rest

-- where somebody shares a game somebody survives
somebody : (ps : List ℕ) (seats : List Own) (set : List ℕ) → agreed ps seats ≡ Some set → 0 < length ps
somebody [] seats set is = absurd (cc)
somebody (p ∷ ps) seats set is = omega arith

-- those who share a lawful game can be named by a vote, and survive
draws_share : (m : Chart) (g : Game) → IsLawfulGame m g → (set : List ℕ) → drawn_between m (whole_of g) ≡ Some set
    → IsVoteOf m (For set) × AllByRecursion (λ r. survives m g.public.board r ≡ true) set
draws_share m g l set is = (
  by (vote_of (map (λ s. s.own) g.seats) all.survivor.0) (vote_lawful m g.public.board all.survivor.0 g.seats l.seats) (all.asked all.survivor.0 all.survivor.1),
  all_weaker (IsSurvivor m (whole_of g)) (λ r. survives m g.public.board r ≡ true) set (λ r h. h.1) all.survive,
)
  where
    all : IsAgreedOn m (whole_of g) set
    all = drawn_so m (whole_of g) set is

    by : (v : Vote) → IsVoteOf m v → AsksFor m (whole_of g) set v → IsVoteOf m (For set)
    by No lawful asks = absurd asks
    by Yes lawful asks = (
      drawn_low m (whole_of g) set is,
      subst (λ (ps : List ℕ). are_ascending ps ≡ true) (sym asks) (ascending (survives m g.public.board) 0 (length m.realms)),
      subst (λ (ps : List ℕ). 0 < length ps) (sym asks) (somebody (survivors m g.public.board) (map (λ s. s.own) g.seats) set is),
    )
    by (For named) lawful asks = subst (λ (ps : List ℕ). IsVoteOf m (For ps)) (sym asks) lawful

-- a lawful state's game is ready for a letter of the master's that is new
pub is_ready : (m : Chart) → ((b : Position) → IsOf m b → AreRead m b) → (s : State) (n : Mail) (g : Game) → IsMail n → IsLawful m s → game_at n.note.game s ≡ Some g
    → old_number n s.desk.kept ≡ None → IsReady m g
is_ready m read s n g mail l found new =
    let lg : IsLawfulGame m g = all_at bytes_eq name_of n.note.game (IsLawfulGame m) s.games g l.games found in
    let few : g.public.papers ≤ last_number s.desk.kept = all_at bytes_eq name_of n.note.game (λ (h : Game). h.public.papers ≤ last_number s.desk.kept) s.games g l.numbered found in
    let less : last_number s.desk.kept < 999999999 = new_number n s.desk.kept mail new in
    record {
      given = whole_given m g (read g.public.board lg.public.board) lg;
      by_place = whole_placed m g (read g.public.board lg.public.board) lg;
      room = omega (arith, few, less);
      draws = draws_share m g lg;
    }

-- a paper that is published of a game may come next in it
abbrev pub EffectNext : Chart → Public → Effect → Type 0
EffectNext m p Nothing = Unit {0}
EffectNext m p (Pending orders) = Unit {0}
EffectNext m p (Votes vote) = Unit {0}
EffectNext m p (Delivers readers item) = Unit {0}
EffectNext m p (Opens public paper seats) = Unit {0}
EffectNext m p (Publishes public paper played) = IsNext m p paper public
EffectNext m p (Seats seat) = Unit {0}

abbrev pub VerdictNext : Chart → Public → Verdict → Type 0
VerdictNext m p NotKnown = Unit {0}
VerdictNext m p (Again text) = Unit {0}
VerdictNext m p (OutOfTurn text) = Unit {0}
VerdictNext m p (Taken text e) = EffectNext m p e

tick_next : (m : Chart) (tick : ℕ) (g : Game) → IsReady m g → tick ≤ 999999999999 → (over due : Bool) → is_due tick g.public ≡ due → (v : Verdict)
    → Ticks m tick (whole_of g) over due v → VerdictNext m g.public v
tick_next m tick g ready timely true due is v h = subst (VerdictNext m g.public) (sym h) tt
tick_next m tick g ready timely false false is v h = subst (VerdictNext m g.public) (sym h) tt
tick_next m tick g ready timely false true is v h = go (drawn_between m (whole_of g)) refl h
  where
    go : (o : Option (List ℕ)) → drawn_between m (whole_of g) ≡ o → OnTime m tick (whole_of g) o v → VerdictNext m g.public v
    go (Some set) at on =
        subst (VerdictNext m g.public) (sym on) (record {
          room = ready.room;
          kind = inr (inr (record {
            tick = tick;
            ticks = record { timely = timely; due = is };
            powers = set;
            named = (ready.draws set at).0;
            survive = (ready.draws set at).1;
            after = refl;
            told = refl;
          }));
        })
    go None at p =
        subst (VerdictNext m g.public) (sym p.verdict) (record {
          room = ready.room;
          kind = inl (record {
            report = p.report;
            brought = record {
              tick = tick;
              ticks = record { timely = timely; due = is };
              orders = orders_of m (whole_of g);
              given = ready.given;
              by_place = ready.by_place;
              board = p.board;
              played = p.played;
              after = refl;
              told = refl;
            };
          });
        })

notice_next : (m : Chart) (notice : NoticeRequest) (g : Game) → IsReady m g → FitsRequest (Master (Notify notice)) → VerdictNext m g.public (notice_verdict m notice g.public)
notice_next m notice g ready fits = go (is_over g.public.status && not (is_announcement notice)) refl
  where
    go : (b : Bool) → (is_over g.public.status && not (is_announcement notice)) ≡ b → VerdictNext m g.public (unless b GameOver (notified m notice (public_noted notice g.public)))
    go true is = tt
    go false is = record { room = ready.room; kind = inr (inl (record { notice = notice; fits = fits; taken = is; after = refl; told = refl })) }

pub decided_next : (m : Chart) (n : Mail) (command : Request) (g : Game) → IsReady m g → FitsRequest command → (v : Verdict) → DecidesIn m n command g v → VerdictNext m g.public v
decided_next m n (Player command) g ready fits v d = subst (VerdictNext m g.public) (sym d) tt
decided_next m n (Master (Create due period grey intent seats)) g ready fits v d = subst (VerdictNext m g.public) (sym d) (by (new_seats m n.note.game seats))
  where
    by : (found : Option (List NewSeat)) → VerdictNext m g.public (creation m (opening_public m n.note.game due period grey (is_on intent)) found (Some g))
    by None = tt
    by (Some found) = go (are_complete m found)
      where
        go : (b : Bool) → VerdictNext m g.public (cond b (open_game m (opening_public m n.note.game due period grey (is_on intent)) found (Some g)) (refusal_verdict Malformed))
        go true = tt
        go false = tt
decided_next m n (Master (Tick tick)) g ready fits v d = tick_next m tick g ready fits (is_over g.public.status) (is_due tick g.public) refl v d
decided_next m n (Master (Replace note)) g ready fits v d = subst (VerdictNext m g.public) (sym d) (by (has_seat m note.power g) (new_seat m n.note.game note))
  where
    by : (b : Bool) (found : Option NewSeat) → VerdictNext m g.public (replacement m n.note.game note b)
    by true found = go (new_seat m n.note.game note)
      where
        go : (s : Option NewSeat) → VerdictNext m g.public (replaced note s)
        go None = tt
        go (Some s) = tt
    by false found = tt
decided_next m n (Master (Notify notice)) g ready fits v d = subst (VerdictNext m g.public) (sym d) (notice_next m notice g ready fits)

-- ---- one paper more

one_more : (m : Chart) (p : Public) (ts : List (List ℕ)) (q : Public) (t : List ℕ) (r : Public) → AreNext m p ts q → IsNext m q t r → AreNext m p (ts ++ t ∷ []) r
one_more m p [] q t r h next = (r, subst (λ (x : Public). IsNext m x t r) h next, refl)
one_more m p (u ∷ ts) q t r h next = (h.0, h.1, one_more m h.0 ts q t r h.2 next)

-- the papers of a game, and what may come next, are the papers of that game
pub with_next : (m : Chart) (ts : List (List ℕ)) (q : Public) (t : List ℕ) (r : Public) → AreOfGame m ts q → IsNext m q t r → AreOfGame m (ts ++ t ∷ []) r
with_next m [] q t r h next = absurd h
with_next m (u ∷ ts) q t r h next = (h.0, h.1, one_more m h.0 ts q t r h.2 next)
