-- A game has the option INTENT that its CREATE gave it.
use Rattle.std.proofs.Common.{◌≡◌, ℕ, Bool, true, false, List, Option, Some, None, option_map, refl, sym, ap, subst, ◌∙◌, bytes_eq}
use Rattle.std.specs.Option.{option_or}
use Rattle.dip_letters.specs.Letters.{is_on}
use Rattle.dip_letters.specs.Notes.{Request, SeatNote}
use Rattle.dip_letters.specs.Notes.MasterRequest.{Create}
use Rattle.dip_letters.specs.Notes.Request.{Master}
use Rattle.dip_map.specs.Boards.{Position}
use Rattle.dip_map.specs.Charts.{Chart}
use Rattle.dip_turn.specs.Laws.{PhasesKeepIntent}
use Rattle.dip_desk_state.specs.Records.{Public}
use Rattle.dip_desk_state.specs.State.{Author, Nobody, TheMaster, Seat, Effect, Nothing, Pending, Votes, Delivers, Opens, Publishes, Seats, Game, State, game_after, game_at, name_of, new_games, public_after, whole_of}
use Rattle.dip_desk_state.specs.Keyed.{at}
use Rattle.dip_desk_state.proofs.KeyedLemmas.{names_tell}
use Rattle.dip_desk_laws.specs.Intents.{KeepsIntent, OpensAsAsked, has_intent}
use Rattle.dip_desk_machine.specs.Machine.{Decides, Verdict, NotKnown, Again, OutOfTurn, Taken, after, author, change_of}
use Rattle.dip_desk_machine.specs.Mail.{Mail}
use Rattle.dip_desk_machine.specs.Ticking.{orders_of}
use Rattle.dip_desk_machine.proofs.Seeing.{other_game, same_game}
use Rattle.dip_desk_machine.proofs.Suiting.{Comes, decides_suits, master_holds}

-- ---- it is opened with what its letter says

abbrev IsAsked : Request → Public → Type 0
IsAsked command public =
    (due : ℕ) × (period : ℕ) × (grey : Bool) × (intent : Option Bool) × (notes : List SeatNote)
    × (command ≡ Master (Create due period grey intent notes)) × (public.board.intent ≡ is_on intent)

abbrev EffectAsked : Request → Effect → Type 0
EffectAsked command Nothing = Unit {0}
EffectAsked command (Pending orders) = Unit {0}
EffectAsked command (Votes vote) = Unit {0}
EffectAsked command (Delivers readers item) = Unit {0}
EffectAsked command (Opens public paper seats) = IsAsked command public
EffectAsked command (Publishes public paper played) = Unit {0}
EffectAsked command (Seats seat) = Unit {0}

abbrev VerdictAsked : Request → Verdict → Type 0
VerdictAsked command NotKnown = Unit {0}
VerdictAsked command (Again text) = Unit {0}
VerdictAsked command (OutOfTurn text) = Unit {0}
VerdictAsked command (Taken text e) = EffectAsked command e

pub opens_as_asked : (m : Chart) → OpensAsAsked m
opens_as_asked m s n Nobody text paper public seats d = absurd (decides_suits m s n Nobody (Taken text (Opens public paper seats)) d).0
opens_as_asked m s n TheMaster text paper public seats d =
    master_holds (λ game v. VerdictAsked n.note.command v) m n s.desk.kept n.note.command (game_at n.note.game s) (Taken text (Opens public paper seats)) (record {
      unknown = tt;
      again = λ game text. tt;
      out = λ game text. tt;
      free = λ r. tt;
      opened = λ due period grey intent notes found of is all. (due, period, grey, intent, notes, of, refl);
      in_game = λ g. record {
        refused = λ r. tt;
        played = λ tick v is p. subst (VerdictAsked n.note.command) (sym p.verdict) tt;
        noted = λ text paper public next told spoiled. tt;
        seated = λ note seat of new low s found. tt;
      };
    }) d
opens_as_asked m s n (Seat p) text paper public seats d = absurd (none (game_at n.note.game s) (decides_suits m s n (Seat p) (Taken text (Opens public paper seats)) d).0)
  where
    none : (game : Option Game) → Comes (Seat p) game (Opens public paper seats) → ⊥
    none None comes = comes
    none (Some g) comes = comes

-- ---- and keeps it

abbrev VerdictKeeps : Option Game → Verdict → Type 0
VerdictKeeps None v = Unit {0}
VerdictKeeps (Some g) NotKnown = Unit {0}
VerdictKeeps (Some g) (Again text) = Unit {0}
VerdictKeeps (Some g) (OutOfTurn text) = Unit {0}
VerdictKeeps (Some g) (Taken text e) = (public_after e g.public).board.intent ≡ g.public.board.intent

master_keeps : (m : Chart) → PhasesKeepIntent → (s : State) (n : Mail) (v : Verdict) → Decides m s n TheMaster v → VerdictKeeps (game_at n.note.game s) v
master_keeps m phases s n v d =
    master_holds VerdictKeeps m n s.desk.kept n.note.command (game_at n.note.game s) v (record {
      unknown = tt;
      again = again;
      out = out;
      free = λ r. tt;
      opened = λ due period grey intent notes found of is all. tt;
      in_game = λ g. record {
        refused = λ r. refl;
        played = λ tick v is p. subst (VerdictKeeps (Some g)) (sym p.verdict) (phases m g.public.board (orders_of m (whole_of g)) p.board p.report p.played);
        noted = λ text paper public next told spoiled. ap (λ (b : Position). b.intent) next.board;
        seated = λ note seat of new low s found. refl;
      };
    }) d
  where
    again : (game : Option Game) (text : List ℕ) → VerdictKeeps game (Again text)
    again None text = tt
    again (Some g) text = tt

    out : (game : Option Game) (text : List ℕ) → VerdictKeeps game (OutOfTurn text)
    out None text = tt
    out (Some g) text = tt

effect_keeps : (m : Chart) → PhasesKeepIntent → (s : State) (n : Mail) (who : Author) (text : List ℕ) (e : Effect) → Decides m s n who (Taken text e)
    → (g : Game) → game_at n.note.game s ≡ Some g → (public_after e g.public).board.intent ≡ g.public.board.intent
effect_keeps m phases s n Nobody text e d g found = absurd (decides_suits m s n Nobody (Taken text e) d).0
effect_keeps m phases s n TheMaster text e d g found = subst (λ (o : Option Game). VerdictKeeps o (Taken text e)) found (master_keeps m phases s n (Taken text e) d)
effect_keeps m phases s n (Seat p) text e d g found = by e (subst (λ (o : Option Game). Comes (Seat p) o e) found (decides_suits m s n (Seat p) (Taken text e) d).0)
  where
    by : (e : Effect) → Comes (Seat p) (Some g) e → (public_after e g.public).board.intent ≡ g.public.board.intent
    by Nothing comes = refl
    by (Pending orders) comes = refl
    by (Votes vote) comes = refl
    by (Delivers readers item) comes = refl
    by (Opens public paper seats) comes = refl
    by (Publishes public paper played) comes = absurd comes
    by (Seats seat) comes = refl

same_intent : (g h : Game) → Some h ≡ Some g → has_intent h ≡ has_intent g
same_intent g h same = let one : h ≡ g = cc in ap has_intent one

taken_keeps : (m : Chart) → PhasesKeepIntent → (s : State) (n : Mail) (who : Author) (text : List ℕ) (e : Effect) → Decides m s n who (Taken text e)
    → (name : List ℕ) (g h : Game) → game_at name s ≡ Some g → game_at name (after n who (Taken text e) s) ≡ Some h → has_intent h ≡ has_intent g
taken_keeps m phases s n who text e d name g h old new = go (bytes_eq n.note.game name) refl
  where
    go : (b : Bool) → bytes_eq n.note.game name ≡ b → has_intent h ≡ has_intent g
    go false differ =
        same_intent g h (sym new ∙ other_game (change_of n who text e) s name (decides_suits m s n who (Taken text e) d).1 differ ∙ old)
    go true same =
        let is : n.note.game ≡ name = names_tell.same n.note.game name same in
        let found : game_at n.note.game s ≡ Some g = ap (λ (x : List ℕ). game_at x s) is ∙ old in
        let left : game_at n.note.game (after n who (Taken text e) s) ≡ Some (game_after (change_of n who text e) g) =
        same_game (change_of n who text e) s
        ∙ ap (λ (o : Option Game). option_or (option_map (game_after (change_of n who text e)) o) (at bytes_eq name_of n.note.game (new_games e))) found in
        same_intent (game_after (change_of n who text e) g) h (sym new ∙ ap (λ (x : List ℕ). game_at x (after n who (Taken text e) s)) (sym is) ∙ left)
        ∙ effect_keeps m phases s n who text e d g found

pub keeps_intent : (m : Chart) → PhasesKeepIntent → KeepsIntent m
keeps_intent m phases old n r new step name g h was is = by step.0 step.1 (ap (λ (s : State). game_at name s) (sym step.3) ∙ is)
  where
    by : (v : Verdict) → Decides m old n (author m n old) v → game_at name (after n (author m n old) v old) ≡ Some h → has_intent h ≡ has_intent g
    by NotKnown d now = same_intent g h (sym now ∙ was)
    by (Again text) d now = same_intent g h (sym now ∙ was)
    by (OutOfTurn text) d now = same_intent g h (sym now ∙ was)
    by (Taken text e) d now = taken_keeps m phases old n (author m n old) text e d name g h was now
