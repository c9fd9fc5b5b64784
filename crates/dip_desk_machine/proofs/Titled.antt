-- The title of each paper that is published tells whether a phase was played.
use Rattle.std.proofs.Common.{◌≡◌, Option, Some, None, sym, subst}
use Rattle.dip_map.specs.Charts.{Chart}
use Rattle.dip_desk_state.specs.State.{Effect, Game, Nobody, Nothing, Pending, Votes, Delivers, Opens, Publishes, Seats, Seat, TheMaster, game_at}
use Rattle.dip_desk_machine.specs.Machine.{Verdict, NotKnown, Again, OutOfTurn, Taken}
use Rattle.dip_desk_games.specs.Ticking.{public_played}
use Rattle.dip_desk_machine.specs.Titles.{TitlesTell, names_phase}
use Rattle.dip_desk_machine.proofs.Suiting.{Comes, decides_suits, master_holds}
use Rattle.dip_desk_machine.proofs.Titles.{phase_told}

abbrev EffectTold : Effect → Type 0
EffectTold Nothing = Unit {0}
EffectTold (Pending orders) = Unit {0}
EffectTold (Votes vote) = Unit {0}
EffectTold (Delivers readers item) = Unit {0}
EffectTold (Opens public paper seats) = Unit {0}
EffectTold (Publishes public paper played) = names_phase public.papers paper ≡ played
EffectTold (Seats seat) = Unit {0}

abbrev VerdictTold : Verdict → Type 0
VerdictTold NotKnown = Unit {0}
VerdictTold (Again text) = Unit {0}
VerdictTold (OutOfTurn text) = Unit {0}
VerdictTold (Taken text e) = EffectTold e

pub titles_tell : (m : Chart) → TitlesTell m
titles_tell m s n Nobody text public paper played d = absurd (decides_suits m s n Nobody (Taken text (Publishes public paper played)) d).0
titles_tell m s n TheMaster text public paper played d =
    master_holds (λ game v. VerdictTold v) m n s.desk.kept n.note.command (game_at n.note.game s) (Taken text (Publishes public paper played)) (record {
      unknown = tt;
      again = λ game text. tt;
      out = λ game text. tt;
      free = λ r. tt;
      opened = λ due period grey intent notes found is of all. tt;
      in_game = λ g. record {
        refused = λ r. tt;
        played = λ tick v is p. subst VerdictTold (sym p.verdict) (phase_told m p.report (public_played tick g.public p.board p.report.course));
        noted = λ text paper public next told spoiled. told;
        seated = λ note seat of new low s found. tt;
      };
    }) d
titles_tell m s n (Seat p) text public paper played d = absurd (none (game_at n.note.game s) (decides_suits m s n (Seat p) (Taken text (Publishes public paper played)) d).0)
  where
    none : (game : Option Game) → Comes (Seat p) game (Publishes public paper played) → ⊥
    none None comes = comes
    none (Some g) comes = comes
