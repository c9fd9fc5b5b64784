-- What the paper of an opening says is read back.
use Rattle.std.proofs.Common.{◌≡◌, ◌≤◌, ◌==◌, ℕ, false, Bool, true, List, [], ◌∷◌, Some, unwrap_or, slice_get, refl, sym, ap, subst, ◌∙◌, codes, arith}
use Rattle.std.specs.Fmt.{decimal}
use Rattle.std.specs.Str.{bytes_eq}
use Rattle.dip_letters.specs.Words.{is_game}
use Rattle.dip_map.specs.Boards.{IsOf, Position, opening}
use Rattle.dip_map.specs.Charts.{Chart}
use Rattle.dip_desk_games.specs.Opening.{opening_public}
use Rattle.dip_desk_state.specs.Records.{Public}
use Rattle.dip_reports.specs.Texts.{opening_paper, phase_text}
use Rattle.dip_check_papers.specs.Games.{IsOpening}
use Rattle.dip_check_papers.specs.Parts.{game_line_in, is_yes, lines_in, word_after, words_in}
use Rattle.dip_check_papers.proofs.GameLines.{AreShort, opening_due, opening_grey, opening_intent, opening_period, opening_words, yes_read}

-- words that say these terms of a game
pub record AreSaid (words : List (List ℕ)) (game : List ℕ) (due period : ℕ) (grey intent : Bool) : Type 0 where
  pub named : unwrap_or (slice_get words 1) [] ≡ game
  pub tick : word_after (codes "DUE") words ≡ Some (decimal due)
  pub ticks : word_after (codes "PERIOD") words ≡ Some (decimal period)
  pub says_grey : is_yes (word_after (codes "GREY") words) ≡ grey
  pub says_intent : is_yes (word_after (codes "INTENT") words) ≡ intent

-- the phase of an opening is none of the names of terms
other_phase : (m : Chart) (b : ℕ) (name : List ℕ) → (83 == b) ≡ false → bytes_eq (phase_text (opening m).phase) (b ∷ name) ≡ false
unfolding phase_text
other_phase m b name other = rw other refl

pub opening_said : (m : Chart) (game : List ℕ) (due period : ℕ) (grey intent : Bool) → is_game game ≡ true → due ≤ 999999999999 → period ≤ 999999
    → AreSaid (words_in (game_line_in (lines_in (opening_paper m (opening_public m game due period grey intent))))) game due period grey intent
opening_said m game due period grey intent is timely most =
    subst (λ ws. AreSaid ws game due period grey intent) (sym (opening_words m p is (omega arith) refl short)) (record {
      named = refl;
      tick = opening_due game phase p is (other_phase m 68 (codes "UE") refl);
      ticks = opening_period game phase p is (other_phase m 80 (codes "ERIOD") refl) short;
      says_grey = ap is_yes (opening_grey game phase p is (other_phase m 71 (codes "REY") refl) short) ∙ yes_read grey;
      says_intent = opening_intent game phase p is (other_phase m 73 (codes "NTENT") refl) short;
    })
  where
    p : Public
    p = opening_public m game due period grey intent

    phase : List ℕ
    phase = phase_text (opening m).phase

    short : AreShort p
    short = record { due = omega (arith, timely); period = omega (arith, most); papers = omega arith }

pub opening_read : (m : Chart) (text : List ℕ) (new : Public) (h : IsOpening m text new)
    → AreSaid (words_in (game_line_in (lines_in text))) h.game h.due h.period h.grey h.intent
opening_read m text new h =
    subst (λ t. AreSaid (words_in (game_line_in (lines_in t))) h.game h.due h.period h.grey h.intent)
    (sym (h.told ∙ ap (opening_paper m) h.after)) (opening_said m h.game h.due h.period h.grey h.intent h.named h.timely h.most)

-- openings of the same terms are one
pub same_opening : (m : Chart) (game name : List ℕ) (due tick period ticks : ℕ) (grey says intent meant : Bool) → game ≡ name → due ≡ tick → period ≡ ticks
    → grey ≡ says → intent ≡ meant → opening_public m game due period grey intent ≡ opening_public m name tick ticks says meant
same_opening m game name due tick period ticks grey says intent meant a b c d e =
    ap (λ x. opening_public m x due period grey intent) a ∙ ap (λ x. opening_public m name x period grey intent) b
    ∙ ap (λ x. opening_public m name tick x grey intent) c ∙ ap (λ x. opening_public m name tick ticks x intent) d
    ∙ ap (λ x. opening_public m name tick ticks says x) e

-- the option changes nothing of what a board of the map is
pub of_intent : (m : Chart) (b : Position) (intent : Bool) → IsOf m b → IsOf m (record b { intent = intent })
of_intent m b intent of = record {
  units = of.units;
  apart = of.apart;
  dislodged = of.dislodged;
  dislodged_apart = of.dislodged_apart;
  standoff = of.standoff;
  standoff_once = of.standoff_once;
  standoff_empty = of.standoff_empty;
  owners = of.owners;
  owners_count = of.owners_count;
  owners_centres = of.owners_centres;
}
