-- The line of an order is read back.
use Rattle.std.proofs.Common.{◌≡◌, ◌≢◌, ℕ, List, [], ◌∷◌, ◌++◌, codes, Option, Some, nat_le, map, flat_map, unwrap_or, refl, sym, ap, ◌∙◌, append_assoc, arith}
use Rattle.std.specs.List.{AllByRecursion}
use Rattle.dip_names.specs.Options.{◌>>=◌}
use Rattle.dip_letters.specs.Lines.{IsLine, Lacks, cut_at}
use Rattle.dip_letters.proofs.LineLemmas.{cut_again, line_again}
use Rattle.dip_letters.proofs.NameLemmas.{after_again}
use Rattle.dip_map.specs.Boards.{Position}
use Rattle.dip_map.specs.Charts.{Chart, IsMap, realm}
use Rattle.dip_orders_placed.proofs.StandingLaws.{unit_itself}
use Rattle.dip_orders.specs.Texts.{order_text}
use Rattle.dip_turn.specs.Fate.{Fate}
use Rattle.dip_turn.specs.Fate.TheVariants.{Stands, Dislodged, Destroyed}
use Rattle.dip_turn.specs.Outcome.{Outcome}
use Rattle.dip_turn.specs.Outcome.TheVariants.{Holds, Moves, Bounced, NoRoute, Given, Cut, Void, Convoys}
use Rattle.dip_turn_papers.specs.Papers.{fate_text, line_text, outcome_text, told_text}
use Rattle.dip_turn_papers.specs.declared.lines.PaperLine.{PaperLine}
use Rattle.dip_turn_papers.specs.declared.lines.Told.{Told}
use Rattle.dip_turn_papers.specs.declared.lines.Told.TheVariants.{Moved, Retreats, Disbands, Built, Removed, RemovedInDisorder}
use Rattle.dip_check_papers.specs.Printed.{first_line_of, order_words_at, unit_order_at, unit_orders_at, words_at}
use Rattle.dip_check_papers.proofs.LineLemmas.{AreAll, all_both, lacks_append, lacks_by}
use Rattle.dip_check_papers.proofs.ReadAnywhere.{IsReadBack}
use Rattle.dip_check_papers.proofs.NameTexts.{name_all}
use Rattle.dip_check_papers.proofs.OrderTexts.{is_told, low_no_lf, order_told, small_told, told_no_colon, told_no_lf}

-- what is told has no LF
outcome_low : (o : Outcome) → AreAll (nat_le 32) (outcome_text o)
outcome_low Holds = refl
outcome_low Moves = refl
outcome_low Bounced = refl
outcome_low NoRoute = refl
outcome_low Given = refl
outcome_low Cut = refl
outcome_low Void = refl
outcome_low Convoys = refl

fate_low : (f : Fate) → AreAll (nat_le 32) (fate_text f)
fate_low Stands = refl
fate_low Dislodged = refl
fate_low Destroyed = refl

told_low : (t : Told) → AreAll (nat_le 32) (told_text t)
told_low (Moved outcome fate) = all_both (nat_le 32) (outcome_text outcome) (fate_text fate) (outcome_low outcome) (fate_low fate)
told_low Retreats = refl
told_low Disbands = refl
told_low Built = refl
told_low Removed = refl
told_low RemovedInDisorder = refl

-- a line without its LF
abbrev pub line_words : Chart → PaperLine → List ℕ
line_words m l = (realm m l.placed.unit.power).name ++ (codes " " ++ (order_text m l.placed ++ 58 ∷ (codes " " ++ told_text l.told)))

pub line_is : (m : Chart) (l : PaperLine) (rest : List ℕ) → line_text m l ++ rest ≡ line_words m l ++ 10 ∷ rest
unfolding line_text
line_is m l rest = simp append_assoc

module _ (m : Chart) (laws : IsMap m) where
  pub line_one : (l : PaperLine) → IsLine (line_words m l)
  line_one l =
      lacks_append 10 (realm m l.placed.unit.power).name (codes " " ++ (order_text m l.placed ++ 58 ∷ (codes " " ++ told_text l.told)))
      (lacks_by is_told 10 told_no_lf (realm m l.placed.unit.power).name (name_all m laws is_told small_told l.placed.unit.power))
      (lacks_append 10 (codes " ") (order_text m l.placed ++ 58 ∷ (codes " " ++ told_text l.told)) (space 10 (omega arith))
      (lacks_append 10 (order_text m l.placed) (58 ∷ (codes " " ++ told_text l.told)) (lacks_by is_told 10 told_no_lf (order_text m l.placed) (order_told m laws l.placed))
      (omega arith, (omega arith, lacks_by (nat_le 32) 10 low_no_lf (told_text l.told) (told_low l.told)))))
    where
      space : (mark : ℕ) → mark ≢ 32 → Lacks mark (codes " ")
      space mark apart = ((λ same. apart (sym same)), tt)

  words_again : (r : ℕ) (words : List ℕ) → words_at m r ((realm m r).name ++ (codes " " ++ words)) ≡ Some words
  unfolding words_at
  words_again r words = rw (after_again (realm m r).name (codes " " ++ words)) (after_again (codes " ") words)

  order_words_again : (l : PaperLine) → order_words_at m l.placed.unit.power (line_words m l) ≡ Some (order_text m l.placed)
  unfolding order_words_at
  order_words_again l =
      let words = order_text m l.placed ++ 58 ∷ (codes " " ++ told_text l.told) in
      let cut : cut_at 58 words ≡ Some (order_text m l.placed, codes " " ++ told_text l.told) =
      cut_again 58 (order_text m l.placed) (codes " " ++ told_text l.told) (lacks_by is_told 58 told_no_colon (order_text m l.placed) (order_told m laws l.placed)) in
      ap (λ (o : Option (List ℕ)). o >>= (λ w. cut_at 58 w >>= (λ p. Some p.0))) (words_again l.placed.unit.power words) ∙ ap (λ (o : Option (List ℕ × List ℕ)). o >>= (λ p. Some p.0)) cut

  pub unit_order_again : (b : Position) (l : PaperLine) → IsReadBack m b l.placed → unit_order_at m b l.placed.unit (line_words m l) ≡ Some l.placed
  unfolding unit_order_at
  unit_order_again b l back =
      rw (order_words_again l, back, unit_itself l.placed.unit) refl

  -- the lines of orders are read back, whatever follows them
  pub unit_orders_again : (b : Position) (ls : List PaperLine) (rest : List ℕ) → AllByRecursion (λ l. IsReadBack m b l.placed) ls
      → unit_orders_at m b (map (λ l. l.placed.unit) ls) (flat_map (line_text m) ls ++ rest) ≡ Some (map (λ l. l.placed) ls)
  unit_orders_again b [] rest back = refl
  unit_orders_again b (l ∷ ls) rest back =
      let more = flat_map (line_text m) ls ++ rest in
      let text : (line_text m l ++ flat_map (line_text m) ls) ++ rest ≡ line_words m l ++ 10 ∷ more = append_assoc (line_text m l) (flat_map (line_text m) ls) rest ∙ line_is m l more in
      let first : first_line_of ((line_text m l ++ flat_map (line_text m) ls) ++ rest) ≡ (line_words m l, more) =
      ap first_line_of text ∙ ap (λ (o : Option (List ℕ × List ℕ)). unwrap_or o (line_words m l ++ 10 ∷ more, [])) (line_again (line_words m l) more (line_one l)) in
      rw (first, unit_order_again b l back.0, unit_orders_again b ls rest back.1) refl
