-- What a line tells is what its numbers and its units decide.
use Rattle.std.proofs.Common.{◌≡◌, ◌∙◌, ℕ, List, refl, ◌++◌, sym, subst, ap, inl, inr, arith}
use Rattle.std.specs.List.{list_all}
use Rattle.std.specs.Prelude.{Bool, true, false, not, if◌then◌else◌, Some, codes}
use Rattle.std.proofs.lemmas.Bool.{both_ways, cases_Bool, eq-eqb, or_left}
use mathlib.Core.Logic.{◌⊎◌}
use Rattle.dip_decide_rules.specs.Corners.{rises}
use Rattle.dip_decide_rules.specs.Deciding.{Assignment, IsCompletion, IsForced, Known}
use Rattle.dip_decide_rules.specs.Movement.{Situation, IsSituation, attack, goes, is_entered, is_listed, cuts, opposition, prevent, is_decided, move_rule, path_rule, rule, succeeds}
use Rattle.dip_decide_rules.specs.Results.{AreExplained}
use Rattle.dip_decide_rules.specs.Steps.{steps_of}
use Rattle.dip_decide_rules.specs.declared.decisions.Decision.{Decision}
use Rattle.dip_decide_rules.specs.declared.decisions.Decision.TheVariants.{Move, Support, Path}
use Rattle.dip_decide_rules.specs.declared.decisions.Step.{Step}
use Rattle.dip_decide_rules.specs.declared.decisions.Step.TheVariants.{Forced, Circle, Knot}
use Rattle.dip_decide_rules.proofs.CornerLaws.{corner_completes}
use Rattle.dip_decide_rules.proofs.Giving.{among_paths}
use Rattle.dip_decide_rules.proofs.OneAnswer.{same_self}
use Rattle.dip_decide_rules.proofs.Progress.{some_is}
use Rattle.dip_decide_rules.proofs.RingLaws.{among_moves}
use Rattle.dip_explain_strengths.specs.Matters.{Matter, code, here, joined, joined_or, order_in, unit_in}
use Rattle.dip_explain_strengths.specs.StrengthTexts.{attack_text}
use Rattle.dip_explain_lines.specs.Lines.{comparison_text, cut_text, cutting_text, carrier_text, spared_text, sparing_text, fleet_text, carriers, cutters, decision_text, given_text, move_text, movers, no_route_text, no_route_words, path_text, rivals, route_text, route_words, servers, stranded_text, support_text}
use Rattle.dip_explain_laws.specs.Words.{AttackedByNone, Cuts, Exceeds, FallsShort, HasRoute, IsFleetSaid, IsLine, IsOfMove, IsOfPath, IsTold, IsVerdict, OpposedByNone, PreventedByNone, Spares, named, ordered}
use Rattle.dip_explain_laws.proofs.LineLemmas.{line_agrees, line_completes, line_decided, line_stands}
use Rattle.dip_explain_laws.proofs.MoveLemmas.{exceeds, falls_short, rival_parts}
use Rattle.dip_explain_laws.proofs.ReasonLemmas.{no_attack, no_opposition, no_prevent}
use Rattle.dip_explain_laws.proofs.SureLemmas.{came_false, came_true, path_false, path_true}
use Rattle.dip_explain_laws.proofs.RouteLemmas.{fleet_said, server_serves, route_found, route_leads}
use Rattle.dip_explain_laws.proofs.SupportLemmas.{cut_by, cutter_cuts, spared}

-- lines

-- of one that came out false the text is the first, and else the second
other_way : (high value : Bool) (x y : List ℕ) → high ≡ not value → (if high then x else y) ≡ (if value then y else x)
other_way high true x y e = rw e refl
other_way high false x y e = rw e refl

module _ (steps : List Step) (a : Assignment) (c : Matter) (t : IsTold steps a c) where
  stands : IsForced (rule c.situation) c.known c.of (a c.of)
  stands = line_stands c.situation steps a t.explained c.known (Forced c.of) t.line

  pub verdict : IsVerdict c (a c.of)
  verdict = record {
    is_new = stands.is_open;
    decided = line_decided c.situation steps a t.explained c.known (Forced c.of) t.line c.of (or_left _ _ (same_self c.of));
    told_value = stands.value _ (corner_completes _ c.known c.high);
    always = stands.value;
  }

  by_rule : (d : Decision) → c.of ≡ d → rule c.situation d (here c) ≡ a d
  by_rule d e = subst (λ (x : Decision). rule c.situation x (here c) ≡ a x) e verdict.told_value

  -- one that came out false is told at the greatest completion, and one that came out true at the least
  came_out : (d : Decision) → c.of ≡ d → c.high ≡ not (a d)
  came_out d e = t.high ∙ ap (λ (x : Decision). not (a x)) e

  is_decided_of : (d : Decision) → c.of ≡ d → is_decided c.situation d ≡ true
  is_decided_of d e = subst (λ (x : Decision). is_decided c.situation x ≡ true) e verdict.decided

  agrees : IsCompletion c.known a
  agrees = line_agrees c.situation steps a t.explained c.known (Forced c.of) t.line

  -- with what the decision rises
  rising : (d e : Decision) (b : Bool) → c.of ≡ d → rises c.situation d e ≡ b → rises c.situation c.of e ≡ b
  rising d e b m r = subst (λ (x : Decision). rises c.situation x e ≡ b) (sym m) r

  pub goes_somewhere : (p : ℕ) → c.of ≡ Move p → (q : ℕ) × IsOfMove c p q
  goes_somewhere p m = let w = some_is (c.situation.target p) (is_decided_of (Move p) m) in (w.0, record { move = m; goes = w.1 })

  module _ (p q : ℕ) (o : IsOfMove c p q) where
    pub shows_move : decision_text c (Move p) ≡ order_in c.map c.orders p ++ (if a (Move p) then codes " succeeds: " else codes " fails: ") ++ attack_text c p q ++ comparison_text c p q
    unfolding decision_text move_text
    shows_move =
        ap (move_text c p) o.goes
        ∙ ap (λ (x : List ℕ). order_in c.map c.orders p ++ x ++ attack_text c p q ++ comparison_text c p q) (other_way c.high (a (Move p)) (codes " fails: ") (codes " succeeds: ") (came_out (Move p) o.move))

    comes : succeeds c.situation (here c) p q ≡ a (Move p)
    comes = ap (move_rule c.situation (here c) p) (sym o.goes) ∙ by_rule (Move p) o.move

    pub told_succeeds : a (Move p) ≡ true → Exceeds c p q
    told_succeeds y = exceeds c p q (came_out (Move p) o.move ∙ ap not y) (comes ∙ y)

    pub told_fails : a (Move p) ≡ false → FallsShort c p q
    told_fails n = falls_short c p q (came_out (Move p) o.move ∙ ap not n) (comes ∙ n)

    low : a (Move p) ≡ true → c.high ≡ false
    low y = came_out (Move p) o.move ∙ ap not y

    there_it_goes : goes c.situation p q ≡ true
    there_it_goes = rw o.goes (eq-eqb q q refl)

    fails_without : attack c.situation (here c) p q ≡ 0 → a (Move p) ≡ false
    fails_without none = go (cases_Bool (a (Move p)))
      where
        go : (a (Move p) ≡ true) ⊎ (a (Move p) ≡ false) → a (Move p) ≡ false
        go (inr n) = n
        go (inl y) = let more = (told_succeeds y).destination in absurd (omega (arith, more, none))

    leaves : a (Move p) ≡ true → here c (Move q) ≡ true → a (Move q) ≡ true
    leaves y = came_true c a agrees (Move q) (rising (Move p) (Move q) (not c.high) o.move (there_it_goes ∙ sym (ap not (low y))))

    pub no_attack_told : attack c.situation (here c) p q ≡ 0 → AttackedByNone c a p q
    no_attack_told none =
        let high = came_out (Move p) o.move ∙ ap not (fails_without none) in
        no_attack c a p q
        (path_false c a agrees p (rising (Move p) (Path p) c.high o.move (eq-eqb p p refl ∙ sym high)))
        (came_false c a agrees (Move q) (rising (Move p) (Move q) c.high o.move (there_it_goes ∙ sym high))) none

    pub no_opposition_told : a (Move p) ≡ true → opposition c.situation (here c) p q ≡ 0 → OpposedByNone c a p q
    no_opposition_told y none = no_opposition c a p q (leaves y) none

    pub no_prevent_told : (w : ℕ) → a (Move p) ≡ true → is_listed (rivals c.situation p q) w ≡ true → prevent c.situation (here c) w q ≡ 0 → PreventedByNone c a q w
    no_prevent_told w y r none =
        no_prevent c a q w (path_false c a agrees w (rising (Move p) (Path w) c.high o.move ((rival_parts c.situation p q w r).0 ∙ sym (low y)))) (leaves y) none

  module _ (h : ℕ) (m : c.of ≡ Support h) where
    pub shows_support : decision_text c (Support h)
        ≡ order_in c.map c.orders h
        ++ (if a (Support h) then codes " is given: " ++ joined_or (codes "no move goes to " ++ code c.map h) (ordered c (sparing_text c h)) (movers c.situation h)
        else codes " is cut: " ++ joined (ordered c (cutting_text c h)) (cutters c.situation (here c) h))
    unfolding decision_text support_text given_text spared_text cut_text
    shows_support = ap (λ (x : List ℕ). order_in c.map c.orders h ++ x) (other_way c.high (a (Support h)) _ _ (came_out (Support h) m))

    uncut : list_all (λ x. not (cuts c.situation (here c) h x)) c.situation.places ≡ a (Support h)
    uncut = rw (is_decided_of (Support h) m) at (by_rule (Support h) m)

    pub told_cut : a (Support h) ≡ false → (x : ℕ) × (is_listed (cutters c.situation (here c) h) x ≡ true)
    told_cut n = cut_by c.situation (here c) h (uncut ∙ n)

    pub told_given : a (Support h) ≡ true → (x : ℕ) → is_listed (movers c.situation h) x ≡ true → Spares c a h x
    told_given y x l =
        let low = came_out (Support h) m ∙ ap not y in
        spared c a h x (came_false c a agrees (Move x) (rising (Support h) (Move x) c.high m (sym low)))
        (path_false c a agrees x (rising (Support h) (Path x) c.high m (sym low))) (uncut ∙ y) l

    pub told_cutter : a (Support h) ≡ false → (x : ℕ) → is_listed (cutters c.situation (here c) h) x ≡ true
        → (goes c.situation x h ≡ true) × (c.situation.same_power x h ≡ false) × Cuts c a h x
    told_cutter n x l =
        let high = came_out (Support h) m ∙ ap not n in
        cutter_cuts c a h x (came_true c a agrees (Move x) (rising (Support h) (Move x) (not c.high) m (sym (ap not high))))
        (path_true c a agrees x (rising (Support h) (Path x) (not c.high) m (sym (ap not high)))) l

  pub shows_path : (p : ℕ) → c.of ≡ Path p → decision_text c (Path p)
      ≡ order_in c.map c.orders p
      ++ (if a (Path p) then codes " has a route: carried by " ++ joined (unit_in c) (servers c.situation (here c) p)
      else codes " has no route: " ++ joined_or (codes "no fleet carries it") (named c (fleet_text c)) (carriers c.situation p))
  unfolding decision_text path_text route_text route_words no_route_text no_route_words stranded_text carrier_text
  shows_path p m = ap (λ (x : List ℕ). order_in c.map c.orders p ++ x) (other_way c.high (a (Path p)) _ _ (came_out (Path p) m))

  pub told_fleet : (p x : ℕ) → c.of ≡ Path p → a (Path p) ≡ false → IsFleetSaid c a x
  told_fleet p x m n = fleet_said c a x (λ w. came_true c a agrees (Move w) (rising (Path p) (Move w) (not c.high) m (sym (ap not (came_out (Path p) m ∙ ap not n)))))

  pub told_server : (p x : ℕ) → c.of ≡ Path p → a (Path p) ≡ true → is_listed (servers c.situation (here c) p) x ≡ true
      → (c.situation.convoys x p ≡ true) × (is_entered c.situation a x ≡ false)
  told_server p x m y l = server_serves c.situation (here c) a p x (λ w. was w) l
    where
      was : (w : ℕ) → a (Move w) ≡ true → here c (Move w) ≡ true
      was w h = go (cases_Bool (here c (Move w)))
        where
          go : (here c (Move w) ≡ true) ⊎ (here c (Move w) ≡ false) → here c (Move w) ≡ true
          go (inl e) = e
          go (inr e) = absurd (both_ways _ (came_false c a agrees (Move w) (rising (Path p) (Move w) c.high m (sym (came_out (Path p) m ∙ ap not y))) e) h)

  module _ (i : IsSituation c.situation) (p q : ℕ) (o : IsOfPath c p q) where
    carried : path_rule c.situation (here c) p (Some q) ≡ a (Path p)
    carried = ap (path_rule c.situation (here c) p) (sym o.goes) ∙ rw (is_decided_of (Path p) o.path) at (by_rule (Path p) o.path)

    pub told_carried : a (Path p) ≡ true → HasRoute c.situation (here c) p q
    told_carried y = route_found c.situation i (here c) p q (carried ∙ y)

    pub told_stranded : a (Path p) ≡ false → HasRoute c.situation (here c) p q → ⊥
    told_stranded n r = both_ways _ (carried ∙ n) (route_leads c.situation i (here c) p q r)

-- the moves of a circle succeed, and those of a knot have no path

module _ (s : Situation) (steps : List Step) (a : Assignment) (k : Known) (e : AreExplained s (steps_of steps) a) where
  pub circle_moves : (ps : _) → IsLine s steps a k (Circle ps) → (p : ℕ) → is_listed ps.items p ≡ true → a (Move p) ≡ true
  circle_moves ps l p h = line_completes s steps a e k (Circle ps) l (Move p) true (rw (among_moves ps.items p, h) refl)

  pub knot_breaks : (ps : _) → IsLine s steps a k (Knot ps) → (p : ℕ) → is_listed ps.items p ≡ true → a (Path p) ≡ false
  knot_breaks ps l p h = line_completes s steps a e k (Knot ps) l (Path p) false (rw (among_paths ps.items p, h) refl)
