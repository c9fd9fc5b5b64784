-- The tick that a text tells where a phase's paper tells its own, and how far the text is like the papers of other ticks.
use Rattle.std.proofs.Common.{◌≡◌, ◌≢◌, ◌≤◌, ◌+◌, ◌⊎◌, inl, inr, ◌==◌, ℕ, Bool, true, false, cond, List, [], ◌∷◌, ◌++◌, codes, Option, Some, None, refl, sym, ap, subst, ◌∙◌, append_assoc, arith}
use Rattle.std.specs.Fmt.{decimal}
use Rattle.std.proofs.lemmas.List.{append_cancel_right}
use Rattle.dip_names.specs.Options.{◌>>=◌}
use Rattle.dip_letters.specs.Lines.{Lacks, cut_at}
use Rattle.dip_letters.specs.Reading.{after_name}
use Rattle.dip_letters.proofs.LineLemmas.{cut_again, cut_takes}
use Rattle.dip_letters.proofs.NameLemmas.{after_takes}
use Rattle.dip_map.specs.Boards.{Position}
use Rattle.dip_map.specs.Charts.{Chart}
use Rattle.dip_orders_placed.specs.declared.placed.PlacedOrder.{PlacedOrder}
use Rattle.dip_turn.specs.Laws.{PhasesHaveOneResult}
use Rattle.dip_turn.specs.Reports.{IsPlayed}
use Rattle.dip_turn.specs.Course.{Course}
use Rattle.dip_turn.specs.Course.TheVariants.{GoesOn, Won, Ended}
use Rattle.dip_turn_phases.specs.declared.report.Report.{Report}
use Rattle.dip_turn_papers.specs.Papers.{paper_text}
use Rattle.dip_desk_games.specs.Ticking.{due_after, public_played}
use Rattle.dip_desk_state.specs.Records.{Public}
use Rattle.dip_check_papers.specs.Checks.{IsToldOf, paper_at}
use Rattle.dip_check_papers.specs.Differing.{first_other}
use Rattle.dip_check_papers.specs.Games.{IsTick}
use Rattle.dip_check_papers.specs.declared.verdict.Fault.{Fault}
use Rattle.dip_check_papers.proofs.GameTexts.{due_head, due_in, due_tail}
use Rattle.dip_check_papers.proofs.Judging.{one_of_orders, tick_low}
use Rattle.dip_check_papers.proofs.LineLemmas.{next_mark, no_mark, some_cut}
use Rattle.dip_check_papers.proofs.OneAnswer.{same_part}
use Rattle.dip_check_papers.proofs.ToldLines.{alike_in, told_furthest}

-- ---- a text beside a paper, up to the paper's last U

after_both : (a c t : List ℕ) → after_name (a ++ c) t ≡ (after_name a t >>= after_name c)
after_both [] c t = refl
after_both (n ∷ ns) c [] = refl
after_both (n ∷ ns) c (b ∷ bs) = go (b == n) (after_both ns c bs)
  where
    go : (s : Bool) → after_name (ns ++ c) bs ≡ (after_name ns bs >>= after_name c)
        → cond {A = Option (List ℕ)} s (after_name (ns ++ c) bs) None ≡ (cond {A = Option (List ℕ)} s (after_name ns bs) None >>= after_name c)
    go true rest = rest
    go false rest = refl

-- what is left of the text is after its own mark
pub left_cut : (at left a rest : List ℕ) → Some (a, rest) ≡ cut_at 85 at → (more next : List ℕ) → Some more ≡ after_name a left → Some next ≡ after_name (codes "U") more
    → Some (a, next) ≡ cut_at 85 left
left_cut at left a rest cut more next one two =
    let is : left ≡ a ++ 85 ∷ next = after_takes a left more (sym one) ∙ ap (λ (t : List ℕ). a ++ t) (after_takes (codes "U") more next (sym two)) in
    sym (ap (cut_at 85) is ∙ cut_again 85 a next (cut_takes 85 at (a, rest) (sym cut)).0)

-- of a paper with its last mark before this tail, what is left of it and of a text, where both are alike so far
abbrev pub StandsAt : (head tail text at left : List ℕ) → Type 0
StandsAt head tail text at left =
    ((at ≡ tail) × (after_name (head ++ 85 ∷ []) text ≡ Some left))
    ⊎ ((h : List ℕ) × (at ≡ h ++ 85 ∷ tail) × (after_name (head ++ 85 ∷ []) text ≡ after_name (h ++ 85 ∷ []) left))

module _ (head tail text at left : List ℕ) (lacks : Lacks 85 tail) where
  -- where no mark is left
  pub stands_last : None ≡ cut_at 85 at → StandsAt head tail text at left → Some left ≡ after_name (head ++ 85 ∷ []) text
  stands_last none (inl here) = sym here.1
  stands_last none (inr found) = absurd (some_cut 85 found.0 tail (ap (cut_at 85) (sym found.1) ∙ sym none))

  module _ (a rest : List ℕ) (cut : Some (a, rest) ≡ cut_at 85 at) where
    takes : Lacks 85 a × (at ≡ a ++ 85 ∷ rest)
    takes = cut_takes 85 at (a, rest) (sym cut)

    -- what is before the next mark: all up to the last one, or up to a mark before it
    front : (h : List ℕ) → at ≡ h ++ 85 ∷ tail → ((rest ≡ tail) × (h ≡ a)) ⊎ ((k : List ℕ) × (rest ≡ k ++ 85 ∷ tail) × (h ≡ a ++ 85 ∷ k))
    front h is =
        let both : a ++ 85 ∷ rest ≡ h ++ 85 ∷ tail = sym takes.1 ∙ is in
        elim (next_mark 85 a rest h tail takes.0 both) [
          | inl same ↦ inl (same, append_cancel_right h a (85 ∷ tail) (sym both ∙ ap (λ (r : List ℕ). a ++ 85 ∷ r) same))
          | inr more ↦
              let whole : h ++ 85 ∷ tail ≡ (a ++ 85 ∷ more.0) ++ 85 ∷ tail = sym both ∙ ap (λ (r : List ℕ). a ++ 85 ∷ r) more.1 ∙ sym (append_assoc a (85 ∷ more.0) (85 ∷ tail)) in
              inr (more.0, more.1, append_cancel_right h (a ++ 85 ∷ more.0) (85 ∷ tail) whole)
        ]

    no_more : at ≡ tail → ⊥
    no_more is = no_mark 85 a rest (subst (Lacks 85) (sym is ∙ takes.1) lacks)

    -- one step further
    pub stands_further : (more next : List ℕ) → Some more ≡ after_name a left → Some next ≡ after_name (codes "U") more → StandsAt head tail text at left → StandsAt head tail text rest next
    stands_further more next one two (inl here) = absurd (no_more here.0)
    stands_further more next one two (inr found) = elim (front found.0 found.1) [
      | inl last ↦ inl (last.0, found.2 ∙ ap (λ (h : List ℕ). after_name (h ++ 85 ∷ []) left) last.1 ∙ step [])
      | inr on ↦ inr (on.0, on.1, found.2 ∙ ap (λ (h : List ℕ). after_name (h ++ 85 ∷ []) left) on.2 ∙ ap (λ (t : List ℕ). after_name t left) (append_assoc a (85 ∷ on.0) (85 ∷ [])) ∙ later (on.0 ++ 85 ∷ []))
    ]
      where
        later : (k : List ℕ) → after_name (a ++ 85 ∷ k) left ≡ after_name k next
        later k = after_both a (85 ∷ k) left ∙ ap (λ (o : Option (List ℕ)). o >>= after_name (85 ∷ k)) (sym one) ∙ after_both (85 ∷ []) k more ∙ ap (λ (o : Option (List ℕ)). o >>= after_name k) (sym two)

        step : (k : List ℕ) → after_name (a ++ 85 ∷ k) left ≡ after_name k next
        step k = later k

    -- where the text differs
    pub stands_no_more : (None ≡ after_name a left) ⊎ ((more : List ℕ) × (Some more ≡ after_name a left) × (None ≡ after_name (codes "U") more)) → StandsAt head tail text at left
        → None ≡ after_name (head ++ 85 ∷ []) text
    stands_no_more differs (inl here) = absurd (no_more here.0)
    stands_no_more differs (inr found) = elim (front found.0 found.1) [
      | inl last ↦ sym (found.2 ∙ ap (λ (h : List ℕ). after_name (h ++ 85 ∷ []) left) last.1 ∙ gone [])
      | inr on ↦ sym (found.2 ∙ ap (λ (h : List ℕ). after_name (h ++ 85 ∷ []) left) on.2 ∙ ap (λ (t : List ℕ). after_name t left) (append_assoc a (85 ∷ on.0) (85 ∷ [])) ∙ gone (on.0 ++ 85 ∷ []))
    ]
      where
        gone : (k : List ℕ) → after_name (a ++ 85 ∷ k) left ≡ None
        gone k = elim differs [
          | inl none ↦ after_both a (85 ∷ k) left ∙ ap (λ (o : Option (List ℕ)). o >>= after_name (85 ∷ k)) (sym none)
          | inr x ↦ after_both a (85 ∷ k) left ∙ ap (λ (o : Option (List ℕ)). o >>= after_name (85 ∷ k)) (sym x.1) ∙ after_both (85 ∷ []) k x.0 ∙ ap (λ (o : Option (List ℕ)). o >>= after_name k) (sym x.2)
        ]

-- ---- papers of one phase at different ticks

module _ (m : Chart) (p : Public) (board : Position) (report : Report) (text : List ℕ) (told : ℕ) where
  -- the public part and the paper of a tick
  abbrev pub part : ℕ → Public
  part t = public_played t p board report.course

  abbrev pub paper : ℕ → List ℕ
  paper t = paper_text m report (part t)

  -- the text tells the tick where it prints its due one after the front that all papers have
  abbrev pub Reads : Type 0
  Reads = (tick : ℕ) (rest : List ℕ) → text ≡ due_head m report (part p.due) ++ 85 ∷ (codes "E " ++ (decimal (tick + p.period) ++ 32 ∷ rest)) → p.due ≤ tick → tick ≤ 999999999999 → told ≡ tick

  abbrev front_of : List ℕ
  front_of = due_head m report (part p.due) ++ codes "UE "

  -- a paper in a game that goes on: the front, its due tick, and an end that all have
  goes_paper : (t : ℕ) → report.course ≡ GoesOn → paper t ≡ due_head m report (part p.due) ++ 85 ∷ (codes "E " ++ (decimal (t + p.period) ++ 32 ∷ due_tail m (part p.due)))
  goes_paper t goes =
      due_in m report (part t)
      ∙ ap (λ (c : Course). due_head m report (part p.due) ++ 85 ∷ (codes "E " ++ (decimal (due_after t p.due p.period c) ++ 32 ∷ due_tail m (part p.due)))) goes

  fronted : (t : ℕ) → report.course ≡ GoesOn → paper t ≡ front_of ++ (decimal (t + p.period) ++ 32 ∷ due_tail m (part p.due))
  fronted t goes = goes_paper t goes ∙ sym (append_assoc (due_head m report (part p.due)) (codes "UE ") (decimal (t + p.period) ++ 32 ∷ due_tail m (part p.due)))

  is_over : (report.course ≡ GoesOn → ⊥) → (t : ℕ) → paper t ≡ paper told
  is_over over t = ap (paper_text m report) (same_part p t told board report.course (λ goes. absurd (over goes)))

  module _ (reads : Reads) where
    -- no paper of another tick is further alike
    pub as_far : (t : ℕ) → p.due ≤ t → t ≤ 999999999999 → alike_in text (paper t) ≤ alike_in text (paper told)
    as_far t low timely = by report.course refl
      where
        over : paper t ≡ paper told → alike_in text (paper t) ≤ alike_in text (paper told)
        over same = let equal : alike_in text (paper t) ≡ alike_in text (paper told) = ap (alike_in text) same in omega (arith, equal)

        by : (c : Course) → report.course ≡ c → alike_in text (paper t) ≤ alike_in text (paper told)
        by GoesOn goes =
            let far = told_furthest front_of text (due_tail m (part p.due)) (t + p.period) (told + p.period)
            (λ rest is. ap (λ (k : ℕ). k + p.period) (reads t rest (is ∙ append_assoc (due_head m report (part p.due)) (codes "UE ") (decimal (t + p.period) ++ 32 ∷ rest)) low timely)) in
            let one : alike_in text (paper t) ≡ alike_in text (front_of ++ (decimal (t + p.period) ++ 32 ∷ due_tail m (part p.due))) = ap (alike_in text) (fronted t goes) in
            let two : alike_in text (paper told) ≡ alike_in text (front_of ++ (decimal (told + p.period) ++ 32 ∷ due_tail m (part p.due))) = ap (alike_in text) (fronted told goes) in
            omega (arith, far, one, two)
        by (Won r) is = over (is_over (λ goes. let bad : GoesOn ≡ Won r = sym goes ∙ is in cc) t)
        by Ended is = over (is_over (λ goes. let bad : GoesOn ≡ Ended = sym goes ∙ is in cc) t)

    -- and a text that is a paper is that of the tick that it tells
    pub its_own : (t : ℕ) → p.due ≤ t → t ≤ 999999999999 → text ≡ paper t → part told ≡ part t
    its_own t low timely is = same_part p told t board report.course (λ goes. reads t (due_tail m (part p.due)) (is ∙ goes_paper t goes) low timely)

-- a text that isn't the paper of the tick that it tells is told beside all papers of these orders
pub told_of : PhasesHaveOneResult → (m : Chart) (p : Public) (orders : List PlacedOrder) (board : Position) (report : Report) (text : List ℕ) (told : ℕ) (fault : Fault)
    → IsPlayed m p.board orders board report → IsTick p told → Reads m p board report text told → text ≢ paper m p board report text told told
    → fault.line ≡ first_other text (paper m p board report text told told) → IsToldOf m p orders text fault
told_of one_result m p orders board report text told fault played ticks reads differ tells = record {
  none = λ tick b r at h is.
      let own = its_own m p board report text told reads tick (tick_low p tick at) at.timely (is ∙ sym (same tick b r h)) in
      differ (is ∙ sym (same tick b r h) ∙ ap (paper_text m report) (sym own));
  furthest = λ tick b r at h.
      let far = as_far m p board report text told reads tick (tick_low p tick at) at.timely in
      let equal : alike_in text (paper_at m p tick board report) ≡ alike_in text (paper_at m p tick b r) = ap (alike_in text) (same tick b r h) in
      omega (arith, far, equal, tells);
  first = (told, ticks, λ b r h. tells ∙ ap (first_other text) (same told b r h));
}
  where
    same : (tick : ℕ) (b : Position) (r : Report) → IsPlayed m p.board orders b r → paper_at m p tick board report ≡ paper_at m p tick b r
    same tick b r h = one_of_orders one_result m p tick orders (paper_at m p tick board report) board report played refl b r h
