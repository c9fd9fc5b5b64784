-- What each step of a letter keeps, clients that are served keep.
use Rattle.std.proofs.Common.{inl, inr, List, [], ◌∷◌, ◌++◌, zero, suc, subst, sym, ℕ}
use Rattle.dip_map.specs.Charts.{Chart}
use Rattle.dip_desk_state.specs.State.{State}
use Rattle.dip_desk_machine.specs.View.{Turn}
use Rattle.dip_desk_machine.proofs.RunLemmas.{AreMailed, StepsKeep, run_keeps}
use Rattle.dip_http.specs.Laws.{AreTurnsOf}
use Rattle.dip_http.specs.Serving.{Serves, TakesOne, VisitAll, Visits}

mailed_both : (xs ys : List Turn) → AreMailed xs → AreMailed ys → AreMailed (xs ++ ys)
mailed_both [] ys one two = two
mailed_both (x ∷ xs) ys one two = (one.0, mailed_both xs ys one.1 two)

posted : (input answer : List ℕ) (ts : List Turn) → AreTurnsOf input answer ts → AreMailed ts
posted input answer [] h = tt
posted input answer (t ∷ []) h = (h.post.letter.fits, tt)
posted input answer (t ∷ u ∷ ts) h = absurd h

visit_mailed : (m : Chart) (old new : State) (ts : List Turn) → Visits m old ts new → AreMailed ts
visit_mailed m old new ts (inl idle) = subst AreMailed (sym idle.0) tt
visit_mailed m old new ts (inr visit) = posted visit.input visit.answer ts visit.turns_of

visits_mailed : (m : Chart) (count : ℕ) (old new : State) (ts : List Turn) → VisitAll m count old ts new → AreMailed ts
visits_mailed m zero old new ts h = subst AreMailed (sym h.0) tt
visits_mailed m (suc n) old new ts h =
    subst AreMailed (sym h.3) (mailed_both h.1 h.2 (visits_mailed m n old h.0 h.1 h.4) (visit_mailed m h.0 new h.2 h.5))

module _ (m : Chart) (P : State → Type 0) (steps : StepsKeep m P) where
  pub served_keep : (count : ℕ) (old new : State) → Serves m count old new → P old → P new
  served_keep count old new served was = run_keeps m P steps served.turns old new (visits_mailed m count old new served.turns served.visits) served.run was

  pub one_keeps : (old new : State) → TakesOne m old new → P old → P new
  one_keeps old new (it, r, is, step) was = steps old it r new is step was
