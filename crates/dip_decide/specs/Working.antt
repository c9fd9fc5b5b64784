-- The worklist: which decisions are to be tested, and how many tests that makes.
use Rattle.std.specs.Prelude.{◌≡◌, ℕ, ◌+◌, ◌≤◌, ◌&&◌, Bool, true, false, List, length, cond, None, filter}
use Rattle.std.specs.List.{sum_by, count_by}
use Rattle.dip_decide_rules.specs.declared.decisions.Decision.{Decision}
use Rattle.dip_decide_rules.specs.Deciding as Deciding
use Rattle.dip_decide_rules.specs.Deciding.{is_among, Known, IsForced, give}
use Rattle.dip_decide_rules.specs.Movement.{Situation, is_decided, rule, mentions}
use Rattle.dip_decide_rules.specs.Results.{decided_in, forced_in, mentioned_by, mentioners, mentions_in}
use Rattle.dip_decide_rules.specs.Steps.{decisions, is_unknown, Continues, Grows}

-- what those of these weigh that are open
abbrev pub weight : (Decision → ℕ) → Known → List Decision → ℕ
weight w k ds = sum_by (λ e. cond (is_unknown (k e)) (w e) 0) ds

-- of these decisions, those that are open
abbrev pub opens : Known → List Decision → List Decision
opens k ds = filter (λ d. is_unknown (k d)) ds

-- what is open of these decisions came on the list, and no more than that
pub record HasOpen (k : Known) (ds old new : List Decision) : Type 0 where
  pub kept : (d : Decision) → is_among d old ≡ true → is_among d new ≡ true
  pub put : (d : Decision) → is_among d ds ≡ true → k d ≡ None → is_among d new ≡ true
  pub few : length new ≤ length old + length (opens k ds)

-- at least as many tests were made as forced steps were written
abbrev pub Counts : List Deciding.Step → ℕ → List Deciding.Step → ℕ → Type 0
Counts old t new u = forced_in new + t ≤ forced_in old + u

-- who isn't on the list isn't forced, and what is on it and the mentions that are left make no more tests than there may be
pub record IsWork (s : Situation) (k : Known) (work : List Decision) (tests : ℕ) : Type 0 where
  pub tested : (d : Decision) → is_among d work ≡ false → (b : Bool) → IsForced (rule s) k d b → ⊥
  pub few : tests + (length work + weight (mentioners s) k (decisions s.places)) ≤ decided_in s + mentions_in s

-- of these decisions, those that are open and mention e came on the list, each once
pub record IsPut (s : Situation) (k : Known) (e : Decision) (ds : List Decision) (old new : List Decision) : Type 0 where
  pub kept : (d : Decision) → is_among d old ≡ true → is_among d new ≡ true
  pub put : (d : Decision) → is_among d ds ≡ true → mentions s d e ≡ true → k d ≡ None → is_among d new ≡ true
  pub few : length new ≤ length old + mentioned_by s e ds

-- how many of those that mention e are on the list
abbrev pub listed_by : Situation → Decision → List Decision → ℕ
listed_by s e list = count_by (λ d. (is_decided s d && mentions s d e) && is_among d list) (decisions s.places)

-- of these decisions, those that are open and mention e came on the list, and no more came on it than mentioners of e that weren't there
pub record IsTaken (s : Situation) (k : Known) (e : Decision) (ds : List Decision) (old new : List Decision) : Type 0 where
  pub kept : (d : Decision) → is_among d old ≡ true → is_among d new ≡ true
  pub put : (d : Decision) → is_among d ds ≡ true → mentions s d e ≡ true → k d ≡ None → is_among d new ≡ true
  pub few : length new + listed_by s e old ≤ length old + listed_by s e new

-- those that mention one of these and are open came on the list
pub record IsListed (s : Situation) (k : Known) (es : List Decision) (old new : List Decision) : Type 0 where
  pub kept : (d : Decision) → is_among d old ≡ true → is_among d new ≡ true
  pub put : (d e : Decision) → is_among e es ≡ true → mentions s d e ≡ true → k d ≡ None → is_among d new ≡ true
  pub few : length new ≤ length old + sum_by (mentioners s) es

-- what explained the values before explains them still, with the steps written since; the list is as it should be
pub record IsWorked (s : Situation) (old : List Deciding.Step) (k : Known) (new : List Deciding.Step) (l : Known) (list : List Decision) (tests : ℕ) : Type 0 where
  pub explained : (first : Known) → Continues (rule s) (mentions s) first old k → Continues (rule s) (mentions s) first new l
  pub grows : Grows k l
  pub work : IsWork s l list tests

-- the list stays as it should be, however many tests were made
abbrev pub StaysWork : Situation → Known → List Decision → Known → List Decision → Type 0
StaysWork s k old l new = (t : ℕ) → IsWork s k old t → IsWork s l new t
