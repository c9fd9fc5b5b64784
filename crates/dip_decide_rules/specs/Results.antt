-- What a resolution says.
use Rattle.std.specs.Prelude.{◌≡◌, ℕ, ◌&&◌, cond, nat_lt, Bool, true, false, List, [], ◌∷◌, filter, Option, None, Some}
use Rattle.std.specs.List.{slice_index_or, list_any, list_all, count_by, sum_by}
use Rattle.dip_map.specs.Charts.{Chart, provs}
use Rattle.dip_decide_rules.specs.declared.decisions.Decision.{Decision}
use Rattle.dip_decide_rules.specs.declared.decisions.Decision.TheVariants.{Move, Path, Support}
use Rattle.dip_decide_rules.specs.declared.decisions.Resolution.{Resolution}
use Rattle.dip_decide_rules.specs.declared.decisions.Step as Written
use Rattle.dip_decide_rules.specs.declared.decisions.Step.TheVariants.{Forced, Circle, Knot}
use Rattle.dip_decide_rules.specs.Deciding.Step.{Forced as Forces}
use Rattle.dip_decide_rules.specs.Deciding.{Assignment, Known, Step, Explains, is_broken}
use Rattle.dip_decide_rules.specs.Movement.{Situation, is_listed, is_decided, at_first, rule, mentions}
use Rattle.dip_decide_rules.specs.Steps.{decisions}
use Rattle.dip_map.specs.Boards.{are_ascending}

-- the values that a resolution gives
abbrev pub values_in : Resolution → Assignment
values_in r (Move p) = is_listed r.moves.items p
values_in r (Path p) = is_listed r.paths.items p
values_in r (Support p) = is_listed r.supports.items p

-- the paths that it broke
abbrev pub broken_in : Resolution → Decision → Bool
broken_in r (Path p) = is_listed r.broken.items p
broken_in r _ = false

-- the steps lead from the first to the last to these values
abbrev pub AreExplained : Situation → List Step → Assignment → Type 0
AreExplained s steps a = Explains (rule s) (mentions s) (at_first s) steps a

-- whatever steps explain the same come to these values, and break these paths
abbrev pub IsOnly : Situation → Resolution → Type 0
IsOnly s r = (steps : List Step) (a : Assignment) → AreExplained s steps a → (d : Decision) → (values_in r d ≡ a d) × (broken_in r d ≡ is_broken steps d)

-- how many decisions there are
abbrev pub decided_in : Situation → ℕ
decided_in s = count_by (is_decided s) (decisions s.places)

-- a step that gives a decision the value to which it is forced
abbrev pub is_forced : Step → Bool
is_forced (Forces d) = true
is_forced _ = false

-- how many of these steps are such
abbrev pub forced_in : List Step → ℕ
forced_in steps = count_by is_forced steps

-- how many of these decisions mention e
abbrev pub mentioned_by : Situation → Decision → List Decision → ℕ
mentioned_by s e ds = count_by (λ d. is_decided s d && mentions s d e) ds

abbrev pub mentioners : Situation → Decision → ℕ
mentioners s e = mentioned_by s e (decisions s.places)

-- how many pairs of decisions there are of which the one mentions the other
abbrev pub mentions_in : Situation → ℕ
mentions_in s = sum_by (λ e. cond (is_decided s e) (mentioners s e) 0) (decisions s.places)

abbrev pub AreInOrder : Resolution → Type 0
AreInOrder r = (are_ascending r.moves.items ≡ true) × (are_ascending r.paths.items ≡ true) × (are_ascending r.supports.items ≡ true) × (are_ascending r.broken.items ≡ true)

-- it is known and true
abbrev pub is_true : Option Bool → Bool
is_true None = false
is_true (Some v) = v

-- the provinces of a column with true
abbrev pub trues : List (Option Bool) → Chart → List ℕ
trues column m = filter (λ p. is_true (slice_index_or column p (Some false))) (provs m)

-- a step breaks the path of p
abbrev pub breaks : Written.Step → ℕ → Bool
breaks (Forced d) p = false
breaks (Circle ps) p = false
breaks (Knot ps) p = is_listed ps.items p

abbrev pub is_knot : Written.Step → Bool
is_knot (Forced d) = false
is_knot (Circle ps) = false
is_knot (Knot ps) = true

-- the lists are those of the values and of the broken paths
pub record IsListing (written : List Written.Step) (k : Known) (made : ℕ) (m : Chart) (r : Resolution) : Type 0 where
  pub moves : r.moves.items ≡ filter (λ p. is_true (k (Move p))) (provs m)
  pub paths : r.paths.items ≡ filter (λ p. is_true (k (Path p))) (provs m)
  pub supports : r.supports.items ≡ filter (λ p. is_true (k (Support p))) (provs m)
  pub broken : r.broken.items ≡ filter (λ p. list_any (λ s. breaks s p) written) (provs m)
  pub steps : r.steps.items ≡ written
  pub tests : r.tests ≡ made
