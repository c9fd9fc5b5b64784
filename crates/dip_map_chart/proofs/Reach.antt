-- What is found by levels are the least distances.
use Rattle.std.proofs.Common.{◌≡◌, ℕ, ◌+◌, ◌<◌, ◌≤◌, ◌==◌, not, ◌⊎◌, Bool, true, false, zero, suc, get_or, drop, length, cond, List, [], ◌∷◌, refl, sym, ◌∙◌, ap, inl, inr, arith}
use Rattle.std.proofs.lemmas.Bool.{and_parts, false≢true, cases_Bool, cases_lt, eqb-true, eq-eqb}
use Rattle.std.proofs.lemmas.Bool.Decides.{nat_tests}
use Rattle.std.proofs.lemmas.List.{drop_more}
use Rattle.std.specs.List.{list_any}
use Rattle.dip_map_chart.specs.Walk.{Walk, at, has_edge, AreLeast}
use Rattle.dip_map_chart.specs.Levels.{is_reached, sweep_from, is_quiet, levels_at_start}

-- how many vertices have no distance
abbrev pub unmarked : List ℕ → ℕ
unmarked [] = 0
unmarked (d ∷ ds) = cond (d == 1000) 1 0 + unmarked ds

-- the distances up to a level are found
pub record IsLevel (rows : List (List ℕ)) (homes : List Bool) (dist : List ℕ) (level : ℕ) : Type 0 where
  pub count : length dist ≡ length rows
  pub capped : (a : ℕ) → at dist a ≤ 1000
  pub walk : (a : ℕ) → at dist a < 1000 → Walk rows homes a (at dist a)
  pub near : (a : ℕ) → at dist a < 1000 → at dist a ≤ level
  pub least : (a m : ℕ) → m ≤ level → Walk rows homes a m → at dist a ≤ m
  pub room : level + unmarked dist ≤ length rows
  pub few : length rows < 999

-- past the end

past : (ds : List ℕ) (k : ℕ) → length ds ≤ k → at ds k ≡ 1000
past [] k h = refl
past (d ∷ ds) zero h = absurd (omega arith)
past (d ∷ ds) (suc k) h = past ds k (omega arith)

none_reached : (dist : List ℕ) (level d : ℕ) → is_reached dist level d [] ≡ false
none_reached dist level d = elim (cases_Bool (d == 1000)) [ inl e ↦ rw e | inr e ↦ rw e ]

-- who is reached

witness : (f : ℕ → Bool) (row : List ℕ) → list_any f row ≡ true → (c : ℕ) × (list_any (λ x. x == c) row ≡ true) × (f c ≡ true)
witness f [] h = absurd (false≢true h)
witness f (x ∷ xs) h =
    elim (cases_Bool (f x)) [
      | inl e ↦ (x, rw (eq-eqb x x refl), e)
      | inr e ↦
          let (c, in_xs, fc) = witness f xs (rw e at h) in
          (c, elim (cases_Bool (x == c)) [ inl s ↦ rw s | inr s ↦ rw (s, in_xs) ], fc)
    ]

present : (f : ℕ → Bool) (row : List ℕ) (c : ℕ) → list_any (λ x. x == c) row ≡ true → f c ≡ true → list_any f row ≡ true
present f [] c h fc = h
present f (x ∷ xs) c h fc =
    elim (cases_Bool (x == c)) [
      | inl s ↦ let e : f x ≡ true = rw (eqb-true x c s) fc in rw e
      | inr s ↦
          let more : list_any f xs ≡ true = present f xs c (rw s at h) fc in
          elim (cases_Bool (f x)) [ inl e ↦ rw e | inr e ↦ rw (e, more) ]
    ]

reached_far : (dist : List ℕ) (level d : ℕ) (row : List ℕ) → is_reached dist level d row ≡ true → d ≡ 1000
reached_far dist level d row h =
    let (far, some) = and_parts (d == 1000) (list_any (λ c. at dist c == level) row) h in
    eqb-true d 1000 far

reached_by : (dist : List ℕ) (level d : ℕ) (row : List ℕ) → is_reached dist level d row ≡ true → (c : ℕ) × (list_any (λ x. x == c) row ≡ true) × (at dist c ≡ level)
reached_by dist level d row h =
    let (far, some) = and_parts (d == 1000) (list_any (λ c. at dist c == level) row) h in
    let (c, edge, same) = witness (λ c. at dist c == level) row some in
    (c, edge, eqb-true (at dist c) level same)

reached_from : (dist : List ℕ) (level d : ℕ) (row : List ℕ) (c : ℕ) → d ≡ 1000 → list_any (λ x. x == c) row ≡ true → at dist c ≡ level → is_reached dist level d row ≡ true
reached_from dist level d row c far edge same =
    let some : list_any (λ c. at dist c == level) row ≡ true = present (λ c. at dist c == level) row c edge (eq-eqb (at dist c) level same) in
    rw (eq-eqb d 1000 far, some)

-- one more level

swept_at : (dist : List ℕ) (level i : ℕ) (rs : List (List ℕ)) (k : ℕ) → length dist ≡ i + length rs
    → at (sweep_from dist level i rs) k ≡ cond (is_reached dist level (at dist (i + k)) (get_or rs k [])) (level + 1) (at dist (i + k))
swept_at dist level i [] k h = rw (none_reached dist level (at dist (i + k)), past dist (i + k) (omega arith))
swept_at dist level i (r ∷ rs) zero h = let e : i + 0 ≡ i = omega arith in rw e refl
swept_at dist level i (r ∷ rs) (suc k) h =
    let e : i + suc k ≡ (i + 1) + k = omega arith in
    rw e (swept_at dist level (i + 1) rs k (omega arith))

length-swept : (dist : List ℕ) (level i : ℕ) (rs : List (List ℕ)) → length (sweep_from dist level i rs) ≡ length rs
length-swept dist level i [] = refl
length-swept dist level i (r ∷ rs) = ap suc (length-swept dist level (i + 1) rs)

after : (rows : List (List ℕ)) (dist : List ℕ) (level a : ℕ) → length dist ≡ length rows
    → ((is_reached dist level (at dist a) (get_or rows a []) ≡ true) × (at (sweep_from dist level 0 rows) a ≡ level + 1))
    ⊎ ((is_reached dist level (at dist a) (get_or rows a []) ≡ false) × (at (sweep_from dist level 0 rows) a ≡ at dist a))
after rows dist level a same =
    let e : 0 + a ≡ a = omega arith in
    let found = rw e at (swept_at dist level 0 rows a (omega arith)) in
    elim (cases_Bool (is_reached dist level (at dist a) (get_or rows a []))) [
      | inl s ↦ inl (s, rw s at found)
      | inr s ↦ inr (s, rw s at found)
    ]

-- what isn't quiet marks a vertex

some_unmarked : (dist : List ℕ) (level i : ℕ) (rs : List (List ℕ)) → length dist ≡ i + length rs → is_quiet dist level i rs ≡ false → 1 ≤ unmarked (drop i dist)
some_unmarked dist level i [] h q = absurd (false≢true (sym q))
some_unmarked dist level i (r ∷ rs) h q =
    let cut = drop_more dist i 1000 (omega arith) in
    rw cut (elim (cases_Bool (is_reached dist level (at dist i) r)) [
      | inl s ↦
          let far : at dist i == 1000 ≡ true = eq-eqb _ _ (reached_far dist level (at dist i) r s) in
          rw far (omega arith)
      | inr s ↦ let more = some_unmarked dist level (i + 1) rs (omega arith) (rw s at q) in omega arith
    ])

kept : (dist : List ℕ) (level i : ℕ) (rs : List (List ℕ)) → length dist ≡ i + length rs → level + 1 < 1000 → unmarked (sweep_from dist level i rs) ≤ unmarked (drop i dist)
kept dist level i [] h small = omega arith
kept dist level i (r ∷ rs) h small =
    let cut = drop_more dist i 1000 (omega arith) in
    let more = kept dist level (i + 1) rs (omega arith) small in
    rw cut (elim (cases_Bool (is_reached dist level (at dist i) r)) [
      | inl s ↦
          let low : (level + 1) == 1000 ≡ false = grind (arith, nat_tests) in
          rw (s, low) (omega arith)
      | inr s ↦ rw s (omega arith)
    ])

fewer : (dist : List ℕ) (level i : ℕ) (rs : List (List ℕ)) → length dist ≡ i + length rs → level + 1 < 1000 → is_quiet dist level i rs ≡ false → unmarked (sweep_from dist level i rs) < unmarked (drop i dist)
fewer dist level i [] h small q = absurd (false≢true (sym q))
fewer dist level i (r ∷ rs) h small q =
    let cut = drop_more dist i 1000 (omega arith) in
    rw cut (elim (cases_Bool (is_reached dist level (at dist i) r)) [
      | inl s ↦
          let low : (level + 1) == 1000 ≡ false = grind (arith, nat_tests) in
          let far : at dist i == 1000 ≡ true = eq-eqb _ _ (reached_far dist level (at dist i) r s) in
          let more = kept dist level (i + 1) rs (omega arith) small in
          rw (s, low, far) (omega arith)
      | inr s ↦
          let more = fewer dist level (i + 1) rs (omega arith) small (rw s at q) in
          rw s (omega arith)
    ])

-- a level is kept

step_walk : (rows : List (List ℕ)) (homes : List Bool) (dist : List ℕ) (level a : ℕ) → IsLevel rows homes dist level
    → at (sweep_from dist level 0 rows) a < 1000 → Walk rows homes a (at (sweep_from dist level 0 rows) a)
step_walk rows homes dist level a v h =
    elim (after rows dist level a v.count) [
      | inl p ↦
          let (c, edge, same) = reached_by dist level (at dist a) (get_or rows a []) p.0 in
          let inner : Walk rows homes c level = let low : at dist c < 1000 = omega (arith, v.room, v.few) in rw same at (v.walk c low) in
          let next : at (sweep_from dist level 0 rows) a ≡ suc level = omega (arith, p.1) in
          rw next (c, edge, inner)
      | inr p ↦ let low : at dist a < 1000 = omega (arith, p.1) in rw p.1 (v.walk a low)
    ]

step_near : (rows : List (List ℕ)) (homes : List Bool) (dist : List ℕ) (level a : ℕ) → IsLevel rows homes dist level
    → at (sweep_from dist level 0 rows) a < 1000 → at (sweep_from dist level 0 rows) a ≤ level + 1
step_near rows homes dist level a v h =
    elim (after rows dist level a v.count) [
      | inl p ↦ omega (arith, p.1)
      | inr p ↦ let low : at dist a < 1000 = omega (arith, p.1) in omega (arith, p.1, v.near a low)
    ]

step_capped : (rows : List (List ℕ)) (homes : List Bool) (dist : List ℕ) (level a : ℕ) → IsLevel rows homes dist level → level + 1 < 1000
    → at (sweep_from dist level 0 rows) a ≤ 1000
step_capped rows homes dist level a v small =
    elim (after rows dist level a v.count) [
      | inl p ↦ omega (arith, p.1)
      | inr p ↦ omega (arith, p.1, v.capped a)
    ]

-- where a neighbour has a walk of this many steps, a isn't farther than one more
not_farther : (rows : List (List ℕ)) (homes : List Bool) (dist : List ℕ) (level a c : ℕ) → IsLevel rows homes dist level → has_edge rows a c ≡ true
    → is_reached dist level (at dist a) (get_or rows a []) ≡ false → at dist c ≤ level → at dist a ≤ at dist c + 1
not_farther rows homes dist level a c v edge rest near =
    elim (nat_cases (at dist c) level) [
      | inl below ↦
          let low : at dist c < 1000 = omega (arith, v.room, v.few) in
          let e : at dist c + 1 ≡ suc (at dist c) = omega arith in
          rw e (v.least a (suc (at dist c)) (omega arith) (c, edge, v.walk c low))
      | inr not_below ↦
          let same : at dist c ≡ level = omega arith in
          elim (nat_cases (at dist a) 1000) [
            | inl low ↦ omega (arith, v.near a low)
            | inr far ↦
                let e : at dist a ≡ 1000 = omega (arith, v.capped a) in
                absurd (false≢true (sym rest ∙ reached_from dist level (at dist a) (get_or rows a []) c e edge same))
          ]
    ]
  where
    nat_cases : (m n : ℕ) → (m < n) ⊎ (n ≤ m)
    nat_cases m n = cases_lt m n

step_least : (rows : List (List ℕ)) (homes : List Bool) (dist : List ℕ) (level a m : ℕ) → IsLevel rows homes dist level → level + 1 < 1000 → m ≤ level + 1
    → Walk rows homes a m → at (sweep_from dist level 0 rows) a ≤ m
step_least rows homes dist level a zero v small h w =
    elim (after rows dist level a v.count) [
      | inl p ↦ let far = reached_far dist level (at dist a) (get_or rows a []) p.0 in absurd (omega (arith, far, v.least a 0 (omega arith) w))
      | inr p ↦ omega (arith, p.1, v.least a 0 (omega arith) w)
    ]
step_least rows homes dist level a (suc m) v small h w =
    let (c, edge, inner) = w in
    let near : at dist c ≤ m = v.least c m (omega arith) inner in
    elim (after rows dist level a v.count) [
      | inl p ↦
          let far : at dist a ≡ 1000 = reached_far dist level (at dist a) (get_or rows a []) p.0 in
          elim (cases_lt m level) [
            | inl below ↦ absurd (omega (arith, far, v.least a (suc m) (omega arith) w))
            | inr top ↦ omega (arith, p.1)
          ]
      | inr p ↦ omega (arith, p.1, not_farther rows homes dist level a c v edge p.0 (omega arith))
    ]

pub level_step : (rows : List (List ℕ)) (homes : List Bool) (dist : List ℕ) (level : ℕ) → IsLevel rows homes dist level → is_quiet dist level 0 rows ≡ false
    → IsLevel rows homes (sweep_from dist level 0 rows) (level + 1) × (unmarked (sweep_from dist level 0 rows) < unmarked dist)
level_step rows homes dist level v q =
    let same : length dist ≡ 0 + length rows = omega (arith, v.count) in
    let some : 1 ≤ unmarked dist = some_unmarked dist level 0 rows same q in
    let small : level + 1 < 1000 = omega (arith, v.room, v.few) in
    let less : unmarked (sweep_from dist level 0 rows) < unmarked dist = fewer dist level 0 rows same small q in (
      record {
        count = length-swept dist level 0 rows;
        capped = λ a. step_capped rows homes dist level a v small;
        walk = λ a h. step_walk rows homes dist level a v h;
        near = λ a h. step_near rows homes dist level a v h;
        least = λ a m h w. step_least rows homes dist level a m v small h w;
        room = omega (arith, v.room);
        few = v.few;
      },
      less,
    )

-- the end

quiet_at : (dist : List ℕ) (level i : ℕ) (rs : List (List ℕ)) (k : ℕ) → is_quiet dist level i rs ≡ true → is_reached dist level (at dist (i + k)) (get_or rs k []) ≡ false
quiet_at dist level i [] k q = none_reached dist level (at dist (i + k))
quiet_at dist level i (r ∷ rs) zero q =
    let (here, more) = and_parts (not (is_reached dist level (at dist i) r)) (is_quiet dist level (i + 1) rs) q in
    let e : i + 0 ≡ i = omega arith in
    rw e (elim (cases_Bool (is_reached dist level (at dist i) r)) [ inl s ↦ absurd (false≢true (rw s at here)) | inr s ↦ s ])
quiet_at dist level i (r ∷ rs) (suc k) q =
    let (here, more) = and_parts (not (is_reached dist level (at dist i) r)) (is_quiet dist level (i + 1) rs) q in
    let e : i + suc k ≡ (i + 1) + k = omega arith in
    rw e (quiet_at dist level (i + 1) rs k more)

all_found : (rows : List (List ℕ)) (homes : List Bool) (dist : List ℕ) (level : ℕ) → IsLevel rows homes dist level → is_quiet dist level 0 rows ≡ true
    → (a m : ℕ) → Walk rows homes a m → (at dist a < 1000) × (at dist a ≤ m)
all_found rows homes dist level v q a zero w = let low : at dist a ≤ 0 = v.least a 0 (omega arith) w in (omega arith, low)
all_found rows homes dist level v q a (suc m) w =
    let (c, edge, inner) = w in
    let (low, near) = all_found rows homes dist level v q c m inner in
    let e : 0 + a ≡ a = omega arith in
    let rest : is_reached dist level (at dist a) (get_or rows a []) ≡ false = rw e at (quiet_at dist level 0 rows a q) in
    let bound : at dist c ≤ level = v.near c low in
    let one_more : at dist a ≤ at dist c + 1 = not_farther rows homes dist level a c v edge rest bound in (
      elim (cases_lt (at dist a) 1000) [
        | inl below ↦ below
        | inr far ↦
            -- then c is at the last level, and a would be reached
            absurd (omega (arith, v.room, v.few, one_more, bound))
      ],
      omega arith,
    )

pub level_end : (rows : List (List ℕ)) (homes : List Bool) (dist : List ℕ) (level : ℕ) → IsLevel rows homes dist level → is_quiet dist level 0 rows ≡ true → AreLeast rows homes dist
level_end rows homes dist level v q = record {
  walk = v.walk;
  least = λ a m w. (all_found rows homes dist level v q a m w).1;
  none = λ a m w. (all_found rows homes dist level v q a m w).0;
  capped = v.capped;
}

-- the beginning

started_at : (homes : List Bool) (a : ℕ) → at (levels_at_start homes) a ≡ cond (get_or homes a false) 0 1000
started_at [] a = refl
started_at (h ∷ hs) zero = refl
started_at (h ∷ hs) (suc a) = started_at hs a

length-started : (homes : List Bool) → length (levels_at_start homes) ≡ length homes
length-started [] = refl
length-started (h ∷ hs) = ap suc (length-started hs)

unmarked_le : (ds : List ℕ) → unmarked ds ≤ length ds
unmarked_le [] = omega arith
unmarked_le (d ∷ ds) = let more = unmarked_le ds in elim (cases_Bool (d == 1000)) [ inl e ↦ rw e (omega arith) | inr e ↦ rw e (omega arith) ]

at_start : (homes : List Bool) (a : ℕ) → ((get_or homes a false ≡ true) × (at (levels_at_start homes) a ≡ 0)) ⊎ ((get_or homes a false ≡ false) × (at (levels_at_start homes) a ≡ 1000))
at_start homes a =
    let found = started_at homes a in
    elim (cases_Bool (get_or homes a false)) [ inl e ↦ inl (e, rw e at found) | inr e ↦ inr (e, rw e at found) ]

start_walk : (rows : List (List ℕ)) (homes : List Bool) (a : ℕ) → at (levels_at_start homes) a < 1000 → Walk rows homes a (at (levels_at_start homes) a)
start_walk rows homes a h = elim (at_start homes a) [ inl p ↦ rw p.1 p.0 | inr p ↦ absurd (omega (arith, p.1)) ]

start_near : (homes : List Bool) (a : ℕ) → at (levels_at_start homes) a < 1000 → at (levels_at_start homes) a ≤ 0
start_near homes a h = elim (at_start homes a) [ inl p ↦ omega (arith, p.1) | inr p ↦ absurd (omega (arith, p.1)) ]

start_capped : (homes : List Bool) (a : ℕ) → at (levels_at_start homes) a ≤ 1000
start_capped homes a = elim (at_start homes a) [ inl p ↦ omega (arith, p.1) | inr p ↦ omega (arith, p.1) ]

start_least : (rows : List (List ℕ)) (homes : List Bool) (a m : ℕ) → m ≤ 0 → Walk rows homes a m → at (levels_at_start homes) a ≤ m
start_least rows homes a zero h w = elim (at_start homes a) [ inl p ↦ omega (arith, p.1) | inr p ↦ absurd (false≢true (sym p.0 ∙ w)) ]
start_least rows homes a (suc m) h w = absurd (omega arith)

pub level_start : (rows : List (List ℕ)) (homes : List Bool) → length homes ≡ length rows → length rows < 999 → IsLevel rows homes (levels_at_start homes) 0
level_start rows homes same few = record {
  count = length-started homes ∙ same;
  capped = start_capped homes;
  walk = start_walk rows homes;
  near = start_near homes;
  least = start_least rows homes;
  room = omega (arith, unmarked_le (levels_at_start homes), length-started homes);
  few = few;
}
