-- Tables of version 1 that are filled with rows that can be stored.
use Rattle.std.proofs.Common.{◌≡◌, ◌≤◌, ◌<◌, ◌⊎◌, inl, inr, Bool, true, false, ℕ, suc, ℤ, pos, ◌+◌, ◌+ℤ◌, List, [], ◌∷◌, ◌++◌, map, fold, length, length-append, append_assoc, take, drop, get_or, take-append-drop, String, string_bytes, IsTrue, leb, leb-false, leb-true, Ok, Err, Result, OnOk, refl, sym, ap, subst, subst₂, ◌∙◌, arith}
use Rattle.std.specs.List.{AllByRecursion}
use Rattle.std.specs.declared.alloc.Global.{Global}
use Rattle.std.proofs.lemmas.List.{map-append}
use Rattle.std.proofs.lemmas.Bool.{cases_Bool}
use Rattle.sqlite.specs.declared.error.Error.{Error}
use Rattle.sqlite.specs.declared.types.Value.TheVariants.{Int}
use Rattle.sqlite.specs.Edit.{id_in, next_rowid}
use Rattle.sqlite.specs.Effect.{Database}
use Rattle.sqlite.specs.Held.{Held, state}
use Rattle.sqlite.specs.Order.{Row}
use Rattle.sqlite.specs.State.{State, Executes, ExecutesInside, HasCleanDisk}
use Rattle.sqlite.specs.Store.{Ghosts}
use Rattle.sqlite.specs.Table.{Table}
use Rattle.sqlite.specs.Tree.{rowid}
use Rattle.dip_desk_state.specs.Rows.{lines}
use Rattle.dip_store_tables.proofs.ListLemmas.{ascending-map, map-map}
use Rattle.dip_store_tables.specs.Tables.{BallotRow, ChoiceRow, GameRow, Tables}
use Rattle.dip_store_tables.specs.Renewing.{old_ballot, old_choice, second, voteless}
use Rattle.dip_store_sql.proofs.Keyed.{are_keyed, front_apart}
use Rattle.dip_store_sql.specs.TablesAfter.{more_ballots, on_desk, on_seats, with_ballot, with_choice}
use Rattle.dip_store_sql.specs.Calls.{Turns, WasKept, Writes, does_show}
use Rattle.dip_store_sql.specs.Causes.{Faulted, IsCaused, has_faulted}
use Rattle.dip_store_sql.specs.Creating.{create_ballot, create_choice}
use Rattle.dip_store_sql.specs.Keys.{AreKeyed, BallotsDiffer, ChoicesDiffer, Differ, same_ballot, same_choice}
use Rattle.dip_store_sql.specs.Old.{HasOld, WasGood, nine_schema, old_schema, old_tables_of}
use Rattle.dip_store_sql.specs.Rows.{put_ballot, put_choice, take_ballot, take_choice}
use Rattle.dip_store_sql.specs.Schema.{ballot_table, choice_table, desk_table, seat_table}
use Rattle.dip_store_sql.specs.Storing.{AreSpared, CanStand, Stores, StoresBehind, next_row, second_row, voteless_row}
use Rattle.dip_store_sql.specs.Transactions.{Does, IsReady, always}
use Rattle.dip_store_sql.proofs.Caused.{faulted_late}
use Rattle.dip_store_sql.proofs.Created.{ballot_makes, choice_makes}
use Rattle.dip_store_sql.proofs.Creating.{table_more}
use Rattle.dip_store_sql.proofs.Defined.{ballot_defined, choice_defined}
use Rattle.dip_store_sql.proofs.Grown.{ballot_over, ballot_over_caused, choice_over}
use Rattle.dip_store_sql.proofs.Parts.{take_more, taken_both, went}
use Rattle.dip_store_sql.proofs.Wants.{rows_of_none}
use Rattle.dip_store_schema.specs.Making.{HasTables, IsSet, Tries}
use Rattle.dip_store_schema.specs.Renewing.{HasRoomAnew, more_choices, rows_from}
use Rattle.dip_store_schema.specs.Rewriting.{HasBallotsOver, HasDeskOf, Stands, StandsAt}
use Rattle.dip_store_schema.specs.Faults.{open_fault}
use Rattle.dip_store_schema.specs.declared.faults.StoreFault.TheVariants.{Disk}
use Rattle.dip_store_schema.proofs.Filling.{ballots_on, choices_on, none_of_ballots, none_of_choices}
use Rattle.dip_store_schema.proofs.Refused.{open_blamed}
use Rattle.dip_store_schema.proofs.Trying.{tries_then}

-- ---- a part of a transaction, by what it is told to find and to leave

-- what it leaves is so by another name
pub tries_so : {X : Type 0} (P Q R : Database → Type 0) (a b : State) (r : Result X Error) → ((db : Database) → Q db → R db) → Tries P Q a b r → Tries P R a b r
tries_so {X} P Q R a b r turn p = record { clean = p.clean; counts = p.counts; ready = λ clean set. turned r (p.ready clean set); fails = p.fails }
  where
    turned : (r : Result X Error) → OnOk r (IsSet Q b) → OnOk r (IsSet R b)
    turned (Ok x) it = record { inside = it.inside; up = it.up; unlimited = it.unlimited; now = turn b.now it.now }
    turned (Err e) it = tt

-- what it finds shows what it asks for
pub tries_from : {X : Type 0} (P Found Q : Database → Type 0) (K : Type 0) (a b : State) (r : Result X Error) → (HasCleanDisk b → HasCleanDisk a) → a.faults ≤ b.faults
    → ((db : Database) → P db → K × Found db) → (K → Tries Found Q a b r) → Tries P Q a b r
tries_from P Found Q K a b r clean counts shows part = record {
  clean = clean;
  counts = counts;
  ready = λ fair set. (part (shows a.now set.now).0).ready fair (found set);
  fails = λ fair set. (part (shows a.now set.now).0).fails fair (found set);
}
  where
    found : IsSet P a → IsSet Found a
    found set = record { inside = set.inside; up = set.up; unlimited = set.unlimited; now = (shows a.now set.now).1 }

-- ---- statements

next_last : (rows : List Row) (row : Row) → next_rowid (rows ++ row ∷ []) ≡ id_in (rowid row) +ℤ pos 1
next_last rows row = go rows (pos 1)
  where
    go : (rows : List Row) (z : ℤ) → fold (λ _ r. id_in (rowid r) +ℤ pos 1) z (rows ++ row ∷ []) ≡ id_in (rowid row) +ℤ pos 1
    go [] z = refl
    go (r ∷ rows) z = go rows (id_in (rowid r) +ℤ pos 1)

one_more : (n : ℕ) → pos n +ℤ pos 1 ≡ pos (suc n)
one_more n = ap pos (let e : n + 1 ≡ suc n = omega arith in e)

-- a row after the others, of a table that is neither the master's nor that of the seats
module _ {A : Type 0} (table : Table) (off : (0 ≡ table.tree → ⊥) × (4 ≡ table.tree → ⊥)) (put : A → Row) (f : Tables → Tables) (Such : Tables → Type 0) (old : Database) (t : Tables) (x : A) (n : ℕ) (a b : State) where
  at_hand : IsSet (StandsAt table.tree n old t) a → IsReady a
  at_hand set = record { inside = set.inside; up = set.up; unlimited = set.unlimited; good = set.now.0.has.0 }

  stands_on : (r : Result ℕ Error) → OnOk r (Turns f a b) → OnOk r (IsReady b) → OnOk r (AreSpared table a.now.trees b.now.trees)
      → OnOk r (b.now.trees table.tree ≡ a.now.trees table.tree ++ next_row put x (a.now.trees table.tree) ∷ []) → IsSet (StandsAt table.tree n old t) a → OnOk r (IsSet (StandsAt table.tree (suc n) old (f t)) b)
  stands_on (Ok c) turns ready spared behind set =
      let now = turns.good set.now.0.has.0 in
      let next = ap next_rowid behind ∙ next_last (a.now.trees table.tree) (next_row put x (a.now.trees table.tree)) ∙ ap (λ z. z +ℤ pos 1) set.now.1 ∙ one_more n in
      record {
        inside = ready.inside;
        up = ready.up;
        unlimited = ready.unlimited;
        now = (record { has = (now.0, now.1 ∙ ap f set.now.0.has.1); desk = spared.0 off.0 ∙ set.now.0.desk; seats = spared.1.1.0 off.1 ∙ set.now.0.seats }, next);
      }
  stands_on (Err e) turns ready spared behind set = tt

  pub tries_after_last : Such t → CanStand table (Int (pos n) ∷ put x) → {K : Tables → Type 0} (r : Result ℕ Error) → Does f K a b r → StoresBehind table Such (next_row put x) a b r
      → Tries (StandsAt table.tree n old t) (StandsAt table.tree (suc n) old (f t)) a b r
  tries_after_last such fits r does stores = record {
    clean = λ clean. omega (arith, clean, does.writes.survives.clean);
    counts = does.writes.survives.counts;
    ready = λ clean set. stands_on r (does.writes.runs clean) (does.ready clean (at_hand set)) (stores.stores.others clean (at_hand set)) (stores.behind clean (at_hand set)) set;
    fails = λ clean set. stores.stores.fails clean (at_hand set) (subst Such (sym set.now.0.has.1) such) (subst (λ (z : ℤ). CanStand table (Int z ∷ put x)) (sym set.now.1) fits, tt);
  }

-- a ballot, and a choice
abbrev pub BallotIs : {X : Type 0} → BallotRow → State → State → Result X Error → Type 0
BallotIs b a c r =
    (old : Database) (t : Tables) (n : ℕ) → Differ same_ballot (t.ballots ++ b ∷ []) → CanStand ballot_table (Int (pos n) ∷ put_ballot b)
    → Tries (StandsAt 16 n old t) (StandsAt 16 (suc n) old (more_ballots (b ∷ []) t)) a c r

abbrev pub ChoiceIs : {X : Type 0} → ChoiceRow → State → State → Result X Error → Type 0
ChoiceIs x a c r =
    (old : Database) (t : Tables) (n : ℕ) → Differ same_choice (t.choices ++ x ∷ []) → CanStand choice_table (Int (pos n) ∷ put_choice x)
    → Tries (StandsAt 18 n old t) (StandsAt 18 (suc n) old (more_choices (x ∷ []) t)) a c r

pub ballot_tries : (b : BallotRow) (a c : State) (r : Result ℕ Error) → Does (with_ballot b) BallotsDiffer a c r
    → StoresBehind ballot_table (λ t. Differ same_ballot (with_ballot b t).ballots) (next_row put_ballot b) a c r → BallotIs b a c r
ballot_tries b a c r does stores old t n apart fits =
    tries_after_last ballot_table (λ x. omega (arith, x), λ x. omega (arith, x)) put_ballot (with_ballot b) (λ t. Differ same_ballot (with_ballot b t).ballots) old t b n a c apart fits r does stores

pub choice_tries : (x : ChoiceRow) (a c : State) (r : Result ℕ Error) → Does (with_choice x) ChoicesDiffer a c r
    → StoresBehind choice_table (λ t. Differ same_choice (with_choice x t).choices) (next_row put_choice x) a c r → ChoiceIs x a c r
choice_tries x a c r does stores old t n apart fits =
    tries_after_last choice_table (λ x. omega (arith, x), λ x. omega (arith, x)) put_choice (with_choice x) (λ t. Differ same_choice (with_choice x t).choices) old t x n a c apart fits r does stores

-- no seat's row with a vote
module _ (old : Database) (t : Tables) (a b : State) where
  pub tries_votes : AllByRecursion (CanStand seat_table) (map voteless_row (old.trees 4)) → (r : Result ℕ Error) → Does (on_seats voteless) always a b r
      → Stores seat_table always (λ db. map voteless_row (db 4)) a b r → Tries (Stands old t) (HasDeskOf old (on_seats voteless t)) a b r
  tries_votes fits r does stores = record {
    clean = λ clean. omega (arith, clean, does.writes.survives.clean);
    counts = does.writes.survives.counts;
    ready = λ clean set. turned r (does.writes.runs clean) (does.ready clean (hand set)) (stores.others clean (hand set)) set;
    fails = λ clean set. stores.fails clean (hand set) tt (subst (λ (rows : List Row). AllByRecursion (CanStand seat_table) (map voteless_row rows)) (sym set.now.seats) fits);
  }
    where
      hand : IsSet (Stands old t) a → IsReady a
      hand set = record { inside = set.inside; up = set.up; unlimited = set.unlimited; good = set.now.has.0 }

      turned : (r : Result ℕ Error) → OnOk r (Turns (on_seats voteless) a b) → OnOk r (IsReady b) → OnOk r (AreSpared seat_table a.now.trees b.now.trees) → IsSet (Stands old t) a
          → OnOk r (IsSet (HasDeskOf old (on_seats voteless t)) b)
      turned (Ok c) turns ready spared set =
          let now = turns.good set.now.has.0 in
          record { inside = ready.inside; up = ready.up; unlimited = ready.unlimited; now = ((now.0, now.1 ∙ ap (on_seats voteless) set.now.has.1), spared.0 (λ x. omega (arith, x)) ∙ set.now.desk) }
      turned (Err e) turns ready spared set = tt

  -- and the master's row of version 2
  pub tries_version : AllByRecursion (CanStand desk_table) (map second_row (old.trees 0)) → (r : Result ℕ Error) → Does (on_desk second) always a b r
      → Stores desk_table always (λ db. map second_row (db 0)) a b r → Tries (HasDeskOf old t) (HasTables (on_desk second t)) a b r
  tries_version fits r does stores = record {
    clean = λ clean. omega (arith, clean, does.writes.survives.clean);
    counts = does.writes.survives.counts;
    ready = λ clean set. turned r (does.writes.runs clean) (does.ready clean (hand set)) set;
    fails = λ clean set. stores.fails clean (hand set) tt (subst (λ (rows : List Row). AllByRecursion (CanStand desk_table) (map second_row rows)) (sym set.now.1) fits);
  }
    where
      hand : IsSet (HasDeskOf old t) a → IsReady a
      hand set = record { inside = set.inside; up = set.up; unlimited = set.unlimited; good = set.now.0.0 }

      turned : (r : Result ℕ Error) → OnOk r (Turns (on_desk second) a b) → OnOk r (IsReady b) → IsSet (HasDeskOf old t) a → OnOk r (IsSet (HasTables (on_desk second t)) b)
      turned (Ok c) turns ready set =
          let now = turns.good set.now.0.0 in
          record { inside = ready.inside; up = ready.up; unlimited = ready.unlimited; now = (now.0, now.1 ∙ ap (on_desk second) set.now.0.1) }
      turned (Err e) turns ready set = tt

-- ---- loops

-- among records whose keys are apart, and whose rows can stand, so is each of them after those before it
apart_next : {A : Type 0} (same : A → A → Bool) (old front next rest all : List A) (x : A) → next ≡ front ++ x ∷ [] → all ≡ next ++ rest → Differ same (old ++ all) → Differ same ((old ++ front) ++ x ∷ [])
apart_next same old front next rest all x turn is apart =
    let whole : old ++ all ≡ ((old ++ front) ++ x ∷ []) ++ rest =
    ap (λ xs. old ++ xs) is ∙ sym (append_assoc old next rest) ∙ ap (λ xs. xs ++ rest) (ap (λ xs. old ++ xs) turn ∙ sym (append_assoc old front (x ∷ []))) in
    front_apart same ((old ++ front) ++ x ∷ []) rest (subst (Differ same) whole apart)

fits_next : {A : Type 0} (P : Row → Type 0) (put : A → Row) (n : ℕ) (front rest : List A) (x : A) → AllByRecursion P (rows_from (suc n) put (front ++ x ∷ rest)) → P (Int (pos (suc (n + length front))) ∷ put x)
fits_next P put n [] rest x all = let e : n ≡ n + 0 = omega arith in subst (λ (k : ℕ). P (Int (pos (suc k)) ∷ put x)) e all.0
fits_next P put n (y ∷ front) rest x all =
    let e : suc n + length front ≡ n + suc (length front) = omega arith in
    subst (λ (k : ℕ). P (Int (pos (suc k)) ∷ put x)) e (fits_next P put (suc n) front rest x all.1)

module _ {A : Type 0} (table : Table) (put : A → Row) (list : Tables → List A) (same : A → A → Bool) (grow : List A → Tables → Tables)
    (lists : (xs : List A) (t : Tables) → list (grow xs t) ≡ list t ++ xs) (both : (xs : List A) (x : A) (t : Tables) → grow (x ∷ []) (grow xs t) ≡ grow (xs ++ x ∷ []) t)
    (old : Database) (t : Tables) (all : List A) (apart : Differ same (list t ++ all)) (fits : AllByRecursion (CanStand table) (rows_from 1 put all)) where
  -- so many of them are there
  abbrev pub With : List A → Database → Type 0
  With front = StandsAt table.tree (suc (length front)) old (grow front t)

  pub with_none : (X : Type 0) (x : X) (a : State) → grow [] t ≡ t → Tries (StandsAt table.tree 1 old t) (With []) a a (went X Error x)
  with_none X x a none = record {
    clean = λ clean. clean;
    counts = omega arith;
    ready = λ clean set. record { inside = set.inside; up = set.up; unlimited = set.unlimited; now = subst (λ (u : Tables). StandsAt table.tree 1 old u a.now) (sym none) set.now };
    fails = λ clean set. tt;
  }

  -- one more
  pub with_next : {X Y : Type 0} (front next rest : List A) (x : A) → next ≡ front ++ x ∷ [] → all ≡ next ++ rest → (a b c : State) (y : X) (r : Result Y Error)
      → Tries (StandsAt table.tree 1 old t) (With front) a b (went X Error y)
      → ((u : Tables) (n : ℕ) → Differ same (list u ++ x ∷ []) → CanStand table (Int (pos n) ∷ put x) → Tries (StandsAt table.tree n old u) (StandsAt table.tree (suc n) old (grow (x ∷ []) u)) b c r)
      → Tries (StandsAt table.tree 1 old t) (With next) a c r
  with_next {X} {Y} front next rest x turn is a b c y r before step =
      let keys = subst (λ xs. Differ same (xs ++ x ∷ [])) (sym (lists front t)) (apart_next same (list t) front next rest all x turn is apart) in
      let split : all ≡ front ++ x ∷ rest = is ∙ ap (λ xs. xs ++ rest) turn ∙ append_assoc front (x ∷ []) rest in
      let can = subst (λ (k : ℕ). CanStand table (Int (pos (suc k)) ∷ put x)) (let e : 0 + length front ≡ length front = omega arith in e) (fits_next (CanStand table) put 0 front rest x (subst (λ xs. AllByRecursion (CanStand table) (rows_from 1 put xs)) split fits)) in
      let long : suc (suc (length front)) ≡ suc (length next) = omega (arith, length-append front (x ∷ []), ap length turn) in
      let same_tables : grow (x ∷ []) (grow front t) ≡ grow next t = both front x t ∙ ap (λ xs. grow xs t) (sym turn) in
      tries_so _ (StandsAt table.tree (suc (suc (length front))) old (grow (x ∷ []) (grow front t))) (With next) a c r (λ db it. subst₂ (λ n u. StandsAt table.tree n old u db) long same_tables it)
      (tries_then {X = X} {Y = Y} (StandsAt table.tree 1 old t) (With front) (StandsAt table.tree (suc (suc (length front))) old (grow (x ∷ []) (grow front t))) a b c y before r (step (grow front t) (suc (length front)) keys can))

-- all of them are there
pub stands_all : {X Y : Type 0} (P : Database → Type 0) (tree n : ℕ) (old : Database) (t u : Tables) (a b : State) (x : X) (y : Y) → t ≡ u → Tries P (StandsAt tree n old t) a b (went X Error x) → Tries P (Stands old u) a b (went Y Error y)
stands_all P tree n old t u a b x y is p = record {
  clean = p.clean;
  counts = p.counts;
  ready = λ clean set. let it = p.ready clean set in record { inside = it.inside; up = it.up; unlimited = it.unlimited; now = subst (λ (v : Tables). Stands old v b.now) is it.now.0 };
  fails = λ clean set. tt;
}

-- ballots after others: so many of all of them are there
abbrev pub BallotsAre : {X : Type 0} → List BallotRow → List BallotRow → State → State → Result X Error → Type 0
BallotsAre all front a b r =
    (old : Database) (t : Tables) → Differ same_ballot (t.ballots ++ all) → AllByRecursion (CanStand ballot_table) (rows_from 1 put_ballot all)
    → Tries (StandsAt 16 1 old t) (StandsAt 16 (suc (length front)) old (more_ballots front t)) a b r

ballots_both : (xs : List BallotRow) (x : BallotRow) (t : Tables) → more_ballots (x ∷ []) (more_ballots xs t) ≡ more_ballots (xs ++ x ∷ []) t
ballots_both xs x t = ballots_on xs (x ∷ []) (xs ++ x ∷ []) refl t

pub ballots_none : (X : Type 0) (x : X) (all : List BallotRow) (a : State) → BallotsAre all [] a a (went X Error x)
ballots_none X x all a old t apart fits = with_none ballot_table put_ballot (λ (u : Tables). u.ballots) same_ballot more_ballots (λ xs u. refl) ballots_both old t all apart fits X x a (none_of_ballots t)

pub ballots_next : {X Y : Type 0} (all : List BallotRow) (i : ℕ) (d : BallotRow) → i < length all → (a b c : State) (y : X) (r : Result Y Error) → BallotsAre all (take i all) a b (went X Error y) → BallotIs (get_or all i d) b c r
    → BallotsAre all (take (i + 1) all) a c r
ballots_next all i d low a b c y r before step old t apart fits =
    with_next ballot_table put_ballot (λ (u : Tables). u.ballots) same_ballot more_ballots (λ xs u. refl) ballots_both old t all apart fits (take i all) (take (i + 1) all) (drop (i + 1) all) (get_or all i d)
    (take_more all i d low) (sym (take-append-drop (i + 1) all)) a b c y r (before old t apart fits) (step old)

-- and choices
abbrev pub ChoicesAre : {X : Type 0} → List ChoiceRow → List ChoiceRow → State → State → Result X Error → Type 0
ChoicesAre all front a b r =
    (old : Database) (t : Tables) → Differ same_choice (t.choices ++ all) → AllByRecursion (CanStand choice_table) (rows_from 1 put_choice all)
    → Tries (StandsAt 18 1 old t) (StandsAt 18 (suc (length front)) old (more_choices front t)) a b r

choices_both : (xs : List ChoiceRow) (x : ChoiceRow) (t : Tables) → more_choices (x ∷ []) (more_choices xs t) ≡ more_choices (xs ++ x ∷ []) t
choices_both xs x t = choices_on xs (x ∷ []) (xs ++ x ∷ []) refl t

pub choices_none : (X : Type 0) (x : X) (all : List ChoiceRow) (a : State) → ChoicesAre all [] a a (went X Error x)
choices_none X x all a old t apart fits = with_none choice_table put_choice (λ (u : Tables). u.choices) same_choice more_choices (λ xs u. refl) choices_both old t all apart fits X x a (none_of_choices t)

-- those of games, by their names
pub choices_next : {X Y : Type 0} (games : List (String Global)) (i : ℕ) (d : String Global) → i < length games → (a b c : State) (y : X) (r : Result Y Error)
    → ChoicesAre (map old_choice (lines games)) (map old_choice (lines (take i games))) a b (went X Error y) → ChoiceIs (old_choice (string_bytes (get_or games i d))) b c r
    → ChoicesAre (map old_choice (lines games)) (map old_choice (lines (take (i + 1) games))) a c r
choices_next games i d low a b c y r before step old t apart fits =
    let split : map old_choice (lines games) ≡ map old_choice (lines (take (i + 1) games)) ++ map old_choice (lines (drop (i + 1) games)) =
    ap (λ gs. map old_choice (lines gs)) (sym (take-append-drop (i + 1) games)) ∙ ap (map old_choice) (map-append (λ s. string_bytes s) (take (i + 1) games) (drop (i + 1) games))
    ∙ map-append old_choice (lines (take (i + 1) games)) (lines (drop (i + 1) games)) in
    with_next choice_table put_choice (λ (u : Tables). u.choices) same_choice more_choices (λ xs u. refl) choices_both old t (map old_choice (lines games)) apart fits
    (map old_choice (lines (take i games))) (map old_choice (lines (take (i + 1) games))) (map old_choice (lines (drop (i + 1) games))) (old_choice (string_bytes (get_or games i d)))
    (taken_both old_choice (λ s. string_bytes s) games i d low) split a b c y r (before old t apart fits) (step old)

-- ---- what tables without ballots and choices show

keyed_of : (t : Tables) (db : Database) → HasTables t db → AreKeyed t
keyed_of t db has = subst AreKeyed has.1 (are_keyed db has.0)

-- the ballots of all seats, and then the choices of all games
module _ (old : Database) (t : Tables) (a b : State) {X : Type 0} (r : Result X Error) where
  pub ballots_put : (bs : List BallotRow) → bs ≡ map old_ballot t.seats → t.ballots ≡ [] → Writes (more_ballots bs) a b r
      → (Differ same_ballot (t.ballots ++ bs) → Tries (StandsAt 16 1 old t) (Stands old (more_ballots bs t)) a b r) → Tries (Stands old t) (Stands old (more_ballots bs t)) a b r
  ballots_put bs voted none writes part =
      tries_from (Stands old t) (StandsAt 16 1 old t) (Stands old (more_ballots bs t)) (Differ same_ballot (t.ballots ++ bs)) a b r (λ clean. omega (arith, clean, writes.survives.clean)) writes.survives.counts found part
    where
      found : (db : Database) → Stands old t db → Differ same_ballot (t.ballots ++ bs) × StandsAt 16 1 old t db
      found db it = (
        subst (λ xs. Differ same_ballot (xs ++ bs)) (sym none) (subst (Differ same_ballot) (sym voted) (ascending-map (λ a b. same_ballot a b ≡ false) old_ballot t.seats (keyed_of t db it.has).seats)),
        (it, ap next_rowid (rows_of_none take_ballot (db.trees 16) (ap (λ (u : Tables). u.ballots) it.has.1 ∙ none))),
      )

  pub choices_put : (names : List (List ℕ)) → names ≡ map (λ g. g.name) t.games → t.choices ≡ [] → Writes (more_choices (map old_choice names)) a b r
      → (Differ same_choice (t.choices ++ map old_choice names) → Tries (StandsAt 18 1 old t) (Stands old (more_choices (map old_choice names) t)) a b r) → Tries (Stands old t) (Stands old (more_choices (map old_choice names) t)) a b r
  choices_put names named none writes part =
      tries_from (Stands old t) (StandsAt 18 1 old t) (Stands old (more_choices (map old_choice names) t)) (Differ same_choice (t.choices ++ map old_choice names)) a b r (λ clean. omega (arith, clean, writes.survives.clean))
      writes.survives.counts found part
    where
      found : (db : Database) → Stands old t db → Differ same_choice (t.choices ++ map old_choice names) × StandsAt 18 1 old t db
      found db it =
          let games = (keyed_of t db it.has).games in
          let all = ascending-map (λ a b. same_choice a b ≡ false) old_choice _ (ascending-map (λ a b. same_choice (old_choice a) (old_choice b) ≡ false) (λ (g : GameRow). g.name) t.games games) in (
            subst (λ xs. Differ same_choice (xs ++ map old_choice names)) (sym none) (subst (λ xs. Differ same_choice (map old_choice xs)) (sym named) all),
            (it, ap next_rowid (rows_of_none take_choice (db.trees 18) (ap (λ (u : Tables). u.choices) it.has.1 ∙ none))),
          )

-- the choices that are written are those of the tables made anew
pub choices_room : (old : Database) (names : List (List ℕ)) → names ≡ map (λ g. g.name) (old_tables_of old.trees).games → HasRoomAnew old.trees → AllByRecursion (CanStand choice_table) (rows_from 1 put_choice (map old_choice names))
choices_room old names named room =
    let is : map old_choice names ≡ map (λ g. old_choice g.name) (old_tables_of old.trees).games = ap (map old_choice) named ∙ map-map old_choice (λ (g : GameRow). g.name) (old_tables_of old.trees).games in
    subst (λ xs. AllByRecursion (CanStand choice_table) (rows_from 1 put_choice xs)) (sym is) room.choices

pub ballots_room : (old : Database) (ballots : List BallotRow) → ballots ≡ map old_ballot (old_tables_of old.trees).seats → HasRoomAnew old.trees → AllByRecursion (CanStand ballot_table) (rows_from 1 put_ballot ballots)
ballots_room old ballots voted room = subst (λ xs. AllByRecursion (CanStand ballot_table) (rows_from 1 put_ballot xs)) (sym voted) room.ballots

-- ---- the two tables made over those of version 1
pub ballots_made : (was : Database) → WasGood was → (old new : State) (count : ℕ) → old.now ≡ was → Executes create_ballot [] old new (Ok count) → HasBallotsOver was new.now
ballots_made was good old new count is h =
    let has : HasOld (old_tables_of was.trees) old.now = (subst WasGood (sym is) good, ap (λ (d : Database). old_tables_of d.trees) is) in
    let more = table_more old_schema create_ballot (record ballot_table { tree = 0 }) ballot_makes.0 ballot_makes.1 ballot_makes.2 ballot_defined refl old new count has.0.schema h in
    record {
      has = ballot_over (old_tables_of was.trees) old new count has h;
      desk = more.2.0 ∙ ap (λ (d : Database). d.trees 0) is;
      seats = more.2.1.1.0 ∙ ap (λ (d : Database). d.trees 4) is;
    }

pub ballots_cause : (was : Database) → WasGood was → (old new : State) → old.now ≡ was → IsTrue old.is_open → (e : Error) → ExecutesInside 0 create_ballot [] old new (Err e) → IsCaused (Faulted old new) e
ballots_cause was good old new is up e h = ballot_over_caused (old_tables_of was.trees) old new (subst WasGood (sym is) good, ap (λ (d : Database). old_tables_of d.trees) is) up e h

pub choices_made : (was : Database) (old new : State) (count : ℕ) → HasBallotsOver was old.now → Executes create_choice [] old new (Ok count) → Stands was (old_tables_of was.trees) new.now
choices_made was old new count it h =
    let more = table_more nine_schema create_choice (record choice_table { tree = 0 }) choice_makes.0 choice_makes.1 choice_makes.2 choice_defined refl old new count it.has.schema h in
    record { has = choice_over (old_tables_of was.trees) old new count it.has h; desk = more.2.0 ∙ it.desk; seats = more.2.1.1.0 ∙ it.seats }

-- ---- the transaction
module _ {S : Type 0} (g : Ghosts S) where
  -- it begins on the tables of version 1
  pub begun_old : (old : Held S) → WasKept g old → does_show g old → IsSet (λ db. db ≡ (state g old).now) (state g (record old { in_transaction = true }))
  begun_old old kept shows = record { inside = refl; up = shows.1; unlimited = kept.unlimited; now = refl }

  at_most : (n m : ℕ) → (n ≤ m) ⊎ (n ≤ m → ⊥)
  at_most n m = elim (cases_Bool (leb n m)) [
    | inl e ↦ inl (leb-true n m e)
    | inr e ↦ inr (λ h. let less = leb-false n m e in omega (arith, less, h))
  ]

  -- the store told of a fault, or not
  pub decided : (old end : Held S) → has_faulted g old end ⊎ (has_faulted g old end → ⊥)
  decided old end = at_most _ _

  -- where it fails by the disk the store told of a fault, or not each row can be stored
  pub fault_or_full : (Room : Type 0) (old b end : Held S) → (state g old).faults ≤ (state g b).faults → (e : Error) → (Room → IsCaused (has_faulted g b end) e) → open_fault e ≡ Disk → has_faulted g old end ⊎ (Room → ⊥)
  fault_or_full Room old b end counts e cause is =
      elim (decided old end) [
        | inl fault ↦ inl fault
        | inr none ↦ inr (λ room. none (faulted_late (state g old) (state g b) (state g end) counts (open_blamed (has_faulted g b end) e (cause room) is)))
      ]
