-- Why an INSERT, an UPDATE or a DELETE fails: for want, or since a rule of the schema refuses its rows.
use Rattle.std.proofs.Common.{◌≡◌, ◌⊎◌, cond, fold, inl, inr, ℕ, ℤ, zero, suc, ◌≤◌, ◌/◌, List, option_map, [], ◌∷◌, length, length-append, append-nil, Bool, true, false, Some, None, Option, Ok, Err, IsTrue, slice_get, MatchBool, refl, sym, ap, subst, subst₂, ◌∙◌, arith}
use Rattle.sqlite_trees.specs.declared.error.StoreError.{StoreError}
use Rattle.sqlite_trees.specs.declared.error.StoreError.TheVariants.{OutOfMemory, Io, Corrupt, Full, Broken, Unstorable}
use Rattle.sqlite_resolve.specs.declared.compiled.Compiled.{Compiled}
use Rattle.sqlite_schema.specs.declared.schema.Among.{Among}
use Rattle.sqlite_schema.specs.declared.schema.Keys.TheVariants.{Enforced}
use Rattle.sqlite_schema.specs.Rules.{Refers}
use Rattle.sqlite_typing.specs.Types.{accepts_terms}
use Rattle.sqlite_rules.specs.declared.error.Refusal.{Refusal}
use Rattle.sqlite.specs.Edit.{Edit, IsOversized, IsRefused, taken_by, edit_of}
use Rattle.sqlite_rules.specs.Lists.{Has}
use Rattle.sqlite_rules.specs.Action.{works, Leads, Writes}
use Rattle.sqlite.specs.declared.error.Error.{Error}
use Rattle.sqlite.specs.declared.error.Error.TheVariants.{SqliteFailure}
use Rattle.sqlite.specs.declared.error.ErrorCode.TheVariants as code
use Rattle.sqlite.specs.Order.{Row}
use Rattle.sqlite.specs.Tree.{Trees}
use Rattle.sqlite.specs.Term.{Term}
use Rattle.sqlite.specs.Table.{Table}
use Rattle.sqlite.specs.Schema.{Schema}
use Rattle.sqlite.specs.Command.{Command}
use Rattle.sqlite.specs.Command.TheVariants.{Insert, Update, Delete, Begin, Commit, Rollback, Release, RollbackTo}
use Rattle.sqlite.specs.Source.TheVariants.{Values}
use Rattle.sqlite.specs.Rowids.TheVariants.{Chosen, Above, Given}
use Rattle.sqlite.specs.Effect.{Answers, Database, RefusesQuery, edit_error, value_rows}
use Rattle.sqlite.specs.Does.{Does, Concludes, due, OnRows, OnTable, Tested, WritesRows}
use Rattle.sqlite.specs.Rows.{Part, Then, Gives, Edited, Queried, Sourced, Task, Written, Counter, Counts, stamped, rowids_for, count_of, higher, last_id}
use Rattle.sqlite_schema.specs.declared.program.Program.{Program}
use Rattle.sqlite_rules.specs.Calls.{ids_of}
use Rattle.sqlite.specs.Listing.{understood}
use Rattle.sqlite.specs.Clock.{timed}
use Rattle.sqlite.specs.declared.run.Mode.{Mode}
use Rattle.sqlite.specs.State.{State, mode_of, text_of, shows_rows, HasCause, IsMisplaced, IsNotRun, RunsAlone, RunsCommand, Executes, ExecutesIn, store_error, is_disk_error}
use Rattle.dip_store_sql.specs.Causes.{Faulted, IsCaused}

-- ---- a statement that isn't run

-- a command that edits rows
abbrev pub edits_rows : Command → Bool
edits_rows (Insert at from) = true
edits_rows (Update at q) = true
edits_rows (Delete at q) = true
edits_rows _ = false

-- such a command is out of place nowhere
pub other_than : (command another : Command) → edits_rows command ≡ true → edits_rows another ≡ false → command ≡ another → ⊥
other_than command another edits spares same = absurd (let x = sym edits ∙ ap edits_rows same ∙ spares in cc)

well_placed : (s : State) (command : Command) (e : Error) → edits_rows command ≡ true → IsMisplaced s command e → ⊥
well_placed s command e edits (inl h) = elim h.1 [
  | inl b ↦ other_than command Begin edits refl b.0
  | inr c ↦ elim c.0 [ inl p ↦ other_than command Commit edits refl p | inr p ↦ other_than command Rollback edits refl p ]
]
well_placed s command e edits (inr h) = elim h.2 [ inl p ↦ other_than command (Release h.1) edits refl p | inr p ↦ other_than command (RollbackTo h.1) edits refl p ]

-- an error of an open store: for want of memory, by the disk, or for a row that is too long
caused : (old new : State) (big : Type 0) (e : Error) (cause : StoreError) → e ≡ store_error cause → HasCause old new big cause → IsTrue old.is_open → IsCaused (Faulted old new) e ⊎ ((e ≡ SqliteFailure code.TooBig) × big)
caused old new big e OutOfMemory is why up = inl (inl is)
caused old new big e Io is why up = inl (inr (ap is_disk_error is, why))
caused old new big e Corrupt is why up = inl (inr (ap is_disk_error is, why))
caused old new big e Full is why up = inl (inr (ap is_disk_error is, why))
caused old new big e Broken is why up = absurd (let x = sym up ∙ why in cc)
caused old new big e Unstorable is why up = inr (is, why)

module _ (sql : List ℕ) (params : Row) (old new : State) (c : Compiled) (is : understood old.now.schema sql ≡ Ok c) (whole : length sql ≤ c.tail) (given : length params ≡ length c.names) (clock : c.formats ≡ [])
    (plain : c.returning ≡ None) (up : IsTrue old.is_open) where
  untimed : (formats : List (List ℕ)) (now : ℕ) → formats ≡ [] → timed params formats now ≡ params
  untimed formats now none = ap (λ f. timed params f now) none ∙ append-nil params

  not_run : (e : Error) → IsNotRun old new sql params e → IsCaused (Faulted old new) e
  unfolding IsNotRun
  not_run e (inl h) = absurd (elim h.0 [
    | inl a ↦ let x = sym is ∙ a.1 in cc
    | inr b ↦ let x = sym is ∙ b.1 in let same : c ≡ b.0 = cc in elim b.2 [
      | inl d ↦ d.0 (subst (λ (k : Compiled). length sql ≤ k.tail) same whole)
      | inr d ↦ elim d [ inl f ↦ f.0 (subst (λ (k : Compiled). length params ≡ length k.names) same given) | inr f ↦ f.0 (subst (λ (k : Compiled). k.formats ≡ []) same clock) ]
    ]
  ])
  not_run e (inr f) = elim (caused old new ⊥ e f.0 f.1 f.2 up) [ inl c ↦ c | inr big ↦ absurd big.1 ]

  module _ (command : Command) (does : c.command ≡ command) (edits : edits_rows command ≡ true) where
    -- what the statement does, or where it stops
    abbrev pub StopsAt : Option Error → Type 0
    StopsAt stop = Does old.step_limit (mode_of old) params old.now (text_of sql c) None command (Err stop)

    -- it fails for want of memory or by the disk, for a row that is too long, or the database refuses it
    abbrev pub Fails : Error → Type 0
    Fails e = IsCaused (Faulted old new) e ⊎ (((e ≡ SqliteFailure code.TooBig) × StopsAt None) ⊎ StopsAt (Some e))

    told : (k : Compiled) (ps : Row) (stop : Option Error) → c ≡ k → ps ≡ params → Does old.step_limit (mode_of old) ps old.now (text_of sql k) k.returning k.command (Err stop) → StopsAt stop
    told k ps stop same bound d =
        let one = subst (λ p. Does old.step_limit (mode_of old) p old.now (text_of sql k) k.returning k.command (Err stop)) bound d in
        let two = subst (λ (x : Compiled). Does old.step_limit (mode_of old) params old.now (text_of sql x) x.returning x.command (Err stop)) (sym same) one in
        subst₂ (λ r x. Does old.step_limit (mode_of old) params old.now (text_of sql c) r x (Err stop)) plain does two

    -- what the statement does, it does in full or not at all
    ran : (k : Compiled) (ps : Row) (e : Error) → c ≡ k → ps ≡ params → shows_rows false k ≡ false → RunsAlone false old new sql k ps (Err e) → Fails e
    ran k ps e same bound shows h =
        let it : RunsCommand old new sql k ps (Err e) = rw shows at h in
        elim it [
          | inl r ↦ elim r.0 [
            | inl m ↦ absurd (well_placed old command e edits (subst (λ x. IsMisplaced old x e) (sym (ap (λ (k : Compiled). k.command) same) ∙ does) m))
            | inr d ↦ inr (inr (told k ps (Some e) same bound d.1))
          ]
          | inr f ↦ elim (caused old new (Does old.step_limit (mode_of old) ps old.now (text_of sql k) k.returning k.command (Err None)) e f.0 f.1 f.2 up) [
            | inl cause ↦ inl cause
            | inr big ↦ inr (inl (big.0, told k ps None same bound big.1))
          ]
        ]

    -- no rows are shown by it
    silent : (k : Compiled) → c ≡ k → shows_rows false c ≡ false → shows_rows false k ≡ false
    silent k same quiet = subst (λ (x : Compiled). shows_rows false x ≡ false) same quiet

    pub fails : shows_rows false c ≡ false → (e : Error) → Executes sql params old new (Err e) → Fails e
    unfolding ExecutesIn
    fails quiet e (inl h) = inl (not_run e h)
    fails quiet e (inr h) =
        let x = sym is ∙ h.1.is in
        let same : c ≡ h.0 = cc in
        let bound = untimed h.0.formats h.1.now (subst (λ (k : Compiled). k.formats ≡ []) same clock) in
        ran h.0 (timed params h.0.formats h.1.now) e same bound (silent h.0 same quiet) h.2

-- ---- a refusal of the database

-- it stopped at the first part, or at the second
stops : {A B : Type 0} (First : Part A) (Next : A → Part B) (e : Error) → Then First Next (Err (Some e)) → First (Err (Some e)) ⊎ ((a : A) × First (Ok a) × Next a (Err (Some e)))
stops First Next e (inl s) = let x = s.2 in let same : s.0 ≡ Some e = cc in inl (subst (λ (stop : Option Error). First (Err stop)) same s.1)
stops First Next e (inr on) = inr on

-- it stopped at the first part, or at the second; the stop may be at a row that can't be stored
halts : {A B : Type 0} (First : Part A) (Next : A → Part B) (stop : Option Error) → Then First Next (Err stop) → First (Err stop) ⊎ ((a : A) × First (Ok a) × Next a (Err stop))
halts First Next stop (inl s) = let x = s.2 in let same : s.0 ≡ stop = cc in inl (subst (λ (stop : Option Error). First (Err stop)) same s.1)
halts First Next stop (inr on) = inr on

-- a part that gives a value doesn't stop
no_stop : {A : Type 0} (a : A) (stop : Option Error) → Gives a (Err stop) → ⊥
no_stop a stop h = absurd (cc)

pub unmatched : (X Y : Type 0) (b : Bool) → b ≡ false → MatchBool b X Y → Y
unmatched X Y true e h = absurd (let f = e in cc)
unmatched X Y false e h = h

pub no_count : (b c : Bool) → b ≡ false → cond b c false ≡ false
no_count b c e = rw e refl

pub no_above : (b : Bool) (top : ℤ) → b ≡ false → cond b (Above top) Chosen ≡ Chosen
no_above b top e = rw e refl

-- an edit that sets off nothing is refused by a rule
edit_refused : (schema : Schema) (db : Trees) (edit : Edit) → works schema Enforced 0 edit.table.tree (taken_by db edit) edit.news ≡ [] → (e : Error) → Edited schema Enforced db edit (Err (Some e))
    → (why : Refusal) × IsRefused schema Enforced db edit why × (e ≡ edit_error why)
edit_refused schema db edit none e h = by h.0 h.1 h.2
  where
    settled : (n : ℕ) (next : Trees) (w : Refusal) → Leads schema Enforced n next [] (Err (Some w)) → ⊥
    settled zero next w l = absurd (let x = l.1 in cc)
    settled (suc n) next w l = absurd (omega (arith, ap length l.2, length-append l.0 (l.1 ∷ [])))

    because : (w : Refusal) → e ≡ edit_error w → Writes schema Enforced db edit (Err (Some w)) → (why : Refusal) × IsRefused schema Enforced db edit why × (e ≡ edit_error why)
    because w is (inl r) = let x = r.2 in let same : w ≡ r.0 = cc in (r.0, r.1, is ∙ ap edit_error same)
    because w is (inr (inl big)) = absurd (let x = big.3 in cc)
    because w is (inr (inr went)) = absurd (settled went.2.0 went.0 w (rw none at went.2.1))

    by : (why : Option Refusal) → Writes schema Enforced db edit (Err why) → Some e ≡ option_map edit_error why → (w : Refusal) × IsRefused schema Enforced db edit w × (e ≡ edit_error w)
    by None writes is = absurd (let x = is in cc)
    by (Some w) writes is = let x = is in let same : e ≡ edit_error w = cc in because w same writes

-- and stops for a row that can't be stored
edit_oversized : (schema : Schema) (db : Trees) (edit : Edit) → works schema Enforced 0 edit.table.tree (taken_by db edit) edit.news ≡ [] → Edited schema Enforced db edit (Err None)
    → (row : Row) × Has edit.news row × IsOversized schema edit.table row
edit_oversized schema db edit none h = by h.0 h.1 h.2
  where
    settled : (n : ℕ) (next : Trees) → Leads schema Enforced n next [] (Err None) → ⊥
    settled zero next l = absurd (let x = l.1 in cc)
    settled (suc n) next l = absurd (omega (arith, ap length l.2, length-append l.0 (l.1 ∷ [])))

    because : Writes schema Enforced db edit (Err None) → (row : Row) × Has edit.news row × IsOversized schema edit.table row
    because (inl r) = absurd (let x = r.2 in cc)
    because (inr (inl big)) = (big.0, big.1, big.2)
    because (inr (inr went)) = absurd (settled went.2.0 went.0 (rw none at went.2.1))

    by : (why : Option Refusal) → Writes schema Enforced db edit (Err why) → None ≡ option_map edit_error why → (row : Row) × Has edit.news row × IsOversized schema edit.table row
    by None writes is = because writes
    by (Some w) writes is = absurd (let x = is in cc)

-- no key waits for the commit
abbrev pub mode : Mode
mode = record { keys = Enforced; in_doubt = false; may_wait = false }

module _ (schema : Schema) (at : ℕ) (table : Table) (listed : slice_get schema.tables at ≡ Some table) (bare : table.is_counted ≡ false)
    (calm : (olds news : List Row) → works schema Enforced 0 table.tree olds news ≡ []) (refers : (among : Among) (db : Trees) → Refers among schema db)
    (params : Row) (old : Database) (has : old.schema ≡ schema) (text : List ℕ) where
  -- the task of a statement on the table
  abbrev task : Task
  task = record { limit = None; keys = Enforced; schema = schema; table = table; params = params }

  -- nothing stops it after its rows
  concluded : (w : Written) (e : Error) → Concludes task mode None w (Err (Some e)) → ⊥
  concluded w e (inl s) = tested s.0 s.1
    where
      tested : (stop : Option Error) → Tested mode (λ among. Refers among schema w.trees) (Err stop) → ⊥
      tested stop t = t.0 (refers (due mode) w.trees)
  concluded w e (inr on) = elim on.2 [
    | inl s ↦ no_stop [] s.0 s.1
    | inr more ↦ no_stop _ (Some e) more.2
  ]

  on_table : (command : Command) (e : Error) → OnTable None mode params old at (λ t. OnRows t mode None command old.trees) (Err (Some e)) → WritesRows task old.trees command (Err (Some e))
  on_table command e h =
      let there : OnRows task mode None command old.trees (Err (Some e)) = rw listed at (subst (λ s. OnTable None mode params (record old { schema = s }) at (λ t. OnRows t mode None command old.trees) (Err (Some e))) has h) in
      elim (stops (WritesRows task old.trees command) (Concludes task mode None) e there) [
        | inl s ↦ s
        | inr on ↦ absurd (concluded on.0 e on.2)
      ]

  by_rule : (edit : Edit) → edit.table ≡ table → (e : Error) → Edited schema Enforced old.trees edit (Err (Some e)) → (why : Refusal) × IsRefused schema Enforced old.trees edit why × (e ≡ edit_error why)
  by_rule edit same e s =
      edit_refused schema old.trees edit (subst (λ (t : Table). works schema Enforced 0 t.tree (taken_by old.trees edit) edit.news ≡ []) (sym same) (calm (taken_by old.trees edit) edit.news)) e s

  -- nothing counts the rowids of the table
  uncounted : (mid : Trees) (counter : Option Row) (top : ℤ) (stop : Option Error) → Counts task mid counter top (Err stop) → ⊥
  uncounted mid counter top stop h = no_stop mid stop (unmatched _ _ _ (no_count table.is_counted _ bare) h)

  abbrev made : Edit → Trees → Part Written
  made edit next = Gives (record { trees = next; rows = edit.news; last = last_id edit.news })

  abbrev after_edit : Option Row → Edit → Trees → Part Written
  after_edit counter edit mid = Then (Counts task mid counter (fold higher (count_of counter) edit.news)) (made edit)

  abbrev after_rows : List Row → Option Row → Part Written
  after_rows rows counter =
      let edit = edit_of old.trees table [] (rowids_for table (count_of counter)) 0 rows in Then (Edited schema Enforced old.trees edit) (after_edit counter edit)

  abbrev found : Program → Part (List Row)
  found q = Queried None (record { schema = schema; trees = old.trees }) q params

  abbrev put_anew : List Row → Trees → Part Written
  put_anew rows next = let edit = edit_of old.trees table (ids_of rows) Given 1 rows in Gives (record { trees = next; rows = edit.news; last = None })

  abbrev updated : List Row → Part Written
  updated rows = let edit = edit_of old.trees table (ids_of rows) Given 1 rows in Then (Edited schema Enforced old.trees edit) (put_anew rows)

  abbrev taken_out : List Row → Trees → Part Written
  taken_out rows next = let edit = edit_of old.trees table (ids_of rows) Given 0 [] in Gives (record { trees = next; rows = taken_by old.trees edit; last = None })

  abbrev deleted : List Row → Part Written
  deleted rows = let edit = edit_of old.trees table (ids_of rows) Given 0 [] in Then (Edited schema Enforced old.trees edit) (taken_out rows)

  -- an INSERT of values of their kinds
  pub insert_refused : (terms : List Term) (width : ℕ) → accepts_terms terms (stamped table params) ≡ true → (e : Error) → Does None mode params old text None (Insert at (Values terms width)) (Err (Some e))
      → (why : Refusal) × IsRefused schema Enforced old.trees (edit_of old.trees table [] Chosen 0 (value_rows (stamped table params) width (length terms / width) terms)) why × (e ≡ edit_error why)
  insert_refused terms width accepts e h = elim (stops (Sourced None (record { schema = schema; trees = old.trees }) (stamped table params) (Values terms width)) (λ rows. Then (Counter task old.trees) (after_rows rows)) e (on_table (Insert at (Values terms width)) e h)) [
    | inl s ↦ absurd (sourced s)
    | inr rows ↦ counted rows.0 rows.1 rows.2
  ]
    where
      sourced : Sourced None (record { schema = schema; trees = old.trees }) (stamped table params) (Values terms width) (Err (Some e)) → ⊥
      sourced (inl s) = let x = sym accepts ∙ s.1 in cc
      sourced (inr s) = let x = s.1 in cc

      counted : (rows : List Row) → Sourced None (record { schema = schema; trees = old.trees }) (stamped table params) (Values terms width) (Ok rows)
          → Then (Counter task old.trees) (after_rows rows) (Err (Some e))
          → (why : Refusal) × IsRefused schema Enforced old.trees (edit_of old.trees table [] Chosen 0 (value_rows (stamped table params) width (length terms / width) terms)) why × (e ≡ edit_error why)
      counted rows from h = elim (stops (Counter task old.trees) (after_rows rows) e h) [
        | inl s ↦ absurd (no_stop None (Some e) (unmatched _ _ table.is_counted bare s))
        | inr counter ↦ let edit = edit_of old.trees table [] (rowids_for table (count_of counter.0)) 0 rows in elim (stops (Edited schema Enforced old.trees edit) (after_edit counter.0 edit) e counter.2) [
          | inl s ↦
              let chosen : rowids_for table (count_of counter.0) ≡ Chosen = no_above table.is_counted (count_of counter.0) bare in
              let whole : edit_of old.trees table [] (rowids_for table (count_of counter.0)) 0 rows ≡ edit_of old.trees table [] Chosen 0 (value_rows (stamped table params) width (length terms / width) terms) =
              ap (λ ids. edit_of old.trees table [] ids 0 rows) chosen ∙ ap (edit_of old.trees table [] Chosen 0) from.1 in
              by_rule (edit_of old.trees table [] Chosen 0 (value_rows (stamped table params) width (length terms / width) terms)) refl e (subst (λ (x : Edit). Edited schema Enforced old.trees x (Err (Some e))) whole s)
          | inr mid ↦ absurd (elim mid.2 [
            | inl s ↦ uncounted mid.0 counter.0 (fold higher (count_of counter.0) edit.news) s.0 s.1
            | inr on ↦ no_stop _ (Some e) on.2
          ])
        ]
      ]

  -- a stop at a row that can't be stored, after which nothing stops the statement
  concludes_none : (w : Written) → Concludes task mode None w (Err None) → ⊥
  concludes_none w h = elim (halts (Tested mode (λ among. Refers among schema w.trees)) (λ in_doubt. Then (Gives []) (λ rows. Gives (record { rows = Some (length w.rows); last = w.last; shown = rows; in_doubt = in_doubt }, record { schema = schema; trees = w.trees }))) None h) [
    | inl t ↦ t.0 (refers (due mode) w.trees)
    | inr on ↦ elim on.2 [
      | inl s ↦ no_stop [] s.0 s.1
      | inr more ↦ no_stop _ None more.2
    ]
  ]

  pub insert_oversized : (terms : List Term) (width : ℕ) → Does None mode params old text None (Insert at (Values terms width)) (Err None)
      → (row : Row) × Has (edit_of old.trees table [] Chosen 0 (value_rows (stamped table params) width (length terms / width) terms)).news row × IsOversized schema table row
  insert_oversized terms width h =
      let there : OnRows task mode None (Insert at (Values terms width)) old.trees (Err None) = rw listed at (subst (λ s. OnTable None mode params (record old { schema = s }) at (λ t. OnRows t mode None (Insert at (Values terms width)) old.trees) (Err None)) has h) in
      elim (halts (WritesRows task old.trees (Insert at (Values terms width))) (Concludes task mode None) None there) [
        | inl s ↦ elim (halts (Sourced None (record { schema = schema; trees = old.trees }) (stamped table params) (Values terms width)) (λ rows. Then (Counter task old.trees) (after_rows rows)) None s) [
          | inl none ↦ absurd none
          | inr rows ↦ counted rows.0 rows.1 rows.2
        ]
        | inr on ↦ absurd (concludes_none on.0 on.2)
      ]
    where
      counted : (rows : List Row) → Sourced None (record { schema = schema; trees = old.trees }) (stamped table params) (Values terms width) (Ok rows)
          → Then (Counter task old.trees) (after_rows rows) (Err None)
          → (row : Row) × Has (edit_of old.trees table [] Chosen 0 (value_rows (stamped table params) width (length terms / width) terms)).news row × IsOversized schema table row
      counted rows from h = elim (halts (Counter task old.trees) (after_rows rows) None h) [
        | inl s ↦ absurd (no_stop None None (unmatched _ _ table.is_counted bare s))
        | inr counter ↦ let edit = edit_of old.trees table [] (rowids_for table (count_of counter.0)) 0 rows in elim (halts (Edited schema Enforced old.trees edit) (after_edit counter.0 edit) None counter.2) [
          | inl s ↦
              let chosen : rowids_for table (count_of counter.0) ≡ Chosen = no_above table.is_counted (count_of counter.0) bare in
              let whole : edit_of old.trees table [] (rowids_for table (count_of counter.0)) 0 rows ≡ edit_of old.trees table [] Chosen 0 (value_rows (stamped table params) width (length terms / width) terms) =
              ap (λ ids. edit_of old.trees table [] ids 0 rows) chosen ∙ ap (edit_of old.trees table [] Chosen 0) from.1 in
              edit_oversized schema old.trees (edit_of old.trees table [] Chosen 0 (value_rows (stamped table params) width (length terms / width) terms))
              (calm (taken_by old.trees (edit_of old.trees table [] Chosen 0 (value_rows (stamped table params) width (length terms / width) terms))) (edit_of old.trees table [] Chosen 0 (value_rows (stamped table params) width (length terms / width) terms)).news)
              (subst (λ (x : Edit). Edited schema Enforced old.trees x (Err None)) whole s)
          | inr mid ↦ absurd (elim (halts (Counts task mid.0 counter.0 (fold higher (count_of counter.0) edit.news)) (made edit) None mid.2) [
            | inl s ↦ uncounted mid.0 counter.0 (fold higher (count_of counter.0) edit.news) None s
            | inr on ↦ no_stop _ None on.2
          ])
        ]
      ]

  -- an UPDATE of the rows that a query finds
  pub update_refused : (q : Program) → ((er : Error) → RefusesQuery None (record { schema = schema; trees = old.trees }) q params er → ⊥) → (e : Error) → Does None mode params old text None (Update at q) (Err (Some e))
      → (rows : List Row) × Answers (record { schema = schema; trees = old.trees }) q params rows × (why : Refusal) × IsRefused schema Enforced old.trees (edit_of old.trees table (ids_of rows) Given 1 rows) why × (e ≡ edit_error why)
  update_refused q asks e h = elim (stops (found q) updated e (on_table (Update at q) e h)) [
    | inl s ↦ absurd (asks e s)
    | inr rows ↦ elim (stops (Edited schema Enforced old.trees (edit_of old.trees table (ids_of rows.0) Given 1 rows.0)) (put_anew rows.0) e rows.2) [
      | inl s ↦ (let r = by_rule (edit_of old.trees table (ids_of rows.0) Given 1 rows.0) refl e s in (rows.0, rows.1, r.0, r.1, r.2))
      | inr on ↦ absurd (no_stop _ (Some e) on.2)
    ]
  ]

  -- and one that stops at a row that can't be stored
  pub update_oversized : (q : Program) → Does None mode params old text None (Update at q) (Err None)
      → (rows : List Row) × Answers (record { schema = schema; trees = old.trees }) q params rows × (row : Row) × Has (edit_of old.trees table (ids_of rows) Given 1 rows).news row × IsOversized schema table row
  update_oversized q h =
      let there : OnRows task mode None (Update at q) old.trees (Err None) = rw listed at (subst (λ s. OnTable None mode params (record old { schema = s }) at (λ t. OnRows t mode None (Update at q) old.trees) (Err None)) has h) in
      elim (halts (WritesRows task old.trees (Update at q)) (Concludes task mode None) None there) [
        | inl s ↦ elim (halts (found q) updated None s) [
          | inl none ↦ absurd none
          | inr rows ↦ let edit = edit_of old.trees table (ids_of rows.0) Given 1 rows.0 in elim (halts (Edited schema Enforced old.trees edit) (put_anew rows.0) None rows.2) [
            | inl s ↦ (let r = edit_oversized schema old.trees edit (calm (taken_by old.trees edit) edit.news) s in (rows.0, rows.1, r.0, r.1, r.2))
            | inr on ↦ absurd (no_stop _ None on.2)
          ]
        ]
        | inr on ↦ absurd (concludes_none on.0 on.2)
      ]

  -- a DELETE of the rows that a query finds
  pub delete_refused : (q : Program) → ((er : Error) → RefusesQuery None (record { schema = schema; trees = old.trees }) q params er → ⊥) → (e : Error) → Does None mode params old text None (Delete at q) (Err (Some e))
      → (rows : List Row) × Answers (record { schema = schema; trees = old.trees }) q params rows × (why : Refusal) × IsRefused schema Enforced old.trees (edit_of old.trees table (ids_of rows) Given 0 []) why × (e ≡ edit_error why)
  delete_refused q asks e h = elim (stops (found q) deleted e (on_table (Delete at q) e h)) [
    | inl s ↦ absurd (asks e s)
    | inr rows ↦ elim (stops (Edited schema Enforced old.trees (edit_of old.trees table (ids_of rows.0) Given 0 [])) (taken_out rows.0) e rows.2) [
      | inl s ↦ (let r = by_rule (edit_of old.trees table (ids_of rows.0) Given 0 []) refl e s in (rows.0, rows.1, r.0, r.1, r.2))
      | inr on ↦ absurd (no_stop _ (Some e) on.2)
    ]
  ]
