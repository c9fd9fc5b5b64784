-- Why a query fails.
use Rattle.std.proofs.Common.{IsTrue, ◌≡◌, inl, inr, ℕ, List, [], Some, None, Option, Ok, subst, subst₂, length, false, true, ◌≤◌, sym, ap, ◌∙◌, Any, append-nil}
use Rattle.sqlite_trees.specs.declared.error.StoreError.{StoreError}
use Rattle.sqlite_trees.specs.declared.error.StoreError.TheVariants.{OutOfMemory, Io, Corrupt, Full, Broken, Unstorable}
use Rattle.sqlite.specs.Order.{Row}
use Rattle.sqlite.specs.Command.{Command}
use Rattle.sqlite.specs.Command.TheVariants.{Select, Rows}
use Rattle.sqlite.specs.Effect.{Database, RefusesToRead}
use Rattle.sqlite.specs.declared.error.Error.{Error}
use Rattle.sqlite.specs.Listing.{understood, reads_listing, IsSourceOf}
use Rattle.sqlite_resolve.specs.declared.compiled.Compiled.{Compiled}
use Rattle.sqlite_schema.specs.declared.command.Returning.{Returning}
use Rattle.sqlite.specs.Disk.{MoreFaults}
use Rattle.sqlite.specs.State.{HasCause, is_disk_error, FailsToShow, State, store_error, FailsToQuery, IsNotRun}
use Rattle.sqlite.proofs.Callers.{IsPlain}
use Rattle.sqlite.specs.Term.{Term}
use Rattle.sqlite_value.specs.declared.keys.Key.{Key}
use Rattle.sqlite.specs.Program.{overlay}
use Rattle.sqlite_typing.specs.Types.{accepts_program}
use Rattle.sqlite_schema.specs.Program.{lets_of}
use Rattle.sqlite.specs.Clock.{timed}
use Rattle.dip_store_sql.specs.Faults.{IsOutside}
use Rattle.dip_store_sql.specs.Queries.{plain_query}

-- an error of the disk has its cause in the store
told_cause : (old new : State) (cause : StoreError) (e : Error) → e ≡ store_error cause → HasCause old new ⊥ cause → IsTrue (is_disk_error e) → MoreFaults old.faults new.faults
told_cause old new OutOfMemory e is c d = absurd (let x = rw is at d in cc)
told_cause old new Io e is c d = c
told_cause old new Corrupt e is c d = c
told_cause old new Full e is c d = c
told_cause old new Broken e is c d = absurd (let x = rw is at d in cc)
told_cause old new Unstorable e is c d = absurd c

-- no refusal is one
no_disk : (limit : Option ℕ) (command : Command) (db : Database) (params : Row) (e : Error) → RefusesToRead limit command db params e → IsTrue (is_disk_error e) → ⊥
no_disk limit (Select q names) db params e (inl h) d = let x = rw h.0 at d in cc
no_disk limit (Select q names) db params e (inr (inl h)) d = let x = rw h.0 at d in cc
no_disk limit (Select q names) db params e (inr (inr h)) d = let x = rw h.0 at d in cc
no_disk limit (Rows values width names) db params e h d = let x = rw h.0 at d in cc
no_disk limit _ db params e h d = let x = rw h at d in cc

-- a query tells of the disk only where the store did
pub blames : (sql : List ℕ) (params : Row) (old new : State) → IsPlain (understood old.now.schema sql) → (e : Error) → FailsToQuery sql params old new e → IsTrue (is_disk_error e) → MoreFaults old.faults new.faults
unfolding FailsToQuery IsNotRun
blames sql params old new plain e (inl (inl h)) d = absurd (elim h.0 [
  | inl a ↦ let x = rw a.2 at d in cc
  | inr b ↦ elim b.2 [ inl c ↦ let x = rw c.1 at d in cc | inr k ↦ elim k [ inl c ↦ let x = rw c.1 at d in cc | inr c ↦ let x = rw c.1 at d in cc ] ]
])
blames sql params old new plain e (inl (inr f)) d = told_cause old new f.0 e f.1 f.2 d
blames sql params old new plain e (inr h) d = let bare = subst IsPlain h.1.is plain in let it = rw bare.0 at h.2 in absurd (no_disk _ _ _ _ e it.2 d)

-- none of them is met
pub none_any : {A : Type 0} (xs : List A) → Any (λ _. ⊥) xs → ⊥
none_any xs h = h.4

-- an error of an open store
pub caused : (old new : State) (e : Error) (cause : StoreError) → e ≡ store_error cause → HasCause old new ⊥ cause → IsTrue old.is_open → IsOutside e
caused old new e OutOfMemory is why up = inl is
caused old new e Io is why up = inr (ap is_disk_error is)
caused old new e Corrupt is why up = inr (ap is_disk_error is)
caused old new e Full is why up = inr (ap is_disk_error is)
caused old new e Broken is why up = absurd (let x = sym up ∙ why in cc)
caused old new e Unstorable is why up = absurd why

module _ (sql : List ℕ) (params : Row) (old new : State) (c : Compiled) (is : understood old.now.schema sql ≡ Ok c) (whole : length sql ≤ c.tail) (given : length params ≡ length c.names) (clock : c.formats ≡ [])
    (plain : c.returning ≡ None) (t : ℕ) (tests shown : List Term) (order : List (Term × Key)) (names : List (List ℕ))
    (command : c.command ≡ Select (record { lets = []; body = plain_query t tests shown order }) names)
    (unlisted : reads_listing old.now.schema sql ≡ false)
    (accepts : accepts_program old.now.schema (lets_of (record { lets = []; body = plain_query t tests shown order })) (plain_query t tests shown order) params ≡ true)
    (unlimited : old.step_limit ≡ None) (up : IsTrue old.is_open) where
  -- it is not refused
  refused : (db : Database) (ps : Row) (e : Error) → db ≡ old.now → ps ≡ params → RefusesToRead old.step_limit (Select (record { lets = []; body = plain_query t tests shown order }) names) db ps e → ⊥
  refused db ps e here same (inl h) =
      let there = subst₂ (λ (d : Database) (p : Row). accepts_program d.schema (lets_of (record { lets = []; body = plain_query t tests shown order })) (plain_query t tests shown order) p ≡ true) (sym here) (sym same) accepts in
      let x = sym there ∙ h.1 in cc
  refused db ps e here same (inr (inl (h, inl none))) = none
  refused db ps e here same (inr (inl (h, inr any))) = none_any (overlay db.trees [] t) any
  refused db ps e here same (inr (inr h)) = absurd (let x = rw unlimited at h.1 in cc)

  -- it only reads
  read_part : (k : Compiled) (ps : Row) (e : Error) (o : Option Returning) → o ≡ None → FailsToShow old new sql k ps e o
      → (db : Database) × IsSourceOf (reads_listing old.now.schema sql) old.now db × RefusesToRead old.step_limit k.command db ps e
  read_part k ps e None none h = (h.0, h.1, h.2)
  read_part k ps e (Some what) none h = absurd (cc)

  untimed : (formats : List (List ℕ)) (now : ℕ) → formats ≡ [] → timed params formats now ≡ params
  untimed formats now none = ap (λ f. timed params f now) none ∙ append-nil params

  -- a plain query whose parameters may be compared fails for nothing else, on an open connection without a step limit
  pub query_sane : (e : Error) → FailsToQuery sql params old new e → IsOutside e
  unfolding FailsToQuery IsNotRun
  query_sane e (inl (inl h)) = absurd (elim h.0 [
    | inl a ↦ let x = sym is ∙ a.1 in cc
    | inr b ↦ let x = sym is ∙ b.1 in let same : c ≡ b.0 = cc in elim b.2 [
      | inl d ↦ d.0 (subst (λ (k : Compiled). length sql ≤ k.tail) same whole)
      | inr d ↦ elim d [ inl f ↦ f.0 (subst (λ (k : Compiled). length params ≡ length k.names) same given) | inr f ↦ f.0 (subst (λ (k : Compiled). k.formats ≡ []) same clock) ]
    ]
  ])
  query_sane e (inl (inr f)) = caused old new e f.0 f.1 f.2 up
  query_sane e (inr h) =
      let x = sym is ∙ h.1.is in
      let same : c ≡ h.0 = cc in
      let it = read_part h.0 (timed params h.0.formats h.1.now) e h.0.returning (subst (λ (k : Compiled). k.returning ≡ None) same plain) h.2 in
      let here = subst (λ b. IsSourceOf b old.now it.0) unlisted it.1 in
      let bound = untimed h.0.formats h.1.now (subst (λ (k : Compiled). k.formats ≡ []) same clock) in
      absurd (refused it.0 (timed params h.0.formats h.1.now) e here bound
      (subst (λ k. RefusesToRead old.step_limit k it.0 (timed params h.0.formats h.1.now) e) (subst (λ (k : Compiled). k.command ≡ Select (record { lets = []; body = plain_query t tests shown order }) names) same command) it.2))
