-- A text that names what the schema hasn't is told from a fault of the store by its error alone.
use Rattle.std.proofs.Common.{◌≡◌, inl, inr, List, [], ℕ, Ok, ◌≤◌, length, replicate, sym, subst, ◌∙◌}
use Rattle.std.proofs.lemmas.List.{length-replicate}
use Rattle.sqlite.specs.declared.error.Error.{Error}
use Rattle.sqlite_trees.specs.declared.error.StoreError.{StoreError}
use Rattle.sqlite_trees.specs.declared.error.StoreError.TheVariants.{OutOfMemory, Io, Corrupt, Full, Broken, Unstorable}
use Rattle.sqlite.specs.declared.types.Value.TheVariants.{Null}
use Rattle.sqlite_resolve.specs.declared.compiled.Compiled.{Compiled}
use Rattle.sqlite.specs.Order.{Row}
use Rattle.sqlite.specs.Listing.{understood}
use Rattle.sqlite.specs.State.{State, IsNotRun, IsUnchanged, store_error}
use Rattle.dip_store_sql.specs.Faults.{IsOfText}

-- the store's errors are none of the text
no_store : (cause : StoreError) → IsOfText (store_error cause) → ⊥
no_store OutOfMemory h = h
no_store Io h = h
no_store Corrupt h = h
no_store Full h = h
no_store Broken h = h
no_store Unstorable h = h

module _ (sql : List ℕ) (old new : State) (e : Error) (told : (params : Row) → IsNotRun old new sql params e) where
  -- it is not understood, and nothing changed
  pub missing : IsOfText e → ((c : Compiled) → understood old.now.schema sql ≡ Ok c → ⊥) × IsUnchanged old new
  unfolding IsNotRun
  missing h = elim (told []) [
    | inl none ↦ (
      elim none.0 [
        | inl a ↦ λ c is. let x = sym is ∙ a.1 in cc
        | inr b ↦ absurd (elim b.2 [
          | inl d ↦ subst IsOfText d.1 h
          | inr d ↦ elim d [ inl f ↦ subst IsOfText f.1 h | inr f ↦ subst IsOfText f.1 h ]
        ])
      ],
      none.1,
    )
    | inr fault ↦ absurd (no_store fault.0 (subst IsOfText fault.1 h))
  ]

  -- where it is understood the error is the store's
  pub present : (c : Compiled) → understood old.now.schema sql ≡ Ok c → length sql ≤ c.tail → c.formats ≡ [] → (cause : StoreError) × (e ≡ store_error cause)
  unfolding IsNotRun
  present c is whole clock = elim (told (replicate (length c.names) Null)) [
    | inl none ↦ absurd (elim none.0 [
      | inl a ↦ (let x = sym is ∙ a.1 in cc)
      | inr b ↦ let x = sym is ∙ b.1 in let same : c ≡ b.0 = cc in elim b.2 [
        | inl d ↦ d.0 (subst (λ (k : Compiled). length sql ≤ k.tail) same whole)
        | inr d ↦ elim d [
          | inl f ↦ f.0 (subst (λ (k : Compiled). length (replicate (length c.names) Null) ≡ length k.names) same (length-replicate (length c.names) Null))
          | inr f ↦ f.0 (subst (λ (k : Compiled). k.formats ≡ []) same clock)
        ]
      ]
    ])
    | inr fault ↦ (fault.0, fault.1)
  ]
