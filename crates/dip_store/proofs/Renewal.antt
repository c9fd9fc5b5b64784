-- A store of version 1 that is opened.
use Rattle.std.proofs.Common.{◌≡◌, ◌⊎◌, List, ℕ, inl, inr, ap, subst, sym, ◌∙◌, Err, IsTrue}
use Rattle.sqlite.specs.Effect.{Database}
use Rattle.sqlite.specs.Tree.{Trees}
use Rattle.sqlite.specs.Store.{Ghosts}
use Rattle.sqlite.specs.Held.{Held, state}
use Rattle.dip_map.specs.Charts.{Chart}
use Rattle.dip_desk_state.specs.State.{State}
use Rattle.dip_store_sql.specs.Calls.{SelectsFrom, WasKept, does_show, is_honest, old_tables_in}
use Rattle.dip_store_tables.specs.Reading.{state_of}
use Rattle.dip_store_tables.specs.Counting.{AreCounted}
use Rattle.dip_store_tables.specs.Legible.{AreOurs}
use Rattle.dip_store_tables.specs.Renewing.{OldTablesAreRenewed, WereOurs, renewed}
use Rattle.dip_store_sql.specs.Causes.{has_faulted}
use Rattle.dip_store_sql.specs.Old.{old_tables_of}
use Rattle.dip_store_sql.proofs.Caused.{faulted_late}
use Rattle.dip_store.specs.Opening.{AreOf, IsRenewedFrom, IsSettled, Opens}
use Rattle.dip_store_schema.specs.Refusing.{IsOutage}
use Rattle.dip_store_schema.specs.Renewals.{RenewsStore}
use Rattle.dip_store_schema.specs.Renewing.{IsOldStore, Outgrows, Renews, old_said_by}
use Rattle.dip_store_schema.specs.declared.faults.StoreFault.{StoreFault}
use Rattle.dip_store_schema.specs.declared.faults.StoreFault.TheVariants.{Disk}
use Rattle.dip_store.specs.Stored.{fresh_keeper, said_by}
use Rattle.std.specs.declared.alloc.Global.{Global}
use Rattle.dip_store_sql.proofs.Parts.{went}
use Rattle.dip_store_schema.specs.Desk.{DeskSays}
use Rattle.dip_store_schema.specs.Founding.{Keeps}
use Rattle.dip_store.proofs.Marked.{renewed_says}
use Rattle.dip_store.proofs.Opened.{opens_kept, was_kept_by}
use Rattle.dip_store_schema.proofs.Renewed.{were_apart}

module _ {S : Type 0} (g : Ghosts S) (m : Chart) (law : OldTablesAreRenewed m) (store : Held S) (own : IsOldStore m (state g store).now) (s : State)
    (says : old_said_by m (state g store).now.trees ≡ s) where
  -- the tables that its own become say what they said
  pub renews_stored : (db : Trees) → Renews (old_tables_in g store) db → AreOf (IsRenewedFrom m s (state g store).now) db
  renews_stored db it =
      let t = old_tables_in g store in
      let now = it.1 in
      let same = law t own.ours (were_apart t it.0 now.0 now.1) in (
        it.0,
        sym it.2,
        record {
          was = own;
          says = (
            record { good = now.0; counted = subst AreCounted (sym now.1) (same.counted own.counted); ours = subst (AreOurs m) (sym now.1) same.ours },
            ap (state_of m) now.1 ∙ same.says ∙ says,
          );
          map_is = λ map_sum marked. subst (DeskSays 2 map_sum) (sym now.1) (renewed_says map_sum t marked);
        },
      )

  -- one that was renewed is open, and says what it said
  pub opens_renewed : {X E : Type 0} (map_sum : List ℕ) → DeskSays 1 map_sum (old_tables_in g store) → (x : X) (alloc : Global) (a conn : Held S) → (IsTrue (state g conn).is_open → (db : Trees) → (state g conn).may_leave db → db ≡ (state g conn).committed.trees)
      → SelectsFrom (WasKept g) g store a (went X E x) → IsSettled g store → does_show g store → is_honest g a
      → (WasKept g a → IsOldStore m (state g a).now → Keeps g conn (renewed (old_tables_in g a))) → does_show g conn
      → Opens g m s (fresh_keeper alloc conn map_sum)
  opens_renewed map_sum marked x alloc a conn last p ready up clean keeps shows =
      let kept = was_kept_by g m store ready own up in
      let still = p.ok kept clean in
      let same = p.same kept still in
      let here = subst (IsOldStore m) (sym same) own in
      let it = keeps (p.kept kept still) here in
      let t = old_tables_in g a in
      let now = law t here.ours (were_apart t (state g conn).now it.kept.good it.tables) in
      opens_kept g m alloc conn last s map_sum it.kept (subst (AreOurs m) (sym it.tables) now.ours)
      (ap (state_of m) it.tables ∙ now.says ∙ ap (λ (d : Database). old_said_by m d.trees) same ∙ says) shows
      (subst (DeskSays 2 map_sum) (sym it.tables) (renewed_says map_sum t (subst (λ (d : Database). DeskSays 1 map_sum (old_tables_of d.trees)) (sym same) marked)))

-- one that was read of, and couldn't be made anew
module _ {S X E : Type 0} (g : Ghosts S) (m : Chart) (store a new : Held S) (ready : IsSettled g store) (own : IsOldStore m (state g store).now) (shows : does_show g store)
    (x : X) (p : SelectsFrom (WasKept g) g store a (went X E x)) (fault : StoreFault) (renews : RenewsStore g a new (Err fault)) (clean : is_honest g new) where
  kept : WasKept g store
  kept = was_kept_by g m store ready own shows

  up : does_show g a
  up = p.ok kept (renews.fair clean)

  there : WasKept g a
  there = p.kept kept up

  same : (state g a).now ≡ (state g store).now
  same = p.same kept up

  ours : WereOurs m (old_tables_in g a)
  ours = subst (λ (d : Database). WereOurs m (old_tables_of d.trees)) (sym same) own.ours

  pub late_outage : IsOutage fault
  late_outage = renews.own there up clean m ours

  pub late_cause : fault ≡ Disk → has_faulted g store new ⊎ Outgrows (state g store).now.trees
  late_cause is = elim (renews.caused there up clean m ours (ap (λ (f : StoreFault). Err f) is)) [
    | inl more ↦ inl (faulted_late (state g store) (state g a) (state g new) p.counts more)
    | inr full ↦ inr (subst (λ (d : Database). Outgrows d.trees) same full)
  ]

  pub late_base : does_show g new → (state g new).committed ≡ (state g store).committed
  late_base shown = renews.base there shown ∙ sym there.settled ∙ same ∙ kept.settled

  pub late_still : does_show g new → (state g new).now ≡ (state g store).now
  late_still shown = renews.still there shown ∙ same

  pub late_closes : does_show g new ⊎ has_faulted g store new
  late_closes = elim (renews.closes clean up) [
    | inl shown ↦ inl shown
    | inr more ↦ inr (faulted_late (state g store) (state g a) (state g new) p.counts more)
  ]

  pub late_left : (db : Trees) → (state g new).may_leave db → (state g store).may_leave db ⊎ Renews (old_tables_in g store) db
  late_left db may = elim (renews.left there clean db may) [
    | inl before ↦ inl (p.left kept (renews.fair clean) db before)
    | inr anew ↦ inr (subst (λ (d : Database). Renews (old_tables_of d.trees) db) same anew)
  ]
