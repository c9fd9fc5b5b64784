-- A store of version 1 that was read, and then written anew.
use Rattle.std.proofs.Common.{◌≡◌, ◌⊎◌, inl, inr, ℕ, List, map, None, refl, sym, ap, subst, ◌∙◌, arith}
use Rattle.sqlite.specs.Effect.{Database}
use Rattle.sqlite.specs.Tree.{Trees}
use Rattle.sqlite.specs.Store.{Ghosts}
use Rattle.sqlite.specs.Held.{Held, state}
use Rattle.sqlite.specs.State.{Survives}
use Rattle.dip_map.specs.Charts.{Chart}
use Rattle.dip_store_tables.specs.Counting.{AreCounted}
use Rattle.dip_store_tables.specs.Tables.{BallotRow, Tables}
use Rattle.dip_store_sql.specs.Calls.{IsLaid, SelectsFrom, WasKept, is_honest, old_tables_in, tables_in}
use Rattle.dip_store_sql.proofs.Parts.{went}
use Rattle.dip_store_schema.specs.Founding.{Keeps}
use Rattle.dip_store_schema.specs.Making.{HasTables}
use Rattle.dip_store_sql.specs.Old.{WasGood, old_tables_of}
use Rattle.dip_store_tables.specs.Renewing.{OldTablesAreRenewed, old_ballot, renewed}
use Rattle.dip_store_schema.specs.Renewing.{AreRead, Fills, IsOldStore, Renews, filled}
use Rattle.dip_store_schema.proofs.Renewed.{filled_renewed, were_apart}

module _ {S : Type 0} (g : Ghosts S) (old a b end : Held S) {X Y E F : Type 0} (x : X) (y : Y)
    (first : SelectsFrom (WasKept g) g old a (went X E x)) (next : SelectsFrom (WasKept g) g a b (went Y F y)) (kept : WasKept g old) where
  -- after both readings it is kept, with the same rows
  pub kept_first : is_honest g a → WasKept g a × ((state g a).now ≡ (state g old).now)
  kept_first clean = let shows = first.ok kept clean in (first.kept kept shows, first.same kept shows)

  pub kept_both : is_honest g b → WasKept g b × ((state g b).now ≡ (state g old).now)
  kept_both clean =
      let one = kept_first (next.fair clean) in
      let shows = next.ok one.0 clean in
      (next.kept one.0 shows, next.same one.0 shows ∙ one.1)

  -- what they read is read of these rows
  pub read_both : (names : List (List ℕ)) (ballots : List BallotRow) → is_honest g b → (WasKept g old → is_honest g a → names ≡ map (λ t. t.name) (old_tables_in g old).games)
      → (WasKept g a → is_honest g b → ballots ≡ map old_ballot (old_tables_in g a).seats) → AreRead names ballots (old_tables_in g old)
  read_both names ballots clean named voted =
      let one = kept_first (next.fair clean) in
      record { named = named kept (next.fair clean); voted = voted one.0 clean ∙ ap (λ (d : Database). map old_ballot (old_tables_of d.trees).seats) one.1 }

  module _ (names : List (List ℕ)) (ballots : List BallotRow) (read : AreRead names ballots (old_tables_in g old)) where
    as_renewed : filled names ballots (old_tables_in g old) ≡ renewed (old_tables_in g old)
    as_renewed = filled_renewed (old_tables_in g old) refl refl names ballots read.named read.voted

    -- then the rows are those of version 2 that say the same
    pub keeps_renewed : (m : Chart) → OldTablesAreRenewed m → IsOldStore m (state g old).now → is_honest g b
        → (WasGood (state g b).now → b.step_limit ≡ None → IsLaid g end × (tables_in g end ≡ filled names ballots (old_tables_in g b)))
        → Keeps g end (renewed (old_tables_in g old))
    keeps_renewed m law own clean laid =
        let both = kept_both clean in
        let it = laid both.0.good both.0.unlimited in
        let is = it.1 ∙ ap (λ (d : Database). filled names ballots (old_tables_of d.trees)) both.1 ∙ as_renewed in
        let same = law (old_tables_in g old) own.ours (were_apart (old_tables_in g old) (state g end).now it.0.good is) in
        record {
          kept = record { good = it.0.good; counted = subst AreCounted (sym is) (same.counted own.counted); idle = it.0.idle; settled = it.0.settled; unlimited = it.0.unlimited };
          tables = is;
        }

    -- what a crash leaves of it is what it left before, or those rows, whole
    pub left_renewed : Survives (state g b) (state g end) (Fills names ballots (state g b)) → is_honest g end → (db : Trees) → (state g end).may_leave db → (state g old).may_leave db ⊎ Renews (old_tables_in g old) db
    left_renewed survives clean db may =
        let honest : is_honest g b = omega (arith, clean, survives.clean) in
        elim (survives.crash clean db may) [
          | inl before ↦ inl (first.left kept (next.fair honest) db (next.left (kept_first (next.fair honest)).0 honest db before))
          | inr fills ↦ inr (fills.0, subst (λ (t : Tables). HasTables t fills.0) (ap (λ (d : Database). filled names ballots (old_tables_of d.trees)) (kept_both honest).1 ∙ as_renewed) (fills.1 (kept_both honest).0.good), fills.2)
        ]
