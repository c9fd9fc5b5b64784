use Rattle.std.proofs.Common.{rules, ◌≡◌, ◌⊎◌, ℕ, List, inl, inr, refl, sym, subst, ◌∙◌}
use Rattle.sha2.specs.Sha256.{sha256}
use Rattle.sqlite.specs.Held.{Held, state}
use Rattle.dip_store_sql.specs.Calls.{does_show}
use Rattle.dip_store_sql.specs.Causes.{has_faulted}
use Rattle.dip_store_sql.specs.Rows.{tables_of}
use Rattle.dip_store_schema.specs.Desk.{DeskSays}
use Rattle.dip_store_sql.specs.Creating.{no_schema}
use Rattle.dip_store_schema.specs.Founding.{IsNewStore}
use Rattle.dip_store.specs.Opening.{AreOf, SayText, new_desk}
use Rattle.dip_store.specs.Stored.{IsStoreOf, SaysMap}
use Rattle.dip_store.proofs.Opened.{founded, new_desk_says, opens_new}
use Rattle.dip_store_schema.proofs.Refused.{open_blamed}
use Rattle.dip_store.proofs.keeper.SqlKeeper.create.Goals as goal

pub returns-in-Ok : goal.returns-in-Ok
returns-in-Ok g c = record {
  opened =
      let new : IsNewStore g.S.Store c.set_step_limit.new.self = record {
        empty = c.knows_none.ensures.value.0 c.if-not-knows_none.false;
        unlimited = rw c.set_step_limit.ensures refl;
      } in
      rw c.over.ensures
      (λ clean. opens_new g.S.Store c.args.map.now c.args.alloc c.set_up_tables.new.conn c.commits_last.ensures _ c.args.digest.now c.facts.ensures (c.new_tables_are_new.ensures c.args.map.now) c.new_tables_are_legible.ensures c.has_32.ensures
      (c.in-Ok.ensures.kept new clean) (c.in-Ok.ensures.ok clean));
  of_map =
      let sum : c.sum-map_sum.result ≡ sha256 c.args.map_text.now = search rules in
      rw c.over.ensures sum;
  told = search rules;
  made =
      let new : IsNewStore g.S.Store c.set_step_limit.new.self = record {
        empty = c.knows_none.ensures.value.0 c.if-not-knows_none.false;
        unlimited = rw c.set_step_limit.ensures refl;
      } in
      let sum : c.sum-map_sum.result ≡ sha256 c.args.map_text.now = search rules in
      rw c.over.ensures
      (λ clean. subst (λ (s : List ℕ). DeskSays 2 s (tables_of (state g.S.Store c.set_up_tables.new.conn).now.trees)) sum
      (subst (DeskSays 2 c.sum-map_sum.result) (sym (c.in-Ok.ensures.kept new clean).tables) (new_desk_says c.sum-map_sum.result c.args.digest.now)));
  empty = search rules;
  taken = search rules;
  refused = search rules;
  caused = search rules;
  same = search rules;
  fair = search rules;
  crash =
      let h = c.set_step_limit.new.self in
      let sum : c.sum-map_sum.result ≡ sha256 c.args.map_text.now = search rules in
      let empty = c.knows_none.ensures.value.0 c.if-not-knows_none.false in
      rw c.over.ensures
      (λ clean db may. subst (λ (h : Held _). (state g.S.Store h).may_leave db ⊎ (((state g.S.Store h).now.schema ≡ no_schema) × AreOf (IsStoreOf c.args.map.now (new_desk c.args.digest.now)) db × SayText c.args.map_text.now db))
      c.set_step_limit.ensures
      (elim (c.in-Ok.ensures.crash.crash clean db may) [
        | inl before ↦ inl before
        | inr founds ↦
            let new = founded c.args.map.now c.facts.ensures (c.new_tables_are_new.ensures c.args.map.now) c.new_tables_are_legible.ensures c.sum-map_sum.result c.args.digest.now c.has_32.ensures (state g.S.Store h) db empty founds in
            inr (empty, new.0, subst (λ (s : List ℕ). SaysMap s db) sum new.1)
      ]));
}

pub returns-in-Err : goal.returns-in-Err
returns-in-Err g c = record {
  opened = search rules;
  of_map = search rules;
  told = search rules;
  made = search rules;
  empty = search rules;
  taken = search rules;
  refused = search rules;
  caused = λ clean shows is.
      let h = c.set_step_limit.new.self in
      let new : IsNewStore g.S.Store h = record {
        empty = c.knows_none.ensures.value.0 c.if-not-knows_none.false;
        unlimited = rw c.set_step_limit.ensures refl;
      } in
      let there : does_show g.S.Store h = rw c.set_step_limit.ensures shows in
      inr (subst (λ (h : Held _). has_faulted g.S.Store h c.set_up_tables.new.conn) c.set_step_limit.ensures (open_blamed _ c.in-Err.error (c.in-Err.ensures.fails new there clean) (sym c.open_fault.ensures ∙ is)));
  same = search rules;
  fair = search rules;
  crash =
      let h = c.set_step_limit.new.self in
      let sum : c.sum-map_sum.result ≡ sha256 c.args.map_text.now = search rules in
      let empty = c.knows_none.ensures.value.0 c.if-not-knows_none.false in
      λ clean db may. subst (λ (h : Held _). (state g.S.Store h).may_leave db ⊎ (((state g.S.Store h).now.schema ≡ no_schema) × AreOf (IsStoreOf c.args.map.now (new_desk c.args.digest.now)) db × SayText c.args.map_text.now db))
      c.set_step_limit.ensures
      (elim (c.in-Err.ensures.crash.crash clean db may) [
        | inl before ↦ inl before
        | inr founds ↦
            let new = founded c.args.map.now c.facts.ensures (c.new_tables_are_new.ensures c.args.map.now) c.new_tables_are_legible.ensures c.sum-map_sum.result c.args.digest.now c.has_32.ensures (state g.S.Store h) db empty founds in
            inr (empty, new.0, subst (λ (s : List ℕ). SaysMap s db) sum new.1)
      ]);
}
