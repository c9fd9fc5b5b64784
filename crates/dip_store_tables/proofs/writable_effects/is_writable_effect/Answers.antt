use Rattle.std.proofs.Common.{◌<◌, IsTrue, length, sym, ◌∙◌}
use Rattle.std.proofs.lemmas.Bool.{eqb-true}
use Rattle.dip_desk_state.specs.ChangeRows as desk_rows
use Rattle.dip_desk_state.specs.Rows as rows
use Rattle.dip_store_tables.proofs.Mapped.{each_told}
use Rattle.dip_store_tables.proofs.writable_effects.is_writable_effect.Goals as goal
use Rattle.dip_store_tables.proofs.writable_effects.is_writable_effect.Goals.{then-is_public, else-is_public}

pub returns-in-Pending : goal.returns-in-Pending
returns-in-Pending c =
    let told = each_told (IsTrue c.are_orders.result) (λ o. o.province < length c.args.map.now.provinces) (λ o. rows.standing o) _ _ c.as_slice.ensures.value c.are_orders.ensures in
    rw c.in-Pending.is (λ is. (told.0 is, tt), λ fits. told.1 fits.0)

pub returns-then-public-eq1 : goal.returns-then-public-eq1
returns-then-public-eq1 c =
    let told = each_told (IsTrue c.are_seats.result) (λ s. s.power < length c.args.map.now.realms) desk_rows.new_seat _ _ c.as_slice-then-public-eq1.ensures.value c.are_seats.ensures in
    elim c.if-is_public.branch [
      | then-is_public w ↦
          let fits = c.is_public.ensures.0 w.if-is_public.true in
          let first = eqb-true _ 1 (sym w.value-is ∙ c.if-public-eq1.true) in
          rw c.in-Opens.is (λ is. ((fits.0, fits.1, told.0 is), (fits.2, first)), λ fits. told.1 fits.0.2)
      | else-is_public w ↦ absurd (let none = sym w.value-is ∙ c.if-public-eq1.true in cc)
    ]
