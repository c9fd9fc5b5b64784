use Rattle.std.proofs.Common.{◌≡◌, length, subst}
use Rattle.std.specs.List.{AllByRecursion}
use Rattle.sqlite_keyed.proofs.ListLemmas.{all_map}
use Rattle.dip_desk_state.specs.ChangeRows as desk_rows
use Rattle.dip_store_tables.proofs.widths.is_effect_narrow.Goals as goal

pub returns-in-Opens : goal.returns-in-Opens
returns-in-Opens c =
    let seats = subst (AllByRecursion (λ s. length s.digest ≡ 32)) c.as_slice.ensures.value c.seats_have_32.ensures in
    rw c.in-Opens.is (c.is_narrow.ensures, all_map (λ s. length s.digest ≡ 32) desk_rows.new_seat c.in-Opens.seats.items seats)
