-- Each schema knows its own tables.
use Rattle.std.proofs.Common.{◌≡◌, IsTrue, ℕ, Bool, true, false, codes, List, Ok, Err, Result, IfOk, refl, sym, subst}
use Rattle.sqlite.specs.declared.error.Error.{Error}
use Rattle.sqlite.specs.Command.{Command}
use Rattle.sqlite.specs.Query.{Query}
use Rattle.sqlite.specs.Listing.{understood}
use Rattle.sqlite.specs.Schema.{Schema}
use Rattle.dip_store_sql.specs.Compiled.{Compiled}
use Rattle.dip_store_sql.specs.CompileError.{CompileError}
use Rattle.dip_store_sql.specs.Compute.{everything}
use Rattle.dip_store_sql.specs.Old.{old_schema}
use Rattle.dip_store_sql.specs.Asking.{Asks, command_in}
use Rattle.dip_store_sql.specs.Schema.{our_schema}
use Rattle.dip_store_sql.proofs.Texts as means
use Rattle.dip_store_schema.specs.Known.{has_table, HasOldTables, HasOurTables, IsKnown}

known_in : (r : Result Compiled CompileError) (command : Command) → command_in r command → (c : Compiled) × (r ≡ Ok c)
known_in (Ok c) command h = (c, refl)
known_in (Err e) command h = absurd h

known_by : (text : List ℕ) (count : ℕ) (q : Query) (names : List (List ℕ)) → Asks text count q names → IsKnown our_schema text
known_by text count q names asks = known_in _ _ asks.means.0

ours_known : HasOurTables our_schema
ours_known = (known_by _ _ _ _ means.find_desk, (known_by _ _ _ _ means.find_game, (known_by _ _ _ _ means.list_seats, (known_by _ _ _ _ means.list_units, (known_by _ _ _ _ means.list_centres, (known_by _ _ _ _ means.list_orders, (known_by _ _ _ _ means.find_item, (known_by _ _ _ _ means.find_paper, (known_by _ _ _ _ means.find_ballot, (known_by _ _ _ _ means.find_choice, tt))))))))))

pub known_of_ours : (schema : Schema) → schema ≡ our_schema → HasOurTables schema
known_of_ours schema is = subst HasOurTables (sym is) ours_known

-- that of version 1 knows its own
old_known : HasOldTables old_schema
unfolding understood everything
old_known = ((_, refl), ((_, refl), ((_, refl), ((_, refl), ((_, refl), ((_, refl), ((_, refl), ((_, refl), tt))))))))

pub known_of_old : (schema : Schema) → schema ≡ old_schema → HasOldTables schema
known_of_old schema is = subst HasOldTables (sym is) old_known

-- ours has a table of ballots
pub ours_has_ballots : (schema : Schema) → schema ≡ our_schema → has_table (codes "ballot") schema ≡ true
ours_has_ballots schema is = subst (λ (s : Schema). has_table (codes "ballot") s ≡ true) (sym is) refl

-- that of version 1 has none
pub old_has_none : (schema : Schema) → schema ≡ old_schema → has_table (codes "ballot") schema ≡ false
old_has_none schema is = subst (λ (s : Schema). has_table (codes "ballot") s ≡ false) (sym is) refl

pub all_known : (r : Result Bool Error) (P : Type 0) → IfOk r (λ b. (IsTrue b → P) × (P → IsTrue b)) → P → IfOk r IsTrue
all_known (Ok b) P h p = h.1 p
all_known (Err e) P h p = tt
