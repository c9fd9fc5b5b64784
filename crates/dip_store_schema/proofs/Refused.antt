-- Why a store isn't opened, by what was told of its tables and of its master's row.
use Rattle.std.proofs.Common.{◌≡◌, ◌<◌, ◌^◌, ℕ, List, Option, Some, None, IfErr, IfSome, IsTrue, Ok, Err, Result, true, false, length, option_map, refl, sym, ap, subst, ◌∙◌, inl, inr, arith}
use Rattle.std.specs.List.{find}
use Rattle.sha2.specs.Sha256.{sha256}
use Rattle.sha2.proofs.Facts256.{length-sha256}
use Rattle.sqlite.specs.declared.error.Error.{Error}
use Rattle.sqlite.specs.declared.error.Error.TheVariants.{SqliteFailure}
use Rattle.sqlite.specs.declared.error.ErrorCode.{ErrorCode}
use Rattle.sqlite.specs.declared.error.ErrorCode.TheVariants as code
use Rattle.sqlite.specs.State.{is_disk_error}
use Rattle.dip_store_schema.specs.Desk.{DeskSays, IsMarked, columns_of}
use Rattle.dip_store_sql.specs.RowFaults.{BlamesFor, IsFromOutside}
use Rattle.dip_store_schema.specs.declared.desk_row.DeskColumns.{DeskColumns}
use Rattle.dip_store_sql.specs.declared.row_faults.RowFault.{RowFault}
use Rattle.dip_store_sql.specs.declared.row_faults.RowFault.TheVariants as rows
use Rattle.dip_store_sql.specs.Causes.{IsCaused}
use Rattle.dip_store_sql.proofs.Caused.{caused_weaker}
use Rattle.dip_store_sql.specs.TablesAfter.{is_first}
use Rattle.dip_store_tables.specs.Tables.{DeskRow, Tables}
use Rattle.dip_store_sql.specs.Refusals.{IsBlamed, is_outage}
use Rattle.sqlite.specs.Reading.{IsReadError}
use Rattle.sqlite.specs.declared.types.Value.{Value}
use Rattle.dip_store_schema.specs.Faults.{desk_fault, open_code_fault, open_fault, row_code_fault, row_fault}
use Rattle.dip_store_schema.specs.Refusing.{IsRefusedAs, Differs, IsOutage}
use Rattle.dip_store_schema.specs.declared.faults.StoreFault.{StoreFault}
use Rattle.dip_store_schema.specs.declared.faults.StoreFault.TheVariants.{Memory, Disk, OtherMap, OtherSchema}

code_outage : (c : ErrorCode) → IsOutage (open_code_fault c)
code_outage code.OutOfMemory = tt
code_outage _ = tt

pub open_outage : (e : Error) → IsOutage (open_fault e)
open_outage (SqliteFailure c) = code_outage c
open_outage _ = tt

-- the disk is told of only where there was this fault of it
pub open_blamed : (fault : Type 0) (e : Error) → IsCaused fault e → open_fault e ≡ Disk → fault
open_blamed fault e (inl memory) is = absurd (let bad : Memory ≡ Disk = ap open_fault (sym memory) ∙ is in cc)
open_blamed fault e (inr disk) is = disk.1

-- and of a query of rows, whatever the rows are
code_told : (fault : Type 0) (c : ErrorCode) → IsBlamed fault (SqliteFailure c) → row_code_fault c ≡ Disk → fault
code_told fault code.OutOfMemory blamed is = absurd (let x : Memory ≡ Disk = is in cc)
code_told fault code.SystemIoFailure blamed is = blamed refl
code_told fault code.DatabaseCorrupt blamed is = blamed refl
code_told fault code.DiskFull blamed is = blamed refl
code_told fault code.Closed blamed is = blamed refl
code_told fault _ blamed is = absurd (let x : OtherSchema ≡ Disk = is in cc)

row_told : (fault : Type 0) (e : Error) → IsBlamed fault e → row_fault e ≡ Disk → fault
row_told fault (SqliteFailure c) blamed is = code_told fault c blamed is
row_told fault _ blamed is = absurd (let x : OtherSchema ≡ Disk = is in cc)

pub desk_told : (fault : Type 0) (e : RowFault) → BlamesFor fault e → desk_fault e ≡ Disk → fault
desk_told fault rows.Memory blamed is = absurd (let x : Memory ≡ Disk = is in cc)
desk_told fault (rows.Sql e) blamed is = row_told fault e blamed is
desk_told fault rows.Misfit blamed is = absurd (let x : OtherSchema ≡ Disk = is in cc)

-- so is it where the rows are those of a desk
row_caused : (fault : Type 0) (e : Error) → IsCaused fault e → row_fault e ≡ Disk → fault
row_caused fault e (inl memory) is = absurd (let bad : Memory ≡ Disk = ap row_fault (sym memory) ∙ is in cc)
row_caused fault e (inr disk) is = disk.1

pub desk_caused : (fault : Type 0) (e : RowFault) → IsFromOutside fault e → desk_fault e ≡ Disk → fault
desk_caused fault rows.Memory own is = absurd (let x : Memory ≡ Disk = is in cc)
desk_caused fault (rows.Sql e) own is = row_caused fault e own is
desk_caused fault rows.Misfit own is = absurd own

pub look_blamed_more : (fault : Type 0) (e : RowFault) → BlamesFor ⊥ e → BlamesFor fault e
look_blamed_more fault rows.Memory blamed = tt
look_blamed_more fault (rows.Sql e) blamed = λ out. absurd (blamed out)
look_blamed_more fault rows.Misfit blamed = tt

-- want of memory and the disk are no more to blame where there was a fault
pub outside_more : {X : Type 0} (fault : Type 0) (r : Result X RowFault) → IfErr r (IsFromOutside ⊥) → IfErr r (IsFromOutside fault)
outside_more fault (Ok x) own = tt
outside_more fault (Err rows.Memory) own = tt
outside_more fault (Err (rows.Sql e)) own = caused_weaker ⊥ fault e (λ none. absurd none) own
outside_more fault (Err rows.Misfit) own = absurd own

-- an outage is no word on the map, and refuses whatever the master's row says
pub outage_no_map : (f : StoreFault) → IsOutage f → f ≡ OtherMap → ⊥
outage_no_map Memory out is = absurd (cc)
outage_no_map Disk out is = absurd (cc)
outage_no_map OtherMap out is = out
outage_no_map OtherSchema out is = out

pub outage_refused : (version : ℕ) (map_sum : List ℕ) (row : Option DeskRow) (f : StoreFault) → IsOutage f → IsRefusedAs version map_sum row f
outage_refused version map_sum row Memory out = tt
outage_refused version map_sum row Disk out = tt
outage_refused version map_sum row OtherMap out = absurd out
outage_refused version map_sum row OtherSchema out = absurd out

disk_outage : (c : ErrorCode) → IsTrue (is_disk_error (SqliteFailure c)) → IsOutage (row_code_fault c)
disk_outage code.SystemIoFailure disk = tt
disk_outage code.DatabaseCorrupt disk = tt
disk_outage code.DiskFull disk = tt
disk_outage _ disk = absurd (let x : false ≡ true = disk in cc)

caused_outage : (fault : Type 0) (e : Error) → IsCaused fault e → IsOutage (row_fault e)
caused_outage fault e (inl memory) = subst (λ (x : Error). IsOutage (row_fault x)) (sym memory) tt
caused_outage fault (SqliteFailure c) (inr disk) = disk_outage c disk.0
caused_outage fault _ (inr disk) = absurd (let x : false ≡ true = disk.0 in cc)

desk_outage : (fault : Type 0) (e : RowFault) → IsFromOutside fault e → IsOutage (desk_fault e)
desk_outage fault rows.Memory own = tt
desk_outage fault (rows.Sql e) own = caused_outage fault e own
desk_outage fault rows.Misfit own = absurd own

code_no_map : (c : ErrorCode) → row_code_fault c ≡ OtherMap → ⊥
code_no_map code.OutOfMemory is = absurd (let x : Memory ≡ OtherMap = is in cc)
code_no_map code.SystemIoFailure is = absurd (let x : Disk ≡ OtherMap = is in cc)
code_no_map code.DatabaseCorrupt is = absurd (let x : Disk ≡ OtherMap = is in cc)
code_no_map code.DiskFull is = absurd (let x : Disk ≡ OtherMap = is in cc)
code_no_map code.Closed is = absurd (let x : Disk ≡ OtherMap = is in cc)
code_no_map _ is = absurd (let x : OtherSchema ≡ OtherMap = is in cc)

row_no_map : (e : Error) → row_fault e ≡ OtherMap → ⊥
row_no_map (SqliteFailure c) is = code_no_map c is
row_no_map _ is = absurd (let x : OtherSchema ≡ OtherMap = is in cc)

desk_no_map : (e : RowFault) → desk_fault e ≡ OtherMap → ⊥
desk_no_map rows.Memory is = absurd (let x : Memory ≡ OtherMap = is in cc)
desk_no_map (rows.Sql e) is = row_no_map e is
desk_no_map rows.Misfit is = absurd (let x : OtherSchema ≡ OtherMap = is in cc)

-- where the master's row wasn't read
pub unread_refused : (fault : Type 0) (version : ℕ) (map_sum : List ℕ) (row : Option DeskRow) (e : RowFault) → (IfSome row IsMarked → IsFromOutside fault e) → IsRefusedAs version map_sum row (desk_fault e)
unread_refused fault version map_sum row e h = which (desk_fault e) refl
  where
    which : (f : StoreFault) → desk_fault e ≡ f → IsRefusedAs version map_sum row f
    which Memory is = tt
    which Disk is = tt
    which OtherMap is = absurd (desk_no_map e is)
    which OtherSchema is = λ d at marked same. subst IsOutage is (desk_outage fault e (h (subst (λ (o : Option DeskRow). IfSome o IsMarked) (sym at) marked)))

-- where there is none
pub none_refused : (version : ℕ) (map_sum : List ℕ) (row : Option DeskRow) → None ≡ option_map columns_of row → IsRefusedAs version map_sum row OtherSchema
none_refused version map_sum None is = λ d at marked same. absurd (cc)
none_refused version map_sum (Some d) is = absurd (cc)

-- and by what it says
pub differs_refused : (version : ℕ) (map_sum : List ℕ) (row : Option DeskRow) (c : DeskColumns) (f : StoreFault) → Some c ≡ option_map columns_of row → Differs version c map_sum f → IsRefusedAs version map_sum row f
differs_refused version map_sum None c f is w = absurd (cc)
differs_refused version map_sum (Some d) c f is w = which f w
  where
    same : c ≡ columns_of d
    same = cc

    which : (f : StoreFault) → Differs version c map_sum f → IsRefusedAs version map_sum (Some d) f
    which Memory w = tt
    which Disk w = tt
    which OtherMap w = (d, refl, ap (λ (x : DeskColumns). x.version) (sym same) ∙ w.0, λ is. w.1 (ap (λ (x : DeskColumns). x.map_sum) same ∙ is))
    which OtherSchema w = λ e at marked so. w (ap (λ (x : DeskColumns). x.version) same ∙ let there : d ≡ e = cc in ap (λ (x : DeskRow). x.version) there ∙ so)

-- where it says this version and this map, that is no reason
pub own_outage : (version : ℕ) (text : List ℕ) (t : Tables) (f : StoreFault) → version < 2 ^ 32 → DeskSays version (sha256 text) t → IsRefusedAs version (sha256 text) (find is_first t.desk) f → IsOutage f
own_outage version text t Memory low says w = tt
own_outage version text t Disk low says w = tt
own_outage version text t OtherMap low says w =
    let found = says.found in
    let at = w.1 in
    let there : says.desk ≡ w.0 = cc in
    absurd (w.3 (ap (λ (x : DeskRow). x.map) (sym there) ∙ says.map_is))
own_outage version text t OtherSchema low says w =
    let v = says.version_is in
    let small : says.desk.version < 2 ^ 32 = omega (arith, v, low) in
    w says.desk says.found (small, ap length says.map_is ∙ length-sha256 text) v
