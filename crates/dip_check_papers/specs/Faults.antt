-- The names of faults, as the program tells them.
use Rattle.std.specs.Prelude.{List, codes, ℕ}
use Rattle.dip_check_papers.specs.declared.faults.CheckFault.{CheckFault}
use Rattle.dip_check_papers.specs.declared.faults.CheckFault.TheVariants.{Memory, Read, TooLong, Write}

abbrev pub check_fault_name : CheckFault → List ℕ
check_fault_name Read = codes "Read"
check_fault_name TooLong = codes "TooLong"
check_fault_name Write = codes "Write"
check_fault_name Memory = codes "Memory"
