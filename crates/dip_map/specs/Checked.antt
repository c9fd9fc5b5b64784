-- A map's parts, or the first fault that they have.
use Rattle.std.specs.Prelude.{Option, Some, None, Result, Ok, Err}
use Rattle.dip_names.specs.declared.faults.MapFault.{MapFault}
use Rattle.dip_map_chart.specs.Charts.{Chart}
use Rattle.dip_map_chart.specs.Checks.{first_fault}

-- what passes the checks of a map's parts
abbrev pub check_by : Option MapFault → Chart → Result Chart MapFault
check_by None m = Ok m
check_by (Some e) m = Err e

abbrev pub check : Chart → Result Chart MapFault
check m = check_by (first_fault m) m
