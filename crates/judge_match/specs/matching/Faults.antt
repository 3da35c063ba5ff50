-- The faults of a file: their printed names, and the number of the record at fault.
use Rattle.std.specs.Prelude.{ℕ, List, Option, None, Some, codes}
use Rattle.judge_match.specs.declared.matching.fault.SeenFault.{SeenFault}
use Rattle.judge_match.specs.declared.matching.fault.SeenFault.TheVariants as fault

abbrev pub fault_name : SeenFault → List ℕ
fault_name fault.Header = codes "Header"
fault_name (fault.Fields n) = codes "Fields"
fault_name (fault.BadPlace n) = codes "Place"
fault_name (fault.Ticks n) = codes "Ticks"
fault_name (fault.Order n) = codes "Order"
fault_name (fault.BadName n) = codes "Name"
fault_name (fault.Later n) = codes "Later"
fault_name (fault.Level n) = codes "Level"
fault_name fault.Empty = codes "Empty"

-- the number of the record, where the fault is of one
abbrev pub fault_record : SeenFault → Option ℕ
fault_record fault.Header = None
fault_record (fault.Fields n) = Some n
fault_record (fault.BadPlace n) = Some n
fault_record (fault.Ticks n) = Some n
fault_record (fault.Order n) = Some n
fault_record (fault.BadName n) = Some n
fault_record (fault.Later n) = Some n
fault_record (fault.Level n) = Some n
fault_record fault.Empty = None
