-- The faults of a file: their printed names, and the number of the record at fault.
use Rattle.std.specs.Prelude.{ℕ, List, Option, None, Some, codes}
use Rattle.file_tables.specs.declared.script.fault.ScriptFault.{ScriptFault}
use Rattle.file_tables.specs.declared.script.fault.ScriptFault.TheVariants as fault

abbrev pub fault_name : ScriptFault → List ℕ
fault_name fault.Header = codes "Header"
fault_name (fault.Fields n) = codes "Fields"
fault_name (fault.Item n) = codes "Item"
fault_name (fault.BadPlace n) = codes "Place"
fault_name (fault.Ticks n) = codes "Ticks"
fault_name (fault.Order n) = codes "Order"
fault_name (fault.BadName n) = codes "Name"
fault_name fault.TooMany = codes "TooMany"
fault_name fault.Empty = codes "Empty"

-- the number of the record, where the fault is of one
abbrev pub fault_record : ScriptFault → Option ℕ
fault_record fault.Header = None
fault_record (fault.Fields n) = Some n
fault_record (fault.Item n) = Some n
fault_record (fault.BadPlace n) = Some n
fault_record (fault.Ticks n) = Some n
fault_record (fault.Order n) = Some n
fault_record (fault.BadName n) = Some n
fault_record fault.TooMany = None
fault_record fault.Empty = None
