-- The faults of a file: their printed names, and the number of the record at fault.
use Rattle.std.specs.Prelude.{ℕ, List, Option, None, Some, codes}
use Rattle.file_tables.specs.declared.timing.fault.TimingFault.{TimingFault}
use Rattle.file_tables.specs.declared.timing.fault.TimingFault.TheVariants as fault

abbrev pub fault_name : TimingFault → List ℕ
fault_name fault.Header = codes "Header"
fault_name (fault.Fields n) = codes "Fields"
fault_name (fault.Parameter n) = codes "Parameter"
fault_name (fault.Value n) = codes "Value"
fault_name (fault.Twice n) = codes "Twice"
fault_name (fault.Order n) = codes "Order"
fault_name fault.TooMany = codes "TooMany"
fault_name fault.Empty = codes "Empty"
fault_name (fault.BadName n) = codes "Name"

-- the number of the record, where the fault is of one
abbrev pub fault_record : TimingFault → Option ℕ
fault_record fault.Header = None
fault_record (fault.Fields n) = Some n
fault_record (fault.Parameter n) = Some n
fault_record (fault.Value n) = Some n
fault_record (fault.Twice n) = Some n
fault_record (fault.Order n) = Some n
fault_record fault.TooMany = None
fault_record fault.Empty = None
fault_record (fault.BadName n) = Some n
