-- The faults of documents: where they are, and their printed names.
use Rattle.std.specs.Prelude.{ℕ, List, Option, None, Some, codes}
use Rattle.file_document.specs.declared.fault.DocumentFault.{DocumentFault}
use Rattle.file_document.specs.declared.fault.DocumentFault.TheVariants as fault

abbrev pub place_of : DocumentFault → Option (List ℕ)
place_of fault.NotToml = None
place_of (fault.Unknown path) = Some path
place_of (fault.Missing path) = Some path
place_of (fault.WrongKind path) = Some path
place_of (fault.Range path) = Some path
place_of (fault.BadName path) = Some path
place_of (fault.Twice path) = Some path
place_of (fault.Channels from to) = None
place_of (fault.BadTime path why) = Some path
place_of (fault.Swept path) = Some path
place_of (fault.NoInstant path) = Some path
place_of (fault.TooMany path) = Some path
place_of (fault.BadDate path) = Some path
place_of (fault.OneFile path) = Some path

abbrev pub fault_name : DocumentFault → List ℕ
fault_name fault.NotToml = codes "NotToml"
fault_name (fault.Unknown path) = codes "Unknown"
fault_name (fault.Missing path) = codes "Missing"
fault_name (fault.WrongKind path) = codes "Kind"
fault_name (fault.Range path) = codes "Range"
fault_name (fault.BadName path) = codes "BadName"
fault_name (fault.Twice path) = codes "Twice"
fault_name (fault.Channels from to) = codes "Channels"
fault_name (fault.BadTime path why) = codes "BadTime"
fault_name (fault.Swept path) = codes "Swept"
fault_name (fault.NoInstant path) = codes "NoInstant"
fault_name (fault.TooMany path) = codes "TooMany"
fault_name (fault.BadDate path) = codes "BadDate"
fault_name (fault.OneFile path) = codes "OneFile"
