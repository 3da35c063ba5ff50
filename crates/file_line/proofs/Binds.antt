-- The value of a reading that ended well.
use Rattle.std.proofs.Common.{Result, Ok}
use Rattle.file_document.specs.declared.fault.DocumentFault.{DocumentFault}

abbrev pub ok_of : {A : Type 0} → A → Result A DocumentFault
ok_of x = Ok x
