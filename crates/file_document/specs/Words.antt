-- Texts of a document that stand for something: the kind of a fault, and a plain name.
use Rattle.std.specs.Prelude.{ℕ, List, Result, Ok, Err, codes, if◌then◌else◌}
use Rattle.std.specs.Str.{bytes_eq}
use Rattle.model_line.specs.declared.script.Kind.TheVariants.{Internal, External}
use Rattle.model_line.specs.{declared.script.Kind.Kind, PlainNames.is_plain_name}
use Rattle.file_document.specs.declared.fault.DocumentFault.{DocumentFault}
use Rattle.file_document.specs.declared.fault.DocumentFault.TheVariants as fault

abbrev pub kind_of : List ℕ → List ℕ → Result Kind DocumentFault
kind_of path text =
    if bytes_eq text (codes "internal") then Ok Internal
    else if bytes_eq text (codes "external") then Ok External
    else Err (fault.BadName path)

abbrev pub plain_name : List ℕ → List ℕ → Result (List ℕ) DocumentFault
plain_name path name = if is_plain_name name then Ok name else Err (fault.BadName path)
