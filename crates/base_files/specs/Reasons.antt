-- Reasons: of which errors of the system they are, and their words.
use Rattle.std.specs.Prelude.{ℕ, List, codes}
use Rattle.base_files.specs.declared.reason.Reason.{Reason}
use Rattle.base_files.specs.declared.reason.Reason.TheVariants as reason
use Rattle.std_io.specs.declared.io.kind.ErrorKind.{ErrorKind}
use Rattle.std_io.specs.declared.io.kind.ErrorKind.TheVariants as kind

-- the reason of an error of the system of this kind
abbrev pub reason_of : ErrorKind → Reason
reason_of kind.NotFound = reason.NotFound
reason_of kind.NotADirectory = reason.NotFound
reason_of kind.PermissionDenied = reason.NoPermission
reason_of kind.ReadOnlyFilesystem = reason.NoPermission
reason_of kind.IsADirectory = reason.IsFolder
reason_of kind.StorageFull = reason.Full
reason_of kind.QuotaExceeded = reason.Full
reason_of kind.BrokenPipe = reason.Closed
reason_of _ = reason.Other

-- what is said of it
abbrev pub words_of : Reason → List ℕ
words_of reason.NotFound = codes "no such file or folder"
words_of reason.NoPermission = codes "no permission"
words_of reason.IsFolder = codes "it is a folder"
words_of reason.Full = codes "no room is left"
words_of reason.Closed = codes "nobody reads it"
words_of reason.Other = codes "an input or output error"
