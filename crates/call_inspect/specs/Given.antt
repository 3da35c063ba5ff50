-- Files by their names and their bytes, and the only one of a kind.
use Rattle.std.specs.Prelude.{◌+◌, ℕ, Bool, true, false, List, [], Option, Some, None, Vec, drop}
use Rattle.std.specs.Prelude.{if◌then◌else◌, position}
use Rattle.std.specs.List.{list_any}
use Rattle.std.specs.declared.alloc.Global.{Global}
use Rattle.call_inspect.specs.Kinds.{kind_of}
use Rattle.call_inspect.specs.declared.kind.Kind.{Kind}
use Rattle.call_inspect.specs.declared.kind.Kind.TheVariants as kind
use Rattle.call_inspect.specs.declared.given.GivenFile.{GivenFile}

abbrev pub bytes_in : Option (Vec ℕ Global) → List ℕ
bytes_in (Some v) = v.items
bytes_in None = []

-- the bytes of a file; none where it has more than a file may have
abbrev pub content : GivenFile → List ℕ
content f = bytes_in f.bytes

abbrev pub kind_in : GivenFile → Option Kind
kind_in f = kind_of f.name.now (content f)

-- a line can be read of it: it is a study or a line file
abbrev pub is_line_kind : Option Kind → Bool
is_line_kind (Some kind.Study) = true
is_line_kind (Some kind.Line) = true
is_line_kind other = false

abbrev pub is_scripts_kind : Option Kind → Bool
is_scripts_kind (Some kind.Scripts) = true
is_scripts_kind other = false

abbrev pub has_a_line : GivenFile → Bool
has_a_line f = is_line_kind (kind_in f)

abbrev pub has_scripts : GivenFile → Bool
has_scripts f = is_scripts_kind (kind_in f)

-- the place of the first that passes, where no later one does
abbrev pub unless_later : (GivenFile → Bool) → List GivenFile → Option ℕ → Option ℕ
unless_later test files None = None
unless_later test files (Some i) =
    if list_any test (drop (i + 1) files) then None else Some i

-- the place of the only one that passes
abbrev pub only : (GivenFile → Bool) → List GivenFile → Option ℕ
only test files = unless_later test files (position test files)
