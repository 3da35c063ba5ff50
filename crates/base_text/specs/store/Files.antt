-- The entries of a map of byte vectors, as bytes under names.
use Rattle.std.specs.Prelude.{ℕ, List, map, String, Vec}
use Rattle.std.specs.FinMap.{from_entries}
use Rattle.std.specs.String.{string_bytes}
use Rattle.std.specs.declared.alloc.Global.{Global}
use Rattle.base_text.specs.store.MemoryStore.{Files}

-- each name with the bytes of its vector
abbrev pub files_of : List (String Global × Vec ℕ Global) → Files
files_of entries = from_entries (map (λ entry. (string_bytes entry.0, entry.1.items)) entries)
