-- The files of a call, one after another.
use Rattle.std.specs.Prelude.{◌≡◌, ◌≤◌, ◌<◌, ◌∷◌, ⊤, ℕ, List, [], Option, Some, None, IfSome, Result, Ok, Err}
use Rattle.std.specs.Prelude.{Vec, length, slice_get}
use Rattle.std.specs.declared.alloc.Global.{Global}
use Rattle.base_text.specs.{store.Counts.Rose, store.Store.SameCounts}
use Rattle.call_inspect.specs.declared.given.GivenFile.{GivenFile}
use Rattle.call_inspect.specs.declared.halt.Halt.{Halt}
use Rattle.call_inspect.specs.declared.halt.Halt.TheVariants as halt

-- the bytes under each name, where the store tells them
abbrev pub Held : Type 0
Held = List ℕ → Option (List ℕ)

-- the most bytes that any file may have
abbrev pub most : ℕ
most = 67108864

-- these are the bytes that the store tells of a file, or it has too many
abbrev pub AreBytesOf : Option (List ℕ) → Option (Vec ℕ Global) → Type 0
AreBytesOf told (Some bytes) = IfSome told (λ b. b ≡ bytes.items)
AreBytesOf told None = IfSome told (λ b. most < length b)

-- these are the files of these names
unfoldable pub AreFetched : Held → List (List ℕ) → List GivenFile → Type 0
AreFetched files [] [] = ⊤
AreFetched files (n ∷ names) (f ∷ fs) =
    (f.name.now ≡ n) × AreBytesOf (files n) f.bytes × AreFetched files names fs
AreFetched files names fs = ⊥

-- the count of faults of the name at this place rose
abbrev pub IsCause : (List ℕ → ℕ) → (List ℕ → ℕ) → List (List ℕ) → ℕ → Type 0
IsCause old new names i = (name : List ℕ) × (slice_get names i ≡ Some name) × Rose (old name) (new name)

-- that of none of the names did
abbrev pub NoneRose : (List ℕ → ℕ) → (List ℕ → ℕ) → List (List ℕ) → Type 0
NoneRose old new names = (i : ℕ) → IsCause old new names i → ⊥

-- all files are fetched, or the fetch of one fails
abbrev pub FetchesAll : Held → (List ℕ → ℕ) → (List ℕ → ℕ) → List (List ℕ)
    → Result (Vec GivenFile Global) Halt → Type 0
FetchesAll files old new names (Ok fs) = SameCounts old new × AreFetched files names fs.items
FetchesAll files old new names (Err (halt.Unread i)) = IsCause old new names i
FetchesAll files old new names (Err halt.Sink) = ⊥
FetchesAll files old new names (Err halt.Memory) = SameCounts old new

-- one is
abbrev pub FetchesOne : Held → (List ℕ → ℕ) → (List ℕ → ℕ) → List ℕ → ℕ
    → Result (Option (Vec ℕ Global)) Halt → Type 0
FetchesOne files old new name i (Ok bytes) = SameCounts old new × AreBytesOf (files name) bytes
FetchesOne files old new name i (Err (halt.Unread k)) = (k ≡ i) × Rose (old name) (new name)
FetchesOne files old new name i (Err halt.Sink) = ⊥
FetchesOne files old new name i (Err halt.Memory) = SameCounts old new
