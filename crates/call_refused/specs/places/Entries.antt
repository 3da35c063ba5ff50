-- Where an entry of a TOML document begins: in the line through which the bytes have it, and before
-- which they have not.
use Rattle.std.specs.Prelude.{◌≡◌, ◌⊎◌, ◌||◌, ◌==◌, ◌+◌, ◌-◌, ◌<◌, ◌≤◌, ◌++◌, ℕ, suc, Bool, true, false, List, []}
use Rattle.std.specs.Prelude.{◌∷◌, Option, None, Some, is_some, length, take, drop}
use Rattle.std.specs.List.{list_all}
use Rattle.toml.specs.Data.{Data, table, get, at as item_at}
use Rattle.toml.specs.Data.{Members}
use Rattle.file_document.specs.Keys.{document_of}
use Rattle.file_document.specs.Paths.{under, numbered}
use Rattle.call_refused.specs.places.Bytes.{first_line}
use Rattle.call_refused.specs.places.Places.{before_in_line}
use Rattle.call_refused.specs.declared.places.steps.Step.{Step}
use Rattle.call_refused.specs.declared.places.steps.Step.TheVariants.{Key, Item}

-- ---- steps into a document

-- what stands one step further
abbrev pub stepped : Data → Step → Option Data
stepped d (Key key) = get key.now d
stepped d (Item i) = item_at i d

-- what stands behind these steps, one after another
abbrev pub reached : Option Data → List Step → Option Data
reached None steps = None
reached (Some d) [] = Some d
reached (Some d) (step ∷ steps) = reached (stepped d step) steps

-- the table has an entry there
abbrev pub has_entry : Members → List Step → Bool
has_entry top steps = is_some (reached (Some (table top)) steps)

-- the path of a step further, as the reader of a document writes it in a fault
abbrev pub onward : List ℕ → Step → List ℕ
onward path (Key key) = under path key.now
onward path (Item i) = numbered path i

abbrev pub path_of : List ℕ → List Step → List ℕ
path_of path [] = path
path_of path (step ∷ steps) = path_of (onward path step) steps

-- ---- the beginning of a document

-- a line feed or a closing bracket
abbrev pub is_closing : ℕ → Bool
is_closing b = (b == 10) || ((b == 93) || (b == 125))

-- Once what these bytes leave open is closed, they are a document, which has an entry there, or has
-- none.
pub record BeginsDocument (bytes : List ℕ) (steps : List Step) (has : Bool) : Type 0 where
  pub closing : List ℕ
  pub closes : list_all is_closing closing ≡ true
  pub top : Members
  pub document : document_of (bytes ++ closing) ≡ Some top
  pub entry : has_entry top steps ≡ has

-- where the line begins in which a byte stands, and where it ends
abbrev pub line_start : List ℕ → ℕ → ℕ
line_start bytes at = at - before_in_line bytes at

abbrev pub line_end : List ℕ → ℕ → ℕ
line_end bytes at = at + length (first_line (drop at bytes))

-- the entry there begins in the line in which the byte stands
pub record BeginsInLine (bytes : List ℕ) (at : ℕ) (steps : List Step) : Type 0 where
  pub before : BeginsDocument (take (line_start bytes at) bytes) steps false
  pub through : BeginsDocument (take (line_end bytes at) bytes) steps true

-- ---- the place of a path

-- The steps are all that the document has, or it has nothing one step further.
abbrev pub IsDeepest : List ℕ → List Step → ℕ → Type 0
IsDeepest bytes steps depth =
    (depth ≡ length steps) ⊎ BeginsDocument bytes (take (suc depth) steps) false

-- The byte stands in the line in which the entry of the path begins or, where there is no such entry,
-- the innermost on the way to it.
pub record IsPlaceOf (bytes path : List ℕ) (at : ℕ) : Type 0 where
  pub steps : List Step
  pub named : path_of [] steps ≡ path
  pub depth : ℕ
  pub some : 0 < depth
  pub within : depth ≤ length steps
  pub deepest : IsDeepest bytes steps depth
  pub begins : BeginsInLine bytes at (take depth steps)

-- it does, or is the first byte
abbrev pub IsPlaceOrFirst : List ℕ → List ℕ → ℕ → Type 0
IsPlaceOrFirst bytes path at = (at ≡ 0) ⊎ IsPlaceOf bytes path at
