-- Well-formed content (XML 1.0, without references to entities, comments and the like): text and
-- elements, each closed by its own name.
use Rattle.std.specs.Prelude.{◌++◌, ℕ, List, [], codes, IsTrue}
use Rattle.base_markup.specs.{declared.svg.tag.Tag.Tag, declared.svg.attribute.Key.Key, svg.Names.tag_name}
use Rattle.base_markup.specs.{svg.Escape.escaped, svg.Attributes.attributes_text, svg.Attributes.keys_differ}

-- the start of an element, up to what closes it
abbrev pub start_text : Tag → List (Key × List ℕ) → List ℕ
start_text tag attributes = codes "<" ++ tag_name tag ++ attributes_text attributes

-- an element with nothing in it
unfoldable pub leaf_text : Tag → List (Key × List ℕ) → List ℕ
leaf_text tag attributes = start_text tag attributes ++ codes "/>"

-- an element with this in it
unfoldable pub element_text : Tag → List (Key × List ℕ) → List ℕ → List ℕ
element_text tag attributes inside =
    start_text tag attributes ++ codes ">" ++ inside ++ codes "</" ++ tag_name tag ++ codes ">"

pub data IsContent : List ℕ → Type 0 where
  nothing : IsContent []
  words : (words rest : List ℕ) → IsContent rest → IsContent (escaped words ++ rest)
  leaf : (tag : Tag) (attributes : List (Key × List ℕ)) (rest : List ℕ)
      → IsTrue (keys_differ attributes) → IsContent rest
      → IsContent (leaf_text tag attributes ++ rest)
  element : (tag : Tag) (attributes : List (Key × List ℕ)) (inside rest : List ℕ)
      → IsTrue (keys_differ attributes) → IsContent inside → IsContent rest
      → IsContent (element_text tag attributes inside ++ rest)
