-- The attributes of an element, and their text.
use Rattle.std.specs.Prelude.{◌++◌, ◌==◌, ◌&&◌, ℕ, Bool, true, not, List, [], ◌∷◌, map, codes}
use Rattle.std.specs.List.{flat_map, list_any}
use Rattle.base_markup.specs.svg.Escape.{escaped}
use Rattle.base_markup.specs.declared.html.attribute.Key.{Key}
use Rattle.base_markup.specs.declared.html.attribute.Key.TheVariants as key
use Rattle.base_markup.specs.{declared.html.attribute.Attribute.Attribute, html.Names.key_name}

-- attributes as keys and words
abbrev pub said : List Attribute → List (Key × List ℕ)
said attributes = map (λ a. (a.key, a.words.now)) attributes

-- an attribute with a space before it, its words in quotes
unfoldable pub attribute_text : (Key × List ℕ) → List ℕ
attribute_text a =
    codes " " ++ key_name a.0 ++ codes "=\"" ++ escaped a.1 ++ codes "\""

abbrev pub attributes_text : List (Key × List ℕ) → List ℕ
attributes_text attributes = flat_map attribute_text attributes

abbrev pub key_number : Key → ℕ
key_number key.Lang = 0
key_number key.Charset = 1
key_number key.Name = 2
key_number key.Content = 3
key_number key.Id = 4
key_number key.Class = 5
key_number key.Href = 6
key_number key.Scope = 7
key_number key.Colspan = 8
key_number key.Rowspan = 9
key_number key.Title = 10
key_number key.Role = 11
key_number key.AriaLabel = 12
key_number key.AriaHidden = 13

-- no key stands twice
abbrev pub keys_differ : List (Key × List ℕ) → Bool
keys_differ [] = true
keys_differ (a ∷ rest) =
    not (list_any (λ b. key_number a.0 == key_number b.0) rest) && keys_differ rest
