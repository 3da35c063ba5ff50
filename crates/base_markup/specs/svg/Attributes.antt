-- The attributes of an element, and their text.
use Rattle.std.specs.Prelude.{◌++◌, ◌/◌, ◌%◌, ◌==◌, ◌&&◌, ℕ, Bool, true, not, List, [], ◌∷◌, map}
use Rattle.std.specs.Prelude.{codes, decimal}
use Rattle.std.specs.List.{flat_map, list_any}
use Rattle.base_markup.specs.declared.svg.attribute.Key.{Key}
use Rattle.base_markup.specs.declared.svg.attribute.Key.TheVariants as key
use Rattle.base_markup.specs.declared.svg.attribute.Value.{Value}
use Rattle.base_markup.specs.declared.svg.attribute.Value.TheVariants.{Words, Tenths}
use Rattle.base_markup.specs.{declared.svg.attribute.Attribute.Attribute, svg.Names.key_name}
use Rattle.base_markup.specs.{svg.Escape.escaped}

-- a number of tenths in decimal digits, as 210.6
abbrev pub tenths_said : ℕ → List ℕ
tenths_said n = decimal (n / 10) ++ codes "." ++ decimal (n % 10)

-- the words that an attribute is set to
abbrev pub words_of : Value → List ℕ
words_of (Words words) = words.now
words_of (Tenths n) = tenths_said n

-- attributes as keys and words
abbrev pub said : List Attribute → List (Key × List ℕ)
said attributes = map (λ a. (a.key, words_of a.value)) attributes

-- an attribute with a space before it, its words in quotes
abbrev pub attribute_text : (Key × List ℕ) → List ℕ
attribute_text a =
    codes " " ++ key_name a.0 ++ codes "=\"" ++ escaped a.1 ++ codes "\""

abbrev pub attributes_text : List (Key × List ℕ) → List ℕ
attributes_text attributes = flat_map attribute_text attributes

abbrev pub key_number : Key → ℕ
key_number key.Xmlns = 0
key_number key.ViewBox = 1
key_number key.Role = 2
key_number key.Id = 3
key_number key.Class = 4
key_number key.Width = 5
key_number key.Height = 6
key_number key.X = 7
key_number key.Y = 8
key_number key.X1 = 9
key_number key.Y1 = 10
key_number key.X2 = 11
key_number key.Y2 = 12
key_number key.PatternUnits = 13
key_number key.PatternTransform = 14

-- no key stands twice
abbrev pub keys_differ : List (Key × List ℕ) → Bool
keys_differ [] = true
keys_differ (a ∷ rest) =
    not (list_any (λ b. key_number a.0 == key_number b.0) rest) && keys_differ rest
