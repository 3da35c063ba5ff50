-- Well-formed content of HTML: text, signs, elements that are closed by their own names, those that
-- hold nothing, style sheets and drawings; and documents of one root.
use Rattle.std.specs.Prelude.{◌≡◌, ◌++◌, ◌==◌, ℕ, List, [], codes, IsTrue, map, if◌then◌else◌}
use Rattle.base_markup.specs.svg.Attributes as svg
use Rattle.base_markup.specs.svg.Content as svg_content
use Rattle.base_markup.specs.declared.svg.tag.Tag.TheVariants as svg_tag
use Rattle.base_markup.specs.declared.svg.attribute.Key.{Key as SvgKey}
use Rattle.base_markup.specs.declared.html.{tag.Tag.Tag, tag.Void.Void, attribute.Key.Key, sign.Sign.Sign}
use Rattle.base_markup.specs.html.Names.{tag_name, tag_end, void_name, sign_text}
use Rattle.base_markup.specs.html.Attributes.{attributes_text, keys_differ}
use Rattle.base_markup.specs.html.Words.{words_text}

-- the start of an element of this name
abbrev pub start_text : List ℕ → List (Key × List ℕ) → List ℕ
start_text name attributes = codes "<" ++ name ++ attributes_text attributes ++ codes ">"

-- an element that holds nothing
unfoldable pub void_text : Void → List (Key × List ℕ) → List ℕ
void_text tag attributes = start_text (void_name tag) attributes ++ codes "\n"

-- an element with this in it
unfoldable pub element_text : Tag → List (Key × List ℕ) → List ℕ → List ℕ
element_text tag attributes inside =
    start_text (tag_name tag) attributes ++ inside ++ codes "</" ++ tag_name tag ++ codes ">"
    ++ tag_end tag

-- a style sheet without `<`, so that nothing in it ends it
abbrev pub plain_sheet : List ℕ → List ℕ
plain_sheet sheet = map (λ c. if c == 60 then 63 else c) sheet

unfoldable pub sheet_text : List ℕ → List ℕ
sheet_text sheet = codes "<style>" ++ plain_sheet sheet ++ codes "</style>\n"

pub data IsHtml : List ℕ → Type 0 where
  nothing : IsHtml []
  words : (words rest : List ℕ) → IsHtml rest → IsHtml (words_text words ++ rest)
  sign : (sign : Sign) (rest : List ℕ) → IsHtml rest → IsHtml (sign_text sign ++ rest)
  void : (tag : Void) (attributes : List (Key × List ℕ)) (rest : List ℕ)
      → IsTrue (keys_differ attributes) → IsHtml rest
      → IsHtml (void_text tag attributes ++ rest)
  element : (tag : Tag) (attributes : List (Key × List ℕ)) (inside rest : List ℕ)
      → IsTrue (keys_differ attributes) → IsHtml inside → IsHtml rest
      → IsHtml (element_text tag attributes inside ++ rest)
  sheet : (sheet rest : List ℕ) → IsHtml rest → IsHtml (sheet_text sheet ++ rest)
  drawing : (attributes : List (SvgKey × List ℕ)) (inside rest : List ℕ)
      → IsTrue (svg.keys_differ attributes) → svg_content.IsContent inside → IsHtml rest
      → IsHtml (svg_content.element_text svg_tag.Svg attributes inside ++ rest)

-- a document with this head and this body
unfoldable pub document_text : List ℕ → List ℕ → List ℕ
document_text head body =
    codes "<!DOCTYPE html>\n<html lang=\"en\">\n<head>\n" ++ head ++ codes "</head>\n<body>\n"
    ++ body ++ codes "</body>\n</html>\n"

pub record HasOneRoot (text : List ℕ) : Type 0 where
  pub head : List ℕ
  pub body : List ℕ
  pub head_formed : IsHtml head
  pub body_formed : IsHtml body
  pub is : text ≡ document_text head body

abbrev pub IsDocument : List ℕ → Type 0
IsDocument text = ∥ HasOneRoot text ∥₁
