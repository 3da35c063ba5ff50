-- Elements as the page uses them.
use Rattle.std.specs.Prelude.{◌++◌, ◌+◌, ℕ, List, [], ◌∷◌, codes, decimal}
use Rattle.std.specs.List.{flat_map}
use Rattle.base_markup.specs.declared.html.tag.Tag.{Tag}
use Rattle.base_markup.specs.declared.html.tag.Tag.TheVariants as tag
use Rattle.base_markup.specs.declared.html.attribute.Key.TheVariants as key
use Rattle.base_markup.specs.declared.html.sign.Sign.TheVariants as sign
use Rattle.base_markup.specs.{html.Content.element_text, html.Words.words_text, html.Names.sign_text}
use Rattle.draw_page.specs.declared.anchor.Anchor.{Anchor}
use Rattle.draw_page.specs.declared.anchor.Anchor.TheVariants as anchor

-- one after another, each with its number
abbrev pub numbered : {A : Type 0} → (ℕ → A → List ℕ) → ℕ → List A → List ℕ
numbered html n [] = []
numbered html n (a ∷ rest) = html n a ++ numbered html (n + 1) rest

-- ---- elements

abbrev pub plain_html : Tag → List ℕ → List ℕ
plain_html t inside = element_text t [] inside

abbrev pub classed_html : Tag → List ℕ → List ℕ → List ℕ
classed_html t class inside = element_text t ((key.Class, class) ∷ []) inside

-- an element with words in it
unfoldable pub words_in_html : Tag → List ℕ → List ℕ
words_in_html t words = plain_html t (words_text words)

unfoldable pub said_in_html : Tag → List ℕ → List ℕ → List ℕ
said_in_html t class words = classed_html t class (words_text words)

-- words, or a dash where there are none
unfoldable pub shown_html : List ℕ → List ℕ
shown_html [] = sign_text sign.Dash
shown_html (c ∷ words) = words_text (c ∷ words)

-- ---- places and links to them

abbrev pub anchor_said : Anchor → List ℕ
anchor_said anchor.Verdicts = codes "verdicts"
anchor_said anchor.Failing = codes "failing"
anchor_said anchor.Open = codes "open"
anchor_said anchor.Times = codes "times"
anchor_said anchor.Faults = codes "faults"
anchor_said anchor.Files = codes "files"
anchor_said anchor.Signature = codes "signature"
anchor_said (anchor.Fault n) = codes "fault-" ++ decimal n

abbrev pub target_said : Anchor → List ℕ
target_said to = codes "#" ++ anchor_said to

unfoldable pub link_html : Anchor → List ℕ → List ℕ
link_html to words = element_text tag.Link ((key.Href, target_said to) ∷ []) (words_text words)

-- a section that a link may lead to, with its heading
unfoldable pub section_html : Anchor → List ℕ → List ℕ → List ℕ
section_html place heading inside =
    element_text tag.Section ((key.Id, anchor_said place) ∷ [])
    (words_in_html tag.Heading2 heading ++ inside)

-- ---- tables

-- the head of a row or of a column
unfoldable pub head_cell_html : List ℕ → List ℕ → List ℕ
head_cell_html scope inside = element_text tag.HeadCell ((key.Scope, scope) ∷ []) inside

-- a cell with a label for narrow windows
unfoldable pub cell_html : List ℕ → List ℕ → List ℕ → List ℕ
cell_html class label inside =
    classed_html tag.Cell class (said_in_html tag.Span (codes "label") label ++ inside)

unfoldable pub number_cell_html : List ℕ → List ℕ → List ℕ
number_cell_html label words = cell_html (codes "number") label (shown_html words)

unfoldable pub column_html : List ℕ → List ℕ
column_html words = head_cell_html (codes "col") (words_text words)

unfoldable pub columns_html : List (List ℕ) → List ℕ
columns_html all = plain_html tag.TableHead (plain_html tag.Row (flat_map column_html all))

-- a table that scrolls by itself where it is too wide
unfoldable pub table_html : List ℕ → List ℕ → List ℕ → List ℕ
table_html class head rows =
    classed_html tag.Division (codes "wide")
    (classed_html tag.Table class (head ++ plain_html tag.TableBody rows))
