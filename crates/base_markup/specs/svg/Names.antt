-- The names of elements and attributes in SVG.
use Rattle.std.specs.Prelude.{ℕ, List, codes}
use Rattle.base_markup.specs.declared.svg.tag.Tag.{Tag}
use Rattle.base_markup.specs.declared.svg.tag.Tag.TheVariants as tag
use Rattle.base_markup.specs.declared.svg.attribute.Key.{Key}
use Rattle.base_markup.specs.declared.svg.attribute.Key.TheVariants as key

abbrev pub tag_name : Tag → List ℕ
tag_name tag.Svg = codes "svg"
tag_name tag.Title = codes "title"
tag_name tag.Description = codes "desc"
tag_name tag.Style = codes "style"
tag_name tag.Defs = codes "defs"
tag_name tag.Pattern = codes "pattern"
tag_name tag.Group = codes "g"
tag_name tag.Rectangle = codes "rect"
tag_name tag.Line = codes "line"
tag_name tag.Text = codes "text"

abbrev pub key_name : Key → List ℕ
key_name key.Xmlns = codes "xmlns"
key_name key.ViewBox = codes "viewBox"
key_name key.Role = codes "role"
key_name key.Id = codes "id"
key_name key.Class = codes "class"
key_name key.Width = codes "width"
key_name key.Height = codes "height"
key_name key.X = codes "x"
key_name key.Y = codes "y"
key_name key.X1 = codes "x1"
key_name key.Y1 = codes "y1"
key_name key.X2 = codes "x2"
key_name key.Y2 = codes "y2"
key_name key.PatternUnits = codes "patternUnits"
key_name key.PatternTransform = codes "patternTransform"
