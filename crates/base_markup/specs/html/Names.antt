-- The names of elements and attributes in HTML, and its signs.
use Rattle.std.specs.Prelude.{ℕ, List, [], codes}
use Rattle.base_markup.specs.declared.html.tag.Tag.{Tag}
use Rattle.base_markup.specs.declared.html.tag.Tag.TheVariants as tag
use Rattle.base_markup.specs.declared.html.tag.Void.{Void}
use Rattle.base_markup.specs.declared.html.tag.Void.TheVariants as void
use Rattle.base_markup.specs.declared.html.attribute.Key.{Key}
use Rattle.base_markup.specs.declared.html.attribute.Key.TheVariants as key
use Rattle.base_markup.specs.declared.html.sign.Sign.{Sign}
use Rattle.base_markup.specs.declared.html.sign.Sign.TheVariants as sign

abbrev pub tag_name : Tag → List ℕ
tag_name tag.Title = codes "title"
tag_name tag.Header = codes "header"
tag_name tag.Nav = codes "nav"
tag_name tag.Main = codes "main"
tag_name tag.Section = codes "section"
tag_name tag.Footer = codes "footer"
tag_name tag.Heading1 = codes "h1"
tag_name tag.Heading2 = codes "h2"
tag_name tag.Heading3 = codes "h3"
tag_name tag.Paragraph = codes "p"
tag_name tag.Division = codes "div"
tag_name tag.Span = codes "span"
tag_name tag.Strong = codes "strong"
tag_name tag.Code = codes "code"
tag_name tag.Preformatted = codes "pre"
tag_name tag.Link = codes "a"
tag_name tag.List = codes "ul"
tag_name tag.Item = codes "li"
tag_name tag.Table = codes "table"
tag_name tag.Caption = codes "caption"
tag_name tag.TableHead = codes "thead"
tag_name tag.TableBody = codes "tbody"
tag_name tag.Row = codes "tr"
tag_name tag.HeadCell = codes "th"
tag_name tag.Cell = codes "td"
tag_name tag.Figure = codes "figure"
tag_name tag.Details = codes "details"
tag_name tag.Summary = codes "summary"

-- what stands behind the end of an element: the end of the line, but for those within a line
abbrev pub tag_end : Tag → List ℕ
tag_end tag.Title = codes "\n"
tag_end tag.Header = codes "\n"
tag_end tag.Nav = codes "\n"
tag_end tag.Main = codes "\n"
tag_end tag.Section = codes "\n"
tag_end tag.Footer = codes "\n"
tag_end tag.Heading1 = codes "\n"
tag_end tag.Heading2 = codes "\n"
tag_end tag.Heading3 = codes "\n"
tag_end tag.Paragraph = codes "\n"
tag_end tag.Division = codes "\n"
tag_end tag.Span = []
tag_end tag.Strong = []
tag_end tag.Code = []
tag_end tag.Preformatted = codes "\n"
tag_end tag.Link = []
tag_end tag.List = codes "\n"
tag_end tag.Item = codes "\n"
tag_end tag.Table = codes "\n"
tag_end tag.Caption = codes "\n"
tag_end tag.TableHead = codes "\n"
tag_end tag.TableBody = codes "\n"
tag_end tag.Row = codes "\n"
tag_end tag.HeadCell = codes "\n"
tag_end tag.Cell = codes "\n"
tag_end tag.Figure = codes "\n"
tag_end tag.Details = codes "\n"
tag_end tag.Summary = codes "\n"

abbrev pub void_name : Void → List ℕ
void_name void.Meta = codes "meta"
void_name void.Break = codes "br"

abbrev pub key_name : Key → List ℕ
key_name key.Lang = codes "lang"
key_name key.Charset = codes "charset"
key_name key.Name = codes "name"
key_name key.Content = codes "content"
key_name key.Id = codes "id"
key_name key.Class = codes "class"
key_name key.Href = codes "href"
key_name key.Scope = codes "scope"
key_name key.Colspan = codes "colspan"
key_name key.Rowspan = codes "rowspan"
key_name key.Title = codes "title"
key_name key.Role = codes "role"
key_name key.AriaLabel = codes "aria-label"
key_name key.AriaHidden = codes "aria-hidden"

-- check mark, ballot x, en dash, question mark
abbrev pub sign_text : Sign → List ℕ
sign_text sign.Check = codes "&#10003;"
sign_text sign.Cross = codes "&#10007;"
sign_text sign.Dash = codes "&#8211;"
sign_text sign.Question = codes "&#63;"
