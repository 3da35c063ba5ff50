-- What is signed: the files by their digests, and how their obligations stand; and lines to sign.
use Rattle.std.specs.Prelude.{◌++◌, ℕ, List, codes, decimal, take}
use Rattle.std.specs.List.{flat_map}
use Rattle.base_markup.specs.declared.html.tag.Tag.TheVariants as tag
use Rattle.draw_page.specs.declared.anchor.Anchor.TheVariants as anchor
use Rattle.draw_page.specs.declared.page.{Page.Page, Counts.Counts, FileText.FileText}
use Rattle.draw_page.specs.Elements.{classed_html, plain_html, section_html, words_in_html}

-- a digest by its first 16 digits
abbrev pub short_digest : FileText → List ℕ
short_digest file = take 16 file.sha256.items

unfoldable pub signed_said : FileText → List ℕ
signed_said file =
    codes "For " ++ file.name.items ++ codes ", whose SHA-256 begins with " ++ short_digest file
    ++ codes "."

abbrev pub signed_html : FileText → List ℕ
signed_html file = words_in_html tag.Paragraph (signed_said file)

unfoldable pub standing_said : Counts → List ℕ
standing_said counts =
    codes "Obligations held: " ++ decimal counts.held ++ codes "; failing for some choice: "
    ++ decimal counts.fails ++ codes ", of these for every choice: " ++ decimal counts.every
    ++ codes "; open: " ++ decimal counts.undecided ++ codes "."

unfoldable pub line_html : List ℕ → List ℕ
line_html words = plain_html tag.Division (words_in_html tag.Span words)

unfoldable pub lines_html : List ℕ
lines_html =
    classed_html tag.Division (codes "lines")
    (line_html (codes "Name") ++ line_html (codes "Date") ++ line_html (codes "Signature"))

unfoldable pub signing_html : Page → List ℕ
signing_html page =
    section_html anchor.Signature (codes "Signature")
    (flat_map signed_html page.sources.items
    ++ words_in_html tag.Paragraph (standing_said page.counts)
    ++ lines_html)
