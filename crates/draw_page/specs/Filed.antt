-- The files that were judged, and the digests of all.
use Rattle.std.specs.Prelude.{◌++◌, ℕ, List, [], ◌∷◌, codes}
use Rattle.std.specs.List.{flat_map}
use Rattle.base_markup.specs.declared.html.tag.Tag.TheVariants as tag
use Rattle.base_markup.specs.html.Words.{words_text}
use Rattle.draw_page.specs.declared.anchor.Anchor.TheVariants as anchor
use Rattle.draw_page.specs.declared.page.{Page.Page, Digest.Digest, FileText.FileText}
use Rattle.draw_page.specs.Bare.{bare_cell_html}
use Rattle.draw_page.specs.Elements.{columns_html, head_cell_html, plain_html}
use Rattle.draw_page.specs.Elements.{said_in_html, section_html, table_html, words_in_html}

unfoldable pub hash_row_html : List ℕ → List ℕ → List ℕ
hash_row_html name sha256 =
    plain_html tag.Row
    (head_cell_html (codes "row") (words_text name)
    ++ bare_cell_html (codes "hash") (words_in_html tag.Code sha256))

abbrev pub file_row_html : FileText → List ℕ
file_row_html file = hash_row_html file.name.items file.sha256.items

abbrev pub digest_row_html : Digest → List ℕ
digest_row_html digest = hash_row_html digest.of.items digest.sha256.items

-- a file in full, under its name
unfoldable pub file_html : FileText → List ℕ
file_html file =
    plain_html tag.Section
    (words_in_html tag.Heading3 file.name.items ++ words_in_html tag.Preformatted file.text.items)

unfoldable pub filed_meaning : List ℕ
filed_meaning =
    said_in_html tag.Paragraph (codes "small") (codes "First what was read, then the line and the scripts that it comes to, as they were judged. A digest is the SHA-256 of a file's bytes.")

-- the digests of what was read, of what was judged, and of what does not stand here
unfoldable pub file_table_html : Page → List ℕ
file_table_html page =
    table_html (codes "files") (columns_html (codes "File" ∷ (codes "SHA-256" ∷ [])))
    (flat_map file_row_html page.sources.items ++ flat_map file_row_html page.files.items
    ++ flat_map digest_row_html page.digests.items)

unfoldable pub files_html : Page → List ℕ
files_html page =
    section_html anchor.Files (codes "Files")
    (filed_meaning ++ file_table_html page
    ++ (flat_map file_html page.sources.items ++ flat_map file_html page.files.items))
