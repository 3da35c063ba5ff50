-- The page of a study: one document, its sections in this order.
use Rattle.std.specs.Prelude.{◌++◌, ℕ, List, [], ◌∷◌, codes}
use Rattle.base_markup.specs.declared.html.tag.Tag.TheVariants as tag
use Rattle.base_markup.specs.declared.html.tag.Void.TheVariants as void
use Rattle.base_markup.specs.declared.html.attribute.Key.TheVariants as key
use Rattle.base_markup.specs.html.Content.{document_text, void_text}
use Rattle.draw_page.specs.declared.page.Page.{Page}
use Rattle.draw_page.specs.Elements.{plain_html, words_in_html}
use Rattle.draw_page.specs.Headings.{header_html}
use Rattle.draw_page.specs.{Matrices.matrix_html, Choices.failing_html}
use Rattle.draw_page.specs.{Opens.open_html, Faults.faults_html}
use Rattle.draw_page.specs.{Times.times_html, Filed.files_html}
use Rattle.draw_page.specs.{Signing.signing_html, Sheets.sheet_html}
use Rattle.draw_page.specs.Figures.{patterns_html}

abbrev pub charset_html : List ℕ
charset_html = void_text void.Meta ((key.Charset, codes "utf-8") ∷ [])

abbrev pub viewport_html : List ℕ
viewport_html =
    void_text void.Meta
    ((key.Name, codes "viewport")
    ∷ ((key.Content, codes "width=device-width, initial-scale=1") ∷ []))

unfoldable pub head_html : Page → List ℕ
head_html page =
    charset_html ++ viewport_html ++ words_in_html tag.Title page.title.items ++ sheet_html page

-- what was asked and what was found, with lines to sign beside the verdicts
unfoldable pub answers_html : Page → List ℕ
answers_html page =
    header_html page ++ matrix_html page ++ signing_html page ++ failing_html page ++ open_html page

-- what it rests on
unfoldable pub grounds_html : Page → List ℕ
grounds_html page = times_html page ++ faults_html page ++ files_html page

unfoldable pub main_html : Page → List ℕ
main_html page = answers_html page ++ grounds_html page

unfoldable pub body_html : Page → List ℕ
body_html page = patterns_html ++ plain_html tag.Main (main_html page)

unfoldable pub page_of : Page → List ℕ
page_of page = document_text (head_html page) (body_html page)
