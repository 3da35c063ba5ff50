-- What stands at the margin of each sheet on paper: the title, and the files with their digests.
use Rattle.std.specs.Prelude.{◌++◌, ◌==◌, ℕ, List, [], ◌∷◌, Option, None, Some, codes, nat_lt, Vec}
use Rattle.std.specs.Prelude.{if◌then◌else◌}
use Rattle.std.specs.declared.alloc.Global.{Global}
use Rattle.std.specs.List.{flat_map}
use Rattle.draw_page.specs.declared.page.{Page.Page, FileText.FileText}
use Rattle.draw_page.specs.Signing.{short_digest}

-- a character of a string in a style sheet, between single quotes
unfoldable pub quoted_character : ℕ → List ℕ
quoted_character c =
    if c == 39 then codes "\\000027"
    else (if c == 92 then codes "\\00005C"
    else (if c == 60 then codes "\\00003C"
    else (if nat_lt c 32 then codes " " else c ∷ [])))

abbrev pub quoted : List ℕ → List ℕ
quoted words = flat_map quoted_character words

abbrev pub running_file : FileText → List ℕ
running_file file =
    quoted file.name.items ++ codes ", SHA-256 " ++ quoted (short_digest file) ++ codes ". "

abbrev pub running_date : Option (Vec ℕ Global) → List ℕ
running_date None = []
running_date (Some date) = quoted date.items

abbrev pub running_files : Page → List ℕ
running_files page = flat_map running_file page.sources.items ++ running_date page.date

unfoldable pub running_words : Page → List ℕ
running_words page =
    codes "@page { @top-left { content: '" ++ quoted page.title.items
    ++ codes "'; font: 8pt sans-serif } @bottom-left { content: '" ++ running_files page
    ++ codes "'; font: 8pt sans-serif } }\n"
