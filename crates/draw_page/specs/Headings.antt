-- The head of the page: what it is of, and the counts in large.
use Rattle.std.specs.Prelude.{◌++◌, ◌==◌, ℕ, Bool, List, [], ◌∷◌, Option, None, Some, codes, decimal}
use Rattle.std.specs.Prelude.{length, if◌then◌else◌, Vec}
use Rattle.std.specs.declared.alloc.Global.{Global}
use Rattle.std.specs.List.{flat_map}
use Rattle.base_markup.specs.declared.html.tag.Tag.TheVariants as tag
use Rattle.base_markup.specs.declared.html.attribute.Key.TheVariants as key
use Rattle.base_markup.specs.html.Content.{element_text}
use Rattle.draw_page.specs.declared.anchor.Anchor.{Anchor}
use Rattle.draw_page.specs.declared.anchor.Anchor.TheVariants as anchor
use Rattle.draw_page.specs.declared.page.{Page.Page, Counts.Counts, LeastMargin.LeastMargin}
use Rattle.draw_page.specs.Elements.{plain_html, classed_html, words_in_html, said_in_html, link_html}
use Rattle.draw_page.specs.{Blocks.block_html, Nearest.NearEnd, Nearest.nearest_of}
use Rattle.draw_page.specs.Words.{ticks_text, time_said}

-- ---- what it is of

abbrev pub zone_said : Bool → List ℕ
zone_said trips =
    if trips then codes "zone 1 trips by itself. " else codes "zone 1 does not trip by itself. "

-- the scheme, the terminals and the ticks
unfoldable pub subject_said : Page → List ℕ
subject_said page =
    page.scheme.items ++ codes ", " ++ decimal (length page.terminals.items)
    ++ codes " terminals; " ++ zone_said page.zone1_trip ++ ticks_text page.tick_us page.horizon
    ++ codes " ms are judged, in ticks of " ++ ticks_text page.tick_us 1 ++ codes " ms."

-- ---- the counts

-- a number in large, and what it counts
unfoldable pub tile_html : List ℕ → List ℕ → List ℕ → List ℕ
tile_html class number words =
    classed_html tag.Division class (words_in_html tag.Strong number ++ words_in_html tag.Span words)

-- of nothing a quiet look
abbrev pub tile_class : List ℕ → ℕ → List ℕ
tile_class class number = if number == 0 then codes "tile none" else class

abbrev pub count_html : List ℕ → ℕ → List ℕ → List ℕ
count_html class number words = tile_html (tile_class class number) (decimal number) words

-- a margin, and where
abbrev pub least_html : ℕ → Option LeastMargin → List ℕ
least_html tick_us None = []
least_html tick_us (Some least) =
    tile_html (codes "tile") (time_said tick_us least.ticks)
    (codes "least dependability margin by rule: " ++ least.at.items)

abbrev pub spare_html : ℕ → Option NearEnd → List ℕ
spare_html tick_us None = []
spare_html tick_us (Some near) =
    tile_html (codes "tile") (time_said tick_us near.ticks)
    (codes "least security margin by rule: " ++ near.fault ++ codes " at " ++ near.terminal)

unfoldable pub held_html : ℕ → List ℕ
held_html count = count_html (codes "tile yes") count (codes "held for every choice")

unfoldable pub failing_html : ℕ → List ℕ
failing_html count = count_html (codes "tile no") count (codes "fail for some choice")

unfoldable pub every_html : ℕ → List ℕ
every_html count = count_html (codes "tile no") count (codes "of these for every choice")

unfoldable pub undecided_html : ℕ → List ℕ
undecided_html count = count_html (codes "tile unknown") count (codes "open")

unfoldable pub counts_html : Counts → List ℕ
counts_html counts =
    held_html counts.held ++ failing_html counts.fails ++ every_html counts.every
    ++ undecided_html counts.undecided

-- the counts, and the least margins
unfoldable pub tiles_html : Page → List ℕ
tiles_html page =
    classed_html tag.Division (codes "tiles")
    (counts_html page.counts ++ least_html page.tick_us page.least
    ++ spare_html page.tick_us (nearest_of page.faults.items))

unfoldable pub meaning_html : List ℕ
meaning_html = said_in_html tag.Paragraph (codes "small") (codes "Held: every choice of times inside the declared intervals meets the obligation, fractions of a tick included. Fails: a choice inside them, shown below, does not. Open: neither is known.")

abbrev pub notes_html : List (Vec ℕ Global) → List ℕ
notes_html notes = flat_map (λ note. said_in_html tag.Paragraph (codes "note") note.items) notes

-- ---- links to the sections

unfoldable pub link_item_html : Anchor → List ℕ → List ℕ
link_item_html to words = plain_html tag.Item (link_html to words)

unfoldable pub answer_links_html : List ℕ
answer_links_html =
    link_item_html anchor.Verdicts (codes "Verdicts")
    ++ link_item_html anchor.Signature (codes "Signature")
    ++ link_item_html anchor.Failing (codes "Failing choices")
    ++ link_item_html anchor.Open (codes "Open")

unfoldable pub other_links_html : List ℕ
other_links_html =
    link_item_html anchor.Times (codes "Times") ++ link_item_html anchor.Faults (codes "Faults")
    ++ link_item_html anchor.Files (codes "Files")

unfoldable pub contents_html : List ℕ
contents_html =
    element_text tag.Nav ((key.AriaLabel, codes "Contents") ∷ [])
    (plain_html tag.List (answer_links_html ++ other_links_html))

-- ---- the whole head

unfoldable pub header_html : Page → List ℕ
header_html page =
    plain_html tag.Header
    (words_in_html tag.Heading1 page.title.items
    ++ said_in_html tag.Paragraph (codes "subject") (subject_said page)
    ++ block_html page
    ++ tiles_html page
    ++ meaning_html
    ++ notes_html page.notes.items
    ++ contents_html)
