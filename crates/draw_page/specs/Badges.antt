-- How obligations stand, by sign and words.
use Rattle.std.specs.Prelude.{◌++◌, ◌==◌, ℕ, Bool, true, false, List, codes, decimal, count_by, length}
use Rattle.std.specs.Prelude.{nat_lt, if◌then◌else◌}
use Rattle.base_markup.specs.declared.html.tag.Tag.TheVariants as tag
use Rattle.base_markup.specs.declared.html.sign.Sign.{Sign}
use Rattle.base_markup.specs.declared.html.sign.Sign.TheVariants as sign
use Rattle.base_markup.specs.{html.Words.words_text, html.Names.sign_text}
use Rattle.draw_page.specs.declared.page.Standing.{Standing}
use Rattle.draw_page.specs.declared.page.Standing.TheVariants.{Held, Fails, Open}
use Rattle.draw_page.specs.Elements.{classed_html}

abbrev pub is_held : Standing → Bool
is_held Held = true
is_held Fails = false
is_held Open = false

abbrev pub is_failing : Standing → Bool
is_failing Held = false
is_failing Fails = true
is_failing Open = false

abbrev pub is_open : Standing → Bool
is_open Held = false
is_open Fails = false
is_open Open = true

-- whether one stands so
abbrev pub is_so : Standing → Standing → Bool
is_so Held standing = is_held standing
is_so Fails standing = is_failing standing
is_so Open standing = is_open standing

-- a sign and words behind it
unfoldable pub mark_html : List ℕ → Sign → List ℕ → List ℕ
mark_html class s words = classed_html tag.Span class (sign_text s ++ words_text words)

-- how one obligation stands
unfoldable pub standing_html : Standing → List ℕ
standing_html Held = mark_html (codes "mark yes") sign.Check (codes " held")
standing_html Fails = mark_html (codes "mark no") sign.Cross (codes " fails")
standing_html Open = mark_html (codes "mark unknown") sign.Question (codes " open")

-- so many of all; of one alone the word
abbrev pub counted_said : ℕ → ℕ → List ℕ → List ℕ → List ℕ
counted_said count all one more =
    if all == 1 then one
    else codes " " ++ decimal count ++ codes " of " ++ decimal all ++ more

unfoldable pub fails_html : ℕ → ℕ → List ℕ
fails_html count all =
    mark_html (codes "mark no") sign.Cross
    (counted_said count all (codes " fails") (codes " fail"))

unfoldable pub open_html : ℕ → ℕ → List ℕ
open_html count all =
    mark_html (codes "mark unknown") sign.Question
    (counted_said count all (codes " open") (codes " open"))

unfoldable pub held_html : ℕ → ℕ → List ℕ
held_html count all =
    mark_html (codes "mark yes") sign.Check
    (counted_said count all (codes " held") (codes " held"))

-- the worst that there is, of so many that fail, are open, and are held
abbrev pub worst_html : ℕ → ℕ → ℕ → ℕ → List ℕ
worst_html fails unknown held all =
    if nat_lt 0 fails then fails_html fails all
    else if nat_lt 0 unknown then open_html unknown all
    else held_html held all

-- how several stand: the worst of it, and how many of them do
unfoldable pub badge_html : List Standing → List ℕ
badge_html standings =
    worst_html (count_by is_failing standings) (count_by is_open standings)
    (count_by is_held standings) (length standings)
