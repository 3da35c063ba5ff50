-- The page of a study.
use Rattle.std.specs.Prelude.{◌≡◌, ◌≤◌, ◌+◌, ◌*◌, ℕ, List, count_by, length, map, option_map}
use Rattle.std.specs.List.{flat_map, list_any}
use Rattle.model_line.specs.{declared.line.Line.Line, declared.script.Script.Script}
use Rattle.model_line.specs.Parameters.{terminal_count}
use Rattle.model_line.specs.NamesByNumber.{scheme_initials}
use Rattle.draw_page.specs.{declared.page.Page.Page, declared.page.Counts.Counts}
use Rattle.draw_page.specs.Pages.{page_of}
use Rattle.draw_page.specs.declared.page.{Time.Time, Digest.Digest}
use Rattle.file_study.specs.declared.sweeps.group.Group.{Group}
use Rattle.call_answer.specs.{Answers.Answers, Answers.status_by, declared.done.Done.Done}
use Rattle.call_tables.specs.{Rows.AreRows, Table.fails_for_every, Table.is_failing}
use Rattle.call_tables.specs.Table.{is_open}
use Rattle.call_tables.specs.declared.row.Row.{Row}
use Rattle.call_page.specs.declared.parts.Part.{Part}
use Rattle.call_facts.specs.declared.firsts.Firsts.{Firsts}
use Rattle.call_page.specs.Choices.{IsChoiceOf, IsUndecidedOf, failing_row, open_row}
use Rattle.call_page.specs.Faults.{IsFaultOf}
use Rattle.call_facts.specs.{FirstTicks.AreFirsts, Least.IsLeastOf, Lists.EachOf}
use Rattle.call_page.specs.{Parts.AreParts, Files.AreFiles, Files.AreDigests}
use Rattle.call_facts.specs.Times.{AreTimes}
use Rattle.call_page.specs.Sources.{IsSourceFile, PageWords, notes_of}

-- the head: what is asked for, and the line's own words and numbers
pub record IsHeadOf (line : Line) (words : PageWords) (page : Page) : Type 0 where
  pub title_is : page.title.items ≡ words.title
  pub made : page.made.items ≡ words.made
  pub date : option_map (λ date. date.items) page.date ≡ words.date
  pub sources : EachOf IsSourceFile words.sources page.sources.items
  pub scheme : page.scheme.items ≡ scheme_initials line.scheme
  pub zone1 : page.zone1_trip ≡ line.zone1_trip
  pub tick : page.tick_us ≡ line.tick_us
  pub horizon : page.horizon ≡ line.horizon
  pub terminals : map (λ name. name.items) page.terminals.items
      ≡ map (λ t. t.name) line.terminals.items

-- each obligation is counted once
pub record AreCounts (line : Line) (scripts : List Script) (rows : List Row) (counts : Counts)
    : Type 0 where
  pub fails : counts.fails ≡ count_by is_failing rows
  pub every : counts.every ≡ count_by (λ row. fails_for_every row.settled.answer) rows
  pub undecided : counts.undecided ≡ count_by is_open rows
  pub all : counts.held + counts.fails + counts.undecided ≡ length scripts * terminal_count line

-- where there are at most 64 scripts, as in one file, the margins, and where there are at most 4,096
-- the digest of the trees. With more of them the page leaves these out, and says so in its notes.
pub record AreOfFew (line : Line) (scripts : List Script) (rows : List Row) (times : List Time)
    (digests : List Digest) : Type 0 where
  pub times_are : length scripts ≤ 64 → AreTimes line scripts times
  pub digests_are : length scripts ≤ 4096 → AreDigests line scripts rows digests

-- a page made of these answers and first ticks
pub record IsPageOf (line : Line) (scripts : List Script) (groups : List Group) (words : PageWords)
    (rows : List Row) (firsts : List Firsts) (page : Page) : Type 0 where
  pub head : IsHeadOf line words page
  pub notes : map (λ note. note.items) page.notes.items ≡ notes_of (length scripts)
  pub counts : AreCounts line scripts rows page.counts
  pub least : IsLeastOf line scripts firsts page.least
  pub parts : List Part
  pub are_parts : AreParts groups (length scripts) parts
  pub faults : EachOf (IsFaultOf line scripts groups rows firsts) parts page.faults.items
  pub failing : EachOf (IsChoiceOf line scripts parts rows)
      (flat_map (failing_row line parts rows) rows) page.failing.items
  pub undecided : EachOf (IsUndecidedOf line scripts parts) (flat_map open_row rows)
      page.undecided.items
  pub few : AreOfFew line scripts rows page.times.items page.digests.items
  pub files : AreFiles line scripts page.files.items

-- the text of a page made of answers that are so, and of first ticks of the one history; which
-- answer it is, where more than one can be found, is left free
pub record IsPageText (line : Line) (scripts : List Script) (groups : List Group)
    (words : PageWords) (status : Done) (text : List ℕ) : Type 0 where
  pub rows : List Row
  pub are_rows : AreRows line scripts rows
  pub firsts : List Firsts
  pub are_firsts : AreFirsts line scripts firsts
  pub page : Page
  pub of : IsPageOf line scripts groups words rows firsts page
  pub status_is : status ≡ status_by (list_any is_failing rows) (list_any is_open rows)
  pub text_is : text ≡ page_of page

abbrev pub page_answer : Line → List Script → List Group → PageWords → Answers
page_answer line scripts groups words = IsPageText line scripts groups words
