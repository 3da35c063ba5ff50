-- A record in one file: sections one after another, each behind a line that names it.
use Rattle.std.specs.Prelude.{◌==◌, ◌&&◌, ◌||◌, ◌+◌, ◌-◌, ℕ, zero, suc, Bool, true, false, List, length}
use Rattle.std.specs.Prelude.{map, take, drop, codes, nat_le, Option, Some, None, Result, Ok, Err}
use Rattle.std.specs.Prelude.{if◌then◌else◌}
use Rattle.std.specs.Char.{to_ascii_lowercase}
use Rattle.std.specs.List.{before_first}
use Rattle.std.specs.Option.{ok_or}
use Rattle.std.specs.Str.{bytes_eq}
use Rattle.base_memory.specs.Gives.{◌>>=◌, passes_or}
use Rattle.file_comtrade.specs.Options as option
use Rattle.file_comtrade.specs.{Number.natural_of, Places.behind, Places.line_in}
use Rattle.file_comtrade.specs.Text.{cut_at, is_blank, trimmed, unmarked}
use Rattle.file_comtrade.specs.declared.sections.Head.{Head}
use Rattle.file_comtrade.specs.declared.sections.Head.TheVariants as head
use Rattle.file_comtrade.specs.declared.sections.SectionFault.{SectionFault}
use Rattle.file_comtrade.specs.declared.sections.SectionFault.TheVariants as fault
use Rattle.file_comtrade.specs.declared.sections.Wanted.{Wanted}
use Rattle.file_comtrade.specs.declared.sections.Wanted.TheVariants as wanted

-- ---- the line that names a section: `--- file type: DAT BINARY: 480 ---`

-- what stands between three dashes before it and behind it
abbrev pub between_dashes : List ℕ → Option (List ℕ)
between_dashes line =
    if nat_le 6 (length line) && bytes_eq (take 3 line) (codes "---")
    && bytes_eq (drop (length line - 3) line) (codes "---")
    then Some (take (length line - 3 - 3) (drop 3 line)) else None

-- in small letters, with no blanks around
abbrev pub word_in : List ℕ → List ℕ
word_in text = map to_ascii_lowercase (trimmed text)

abbrev pub is_data : List ℕ → Bool
is_data word = bytes_eq (before_first (λ b. b == 32) word) (codes "dat")

abbrev pub is_binary : List ℕ → Bool
is_binary word =
    bytes_eq word (codes "dat binary") || bytes_eq word (codes "dat binary32")
    || bytes_eq word (codes "dat float32")

-- data have to be one of four kinds, and what is no configuration either is another section
abbrev pub other_head : List ℕ → Head
other_head word = if is_data word then head.Wrong else head.Other

abbrev pub plain_head : List ℕ → Head
plain_head word =
    if bytes_eq word (codes "cfg") then head.Config
    else if bytes_eq word (codes "dat ascii") then head.Ascii
    else other_head word

-- binary data have their number of bytes
abbrev pub counted_head : List ℕ → Option ℕ → Head
counted_head word None = other_head word
counted_head word (Some n) = if is_binary word then head.Binary n else other_head word

abbrev pub head_named : List ℕ → Option (List ℕ × List ℕ) → Head
head_named text None = plain_head (word_in text)
head_named text (Some parts) = counted_head (word_in parts.0) (natural_of (trimmed parts.1))

-- what a line names, if it names a section
unfoldable pub head_of : List ℕ → Option Head
head_of line =
    option.◌>>=◌ (between_dashes (trimmed line)) (λ inner.
    option.◌>>=◌ (cut_at 58 inner) (λ parts.
    if bytes_eq (word_in parts.0) (codes "file type")
    then Some (head_named parts.1 (cut_at 58 parts.1)) else None))

-- ---- the sections of a text

abbrev pub is_wanted : Wanted → Option Head → Bool
is_wanted wanted.Config (Some head.Config) = true
is_wanted wanted.Data (Some head.Ascii) = true
is_wanted wanted.Data (Some (head.Binary n)) = true
is_wanted wanted.Data (Some head.Wrong) = true
is_wanted wanted.Any (Some any) = true
is_wanted _ _ = false

-- A line that names a section: its index, what it names, the text before it and the text behind it.
pub record Found : Type 0 where
  pub line : ℕ
  pub head : Option Head
  pub before : List ℕ
  pub rest : List ℕ

abbrev pub found_at : List ℕ → ℕ → Found
found_at text n = record {
  line = n;
  head = head_of (line_in text n);
  before = take (length text - length (behind 10 n text)) text;
  rest = behind 10 (n + 1) text;
}

-- the first of so many lines, from line n on, that names a section of a kind
abbrev pub found_from : Wanted → List ℕ → ℕ → ℕ → Option Found
found_from what text n zero = None
found_from what text n (suc k) =
    if is_wanted what (head_of (line_in text n)) then Some (found_at text n)
    else found_from what text (n + 1) k

-- the first line of all: a text has no more lines than bytes, but for an empty one
abbrev pub found_in : Wanted → List ℕ → Option Found
found_in what text = found_from what text 0 (length text)

-- ---- the configuration and its data

pub record Parts : Type 0 where
  pub config : List ℕ
  -- how many lines stand before it
  pub config_line : ℕ
  pub samples : List ℕ
  pub samples_line : ℕ

abbrev pub Said : Type 0 → Type 0
Said X = Result X SectionFault

abbrev pub none_or : Option Found → (ℕ → SectionFault) → Said (Unit {0})
none_or None why = Ok tt
none_or (Some found) why = Err (why found.line)

-- data in ASCII are the last section
unfoldable pub ascii_behind : ℕ → List ℕ → Said (List ℕ)
ascii_behind n text = do
  last ← none_or (found_in wanted.Any text) (λ k. fault.Behind (n + k + 1))
  Ok text

-- binary data are so many bytes, with nothing but blanks behind them
unfoldable pub binary_behind : ℕ → ℕ → List ℕ → Said (List ℕ)
binary_behind n count text = do
  exact ← passes_or (nat_le count (length text) && is_blank (drop count text))
      (fault.Count n (length text))
  Ok (take count text)

-- the data behind line n, which names them so
abbrev pub data_behind : Option Head → ℕ → List ℕ → Said (List ℕ)
data_behind (Some head.Ascii) n text = ascii_behind n text
data_behind (Some (head.Binary count)) n text = binary_behind n count text
data_behind _ n text = Err (fault.Wrong n)

-- The text behind the line that names the configuration, which is line n: it goes up to the next line
-- that names a section, and before the data no second one stands.
unfoldable pub parts_behind : ℕ → List ℕ → Said Parts
parts_behind n text = do
  next ← ok_or (found_in wanted.Any text) (fault.NoData n)
  data_line ← ok_or (found_in wanted.Data text) (fault.NoData n)
  once ← none_or (found_in wanted.Config data_line.before) (λ k. fault.Twice (n + k + 1))
  samples ← data_behind data_line.head (n + data_line.line + 1) data_line.rest
  Ok (record {
    config = next.before;
    config_line = n;
    samples = samples;
    samples_line = n + data_line.line + 1;
  })

-- the configuration of a record in one file, and its data behind it; other sections are passed over
unfoldable pub parts_of : List ℕ → Said Parts
parts_of bytes = do
  config_line ← ok_or (found_in wanted.Config (unmarked bytes)) fault.NoConfig
  parts_behind (config_line.line + 1) config_line.rest
