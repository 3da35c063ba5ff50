-- Why a record is refused, as the line on standard error says it: the file, in a text the line and the
-- column, and what is wrong there.
use Rattle.std.specs.Prelude.{◌∷◌, ◌++◌, ◌+◌, ◌-◌, ℕ, List, [], Option, None, Some, codes, decimal, map}
use Rattle.std.specs.Prelude.{if◌then◌else◌}
use Rattle.std.specs.List.{concat}
use Rattle.file_comtrade.specs.{Data.is_ascii, Places.column_in}
use Rattle.file_comtrade.specs.declared.config.DateOrder.{DateOrder}
use Rattle.file_comtrade.specs.declared.config.DateOrder.TheVariants.{DayFirst, MonthFirst}
use Rattle.file_comtrade.specs.declared.config.Form.{Form}
use Rattle.file_comtrade.specs.declared.fault.{ConfigFault.ConfigFault, DataFault.DataFault}
use Rattle.file_comtrade.specs.declared.fault.ConfigFault.TheVariants as config_fault
use Rattle.file_comtrade.specs.declared.fault.DataFault.TheVariants as data_fault
use Rattle.file_comtrade.specs.declared.record.RecordFault.{RecordFault}
use Rattle.file_comtrade.specs.declared.record.RecordFault.TheVariants as record_fault
use Rattle.file_comtrade.specs.declared.sections.SectionFault.{SectionFault}
use Rattle.file_comtrade.specs.declared.sections.SectionFault.TheVariants as section_fault
use Rattle.file_comtrade.specs.declared.ticks.TickFault.{TickFault}
use Rattle.file_records.specs.map.Sources.{ChannelSaid, id, number}
use Rattle.call_records.specs.declared.told.Spot.{Spot}
use Rattle.call_refused.specs.told.Told.{within_line}
use Rattle.call_records.specs.{Parts.Part, Parts.RecordParts, Request.Asked}
use Rattle.call_records.specs.Lines.{Refusal, exactly, worded}

-- ---- lines

unfoldable pub line_feed : List ℕ
line_feed = codes "\n"

unfoldable pub place_said : List ℕ → ℕ → ℕ → List ℕ
place_said file line column =
    map within_line file
    ++ concat (codes ":" ∷ decimal line ∷ codes ":" ∷ decimal column ∷ codes ": " ∷ [])

-- words, and the end of the line
abbrev pub said_words : List (List ℕ) → List ℕ
said_words words = map within_line (concat words) ++ line_feed

-- `FILE:LINE:COLUMN: WORDS`
abbrev pub place_line : List ℕ → ℕ → ℕ → List (List ℕ) → List ℕ
place_line file line column words = place_said file line column ++ said_words words

unfoldable pub sample_said : List ℕ → ℕ → List ℕ
sample_said file n = map within_line file ++ concat (codes ": sample " ∷ decimal n ∷ codes ": " ∷ [])

-- of a sample of binary data: `FILE: sample N: WORDS`
abbrev pub sample_words : List ℕ → ℕ → List (List ℕ) → List ℕ
sample_words file n words = sample_said file n ++ said_words words

-- a line, the first having number 1, and the index of a field in it
abbrev pub at : ℕ → ℕ → Spot
at line field = record { line = line; field = field }

-- the place in its file, where a part's text is that of the file from a line on
abbrev pub spot_line : Part → Spot → List (List ℕ) → List ℕ
spot_line part spot words =
    place_line part.name (part.line + spot.line) (column_in part.bytes (spot.line - 1) spot.field) words

-- ---- a configuration

abbrev pub config_spot : ConfigFault → Spot
config_spot (config_fault.Absent n) = at n 0
config_spot config_fault.BadRevision = at 1 2
config_spot config_fault.Counts = at 2 0
config_spot (config_fault.Analog n) = at n 0
config_spot (config_fault.Digital n) = at n 0
config_spot (config_fault.Rates n) = at n 0
config_spot (config_fault.BadRate n) = at n 0
config_spot (config_fault.Moment n) = at n 0
config_spot (config_fault.Date n) = at n 0
config_spot (config_fault.OtherOrder n order) = at n 0
config_spot (config_fault.Time n) = at n 1
config_spot (config_fault.BadForm n) = at n 0
config_spot (config_fault.Factor n) = at n 0

-- a date in this order alone
abbrev pub order_words : DateOrder → List ℕ
order_words MonthFirst =
    codes "no date as dd/mm/yyyy, but one as mm/dd/yyyy; write date = \"mdy\" in the map"
order_words DayFirst =
    codes "no date as mm/dd/yyyy, but one as dd/mm/yyyy; write date = \"dmy\" in the map"

abbrev pub config_words : ConfigFault → List ℕ
config_words (config_fault.Absent n) =
    codes "the configuration ends before this line; take the whole file"
config_words config_fault.BadRevision = codes "the revision is none of 1991, 1999 and 2013"
config_words config_fault.Counts =
    codes "not the numbers of all, analog and digital channels; write them as 12,8A,4D"
config_words (config_fault.Analog n) = codes "an analog channel has at least 10 fields"
config_words (config_fault.Digital n) = codes "a digital channel has 3 fields or 5"
config_words (config_fault.Rates n) = codes "not a number of rates, at most 64"
config_words (config_fault.BadRate n) =
    codes "not a rate and a last sample behind the one before"
config_words (config_fault.Moment n) = codes "not a date and a time, with a comma between them"
config_words (config_fault.Date n) = codes "not a date, neither as dd/mm/yyyy nor as mm/dd/yyyy"
config_words (config_fault.OtherOrder n order) = order_words order
config_words (config_fault.Time n) = codes "not a time as hh:mm:ss, with up to nine decimals"
config_words (config_fault.BadForm n) = codes "none of ASCII, BINARY, BINARY32 and FLOAT32"
config_words (config_fault.Factor n) =
    codes "not a factor of the stamps; write a number above 0, as 1"

-- ---- data

abbrev pub data_spot : DataFault → Spot
data_spot (data_fault.Absent n) = at n 0
data_spot (data_fault.Surplus n) = at n 0
data_spot (data_fault.Fields n) = at n 0
data_spot (data_fault.Number n) = at n 0
data_spot (data_fault.Stamp n) = at n 1
data_spot (data_fault.Level n channel field) = at n field
data_spot (data_fault.NoStamp n) = at n 1
data_spot (data_fault.TooLate n) = at n 1
data_spot (data_fault.Earlier n) = at n 1

abbrev pub level_words : ℕ → List (List ℕ)
level_words channel = codes "digital channel " ∷ decimal channel ∷ codes " is neither 0 nor 1" ∷ []

-- what is wrong of the rest
abbrev pub plain_words : DataFault → List ℕ
plain_words (data_fault.Absent n) =
    codes "the data end before all samples that the configuration says; take the whole file"
plain_words (data_fault.Surplus n) =
    codes "there are more data than the samples that the configuration says"
plain_words (data_fault.Fields n) = codes "not as many fields as channels"
plain_words (data_fault.Number n) = codes "the number is not one above that of the sample before"
plain_words (data_fault.Stamp n) = codes "the stamp is not a number"
plain_words (data_fault.Level n channel field) = []
plain_words (data_fault.NoStamp n) = codes "there is no stamp, and no rate"
plain_words (data_fault.TooLate n) = codes "the time is 2^64 nanoseconds or more"
plain_words (data_fault.Earlier n) = codes "the time is before that of the sample before"

abbrev pub data_words : DataFault → List (List ℕ)
data_words (data_fault.Level n channel field) = level_words channel
data_words why = plain_words why ∷ []

-- a sample of binary data goes by its number, and a line of ASCII has the number of its sample
abbrev pub sample_line : Part → Form → Spot → List (List ℕ) → List ℕ
sample_line part form spot words =
    if is_ascii form then spot_line part spot words
    else sample_words part.name spot.line words

-- ---- ticks and channels

-- of a file of data: the first tick with a sample, and the last, where there is one
abbrev pub gap_words : List ℕ → ℕ → Option ℕ → List (List ℕ)
gap_words file from None =
    file ∷ codes " has all samples before tick 0; write an earlier start" ∷ []
gap_words file from (Some to) =
    file ∷ codes " has samples from tick " ∷ decimal from ∷ codes " to tick " ∷ decimal to
    ∷ codes " alone; write another start, or a shorter horizon in the line" ∷ []

abbrev pub tick_words : List ℕ → TickFault → List (List ℕ)
tick_words file why = gap_words file why.from why.to

-- of a configuration that has not one such channel: what it has of it, and what to write
abbrev pub channel_words : List ℕ → List ℕ → ChannelSaid → List ℕ → List (List ℕ)
channel_words file what (id bytes) write =
    file ∷ what ∷ codes " digital channel with the id " ∷ bytes ∷ write ∷ []
channel_words file what (number n) write =
    file ∷ what ∷ codes " digital channel of number " ∷ decimal n ∷ write ∷ []

abbrev pub no_channel : List ℕ → ChannelSaid → List (List ℕ)
no_channel file channel =
    channel_words file (codes " has no") channel (codes "; write the id of one that it has, or # and its number")

abbrev pub many_channels : List ℕ → ChannelSaid → List (List ℕ)
many_channels file channel =
    channel_words file (codes " has more than one") channel (codes "; write # and the number of one")

-- why a channel has no levels: in the two parts of its record, or in the map
abbrev pub record_refusal : Asked → RecordParts → ChannelSaid → RecordFault → Refusal
record_refusal asked own channel (record_fault.Config why) =
    exactly (spot_line own.config (config_spot why) (config_words why ∷ []))
record_refusal asked own channel record_fault.NoChannel =
    worded asked.name asked.bytes (no_channel own.config.name channel)
record_refusal asked own channel record_fault.ManyChannels =
    worded asked.name asked.bytes (many_channels own.config.name channel)
record_refusal asked own channel (record_fault.Data form why) =
    exactly (sample_line own.samples form (data_spot why) (data_words why))
record_refusal asked own channel (record_fault.Ticks why) =
    worded asked.name asked.bytes (tick_words own.samples.name why)
