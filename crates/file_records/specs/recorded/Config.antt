-- The configuration of a play as a record (COMTRADE, 1999, ASCII).
use Rattle.std.specs.Prelude.{◌+◌, ◌*◌, ◌++◌, ℕ, List, [], ◌∷◌, codes, decimal, length}
use Rattle.std.specs.List.{concat}
use Rattle.model_history.specs.Each.{each_below}
use Rattle.model_line.specs.Channels.{from_of, to_of}
use Rattle.model_line.specs.{declared.line.Line.Line, Parameters.terminal_count}
use Rattle.model_line.specs.NamesByNumber.{terminal_name}

abbrev pub line_end : List ℕ
line_end = 13 ∷ 10 ∷ []

-- a digital channel: its number, its id, which is a terminal's name and a word, and its normal state
unfoldable pub channel_line : ℕ → List ℕ → List ℕ → List ℕ
channel_line n name word =
    concat (decimal n ∷ codes "," ∷ name ∷ codes " " ∷ word ∷ codes ",,,0" ∷ line_end ∷ [])

-- what a terminal sees
abbrev pub element_lines : Line → ℕ → List ℕ
element_lines line k =
    channel_line (7 * k + 1) (terminal_name line k) (codes "z1")
    ++ channel_line (7 * k + 2) (terminal_name line k) (codes "z2")
    ++ channel_line (7 * k + 3) (terminal_name line k) (codes "rv")
    ++ channel_line (7 * k + 4) (terminal_name line k) (codes "uv")
    ++ channel_line (7 * k + 5) (terminal_name line k) (codes "cur")

-- what a terminal sees, keys and trips
abbrev pub terminal_lines : Line → ℕ → List ℕ
terminal_lines line k =
    element_lines line k ++ channel_line (7 * k + 6) (terminal_name line k) (codes "key")
    ++ channel_line (7 * k + 7) (terminal_name line k) (codes "trip")

-- that a channel is lost, at its receiver
abbrev pub loss_line : Line → ℕ → List ℕ
loss_line line c =
    concat (decimal (7 * terminal_count line + c + 1) ∷ codes ","
    ∷ terminal_name line (to_of line.channels.items c) ∷ codes " lost "
    ∷ terminal_name line (from_of line.channels.items c) ∷ codes ",,,0" ∷ line_end ∷ [])

abbrev pub channel_count : Line → ℕ
channel_count line = 7 * terminal_count line + length line.channels.items

-- the station, the script in place of the device, the revision; the numbers of channels
abbrev pub head_text : Line → List ℕ → List ℕ
head_text line script =
    concat (codes "pilot," ∷ script ∷ codes ",1999" ∷ line_end ∷ decimal (channel_count line)
    ∷ codes ",0A," ∷ decimal (channel_count line) ∷ codes "D" ∷ line_end ∷ [])

-- The frequency, of which a line says nothing; no rate, so that each sample has its stamp, and a sample
-- for each tick; the instants of the first sample and of the trigger; the form; a stamp counts
-- microseconds.
abbrev pub tail_text : Line → List ℕ
tail_text line =
    concat (codes "50" ∷ line_end ∷ codes "0" ∷ line_end ∷ codes "0," ∷ decimal line.horizon ∷ line_end
    ∷ codes "01/01/2000,00:00:00.000000" ∷ line_end ∷ codes "01/01/2000,00:00:00.000000" ∷ line_end
    ∷ codes "ASCII" ∷ line_end ∷ codes "1" ∷ line_end ∷ [])

abbrev pub config_text : Line → List ℕ → List ℕ
config_text line script =
    head_text line script ++ each_below (terminal_count line) (terminal_lines line)
    ++ each_below (length line.channels.items) (loss_line line) ++ tail_text line
