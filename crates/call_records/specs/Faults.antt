-- Why a line file or a map is refused.
use Rattle.std.specs.Prelude.{◌∷◌, ℕ, List, [], codes}
use Rattle.model_line.specs.declared.line.Line.{Line}
use Rattle.model_line.specs.NamesByNumber.{terminal_name}
use Rattle.file_document.specs.declared.fault.DocumentFault.{DocumentFault}
use Rattle.file_records.specs.declared.map.source.Signal.{Signal}
use Rattle.file_records.specs.declared.map.source.Signal.TheVariants as signal
use Rattle.file_records.specs.declared.recorded.script.NoScript.{NoScript}
use Rattle.file_records.specs.declared.recorded.script.NoScript.TheVariants as none
use Rattle.call_records.specs.Lines.{Refusal, placed, worded}

-- a file has more bytes than it may have; nothing of it is kept
abbrev pub too_long : List ℕ → Refusal
too_long name = placed name []

abbrev pub line_refusal : List ℕ → List ℕ → DocumentFault → Refusal
line_refusal name bytes why = placed name bytes

abbrev pub map_refusal : List ℕ → List ℕ → DocumentFault → Refusal
map_refusal name bytes why = placed name bytes

-- a record needs the key and the trip of each terminal
abbrev pub untold_words : Line → Signal → List (List ℕ)
untold_words line (signal.Key k) =
    codes "no recorder tells the key of " ∷ terminal_name line k ∷ codes "; write key = \"ID\" in a [[recorder]] of it" ∷ []
untold_words line (signal.Trip k) =
    codes "no recorder tells the trip of " ∷ terminal_name line k ∷ codes "; write trip = \"ID\" in a [[recorder]] of it" ∷ []
untold_words line (signal.Shown of) = []

abbrev pub untold_refusal : List ℕ → List ℕ → Line → Signal → Refusal
untold_refusal name bytes line untold = worded name bytes (untold_words line untold)

-- there is no script: it would have too many rows, or nothing is seen
abbrev pub script_words : NoScript → List (List ℕ)
script_words none.TooMany =
    codes "the script has more than 200 rows; " ∷ codes "write fewer sources, or the line with longer ticks" ∷ []
script_words none.Nothing =
    codes "nothing is seen at any tick, and no channel is lost; " ∷ codes "write another start or shift_us, or mend the rates or the factor of the stamps: " ∷ codes "comtrade show tells when each record begins and ends" ∷ []

abbrev pub script_refusal : List ℕ → List ℕ → NoScript → Refusal
script_refusal name bytes why = worded name bytes (script_words why)
