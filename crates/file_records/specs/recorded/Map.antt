-- The map of a play that is written as a record.
use Rattle.std.specs.Prelude.{◌==◌, ◌++◌, ℕ, List, [], ◌∷◌, codes, decimal, length}
use Rattle.std.specs.Prelude.{if◌then◌else◌}
use Rattle.std.specs.List.{concat}
use Rattle.model_history.specs.Each.{each_below}
use Rattle.model_line.specs.Channels.{from_of, to_of}
use Rattle.model_line.specs.{declared.line.Line.Line, declared.script.Script.Script}
use Rattle.model_line.specs.declared.script.Kind.TheVariants.{Internal, External}
use Rattle.model_line.specs.{declared.script.Kind.Kind, Parameters.terminal_count}
use Rattle.model_line.specs.NamesByNumber.{terminal_name}

unfoldable pub kind_text : Kind → ℕ → List ℕ
kind_text Internal deadline =
    concat (codes "kind = \"internal\"\ndeadline = " ∷ decimal deadline ∷ codes "\n" ∷ [])
kind_text External deadline = concat (codes "kind = \"external\"\n" ∷ [])

unfoldable pub front_text : List ℕ → List ℕ
front_text name = concat (codes "version = 1\nscript = \"" ∷ name ∷ codes "\"\n" ∷ [])

unfoldable pub start_text : List ℕ
start_text = concat (codes "start = \"2000-01-01T00:00:00\"\n" ∷ [])

abbrev pub head_text : Script → List ℕ
head_text script = front_text script.name ++ kind_text script.kind script.deadline ++ start_text

-- a signal by the id of its channel
unfoldable pub signal_line : List ℕ → List ℕ → List ℕ
signal_line name word =
    concat (word ∷ codes " = \"" ∷ name ∷ codes " " ∷ word ∷ codes "\"\n" ∷ [])

-- the loss of a channel to terminal k
abbrev pub loss_line : Line → ℕ → ℕ → List ℕ
loss_line line k c =
    if to_of line.channels.items c == k
    then concat (codes "loss." ∷ terminal_name line (from_of line.channels.items c) ∷ codes " = \""
    ∷ terminal_name line k ∷ codes " lost " ∷ terminal_name line (from_of line.channels.items c)
    ∷ codes "\"\n" ∷ [])
    else []

-- the recorder of a terminal, whose configuration has this name with `.cfg` behind it
unfoldable pub recorder_head : List ℕ → List ℕ → List ℕ
recorder_head terminal name =
    concat (codes "\n[[recorder]]\nterminal = \"" ∷ terminal ∷ codes "\"\nconfig = \"" ∷ name
    ∷ codes ".cfg\"\n" ∷ [])

abbrev pub element_signals : Line → ℕ → List ℕ
element_signals line k =
    signal_line (terminal_name line k) (codes "z1")
    ++ signal_line (terminal_name line k) (codes "z2")
    ++ signal_line (terminal_name line k) (codes "rv")
    ++ signal_line (terminal_name line k) (codes "uv")
    ++ signal_line (terminal_name line k) (codes "cur")

abbrev pub recorder_text : Line → List ℕ → ℕ → List ℕ
recorder_text line name k =
    recorder_head (terminal_name line k) name ++ element_signals line k
    ++ signal_line (terminal_name line k) (codes "key")
    ++ signal_line (terminal_name line k) (codes "trip")
    ++ each_below (length line.channels.items) (loss_line line k)

abbrev pub map_text : Line → Script → List ℕ → List ℕ
map_text line script name =
    head_text script ++ each_below (terminal_count line) (recorder_text line name)
