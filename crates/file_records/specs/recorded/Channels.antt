-- The channels of a play that is written as a record: which signal each tells, its id, and its level
-- at each tick of the play.
use Rattle.std.specs.Prelude.{◌++◌, ℕ, Bool, List, [], ◌∷◌, codes, length}
use Rattle.std.specs.List.{concat}
use Rattle.model_history.specs.Each.{each_below}
use Rattle.model_line.specs.Channels.{from_of, to_of}
use Rattle.model_line.specs.{declared.line.Line.Line, declared.script.Script.Script}
use Rattle.model_line.specs.{Parameters.terminal_count, Seen.is_lost, Seen.is_seen}
use Rattle.model_line.specs.declared.script.Element.TheVariants.{Z1, Z2, Rv, Uv, Cur}
use Rattle.model_line.specs.declared.script.What.TheVariants as what
use Rattle.model_logic.specs.Histories.{History}
use Rattle.model_line.specs.NamesByNumber.{element_text, terminal_name}
use Rattle.file_records.specs.declared.map.source.Signal.{Signal}
use Rattle.file_records.specs.declared.map.source.Signal.TheVariants.{Shown, Key, Trip}
use Rattle.file_records.specs.map.Signals.{shown}

-- what terminal k sees, its key and its trip
abbrev pub terminal_signals : ℕ → List Signal
terminal_signals k =
    shown Z1 k ∷ shown Z2 k ∷ shown Rv k ∷ shown Uv k ∷ shown Cur k ∷ Key k ∷ Trip k ∷ []

-- that channel c is lost
abbrev pub loss_signals : ℕ → List Signal
loss_signals c = Shown (what.Loss c) ∷ []

-- all signals of a line: those of its terminals, and then the losses of its channels
abbrev pub signals_of : Line → List Signal
signals_of line =
    each_below (terminal_count line) terminal_signals
    ++ each_below (length line.channels.items) loss_signals

-- a terminal's name and a word
abbrev pub word_id : Line → ℕ → List ℕ → List ℕ
word_id line k word = concat (terminal_name line k ∷ codes " " ∷ word ∷ [])

-- as `west z2`, `west key`, `west trip` and `west lost east`
abbrev pub id_of : Line → Signal → List ℕ
id_of line (Shown (what.Element place)) = word_id line place.terminal (element_text place.element)
id_of line (Shown (what.Loss c)) =
    concat (terminal_name line (to_of line.channels.items c) ∷ codes " lost "
    ∷ terminal_name line (from_of line.channels.items c) ∷ [])
id_of line (Key k) = word_id line k (codes "key")
id_of line (Trip k) = word_id line k (codes "trip")

-- what the script shows at a tick, and what a history keys and trips
abbrev pub level_of : Script → History → Signal → ℕ → Bool
level_of script h (Shown (what.Element place)) t = is_seen script.spans.items place t
level_of script h (Shown (what.Loss c)) t = is_lost script.spans.items c t
level_of script h (Key k) t = h.key k t
level_of script h (Trip k) t = h.trip k t
