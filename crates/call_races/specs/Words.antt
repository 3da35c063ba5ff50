-- The words of operands.
use Rattle.std.specs.Prelude.{◌++◌, ◌==◌, ℕ, Bool, true, false, List, [], ◌∷◌, codes}
use Rattle.std.specs.Prelude.{if◌then◌else◌}
use Rattle.model_line.specs.declared.line.Line.{Line}
use Rattle.model_line.specs.Channels.{from_of}
use Rattle.model_line.specs.NamesByNumber.{element_text, parameter_name, terminal_name}
use Rattle.model_logic.specs.Tree.{Tree, Const, Seen, Raw, Not, And, Or, Timer, Seal}
use Rattle.model_logic.specs.declared.time.Time.{Time}
use Rattle.model_logic.specs.declared.time.Time.TheVariants.{Zero, Param}
use Rattle.judge_races.specs.Operands.{is_raw}

-- what stands behind the first dot of a name
abbrev pub behind_dot : List ℕ → List ℕ
behind_dot [] = []
behind_dot (byte ∷ more) = if byte == 46 then more else behind_dot more

-- the name of a time without its terminal's
abbrev pub time_word : Line → Time → List ℕ
time_word line Zero = []
time_word line (Param i) = behind_dot (parameter_name line i)

-- of what has to last for a time: what the terminal sees has its own word, all else that of the time
abbrev pub timed_word : Line → Time → Tree → List ℕ
timed_word line pickup (Seen place) = element_text place.element
timed_word line pickup x = time_word line pickup

-- of what arrives over a channel: `signal` and the terminal that sends
abbrev pub raw_word : Line → Tree → List ℕ
raw_word line (Raw c) = codes "signal " ++ terminal_name line (from_of line.channels.items c)
raw_word line x = []

abbrev pub signal_word : Line → Tree → List ℕ
signal_word line (And x y) = raw_word line x
signal_word line x = []

abbrev pub is_signal : Tree → Bool
is_signal (And x y) = is_raw x
is_signal x = false

-- of one or another: of signals, or of a signal and the window that opens when its channel is lost
abbrev pub either_word : Line → Tree → Tree → List ℕ
either_word line x y =
    if is_signal y then codes "any signal" else signal_word line x ++ codes " or window"

-- of what must not be: the lockout of a channel, the reversal guard, a blocking signal
abbrev pub denied_word : Tree → List ℕ
denied_word (Seal set hold) = codes "not locked"
denied_word (Timer x pickup dropout) = codes "no guard"
denied_word (Const value) = codes "no guard"
denied_word x = codes "no block"

abbrev pub operand_word : Line → Tree → List ℕ
operand_word line (Timer x pickup dropout) = timed_word line pickup x
operand_word line (Not x) = denied_word x
operand_word line (And x y) = raw_word line x
operand_word line (Or x y) = either_word line x y
operand_word line x = []

-- the words of those operands that are marked, the first behind this, the others behind `;`
abbrev pub marked_words : Line → List ℕ → List Bool → List Tree → List ℕ
marked_words line before [] xs = []
marked_words line before (mark ∷ marks) [] = []
marked_words line before (true ∷ marks) (x ∷ xs) =
    (before ++ operand_word line x) ++ marked_words line (codes ";") marks xs
marked_words line before (false ∷ marks) (x ∷ xs) = marked_words line before marks xs
