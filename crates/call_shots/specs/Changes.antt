-- When what a terminal sees changes: the states that a test set plays.
use Rattle.std.specs.Prelude.{◌+◌, ◌-◌, ◌==◌, ◌&&◌, ◌||◌, ℕ, zero, suc, Bool, true, not, if◌then◌else◌, length}
use Rattle.std.specs.Bool.{beq}
use Rattle.model_line.specs.Channels.{to_of}
use Rattle.model_line.specs.{declared.line.Line.Line, declared.script.Script.Script}
use Rattle.model_line.specs.declared.script.Element.{Element}
use Rattle.model_line.specs.declared.script.Element.TheVariants.{Z1, Z2, Rv, Uv, Cur}
use Rattle.model_line.specs.Seen.{is_lost, is_seen}

-- terminal k sees an element at tick t
abbrev pub sees : Script → ℕ → ℕ → Element → Bool
sees script k t element = is_seen script.spans.items (record { element = element; terminal = k }) t

-- channel c leads to terminal k and is lost at tick t
abbrev pub loses : Line → Script → ℕ → ℕ → ℕ → Bool
loses line script k t c = to_of line.channels.items c == k && is_lost script.spans.items c t

-- at two ticks it sees an element alike, the elements, and the first n channels
abbrev pub sees_alike : Script → ℕ → ℕ → ℕ → Element → Bool
sees_alike script k t u element = beq (sees script k t element) (sees script k u element)

abbrev pub elements_alike : Script → ℕ → ℕ → ℕ → Bool
elements_alike script k t u =
    sees_alike script k t u Z1 && (sees_alike script k t u Z2 && (sees_alike script k t u Rv
    && (sees_alike script k t u Uv && sees_alike script k t u Cur)))

abbrev pub losses_alike : Line → Script → ℕ → ℕ → ℕ → ℕ → Bool
losses_alike line script k t u zero = true
losses_alike line script k t u (suc n) =
    losses_alike line script k t u n && beq (loses line script k t n) (loses line script k u n)

abbrev pub is_alike : Line → Script → ℕ → ℕ → ℕ → Bool
is_alike line script k t u =
    elements_alike script k t u && losses_alike line script k t u (length line.channels.items)

-- a state begins at the first tick, and wherever something is not as at the tick before
unfoldable pub begins : Line → Script → ℕ → ℕ → Bool
begins line script k t = t == 0 || not (is_alike line script k (t - 1) t)

-- the first of n ticks from t on at which a state begins, or the tick behind them
abbrev pub next_begun : Line → Script → ℕ → ℕ → ℕ → ℕ
next_begun line script k t zero = t
next_begun line script k t (suc n) =
    if begins line script k t then t else next_begun line script k (t + 1) n

-- how many begin at the first n ticks
abbrev pub count_begun : Line → Script → ℕ → ℕ → ℕ
count_begun line script k zero = 0
count_begun line script k (suc n) =
    count_begun line script k n + (if begins line script k n then 1 else 0)
