-- The keys that solve a line's equations, tick by tick, in any world of pairs.
use Rattle.std.specs.Prelude.{◌≡◌, ◌≤◌, ◌<◌, ◌==◌, ℕ, zero, suc, false, if◌then◌else◌}
use Rattle.model_history.specs.Rails.{both}
use Rattle.model_line.specs.Parameters.{terminal_count, channel_count}
use Rattle.model_line.specs.declared.line.Line.{Line}
use Rattle.model_logic.specs.Histories.{Everywhere}
use Rattle.model_logic.specs.PairMean.{PairWorld, PairSignals, pair_mean}
use Rattle.model_logic.specs.Mean.{World, Signals, mean}
use Rattle.model_logic.specs.Tree.{Tree}

-- the keys of the line's terminals solve the equations of their trees at each tick
abbrev pub Solves : Line → PairWorld → (ℕ → Tree) → PairSignals → Type 0
Solves line w trees keys = Everywhere line (λ k t. keys k t ≡ pair_mean w keys (trees k) t)

-- the same for plain keys
abbrev pub SolvesPlain : Line → World → (ℕ → Tree) → Signals → Type 0
SolvesPlain line w trees keys = Everywhere line (λ k t. keys k t ≡ mean w keys (trees k) t)

-- each channel of the line is from a terminal of it, and its delay is at least 1 at each tick
pub record IsDelayed (line : Line) (w : PairWorld) : Type 0 where
  pub from : (c : ℕ) → c < channel_count line → w.from c < terminal_count line
  pub later : (c t : ℕ) → c < channel_count line → t < line.horizon → 1 ≤ (w.delay c t).least

-- the keys of the ticks before t, each by those before it, and off from t on
unfoldable pub keys_before : PairWorld → (ℕ → Tree) → ℕ → PairSignals
keys_before w trees zero k r = both false
keys_before w trees (suc t) k r =
    if r == t then pair_mean w (keys_before w trees t) (trees k) t else keys_before w trees t k r

-- the keys of all ticks
unfoldable pub the_keys : PairWorld → (ℕ → Tree) → PairSignals
the_keys w trees k t = keys_before w trees (suc t) k t

-- the two agree on the keys of the line's terminals at each tick before t
abbrev pub SameBefore : Line → PairSignals → PairSignals → ℕ → Type 0
SameBefore line u v t = (k r : ℕ) → k < terminal_count line → r < t → u k r ≡ v k r

-- the two agree on what each terminal of the line keys at each tick before t
abbrev pub AgreeBefore : Line → Signals → Signals → ℕ → Type 0
AgreeBefore line u v t = (k r : ℕ) → k < terminal_count line → r < t → u k r ≡ v k r
