-- As one-railed, where what is known over the box need not be read at all.
use Rattle.std.specs.Prelude.{◌≡◌, ◌<◌, ◌⊎◌, ℕ, Bool, IsTrue}
use Rattle.model_logic.specs.Tree.{Tree, Const, Seen, Loss, Raw, Not, And, Or, Timer, Seal}
use Rattle.model_logic.specs.PairMean.{PairWorld, PairSignals, pair_mean}
use Rattle.model_logic.specs.Choice.{Box, pair_world_of}
use Rattle.model_logic.specs.{Histories.PairHistory, Logic.key_tree}
use Rattle.model_line.specs.{declared.line.Line.Line, declared.script.Script.Script}
use Rattle.model_line.specs.{Channels.from_of, Parameters.terminal_count}
use Rattle.model_settle.specs.Sides.{Rail, turned, pickup_end, dropout_end, Sides, IsTakenAt}

-- both rails of the tree are the same at each tick
abbrev pub IsKnown : ℕ → PairWorld → PairSignals → Tree → Type 0
IsKnown horizon w keys x =
    (t : ℕ) → t < horizon → (pair_mean w keys x t).must ≡ (pair_mean w keys x t).may

-- where a tree is read on this rail, each part of it is known, or each of its parameters is asked for
-- at its side's end alone, and each channel leads into a key of the cone that is read on its side's rail
unfoldable pub IsReadOver : (Tree → Type 0) → (ℕ → ℕ) → (ℕ → Bool) → Sides → Rail → Tree → Type 0
IsReadOver known from cone sides rail (Const v) = Unit {0}
IsReadOver known from cone sides rail (Seen p) = Unit {0}
IsReadOver known from cone sides rail (Loss c) = Unit {0}
IsReadOver known from cone sides rail (Raw c) =
    known (Raw c) ⊎ (IsTrue (cone (from c)) × (sides.key (from c) ≡ rail))
IsReadOver known from cone sides rail (Not x) = IsReadOver known from cone sides (turned rail) x
IsReadOver known from cone sides rail (And x y) = known (And x y)
    ⊎ (IsReadOver known from cone sides rail x × IsReadOver known from cone sides rail y)
IsReadOver known from cone sides rail (Or x y) = known (Or x y)
    ⊎ (IsReadOver known from cone sides rail x × IsReadOver known from cone sides rail y)
IsReadOver known from cone sides rail (Timer x p d) = known (Timer x p d)
    ⊎ (IsReadOver known from cone sides rail x
    × (IsTakenAt sides p (pickup_end rail) × IsTakenAt sides d (dropout_end rail)))
IsReadOver known from cone sides rail (Seal x y) = known (Seal x y)
    ⊎ (IsReadOver known from cone sides rail x × IsReadOver known from cone sides rail y)

-- the same over a box with its interval history
abbrev pub IsReadIn : Line → Script → Box → PairHistory → (ℕ → Bool) → Sides → Rail → Tree → Type 0
IsReadIn line script box w cone sides rail x =
    IsReadOver (IsKnown line.horizon (pair_world_of line script box) w.key)
    (from_of line.channels.items) cone sides rail x

-- the key of each terminal of the cone is read on its one rail
abbrev pub IsOneRailedIn : Line → Script → Box → PairHistory → (ℕ → Bool) → Sides → Type 0
IsOneRailedIn line script box w cone sides =
    (k : ℕ) → k < terminal_count line → IsTrue (cone k)
    → IsReadIn line script box w cone sides (sides.key k) (key_tree line k)
