-- Levels that are put in place of a gate's own value.
use Rattle.run_signal.specs.Signals.{SignalOf}
use Rattle.std.specs.Prelude.{◌≡◌, ◌<◌, ◌+◌, ◌*◌, ℕ, Bool, true, false, Option, None, Some}
use Rattle.std.specs.Prelude.{length, slice_get}
use Rattle.model_history.specs.Rails.{Rails, both, rails_not, rails_and, rails_or}
use Rattle.model_logic.specs.Tree.{Tree, Const, Seen, Loss, Raw, Not, And, Or, Timer, Seal}
use Rattle.run_ticks.specs.declared.cases.mask.Mask.{Mask}
use Rattle.run_ticks.specs.declared.cases.mask.Masks.{Masks}

-- in each lane the level, if any, that is put in place of a tree's own pair at a tick
abbrev pub Levels : Type 0
Levels = ℕ → Tree → ℕ → Option Bool

-- the rails with what a mask puts: off where `off` is, then on where `on` is
abbrev pub put_rails : Rails → Rails → Rails → Rails
put_rails own off on = rails_or (rails_and own (rails_not off)) on

-- a mask with these rails puts the level, or none
abbrev pub PutsLevel : Option Bool → Rails → Rails → Type 0
PutsLevel None off on = (off ≡ both false) × (on ≡ both false)
PutsLevel (Some true) off on = on ≡ both true
PutsLevel (Some false) off on = (off ≡ both true) × (on ≡ both false)

-- a mask puts the level in a lane
abbrev pub IsMask : {V : Type 0} → (V → ℕ → Rails) → ℕ → Option Bool → Mask V → Type 0
IsMask rails lane level mask = PutsLevel level (rails mask.off lane) (rails mask.on lane)

-- each gate has a row or none, and each row a mask for each tick
pub record HaveRows {V : Type 0} (gates horizon : ℕ) (masks : Masks V) : Type 0 where
  pub rows : length masks.rows.items ≡ gates
  pub within : (i row : ℕ) → slice_get masks.rows.items i ≡ Some (Some row) → row < masks.count
  pub count : length masks.masks.items ≡ horizon * masks.count

-- the masks put these levels in the first lanes, each in place of a gate's own value: where a gate
-- has no row, none
pub record PutLevels {V S : Type 0} (signal : SignalOf V S) (level : Levels)
    (trees : ℕ → Tree) (horizon : ℕ) (masks : Masks V) : Type 0 where
  pub none : (i lane t : ℕ) → lane < signal.lanes → t < horizon
      → slice_get masks.rows.items i ≡ Some None → level lane (trees i) t ≡ None
  pub some : (i row lane t : ℕ) (mask : Mask V) → lane < signal.lanes → t < horizon
      → slice_get masks.rows.items i ≡ Some (Some row)
      → slice_get masks.masks.items (t * masks.count + row) ≡ Some mask
      → IsMask signal.rails lane (level lane (trees i) t) mask

-- the tree is a timed element
abbrev pub IsTimer : Tree → Type 0
IsTimer (Const v) = ⊥
IsTimer (Seen p) = ⊥
IsTimer (Loss c) = ⊥
IsTimer (Raw c) = ⊥
IsTimer (Not x) = ⊥
IsTimer (And x y) = ⊥
IsTimer (Or x y) = ⊥
IsTimer (Timer x p d) = Unit {0}
IsTimer (Seal x y) = ⊥

-- levels are put in place of timed elements alone
abbrev pub AreOfTimers : (Tree → ℕ → Option Bool) → Type 0
AreOfTimers level = (x : Tree) (t : ℕ) (v : Bool) → level x t ≡ Some v → IsTimer x
