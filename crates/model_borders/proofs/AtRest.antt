-- Trees that are off while nothing is seen, lost or sent, and in which nothing that is on then is timed.
use Rattle.std.proofs.Common.{◌≡◌, ◌⊎◌, ℕ, Bool, false, not, ◌&&◌, ◌||◌}
use Rattle.model_logic.specs.Tree.{Tree, Const, Seen, Loss, Raw, Not, And, Or, Timer, Seal}
use Rattle.model_logic.specs.declared.time.Time.{Time}
use Rattle.model_logic.specs.declared.time.Time.TheVariants.{Zero}

-- what a tree is while nothing is seen, lost or sent, and no timer or seal is on
unfoldable pub rest : Tree → Bool
rest (Const v) = v
rest (Seen p) = false
rest (Loss c) = false
rest (Raw c) = false
rest (Not x) = not (rest x)
rest (And x y) = rest x && rest y
rest (Or x y) = rest x || rest y
rest (Timer x p d) = false
rest (Seal x y) = false

-- a lockout: set by the loss of a channel, and held until its guard has come back for long enough
pub record IsLockout (set hold : Tree) : Type 0 where
  pub channel : ℕ
  pub window : Time
  pub restore : Time
  pub sets : set ≡ Timer (Loss channel) window Zero
  pub holds : hold ≡ Not (Timer (And (Not (Raw channel)) (Not (Loss channel))) restore Zero)

-- what is timed or sets a seal is off at rest; a seal's hold is such a tree, or that of a lockout
unfoldable pub Rests : Tree → Type 0
Rests (Const v) = Unit {0}
Rests (Seen p) = Unit {0}
Rests (Loss c) = Unit {0}
Rests (Raw c) = Unit {0}
Rests (Not x) = Rests x
Rests (And x y) = Rests x × Rests y
Rests (Or x y) = Rests x × Rests y
Rests (Timer x p d) = Rests x × (rest x ≡ false)
Rests (Seal x y) = Rests x × (rest x ≡ false) × (Rests y ⊎ IsLockout x y)

-- such a tree, itself off at rest
pub record IsOff (x : Tree) : Type 0 where
  pub rests : Rests x
  pub off : rest x ≡ false
