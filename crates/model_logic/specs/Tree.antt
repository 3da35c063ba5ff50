-- The trees of the logic.
use Rattle.std.specs.Prelude.{ℕ, Bool}
use Rattle.model_line.specs.declared.script.Place.{Place}
use Rattle.model_logic.specs.declared.time.Time.{Time}

pub data Tree : Type 0 where
  Const : (value : Bool) → Tree
  Seen : (place : Place) → Tree
  Loss : (channel : ℕ) → Tree
  Raw : (channel : ℕ) → Tree
  Not : (x : Tree) → Tree
  And : (x y : Tree) → Tree
  Or : (x y : Tree) → Tree
  Timer : (x : Tree) (pickup dropout : Time) → Tree
  Seal : (set hold : Tree) → Tree
  deriving IsSet as Tree-set
