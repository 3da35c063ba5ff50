-- What a trip asks for: one or another of its conjunctions, and of each all operands.
use Rattle.std.specs.Prelude.{◌++◌, Bool, true, false, List, [], ◌∷◌, if◌then◌else◌}
use Rattle.model_logic.specs.declared.time.Time.TheVariants.{Zero, Param}
use Rattle.model_logic.specs.Tree.{Tree, Raw, And, Or, Timer}
use Rattle.model_logic.specs.{declared.time.Time.Time}

-- the trees one or another of which is on where the tree is
abbrev pub alternatives : Tree → List Tree
alternatives (Or x y) = alternatives x ++ alternatives y
alternatives x = x ∷ []

abbrev pub is_raw : Tree → Bool
is_raw (Raw c) = true
is_raw x = false

-- The trees all of which are on where the tree is. What arrives over a channel and is not lost is
-- one.
abbrev pub operands : Tree → List Tree
operands (And x y) = if is_raw x then And x y ∷ [] else operands x ++ operands y
operands x = x ∷ []

abbrev pub is_no_time : Time → Bool
is_no_time Zero = true
is_no_time (Param i) = false

-- what has to last so that an operand is on: the input of a timer without a dropout, else itself
abbrev pub input_of : Tree → Tree
input_of (Timer x p d) = if is_no_time d then x else Timer x p d
input_of x = x

-- and how long
abbrev pub pickup_of : Tree → Time
pickup_of (Timer x p d) = if is_no_time d then p else Zero
pickup_of x = Zero
