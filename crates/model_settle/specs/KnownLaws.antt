-- What is read on one rail is read so whatever is known.
use Rattle.std.proofs.Common.{ℕ, Bool, inr}
use Rattle.model_logic.specs.Tree.{Tree, Const, Seen, Loss, Raw, Not, And, Or, Timer, Seal}
use Rattle.model_settle.specs.Known.{IsReadOver}
use Rattle.model_settle.specs.Sides.{IsReadOn, Rail, Sides, turned}

pub read_stays : (known : Tree → Type 0) (from : ℕ → ℕ) (cone : ℕ → Bool) (sides : Sides)
    (rail : Rail) (x : Tree) → IsReadOn from cone sides rail x
    → IsReadOver known from cone sides rail x
unfolding IsReadOn IsReadOver
read_stays known from cone sides rail (Const b) read = tt
read_stays known from cone sides rail (Seen p) read = tt
read_stays known from cone sides rail (Loss c) read = tt
read_stays known from cone sides rail (Raw c) read = inr read
read_stays known from cone sides rail (Not x) read =
    read_stays known from cone sides (turned rail) x read
read_stays known from cone sides rail (And x y) read = inr (
  read_stays known from cone sides rail x read.0,
  read_stays known from cone sides rail y read.1,
)
read_stays known from cone sides rail (Or x y) read = inr (
  read_stays known from cone sides rail x read.0,
  read_stays known from cone sides rail y read.1,
)
read_stays known from cone sides rail (Timer x p d) read =
    inr (read_stays known from cone sides rail x read.0, read.1)
read_stays known from cone sides rail (Seal x y) read = inr (
  read_stays known from cone sides rail x read.0,
  read_stays known from cone sides rail y read.1,
)
