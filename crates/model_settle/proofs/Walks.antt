-- A tree is read on a rail exactly where all that the walk asks for is given.
use Rattle.std.proofs.Common.{◌++◌, ◌∷◌, ℕ, Bool, List, []}
use Rattle.std.specs.Prelude.{◌↔◌}
use Rattle.model_logic.specs.Tree.{Tree, Const, Seen, Loss, Raw, Not, And, Or, Timer, Seal}
use Rattle.model_settle.specs.Sides.{Rail, turned, Sides, IsReadOn}
use Rattle.model_settle.specs.Demands.{Demand, demands, AreMet}

module _ (from : ℕ → ℕ) (cone : ℕ → Bool) (sides : Sides) where
  met_both : (a b : List Demand) → AreMet from cone sides a → AreMet from cone sides b
      → AreMet from cone sides (a ++ b)
  met_both [] b p q = q
  met_both (d ∷ a) b p q = (p.0, met_both a b p.1 q)

  met_left : (a b : List Demand) → AreMet from cone sides (a ++ b) → AreMet from cone sides a
  met_left [] b p = tt
  met_left (d ∷ a) b p = (p.0, met_left a b p.1)

  met_right : (a b : List Demand) → AreMet from cone sides (a ++ b) → AreMet from cone sides b
  met_right [] b p = p
  met_right (d ∷ a) b p = met_right a b p.1

  asked : (rail : Rail) (x : Tree) → IsReadOn from cone sides rail x
      → AreMet from cone sides (demands rail x)
  unfolding IsReadOn demands
  asked rail (Const v) read = tt
  asked rail (Seen p) read = tt
  asked rail (Loss c) read = tt
  asked rail (Raw c) read = (read, tt)
  asked rail (Not x) read = asked (turned rail) x read
  asked rail (And x y) read =
      met_both (demands rail x) (demands rail y) (asked rail x read.0) (asked rail y read.1)
  asked rail (Or x y) read =
      met_both (demands rail x) (demands rail y) (asked rail x read.0) (asked rail y read.1)
  asked rail (Timer x p d) read = (read.1.0, (read.1.1, asked rail x read.0))
  asked rail (Seal x y) read =
      met_both (demands rail x) (demands rail y) (asked rail x read.0) (asked rail y read.1)

  given : (rail : Rail) (x : Tree) → AreMet from cone sides (demands rail x)
      → IsReadOn from cone sides rail x
  unfolding IsReadOn demands
  given rail (Const v) met = tt
  given rail (Seen p) met = tt
  given rail (Loss c) met = tt
  given rail (Raw c) met = met.0
  given rail (Not x) met = given (turned rail) x met
  given rail (And x y) met = (
    given rail x (met_left (demands rail x) (demands rail y) met),
    given rail y (met_right (demands rail x) (demands rail y) met),
  )
  given rail (Or x y) met = (
    given rail x (met_left (demands rail x) (demands rail y) met),
    given rail y (met_right (demands rail x) (demands rail y) met),
  )
  given rail (Timer x p d) met = (given rail x met.1.1, (met.0, met.1.0))
  given rail (Seal x y) met = (
    given rail x (met_left (demands rail x) (demands rail y) met),
    given rail y (met_right (demands rail x) (demands rail y) met),
  )

  pub walk_tells : (rail : Rail) (x : Tree)
      → IsReadOn from cone sides rail x ↔ AreMet from cone sides (demands rail x)
  walk_tells rail x = (asked rail x, given rail x)
