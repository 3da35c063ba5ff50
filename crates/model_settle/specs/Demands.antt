-- The walk along the rails: which end of each number, and which rail of each channel's sender, a tree
-- asks for where it is read on a rail.
use Rattle.std.specs.Prelude.{◌≡◌, ◌++◌, ◌∷◌, ◌↔◌, ℕ, Bool, IsTrue, List, []}
use Rattle.model_logic.specs.Tree.{Tree, Const, Seen, Loss, Raw, Not, And, Or, Timer, Seal}
use Rattle.model_logic.specs.declared.time.Time.{Time}
use Rattle.model_settle.specs.Sides.{Rail, turned, End, pickup_end, dropout_end, Sides, IsTakenAt}
use Rattle.model_settle.specs.Sides.{IsReadOn}

pub data Demand : Type 0 where
  EndAsked : (time : Time) (end : End) → Demand
  KeyAsked : (channel : ℕ) (rail : Rail) → Demand

-- `not` turns the rail, a timer asks for two ends, a channel for its sender's key
unfoldable pub demands : Rail → Tree → List Demand
demands rail (Const v) = []
demands rail (Seen p) = []
demands rail (Loss c) = []
demands rail (Raw c) = KeyAsked c rail ∷ []
demands rail (Not x) = demands (turned rail) x
demands rail (And x y) = demands rail x ++ demands rail y
demands rail (Or x y) = demands rail x ++ demands rail y
demands rail (Timer x p d) =
    EndAsked p (pickup_end rail) ∷ EndAsked d (dropout_end rail) ∷ demands rail x
demands rail (Seal x y) = demands rail x ++ demands rail y

-- the sides give what is asked for
abbrev pub IsMet : (ℕ → ℕ) → (ℕ → Bool) → Sides → Demand → Type 0
IsMet from cone sides (EndAsked x end) = IsTakenAt sides x end
IsMet from cone sides (KeyAsked c rail) = IsTrue (cone (from c)) × (sides.key (from c) ≡ rail)

abbrev pub AreMet : (ℕ → ℕ) → (ℕ → Bool) → Sides → List Demand → Type 0
AreMet from cone sides [] = Unit {0}
AreMet from cone sides (d ∷ ds) = IsMet from cone sides d × AreMet from cone sides ds

-- a tree is read on the rail exactly where the sides give all that the walk asks for
abbrev pub TheWalkTellsTheSides : Type 0
TheWalkTellsTheSides = (from : ℕ → ℕ) (cone : ℕ → Bool) (sides : Sides) (rail : Rail) (x : Tree)
    → IsReadOn from cone sides rail x ↔ AreMet from cone sides (demands rail x)
