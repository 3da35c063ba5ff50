-- What the races of a conjunction say of the time to spare.
use Rattle.std.specs.Prelude.{◌≡◌, ◌≤◌, ◌<◌, ℕ, false, List, Some, IsTrue, Option, length, get_or, slice_get, ◌↔◌, Bool}
use Rattle.model_line.specs.{declared.line.Line.Line, declared.script.Script.Script}
use Rattle.model_line.specs.Parameters.{terminal_count}
use Rattle.model_logic.specs.Choice.{Choice, IsInside, declared_box, time_by, world_of}
use Rattle.model_logic.specs.Histories.{History, IsLineHistory, PairHistory, IsPairHistory}
use Rattle.model_logic.specs.Tree.{Tree, Const}
use Rattle.model_logic.specs.{Logic.set_tree, Mean.mean, Mean.World, Mean.Signals}
use Rattle.model_logic.specs.PairMean.{PairWorld, PairSignals, pair_mean}
use Rattle.judge_races.specs.Operands.{alternatives, input_of, operands, pickup_of}
use Rattle.judge_races.specs.Lacks.{Reaches}
use Rattle.judge_races.specs.Lasting.{AreRacesOver, holds_at, least_pickup, may_be}
use Rattle.judge_races.specs.declared.races.Race.{Race}
use Rattle.judge_races.specs.declared.stretch.Stretch.{Stretch}

-- each operand, if its rail could last g ticks longer, may be on at t
abbrev pub MayReach : Line → Script → PairHistory → List Tree → ℕ → ℕ → Type 0
MayReach line script w trees g t = (i : ℕ) → i < length trees
    → Reaches (may_be line script w (input_of (get_or trees i (Const false))))
    (least_pickup line (get_or trees i (Const false))) g t

-- each operand, lasting g ticks longer, is on at t in the history of a choice
abbrev pub Reach : Line → Script → Choice → History → List Tree → ℕ → ℕ → Type 0
Reach line script choice h trees g t = (i : ℕ) → i < length trees
    → Reaches (mean (world_of line script choice) h.key (input_of (get_or trees i (Const false))))
    (time_by choice.number (pickup_of (get_or trees i (Const false)))) g t

-- one of the races lacks no more than that
pub record SomeRaceWithin (races : List Race) (g : ℕ) : Type 0 where
  pub at : ℕ
  pub race : Race
  pub there : slice_get races at ≡ Some race
  pub small : race.lack ≤ g

-- a script over which these are races, and at which the trip is never set
pub record IsOver (scripts : List Script) (trips : List (Option Stretch)) (n p : ℕ) (script : Script)
    : Type 0 where
  pub within : p < n
  pub there : slice_get scripts p ≡ Some script
  pub held : IsTrue (holds_at trips p)

-- where the operands of a conjunction, lasting g ticks longer, are all on at a tick, by the may rails
-- or in the history of any choice inside, one of its races lacks no more than g. So with g less
-- than each of them they are so at no tick.
pub record RacesAreTheLeast : Type 0 where
  pub rails : (line : Line) (scripts : List Script) (trips : List (Option Stretch)) (trees : List Tree)
      (n p : ℕ) (races : List Race) (script : Script) (w : PairHistory) (g t : ℕ)
      → AreRacesOver line scripts trips trees n races → IsOver scripts trips n p script
      → IsPairHistory line script (declared_box line) w → t < line.horizon
      → MayReach line script w trees g t → SomeRaceWithin races g
  pub choices : (line : Line) (scripts : List Script) (trips : List (Option Stretch)) (k i n p : ℕ)
      (races : List Race) (script : Script) (choice : Choice) (h : History) (g t : ℕ)
      → k < terminal_count line
      → AreRacesOver line scripts trips (operands (get_or (alternatives (set_tree line k)) i (Const false)))
      n races
      → IsOver scripts trips n p script → IsInside line choice → IsLineHistory line script choice h
      → t < line.horizon
      → Reach line script choice h
      (operands (get_or (alternatives (set_tree line k)) i (Const false))) g t
      → SomeRaceWithin races g

-- one of the alternatives of a tree has all its operands on
pub record SomeComplete (f : Tree → Bool) (x : Tree) : Type 0 where
  pub at : ℕ
  pub one : Tree
  pub there : slice_get (alternatives x) at ≡ Some one
  pub all : (i : ℕ) (y : Tree) → slice_get (operands one) i ≡ Some y → IsTrue (f y)

-- a tree is on exactly where it is so: its value at a choice, and its may rail
pub record ATreeAsksForItsOperands : Type 0 where
  pub values : (w : World) (keys : Signals) (x : Tree) (t : ℕ)
      → IsTrue (mean w keys x t) ↔ SomeComplete (λ y. mean w keys y t) x
  pub rails : (w : PairWorld) (keys : PairSignals) (x : Tree) (t : ℕ)
      → IsTrue (pair_mean w keys x t).may ↔ SomeComplete (λ y. (pair_mean w keys y t).may) x

-- an operand reaches a tick without lasting longer exactly where it is on: in the history of a
-- choice, and by its may rail
pub record WhatReachesNowIsOn : Type 0 where
  pub values : (line : Line) (script : Script) (choice : Choice) (h : History) (x : Tree) (t : ℕ)
      → IsTrue (mean (world_of line script choice) h.key x t)
      ↔ Reaches (mean (world_of line script choice) h.key (input_of x))
      (time_by choice.number (pickup_of x)) 0 t
  pub rails : (line : Line) (script : Script) (w : PairHistory) (x : Tree) (t : ℕ)
      → IsTrue (may_be line script w x t)
      ↔ Reaches (may_be line script w (input_of x)) (least_pickup line x) 0 t
