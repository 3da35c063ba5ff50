-- A fact with all that it rests on.
use Rattle.std.specs.Prelude.{◌≡◌, ◌≤◌, ◌+◌, ◌++◌, ◌&&◌, ◌==◌, ℕ, Bool, IsTrue, IsFalse}
use Rattle.std.specs.Prelude.{List, [], ◌∷◌, Option, None, Some, length, if◌then◌else◌}
use Rattle.std.specs.List.{list_any}
use Rattle.judge_why.specs.declared.fact.{Spot.Spot, Fact.Fact}
use Rattle.judge_why.specs.{Plays.PlayOf, Facts.IsFact, Causes.first_cause, Causes.second_cause}

-- it rests on nothing; on what is told before; on what is not told any more; or on a fact, with what
-- that rests on
pub data Reason : Type 0 where
  Nothing : Reason
  Again : Reason
  Cut : Reason
  Because : (fact : Fact) (first second : Reason) → Reason

-- the facts, each before those that it rests on
abbrev pub preorder : Reason → List Fact
preorder Nothing = []
preorder Again = []
preorder Cut = []
preorder (Because fact first second) = fact ∷ (preorder first ++ preorder second)

-- the fact is of this gate at this tick, and one of these is
abbrev pub is_of : Spot → Fact → Bool
is_of spot fact = (fact.gate == spot.gate) && (fact.tick == spot.tick)

abbrev pub tells : List Fact → Spot → Bool
tells facts spot = list_any (is_of spot) facts

-- one deeper below a fact that is told
abbrev pub depth_below : PlayOf → Fact → ℕ
depth_below play fact = if play.told fact.gate then fact.depth + 1 else fact.depth

-- how many facts a reason has at most
abbrev pub most : ℕ
most = 512

-- Behind these facts it is a reason of this gate at this tick: each fact is so, none of them is told
-- twice, and what it rests on stands below it. It is cut only where `most` facts stand before.
abbrev pub IsReason : PlayOf → List Fact → ℕ → Option Spot → Reason → Type 0
IsReason play before depth None Nothing = Unit {0}
IsReason play before depth None Again = ⊥
IsReason play before depth None Cut = ⊥
IsReason play before depth None (Because fact first second) = ⊥
IsReason play before depth (Some spot) Nothing = ⊥
IsReason play before depth (Some spot) Again = IsTrue (tells before spot)
IsReason play before depth (Some spot) Cut = most ≤ length before
IsReason play before depth (Some spot) (Because fact first second) =
    IsFalse (tells before spot)
    × (IsFact play spot depth fact
    × (IsReason play (before ++ fact ∷ []) (depth_below play fact) (first_cause play fact) first
    × IsReason play ((before ++ fact ∷ []) ++ preorder first) (depth_below play fact)
    (second_cause play fact) second))

-- the facts of a reason stand behind those before
pub record AddsReason (play : PlayOf) (depth : ℕ) (spot : Option Spot) (old new : List Fact)
    : Type 0 where
  pub reason : Reason
  pub is : IsReason play old depth spot reason
  pub added : new ≡ old ++ preorder reason
  pub few : length new ≤ most

-- the facts are those of a reason of this gate at this tick
pub record IsWhy (play : PlayOf) (spot : Spot) (facts : List Fact) : Type 0 where
  pub reason : Reason
  pub is : IsReason play [] 0 (Some spot) reason
  pub are : facts ≡ preorder reason
  pub few : length facts ≤ most
