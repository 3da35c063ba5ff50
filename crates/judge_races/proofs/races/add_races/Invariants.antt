use Rattle.std.proofs.Common.{◌≡◌, ℕ, Bool, List}
use Rattle.std.specs.Prelude.{IsTrue}
use Rattle.judge_races.specs.Races.{AreRaces, Column, IsLookedAt, columns_of}
use Rattle.judge_races.proofs.races.add_races.Given as goal

abbrev pub invariant-loop-t : goal.invariant-loop-t
invariant-loop-t l = (all : ℕ → List Column) (counts : ℕ → Bool) → all l.place ≡ columns_of l.columns
    → IsTrue (counts l.place)
    → AreRaces all (IsLookedAt counts l.horizon l.place 0) l.initial.races.items
    → AreRaces all (IsLookedAt counts l.horizon l.place l.t) l.races.items
