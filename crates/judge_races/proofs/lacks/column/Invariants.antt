use Rattle.std.proofs.Common.{ℕ, Bool, length}
use Rattle.judge_races.specs.Stretches.{AreOffs}
use Rattle.judge_races.specs.Lacks.{IsColumn, LastBelow}
use Rattle.judge_races.proofs.lacks.column.Given as goal

abbrev pub invariant-loop-t : goal.invariant-loop-t
invariant-loop-t l = record {
  columns : (u : ℕ → Bool) → AreOffs u (length l.offs) l.offs → IsColumn u l.pickup l.t l.column.items;
  last : (u : ℕ → Bool) → AreOffs u (length l.offs) l.offs → LastBelow u l.pickup l.t l.last;
}
