use Rattle.std.proofs.Common.{◌≡◌, ℕ, false, length}
use Rattle.std.specs.Prelude.{get_or, slice_get, Option, Some, Vec}
use Rattle.std.specs.declared.alloc.Global.{Global}
use Rattle.model_line.specs.declared.script.Script.{Script}
use Rattle.model_logic.specs.Tree.{Const}
use Rattle.judge_verdict.specs.verdict.OneEach.{OneEach}
use Rattle.net_gates.specs.Formulas.{trees_of}
use Rattle.judge_races.specs.Races.{columns_of}
use Rattle.judge_races.specs.Lasting.{AreHistoryWaves, IsColumnOf}
use Rattle.judge_races.proofs.terminal.columns_at.Given as goal

abbrev pub invariant-loop-i : goal.invariant-loop-i
invariant-loop-i l = record {
  count : length l.columns.items ≡ l.i;
  long : (k : ℕ) (column : Vec (Option ℕ) Global) → slice_get l.columns.items k ≡ Some column
      → length column.items ≡ l.compiled.line.now.horizon;
  are : (script : Script)
      → AreHistoryWaves l.compiled.line.now script l.compiled.net.now.gates l.waves
      → OneEach (λ i column. IsColumnOf l.compiled.line.now script
      (get_or (trees_of l.compiled.net.now.gates l.ids) i (Const false)) column) l.i
      (columns_of l.columns.items);
}
