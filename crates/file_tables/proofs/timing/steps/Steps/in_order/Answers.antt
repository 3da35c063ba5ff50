use Rattle.std.proofs.Common.{ℕ, List, subst}
use Rattle.std.specs.Prelude.{IsTrue}
use Rattle.model_timing.specs.declared.step.Step.{Step}
use Rattle.model_timing.specs.Timing.{ascend}
use Rattle.file_tables.proofs.timing_lemmas.TableLaws.{listed_ascend}
use Rattle.file_tables.proofs.timing.steps.Steps.in_order.Goals as goal

pub returns-clause-ascending : goal.returns-clause-ascending
returns-clause-ascending c =
    subst (λ (steps : List (Step ℕ)). IsTrue (ascend steps)) c.self.view_is
    (listed_ascend 0 c.self.inside.table.items)
