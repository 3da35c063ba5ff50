use Rattle.std.proofs.Common.{List, subst, arith, map}
use Rattle.file_study.specs.declared.study.stage.SweptFault.{SweptFault}
use Rattle.file_study.specs.study.Faults.{fault_values}
use Rattle.file_borders.specs.Studies.{AreLooseOf, with_intervals}
use Rattle.file_borders.proofs.Studies.{are_none}
use Rattle.file_borders.proofs.study.loose_faults.Goals as goal

pub returns-then-is_empty-clause-refused : goal.returns-then-is_empty-clause-refused
returns-then-is_empty-clause-refused c =
    are_none (with_intervals (map fault_values c.args.study.now.faults.items)) c.in_ok-all.all.items
    (subst (λ (l : List SweptFault). AreLooseOf (with_intervals (map fault_values l)) c.in_ok-all.all.items)
    c.as_slice.ensures.value c.in_ok-all.ensures.are)
    (grind (arith, c.if-is_empty.true, c.is_empty.ensures))
