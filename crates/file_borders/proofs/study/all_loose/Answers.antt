use Rattle.std.proofs.Common.{◌<◌, List, length, map, take, arith}
use Rattle.std.specs.List.{All}
use Rattle.std.proofs.lemmas.List.Elements.{All-push}
use Rattle.std.proofs.lemmas.Result.{err_from_is_err_and}
use Rattle.file_study.specs.study.Faults.{FaultValues, fault_values}
use Rattle.file_borders.specs.Studies.{AreLooseOf, IsWell, with_intervals}
use Rattle.file_borders.proofs.Studies.{one_more, refused_at}
use Rattle.file_borders.proofs.study.all_loose.Goals as goal

pub returns-in_err-push_loose-clause-refused : goal.returns-in_err-push_loose-clause-refused
returns-in_err-push_loose-clause-refused c =
    let told = err_from_is_err_and c.from_residual.result c.from_residual.ensures.1 in
    let lt : c.loop-i.i < length c.args.faults.now = omega (arith, c.loop-i-test.true, c.loop-i.auto.i-end) in
    rw (told.1, told.2)
    (refused_at c.args.line.now c.args.faults.now c.loop-i.i c.index-faults-i.result c.in_err-push_loose.field-0.0 lt
    c.index-faults-i.is c.loop-i.invariant.well c.in_err-push_loose.ensures.refused)

pub loop-i-preserved : goal.loop-i-preserved
loop-i-preserved c =
    let lt : c.loop-i.i < length c.args.faults.now = omega (arith, c.loop-i-test.true, c.loop-i.auto.i-end) in
    let before : List FaultValues = map fault_values (take c.loop-i.i c.args.faults.now) in
    record {
      are = one_more c.args.faults.now c.loop-i.i c.index-faults-i.result lt c.index-faults-i.is
          (λ (l : List FaultValues). AreLooseOf (with_intervals l) c.push_loose.new.all.items)
          (c.in_ok-push_loose.ensures.are before c.loop-i.invariant.are);
      can = c.in_ok-push_loose.ensures.can c.loop-i.invariant.can;
      well = one_more c.args.faults.now c.loop-i.i c.index-faults-i.result lt c.index-faults-i.is
          (λ (l : List FaultValues). All (IsWell c.args.line.now) l)
          (All-push (IsWell c.args.line.now) before (fault_values c.index-faults-i.result) c.loop-i.invariant.well
          c.in_ok-push_loose.ensures.well);
    }
