use Rattle.std.proofs.Common.{arith}
use Rattle.call_inspect.proofs.Inspecting.{all_found, none_so_far, one_file_on}
use Rattle.call_inspect.proofs.inspected.inspected_against.Goals as goal

pub loop-file-init : goal.loop-file-init
loop-file-init c = rw c.new-text.ensures.items (none_so_far c.args.ground.now)

pub loop-file-preserved : goal.loop-file-preserved
loop-file-preserved c =
    one_file_on c.args.ground.now c.args.files.now c.loop-file.file-index c.file-item.result
    c.loop-file.worst c.in_ok-linted.linted.outcome c.worse-worst.result c.loop-file.text.items
    c.in_ok-linted.linted.text.items c.extend_from_slice.new.self.items c.loop-file-test.true
    c.file-item.is c.loop-file.invariant c.in_ok-linted.ensures.found c.in_ok-linted.ensures.said
    c.worse-worst.ensures (rw c.as_slice.ensures.value at c.in_ok-extend_from_slice.ensures.items)

pub returns : goal.returns
returns c =
    all_found c.args.ground.now c.args.files.now c.loop-file.file-index c.loop-file.worst
    c.loop-file.text.items c.done_of.result (omega arith) c.requires c.loop-file.invariant c.done_of.ensures
