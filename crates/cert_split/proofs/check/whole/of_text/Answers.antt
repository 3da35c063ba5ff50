use Rattle.std.proofs.Common.{◌≤◌, ◌*◌, ◌+◌, length, arith}
use Rattle.cert_split.proofs.check.whole.of_text.Goals as goal

pub overflow_cast-result : goal.overflow_cast-result
overflow_cast-result c =
    let early : c.args.fault.line ≤ 1537 * length c.args.scripts.now + 3 =
    c.a_split_text_leaves_at_one_line.ensures.early c.args.line.now c.args.scripts.now
    c.args.cert.now c.args.fault.line c.requires.leaves in
    omega (arith, early, c.requires.few)
