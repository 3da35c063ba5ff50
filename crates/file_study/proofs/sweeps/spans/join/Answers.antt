use Rattle.std.proofs.Common.{sym, ◌∙◌, arith}
use Rattle.file_study.proofs.sweeps_lemmas.Joining.{joined_at}
use Rattle.file_study.proofs.sweeps.spans.join.Goals as goal

pub returns-then-i-len : goal.returns-then-i-len
returns-then-i-len c =
    let found = rw c.deref.ensures.value at c.place-i.ensures.joined in
    joined_at c.args.new c.index_mut.result.now c.args.spans.now.items c.place-i.result
    (omega (arith, c.if-i-len.true, c.len.ensures)) c.index_mut.ensures.value
    ∙ sym found
