use Rattle.std.proofs.Common.{◌≡◌, ◌<◌, ℕ, length, get_or, arith}
use Rattle.run_step.specs.LoopLaws.{first_read, first_all}
use Rattle.run_changes.proofs.changes_lemmas.MarkLaws.{not_marked}
use Rattle.run_changes.proofs.changes.marks.have_none.Goals as goal

pub loop-k-init : goal.loop-k-init
loop-k-init c = λ j y lt. absurd (omega (arith, lt))

pub loop-k-preserved : goal.loop-k-preserved
loop-k-preserved c =
    let words = c.args.words.now in
    let k = c.loop-k.k in
    let lt : k < length words = c.loop-k-test.true in
    let none : get_or words k 0 ≡ 0 = omega arith in
    first_read (λ (x : ℕ). x ≡ 0) words k 0 lt c.loop-k.invariant none

pub returns : goal.returns
returns c = λ _ i marked.
    not_marked c.args.words.now i
    (first_all (λ (word : ℕ). word ≡ 0) c.args.words.now c.loop-k.k (omega arith) c.loop-k.invariant)
    marked
