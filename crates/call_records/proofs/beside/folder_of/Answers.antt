use Rattle.std.proofs.Common.{◌≡◌, ℕ, arith, refl, subst, take}
use Rattle.call_records.specs.Beside.{folder_of}
use Rattle.call_records.proofs.Folder.{folder_at}
use Rattle.call_records.proofs.beside.folder_of.Goals as goal

pub returns-then-name-n-eq47 : goal.returns-then-name-n-eq47
returns-then-name-n-eq47 c =
    let slash = c.if-name-n-eq47.true in
    folder_at c.args.name.now c.loop-n.n c.loop-n.invariant.inside c.loop-n.invariant.passed
    (λ some. rw slash refl)

pub returns : goal.returns
returns c =
    let none : c.loop-n.n ≡ 0 = omega (arith, c.loop-n-test.false) in
    subst (λ (n : ℕ). take n c.args.name.now ≡ folder_of c.args.name.now) none
    (folder_at c.args.name.now c.loop-n.n c.loop-n.invariant.inside c.loop-n.invariant.passed
    (λ some. absurd (omega (arith, c.loop-n-test.false))))
