use Rattle.std.proofs.Common.{refl, ◌≡◌, length, arith}
use Rattle.judge_match.specs.explain.Changes.{AreNear}
use Rattle.judge_match.proofs.explain_lemmas.ListLaws.{zip_from}
use Rattle.judge_match.proofs.explain.changes.are_near.Goals as goal

pub returns : goal.returns
returns c =
    let xs = c.args.recorded.now in
    let ys = c.args.played.now in
    let long : length xs ≡ length ys = grind (arith, c.if-recorded-played.false) in (
      λ on. zip_from (AreNear c.args.within) xs ys 0 0 long
          (λ i below. c.loop-i.invariant i (omega (arith, below, c.loop-i-test.false))),
      λ all. refl,
    )
