use Rattle.std.proofs.Common.{◌≡◌, ℕ, subst, arith}
use Rattle.judge_races.specs.Races.{AreRaces, IsLookedAt}
use Rattle.judge_races.proofs.races.add_races.Goals as goal

pub returns : goal.returns
returns c = λ all counts is counted are.
    let done : c.loop-t.t ≡ c.args.horizon = omega (arith, c.loop-t-test.false, c.loop-t.auto.t-end) in
    let P : ℕ → Type 0 = λ n.
    AreRaces all (IsLookedAt counts c.args.horizon c.args.place n) c.loop-t.races.items in
    subst P done (c.loop-t.invariant all counts is counted are)
