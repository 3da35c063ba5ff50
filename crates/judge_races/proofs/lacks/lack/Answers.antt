use Rattle.std.proofs.Common.{◌+◌, ℕ, sym, subst}
use Rattle.std.specs.Prelude.{Option}
use Rattle.judge_races.specs.Lacks.{LastBelow, IsLack}
use Rattle.judge_races.proofs.LackLaws.{lack_of_last, none_lacks}
use Rattle.judge_races.proofs.lacks.lack.Goals as goal

pub returns-in-Some : goal.returns-in-Some
returns-in-Some c = λ u p last.
    let P : Option ℕ → Type 0 = LastBelow u p (c.args.t + 1) in
    let Q : ℕ → Type 0 = IsLack u p c.args.t in
    subst Q (sym c.saturating_sub.ensures)
    (lack_of_last u p c.args.t c.in-Some.b (subst P c.in-Some.is last))

pub returns-in-None : goal.returns-in-None
returns-in-None c = λ u p last.
    let P : Option ℕ → Type 0 = LastBelow u p (c.args.t + 1) in
    none_lacks u p c.args.t (subst P c.in-None.is last)
