use Rattle.std.proofs.Common.{◌≤◌, ◌<◌, List, ℕ, true, length, ◌++◌, arith, ⊎_elim, inl, inr}
use Rattle.std.proofs.lemmas.Bool.{cases_lt}
use Rattle.judge_match.specs.explain.Answers.{paired}
use Rattle.judge_match.proofs.explain_lemmas.PairedLaws.{paired_end}
use Rattle.judge_match.proofs.explain.changes.push_paired.Goals as goal

pub returns : goal.returns
returns c =
    let xs : List ℕ = c.args.recorded.now in
    let ys : List ℕ = c.args.played.now in
    paired_end c.args.terminal c.args.trip c.loop-i.level c.loop-i.i xs ys c.loop-i.rows.items
    (c.args.rows.now.items ++ paired c.args.terminal c.args.trip true xs ys)
    (⊎_elim
    (λ (below : length xs < length ys).
    let past : length xs ≤ c.loop-i.i = omega (arith, below, c.min-count.ensures, c.loop-i-test.false) in
    inl past)
    (λ (above : length ys ≤ length xs).
    let past : length ys ≤ c.loop-i.i = omega (arith, above, c.min-count.ensures, c.loop-i-test.false) in
    inr past)
    (cases_lt (length xs) (length ys)))
    c.loop-i.invariant
