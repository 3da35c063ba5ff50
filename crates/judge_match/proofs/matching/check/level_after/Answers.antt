use Rattle.std.proofs.Common.{◌≡◌, ◌+◌, ◌-◌, ℕ, false, take, sym, ◌∙◌, ap, arith}
use Rattle.judge_match.specs.{declared.matching.change.Change.Change, matching.Heads.level_after}
use Rattle.judge_match.proofs.matching_lemmas.LevelLaws.{level_after-other, level_after-own}
use Rattle.judge_match.proofs.matching.check.level_after.Goals as goal

abbrev no_change : Change
no_change = record { tick = 0; terminal = 0; trip = false; level = false }

pub returns-then-is_of : goal.returns-then-is_of
returns-then-is_of c =
    let rest : ℕ = c.from_the_last.rest in
    let some = c.from_the_last-test.true in
    let within = c.from_the_last.invariant.within in
    let last : rest - 1 + 1 ≡ rest = omega arith in
    sym (level_after-own c.args.terminal c.args.trip c.args.changes.now (rest - 1) no_change
    (omega arith) (sym c.is_of.ensures ∙ c.if-is_of.true))
    ∙ ap (λ (n : ℕ). level_after c.args.terminal c.args.trip (take n c.args.changes.now) false) last
    ∙ c.from_the_last.invariant.same

pub from_the_last-preserved : goal.from_the_last-preserved
from_the_last-preserved c =
    let rest : ℕ = c.from_the_last.rest in
    let some = c.from_the_last-test.true in
    let within = c.from_the_last.invariant.within in
    let last : rest - 1 + 1 ≡ rest = omega arith in
    record {
      within = omega arith;
      same = sym (level_after-other c.args.terminal c.args.trip c.args.changes.now (rest - 1)
          no_change (omega arith) (sym c.is_of.ensures ∙ c.if-is_of.false))
          ∙ ap (λ (n : ℕ). level_after c.args.terminal c.args.trip (take n c.args.changes.now) false)
          last
          ∙ c.from_the_last.invariant.same;
    }
