use Rattle.std.proofs.Common.{◌≡◌, ◌+◌, ◌*◌, ◌/◌, ◌<◌, ◌≤◌, arith, ⊎_elim}
use Rattle.std.proofs.lemmas.Bool.{cases_lt}
use Rattle.run_changes.proofs.changes_lemmas.MarkLaws.{word_passed}
use Rattle.run_changes.proofs.changes.marks.next_marked.Goals as goal

pub loop-gate-init : goal.loop-gate-init
loop-gate-init c = record {
  later = omega arith;
  few = let few = c.requires.few in let inside = c.requires.inside in omega arith;
  passed = λ i low high. absurd (omega (arith, low, high));
}

pub returns-then-bit-lt64-clause-passed : goal.returns-then-bit-lt64-clause-passed
returns-then-bit-lt64-clause-passed c = λ i low high.
    let words = c.args.words.now in
    let gate = c.loop-gate.gate in
    let bit = c.lowest_from-bit.result in
    let below : i < gate / 64 * 64 + bit = omega (arith, high) in
    let limit : bit ≤ 64 = c.lowest_from-bit.ensures.limited in
    ⊎_elim
    (λ lt. c.loop-gate.invariant.passed i low lt)
    (λ ge. word_passed words gate bit i ge below limit
    c.lowest_from-bit.ensures.passed)
    (cases_lt i gate)

pub loop-gate-preserved : goal.loop-gate-preserved
loop-gate-preserved c =
    let words = c.args.words.now in
    let gate = c.loop-gate.gate in
    let bit = c.lowest_from-bit.result in
    let limit : bit ≤ 64 = c.lowest_from-bit.ensures.limited in
    let full : bit ≡ 64 = omega arith in
    let from : c.args.from ≤ gate = c.loop-gate.invariant.later in
    let few : c.args.end ≤ 4000 = c.requires.few in
    let before : gate < c.args.end = c.loop-gate-test.true in
    record {
      later = omega (arith, from);
      few = omega (arith, few, before);
      passed = λ i low high.
          ⊎_elim
          (λ lt. c.loop-gate.invariant.passed i low lt)
          (λ ge. let below : i < gate / 64 * 64 + bit = omega (arith, high, full) in
          word_passed words gate bit i ge below limit
          c.lowest_from-bit.ensures.passed)
          (cases_lt i gate);
    }

pub returns-clause-passed : goal.returns-clause-passed
returns-clause-passed c = λ i low high.
    let end = c.loop-gate-test.false in
    c.loop-gate.invariant.passed i low (omega (arith, high, end))
