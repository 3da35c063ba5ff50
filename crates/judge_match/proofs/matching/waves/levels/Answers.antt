use Rattle.std.proofs.Common.{◌≡◌, ◌+◌, ◌-◌, ◌<◌, ◌≤◌, ℕ, List, false, length, get_or, take}
use Rattle.std.proofs.Common.{sym, ◌∙◌, ap, arith, ⊎_elim}
use Rattle.std.proofs.lemmas.Bool.{cases_lt}
use Rattle.judge_match.specs.declared.matching.change.Change.{Change}
use Rattle.judge_match.specs.{matching.Heads.level_by, matching.Waves.known_level}
use Rattle.judge_match.proofs.matching_lemmas.LevelLaws.{level_by-decided, level_by-undecided, all_set}
use Rattle.judge_match.proofs.matching.waves.levels.Goals as goal

abbrev no_change : Change
no_change = record { tick = 0; terminal = 0; trip = false; level = false }

pub from_the_last-preserved : goal.from_the_last-preserved
from_the_last-preserved c =
    let changes : List Change = c.args.changes.now in
    let k = c.args.terminal in
    let trip = c.args.trip in
    let rest : ℕ = c.from_the_last.rest in
    let some = c.from_the_last-test.true in
    let now = c.set_by-end.ensures.set in
    let before = c.from_the_last.invariant in
    let left : rest ≤ length changes = before.left in
    let earlier : c.set_by-end.result ≤ c.from_the_last.end = now.earlier in
    let last : rest - 1 + 1 ≡ rest = omega arith in
    let inside : rest - 1 < length changes = omega arith in
    let change : Change = get_or changes (rest - 1) no_change in
    record {
      left = omega arith;
      inside = omega (arith, before.inside);
      long = c.set_by-end.ensures.long ∙ before.long;
      set = λ t low high.
          ⊎_elim
          (λ early.
          now.set t low early
          ∙ ap known_level
          (sym (before.decide t early
          ∙ ap (λ (n : ℕ). level_by k trip t (take n changes) false) (sym last)
          ∙ level_by-decided k trip t changes (rest - 1) no_change inside
          (now.decided t low early))))
          (λ late. now.above t late ∙ before.set t late high) (cases_lt t c.from_the_last.end);
      free = λ t lt. now.below t lt ∙ before.free t (omega arith);
      decide = λ t lt.
          before.decide t (omega arith)
          ∙ ap (λ (n : ℕ). level_by k trip t (take n changes) false) (sym last)
          ∙ level_by-undecided k trip t changes (rest - 1) no_change inside (now.undecided t lt);
    }

pub returns : goal.returns
returns c =
    let changes : List Change = c.args.changes.now in
    let k = c.args.terminal in
    let trip = c.args.trip in
    let before = c.from_the_last.invariant in
    let none : c.from_the_last.rest ≡ 0 = omega (arith, c.from_the_last-test.false) in
    all_set c.args.horizon changes trip k c.from_the_last.levels.items before.long
    (λ t lt.
    ⊎_elim
    (λ early.
    before.free t early
    ∙ ap known_level
    (sym (before.decide t early
    ∙ ap (λ (n : ℕ). level_by k trip t (take n changes) false) none)))
    (λ late. before.set t late lt) (cases_lt t c.from_the_last.end))
