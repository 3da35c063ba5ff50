use Rattle.std.proofs.Common.{◌≡◌, ◌≢◌, ℕ, ◌∙◌, subst, arith}
use Rattle.std.proofs.lemmas.Bool.Decides.{nat_tests}
use Rattle.model_timing.specs.Timing.{TimingValues}
use Rattle.model_line.specs.Parameters.{declared_middle}
use Rattle.judge_settle.specs.corner.Cuts.{number, least_of, with_number}
use Rattle.judge_settle.specs.corner.Obligations.{IsPassed}
use Rattle.judge_settle.specs.corner.Rounds.{IsRound, IsTried}
use Rattle.judge_settle.proofs.corner_lemmas.Tries.{round_none, put_to_nominal, put_to_least}
use Rattle.judge_settle.proofs.corner.number.put_number.Goals as goal

pub returns-then-number-middle-clause-round : goal.returns-then-number-middle-clause-round
returns-then-number-middle-clause-round c =
    round_none c.args.of.now c.args.cut.now c.requires.fails

pub returns-then-branch-clause-round : goal.returns-then-branch-clause-round
returns-then-branch-clause-round c =
    let of = c.args.of.now in
    let line = of.compiled.line.now in
    let p : ℕ = c.args.param in
    let cut : TimingValues = c.args.cut.now in
    let new : TimingValues = c.try_number.new.cut in
    let apart : number cut p ≢ declared_middle line p =
    grind (
      arith,
      nat_tests,
      c.number_of-number.ensures,
      c.middle-middle.ensures.number,
      c.if-number-middle.false,
    ) in
    subst (IsRound of cut new) c.if-branch.true
    (put_to_nominal of cut new p c.in_ok-try_number.field-0 c.requires.param c.requires.fails apart
    (subst (λ (n : ℕ). IsTried of cut (with_number cut p n) new c.in_ok-try_number.field-0)
    c.middle-middle.ensures.number c.in_ok-try_number.ensures))

pub returns-then-number-least-clause-round : goal.returns-then-number-least-clause-round
returns-then-number-least-clause-round c =
    let of = c.args.of.now in
    let line = of.compiled.line.now in
    let p : ℕ = c.args.param in
    let cut : TimingValues = c.args.cut.now in
    let new : TimingValues = c.try_number.new.cut in
    let apart : number cut p ≢ declared_middle line p =
    grind (
      arith,
      nat_tests,
      c.number_of-number.ensures,
      c.middle-middle.ensures.number,
      c.if-number-middle.false,
    ) in
    subst (IsRound of cut new) c.if-branch.false
    (put_to_nominal of cut new p c.in_ok-try_number.field-0 c.requires.param c.requires.fails apart
    (subst (λ (n : ℕ). IsTried of cut (with_number cut p n) new c.in_ok-try_number.field-0)
    c.middle-middle.ensures.number c.in_ok-try_number.ensures))

pub returns-clause-round : goal.returns-clause-round
returns-clause-round c =
    let of = c.args.of.now in
    let line = of.compiled.line.now in
    let p : ℕ = c.args.param in
    let cut : TimingValues = c.args.cut.now in
    let new : TimingValues = c.try_number-2.new.cut in
    let kept : c.try_number.new.cut ≡ cut = c.in_ok-try_number.ensures.kept c.if-branch.false in
    let apart : number cut p ≢ declared_middle line p =
    grind (
      arith,
      nat_tests,
      c.number_of-number.ensures,
      c.middle-middle.ensures.number,
      c.if-number-middle.false,
    ) in
    let other : number cut p ≢ least_of line p =
    grind (
      arith,
      nat_tests,
      c.number_of-number.ensures,
      c.least-least.ensures.number,
      c.if-number-least.false,
    ) in
    put_to_least of cut new p c.in_ok-put.put c.requires.param c.requires.fails apart other
    (subst (λ (n : ℕ). IsTried of cut (with_number cut p n) new c.in_ok-put.put)
    c.least-least.ensures.number
    (subst (λ (t : TimingValues). IsTried of t (with_number t p c.least-least.result) new
    c.in_ok-put.put) kept c.in_ok-put.ensures))

pub returns-clause-matters : goal.returns-clause-matters
returns-clause-matters c = λ off.
    let of = c.args.of.now in
    let line = of.compiled.line.now in
    let p : ℕ = c.args.param in
    let cut : TimingValues = c.args.cut.now in
    let new : TimingValues = c.try_number-2.new.cut in
    let kept : c.try_number.new.cut ≡ cut = c.in_ok-try_number.ensures.kept c.if-branch.false in
    let same : new ≡ cut = c.in_ok-put.ensures.kept off ∙ kept in
    let first : IsPassed of (with_number cut p (declared_middle line p)) =
    subst (λ (n : ℕ). IsPassed of (with_number cut p n)) c.middle-middle.ensures.number
    (c.in_ok-try_number.ensures.passes c.if-branch.false) in
    let second : IsPassed of (with_number cut p (least_of line p)) =
    subst (λ (n : ℕ). IsPassed of (with_number cut p n)) c.least-least.ensures.number
    (subst (λ (t : TimingValues). IsPassed of (with_number t p c.least-least.result)) kept
    (c.in_ok-put.ensures.passes off)) in
    rw same
    (record {
      at_nominal = λ apart. first;
      at_least = λ apart other. second;
    })
