use Rattle.std.proofs.Common.{◌≡◌, ◌∙◌, ℕ, List, Some, sym, ap, subst}
use Rattle.std.proofs.lemmas.Result.{err_from_is_err_and}
use Rattle.model_timing.specs.declared.step.Step.{Step}
use Rattle.cert_settle.specs.Grammar.{Follows}
use Rattle.cert_settle.specs.Reading.{last_of}
use Rattle.cert_settle.proofs.TimingLaws.{one_step_more, last_added}
use Rattle.cert_settle.proofs.TimingLaws.{one_more_read, missing, no_read, refused_here}
use Rattle.cert_settle.proofs.read_timing.read_timing.Goals as goal

pub returns-in_err-bytes : goal.returns-in_err-bytes
returns-in_err-bytes c =
    let q = err_from_is_err_and c.from_residual-in_err-bytes.result
    c.from_residual-in_err-bytes.ensures.1 in
    rw (q.1, q.2) (λ box later text begins none.
    let step : Step ℕ = c.in-Some.step in
    let follows : Follows (last_of c.steps.steps.items) step =
    subst (λ (l : List (Step ℕ)). Follows (last_of l) step) c.as_slice.ensures.value
    c.in-Some.ensures.1.0 in
    missing c.args.line.now box later text c.args.number c.steps.steps.items c.steps.bytes.now
    c.steps.lines.rest.now c.steps.at c.steps.lines.number
    (c.steps.invariant.read box later text begins) c.steps.invariant.number step
    c.in_err-bytes.field-0.0.line c.in-Some.ensures.0 follows c.in-Some.ensures.1.1
    c.in_err-bytes.ensures.0 c.in_err-bytes.ensures.1)

pub steps-preserved : goal.steps-preserved
steps-preserved c =
    let line = c.args.line.now in
    let step : Step ℕ = c.in-Some.step in
    let old : List (Step ℕ) = c.steps.steps.items in
    let new : List (Step ℕ) = c.push.new.self.items in
    let follows : Follows (last_of old) step =
    subst (λ (l : List (Step ℕ)). Follows (last_of l) step) c.as_slice.ensures.value
    c.in-Some.ensures.1.0 in
    record {
      number = c.in_ok-bytes.ensures.1;
      steps = one_step_more line old new step c.steps.invariant.steps c.in-Some.ensures.0 follows
          c.in_ok-push.ensures.items;
      fresh = λ none.
          let some : last_of new ≡ Some step =
          ap last_of c.in_ok-push.ensures.items ∙ last_added old step in
          absurd (cc);
      read = λ box later text begins.
          one_more_read line box later text c.args.number old c.steps.bytes.now
          c.steps.lines.rest.now c.steps.at c.steps.lines.number
          (c.steps.invariant.read box later text begins) c.steps.invariant.number step new
          c.in_ok-bytes.bytes.now c.take_line.new.self.rest.now c.in-Some.ensures.0 follows
          c.in-Some.ensures.1.1 c.in_ok-push.ensures.items c.in_ok-bytes.ensures.0;
    }

pub returns-in-Some-2 : goal.returns-in-Some-2
returns-in-Some-2 c = λ box later text begins none.
    let r = rw c.in-Some-2.is at c.in_ok-numbers.ensures in
    let are = c.steps.invariant.steps in (
      record { inside = are.inside; ascending = are.ascending; are = r.0 },
      no_read c.args.line.now box later text c.args.number c.steps.steps.items c.steps.bytes.now
          c.steps.lines.rest.now c.steps.at c.steps.lines.number
          (c.steps.invariant.read box later text begins) c.steps.invariant.number
          c.in-Some-2.numbers.items r.0 r.1,
    )

pub returns-in-None : goal.returns-in-None
returns-in-None c = λ box later text begins none.
    let r = rw c.in-None.is at c.in_ok-numbers.ensures in
    refused_here c.args.line.now box later text c.args.number c.steps.steps.items c.steps.bytes.now
    c.steps.lines.rest.now c.steps.at c.steps.lines.number
    (c.steps.invariant.read box later text begins) c.steps.invariant.number c.args.first.now
    c.steps.invariant.fresh none
    (λ step inside follows. c.in_default.ensures step inside
    (subst (λ (l : List (Step ℕ)). Follows (last_of l) step) (sym c.as_slice.ensures.value) follows))
    r
