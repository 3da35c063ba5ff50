use Rattle.std.proofs.Common.{◌≡◌, ◌<◌, List, Some, length, refl, sym, ◌∙◌, subst, arith}
use Rattle.std.proofs.lemmas.Option.{slice_get_read}
use Rattle.std.specs.Prelude.{slice_get}
use Rattle.judge_settle.specs.declared.settle.answer.Settled.{Settled}
use Rattle.judge_settle.specs.settle.Answers.{IsAnswer}
use Rattle.model_timing.specs.NamedValues.{values_of}
use Rattle.call_why.specs.Why.{IsReasonOf}
use Rattle.call_why.proofs.why.look_at.Goals as goal

pub reason_by-requires-clause-answer : goal.reason_by-requires-clause-answer
reason_by-requires-clause-answer c =
    let settled : List Settled = c.args.settled.now in
    let there : c.in-Some.k < length settled = omega (arith, c.in-Some.ensures.there) in
    let at : slice_get settled c.in-Some.k ≡ Some c.index-settled-k.result =
    slice_get_read settled (length settled) c.in-Some.k c.index-settled-k.result refl there
    c.index-settled-k.is in
    let line = c.args.compiled.now.line.now in
    let script = c.args.script.now in
    subst (λ (one : Settled). IsAnswer line script c.in-Some.k one.answer) c.index-settled-k.is
    (c.requires.answers.each c.in-Some.k c.index-settled-k.result at).answer

pub returns-in_ok-reason-in-Some : goal.returns-in_ok-reason-in-Some
returns-in_ok-reason-in-Some c =
    let settled : List Settled = c.args.settled.now in
    let there : c.in-Some.k < length settled = omega (arith, c.in-Some.ensures.there) in
    let at : slice_get settled c.in-Some.k ≡ Some c.index-settled-k.result =
    slice_get_read settled (length settled) c.in-Some.k c.index-settled-k.result refl there
    c.index-settled-k.is in
    record {
      settled = settled;
      are = c.requires.answers;
      k = c.in-Some.k;
      one = c.index-settled-k.result;
      first = sym c.first_failing.ensures.is ∙ c.in-Some.is;
      at = at;
      reason = subst (λ (one : Settled). IsReasonOf c.args.compiled.now.line.now c.args.script.now
          c.in-Some.k one.answer (values_of c.in_ok-reason-in-Some.reason.named)
          c.in_ok-reason-in-Some.reason.text.items) (sym c.index-settled-k.is)
          c.in_ok-reason-in-Some.ensures;
    }
