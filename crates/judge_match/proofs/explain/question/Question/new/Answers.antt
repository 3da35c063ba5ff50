use Rattle.std.proofs.Common.{subst, List}
use Rattle.run_signal.specs.declared.tern.Tern.{Tern}
use Rattle.run_waves.specs.derived.Claims.{pairs_of}
use Rattle.judge_match.specs.explain.Asked.{AreRecorded}
use Rattle.judge_match.proofs.explain.question.Question.new.Goals as goal

pub returns-clause-question : goal.returns-clause-question
returns-clause-question c = record {
  keys = subst (λ (xs : List (List Tern)). AreRecorded c.args.compiled.now.line.now c.args.within
      (λ k t. (pairs_of xs k t).must) c.in_ok-keys.keys.items) c.deref.ensures.value
      c.in_ok-keys.ensures;
  trips = subst (λ (xs : List (List Tern)). AreRecorded c.args.compiled.now.line.now c.args.within
      (λ k t. (pairs_of xs k t).must) c.in_ok-trips.trips.items) c.deref-2.ensures.value
      c.in_ok-trips.ensures;
}
