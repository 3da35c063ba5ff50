use Rattle.std.proofs.Common.{List, Some, sym, ◌∙◌, ap, subst, arith}
use Rattle.std.specs.Prelude.{slice_get}
use Rattle.model_timing.specs.Candidates.{candidate_count}
use Rattle.judge_verdict.specs.{declared.verdict.standing.Standing.Standing, verdict.Standings.AllStand}
use Rattle.model_timing.specs.BlockLaws.{few_candidates}
use Rattle.judge_verdict.proofs.verdict_lemmas.StandingLaws.{stands_on, stands_at_end}
use Rattle.judge_verdict.proofs.verdict.standing.after_candidates.Goals as goal

pub overflow_add-first : goal.overflow_add-first
overflow_add-first c = let few = few_candidates c.parameters_are_numbered.ensures
    c.args.compiled.now.line.now in omega arith

pub returns-then-not-some_open : goal.returns-then-not-some_open
returns-then-not-some_open c = λ w all.
    let so_far = c.next_block.invariant.stand w all in record {
      count = so_far.count;
      each = λ k s at.
          stands_on c.args.compiled.now.line.now c.args.script.now k w c.next_block.first
          (candidate_count c.args.compiled.now.line.now) s
          (λ is_open.
          c.some_open.ensures c.if-not-some_open.true k
          (ap (λ (xs : List Standing). slice_get xs k) c.deref.ensures.value
          ∙ at
          ∙ ap (λ (x : Standing). Some x) is_open))
          (so_far.each k s at);
    }

pub next_block-preserved : goal.next_block-preserved
next_block-preserved c = record {
  terminals = c.in_ok-after.ensures.count;
  stand = λ w all.
      c.in_ok-after.ensures.stand w
      (subst
      (λ (xs : List Standing). AllStand c.args.compiled.now.line.now c.args.script.now w
      c.next_block.first xs)
      (sym c.deref-in-next_block.ensures.value) (c.next_block.invariant.stand w all));
}

pub returns : goal.returns
returns c = λ w all.
    let so_far = c.next_block.invariant.stand w all in record {
      count = so_far.count;
      each = λ k s at.
          stands_at_end c.args.compiled.now.line.now c.args.script.now k w c.next_block.first s
          (omega arith)
          (so_far.each k s at);
    }
