use Rattle.std.proofs.Common.{ℕ, subst, sym, arith}
use Rattle.model_timing.specs.BlockLaws.{candidate_exists, few_candidates}
use Rattle.judge_match.specs.matching.Candidates.{IsFirstGiving}
use Rattle.judge_match.proofs.matching_lemmas.BlockLaws.{block_differs, lower_differ}
use Rattle.judge_match.proofs.matching.giving.first_giving.Goals as goal

pub next_block-init : goal.next_block-init
next_block-init c = λ i less there gives. absurd (omega arith)

pub overflow_add-first : goal.overflow_add-first
overflow_add-first c =
    let few = few_candidates c.parameters_are_numbered.ensures c.args.compiled.now.line.now in
    omega arith

pub next_block-preserved : goal.next_block-preserved
next_block-preserved c =
    block_differs c.args.compiled.now.line.now c.args.script.now c.args.seen.now c.next_block.first
    c.in_ok-lanes.lanes
    (c.in_ok-lanes.ensures c.args.seen.now c.in_ok-recorded.ensures.same) c.next_block.invariant
    (λ l inside. let past = c.if-lane-lt64.false in c.first-lane.ensures.off l inside (omega arith))

pub returns-then-lane-lt64 : goal.returns-then-lane-lt64
returns-then-lane-lt64 c =
    let line = c.args.compiled.now.line.now in
    let lane = c.first-lane.result in
    let inside = c.if-lane-lt64.true in
    let told = c.in_ok-lanes.ensures c.args.seen.now c.in_ok-recorded.ensures.same in
    subst (λ (n : ℕ). IsFirstGiving line c.args.script.now c.args.seen.now n)
    (sym c.candidate_in.ensures.number)
    (record {
      exists = candidate_exists line c.next_block.first lane;
      gives = (told lane inside).0 (c.first-lane.ensures.on inside);
      first = record {
        differs = lower_differ line c.args.script.now c.args.seen.now c.next_block.first
            c.in_ok-lanes.lanes told c.next_block.invariant lane inside c.first-lane.ensures.off;
      };
    })

pub returns : goal.returns
returns c = record {
  differs = λ i less gives. c.next_block.invariant i (omega arith) less gives;
}
