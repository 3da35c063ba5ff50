use Rattle.std.proofs.Common.{◌≡◌, ◌<◌, ◌≤◌, ◌+◌, ◌*◌, ℕ, List, Some, length, length-set, sym, ◌∙◌}
use Rattle.std.proofs.Common.{ap, arith, subst}
use Rattle.std.specs.Prelude.{slice_get, slice_set}
use Rattle.run_ticks.specs.declared.cases.mask.Mask.{Mask}
use Rattle.judge_verdict.specs.declared.boxes.terns.Terns64.{Terns64}
use Rattle.judge_cases.specs.Puts.{PutIn, with_level}
use Rattle.judge_cases.specs.Rows.{row_count}
use Rattle.judge_cases.proofs.PutLaws.{put_none, put_tick, put_other}
use Rattle.judge_cases.proofs.levels.put_level.Goals as goal

pub loop-t-init : goal.loop-t-init
loop-t-init c =
    let line = c.args.compiled.now.line.now in
    let net = c.args.compiled.now.net.now in
    let rows = c.args.rows.now in
    record {
      count = c.requires.count;
      lane = λ x before is put.
          put_none line net rows (λ i row at. (c.requires.rows.some i row at).0)
          c.same_trees_are_equal.ensures x c.args.row is c.requires.row before c.args.from
          c.args.level c.args.masks.now.items c.args.lane put;
      others = λ k level low ne put. put;
    }

pub loop-t-preserved : goal.loop-t-preserved
loop-t-preserved c =
    let line = c.args.compiled.now.line.now in
    let net = c.args.compiled.now.net.now in
    let rows = c.args.rows.now in
    let t : ℕ = c.loop-t.t in
    let masks : List (Mask Terns64) = c.loop-t.masks.items in
    let row : ℕ = c.args.row in
    let new : Mask Terns64 = c.with_level-new.result in
    let old : Mask Terns64 = c.mask_in-old.result in
    let place : ℕ = t * row_count line + row in
    let place_is : t * (c.terminals-count.result * 2) + row ≡ place =
    ap (λ (n : ℕ). t * (n * 2) + row) c.terminals-count.ensures.count in
    let set : c.set_mask.new.masks.items ≡ slice_set masks place new =
    c.set_mask.ensures ∙ ap (λ (p : ℕ). slice_set masks p new) place_is in
    let here : slice_get masks place ≡ Some old =
    ap (slice_get masks) (sym place_is)
    ∙ ap (λ (l : List (Mask Terns64)). slice_get l (t * (c.terminals-count.result * 2) + row))
    (sym c.deref.ensures.value)
    ∙ c.mask_in-old.ensures in
    let within : (i other : ℕ) → slice_get rows i ≡ Some (Some other) → other < row_count line =
    λ i other at. (c.requires.rows.some i other at).0 in
    record {
      count = ap length set ∙ length-set masks place new ∙ c.loop-t.invariant.count;
      lane = λ x before is put.
          subst (λ (l : List (Mask Terns64)). PutIn line net rows l c.args.lane
          (with_level before x c.args.from (t + 1) c.args.level)) (sym set)
          (put_tick line net rows within c.same_trees_are_equal.ensures x row is c.requires.row
          before c.args.from c.args.level c.args.lane t c.loop-t.auto.t masks new
          c.with_level-new.ensures.lane (c.loop-t.invariant.lane x before is put));
      others = λ k level low ne put.
          subst (λ (l : List (Mask Terns64)). PutIn line net rows l k level) (sym set)
          (put_other line net rows within k place level masks old new here
          (c.with_level-new.ensures.off k low ne) (c.with_level-new.ensures.on k low ne)
          (c.loop-t.invariant.others k level low ne put));
    }

pub returns-clause-lane : goal.returns-clause-lane
returns-clause-lane c = λ x before is put.
    let over : c.args.to ≤ c.loop-t.t = c.loop-t-test.false in
    let under : c.loop-t.t ≤ c.args.to = c.loop-t.auto.t-end c.requires.from in
    let last : c.loop-t.t ≡ c.args.to = omega arith in
    subst (λ (n : ℕ). PutIn c.args.compiled.now.line.now c.args.compiled.now.net.now c.args.rows.now
    c.loop-t.masks.items c.args.lane (with_level before x c.args.from n c.args.level)) last
    (c.loop-t.invariant.lane x before is put)
