use Rattle.std.proofs.Common.{◌+◌, ◌≤◌, length, arith, ◌∙◌, length-drop, refl}
use Rattle.std.proofs.Math.Nat.{le_refl, le_trans, le-add_right}
use Rattle.std.proofs.Math.Seq.{take-add}
use Rattle.std.proofs.lemmas.List.{take_rest, take_all}
use Rattle.base_text.specs.store.SinkLaws.{appends_both}
use Rattle.base_text.proofs.store_lemmas.Counted.{pulls_within}
use Rattle.base_text.proofs.store_lemmas.Put.{nothing_put, put_kept, put_none, pushes_within}
use Rattle.base_text.proofs.store.sink.put_all.Goals as goal

pub loop-at-preserved : goal.loop-at-preserved
loop-at-preserved g c =
    let so_far = c.loop-at.invariant in
    let push = c.in-Ok.ensures in
    let bound = rw take_rest at push.bound in
    let fits : c.loop-at.at + c.in-Ok.taken ≤ length c.args.bytes.now =
    (let e = length-drop c.loop-at.at c.args.bytes.now in omega arith) in
    record {
      within = fits;
      written = rw (take-add c.loop-at.at c.in-Ok.taken c.args.bytes.now)
          (appends_both _ _ _ _ _ so_far.written (rw take_rest at push.bytes));
      same = push.took (omega arith) ∙ so_far.same;
      pushed = (let one = so_far.pushed in let more = push.pushed in omega arith);
      pushes = (let one = so_far.pushes in let more = push.pushes in omega arith);
    }

pub loop-at-init : goal.loop-at-init
loop-at-init g c = record {
  within = omega arith;
  written = nothing_put _;
  same = refl;
  pushed = le_refl _;
  pushes = le-add_right _ _;
}

pub returns-in_default : goal.returns-in_default
returns-in_default g c =
    let so_far = c.loop-at.invariant in
    let push = c.in_default.ensures in
    record {
      all = tt;
      same = tt;
      part = record {
        count = c.loop-at.at;
        short = c.loop-at-test.true;
        taken = put_kept _ _ _ _ so_far.written push.bytes;
      };
      failed = rw (← so_far.same) push.failed;
      later = rw (← so_far.same) push.later;
      pushed = le_trans so_far.pushed push.pushed;
      pushes = pulls_within _ _ _ _ _ so_far.pushes c.loop-at-test.true push.pushes;
    }

pub returns-then-taken-eq0 : goal.returns-then-taken-eq0
returns-then-taken-eq0 g c =
    let so_far = c.loop-at.invariant in
    let push = c.in-Ok.ensures in
    record {
      all = tt;
      same = tt;
      part = record {
        count = c.loop-at.at;
        short = c.loop-at-test.true;
        taken = put_none _ _ _ _ _ _ so_far.written push.bytes c.if-taken-eq0.true;
      };
      failed = rw (← so_far.same) (push.took_none c.if-taken-eq0.true);
      later = rw (← so_far.same) push.later;
      pushed = le_trans so_far.pushed push.pushed;
      pushes = pulls_within _ _ _ _ _ so_far.pushes c.loop-at-test.true push.pushes;
    }

pub returns : goal.returns
returns g c =
    let so_far = c.loop-at.invariant in
    record {
      all = rw (take_all c.loop-at.at c.args.bytes.now c.loop-at-test.false) at so_far.written;
      same = so_far.same;
      part = tt;
      failed = tt;
      later = rw so_far.same (le_refl _);
      pushed = so_far.pushed;
      pushes = pushes_within _ _ _ _ so_far.pushes so_far.within;
    }
