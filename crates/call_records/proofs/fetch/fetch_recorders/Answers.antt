use Rattle.std.proofs.Common.{◌∷◌, ◌<◌, ◌+◌, ◌∙◌, ℕ, List, [], Result, Err, ap, arith, drop}
use Rattle.std.proofs.Common.{length, length-append, map, refl, subst}
use Rattle.std.proofs.lemmas.List.{map-append}
use Rattle.std.proofs.lemmas.Result.{err_from_is_err_and}
use Rattle.file_records.specs.map.Recorders.{recorder_values}
use Rattle.file_records.specs.declared.map.recorder.Recorder.{Recorder}
use Rattle.call_records.specs.Course.{recorder_course, recorders_course}
use Rattle.call_records.specs.Parts.{RecorderFiles}
use Rattle.call_records.specs.{Files.Held, Files.Runs, Read.files_values}
use Rattle.call_records.specs.declared.halt.Halt.{Halt}
use Rattle.call_records.specs.declared.halt.Halt.TheVariants as halt
use Rattle.call_records.proofs.Recorders.{one_more, stops_here}
use Rattle.call_records.proofs.fetch.fetch_recorders.Goals as goal

pub returns-in_err-own-clause-course : goal.returns-in_err-own-clause-course
returns-in_err-own-clause-course g c =
    let p = err_from_is_err_and c.from_residual.result c.from_residual.ensures.1 in
    let held = g.S.Store.held c.args.store.now in
    let c1 = g.S.Store.faults c.loop-recorder.store in
    let c2 = g.S.Store.faults c.fetch_recorder.new.store in
    let rs = c.args.recorders.now in
    let i = c.loop-recorder.recorder-index in
    let d = c.recorder-item.result in
    let map_name = c.args.map_name.now in
    let done = map files_values c.loop-recorder.files.items in
    let why = c.in_err-own.field-0.0 in
    let inside : i < length rs = omega arith in
    rw (p.1, p.2) (λ next. c.loop-recorder.invariant.course next c2 (Err why)
    (stops_here held c1 c2 map_name rs i d done (Err why) inside
    (λ one. subst (λ (x : Recorder).
    Runs held c1 c2 (recorder_course map_name (recorder_values x) one) (Err why)) c.recorder-item.is
    (subst (λ (h : Held). Runs h c1 c2 (recorder_course map_name (recorder_values d) one) (Err why))
    c.loop-recorder.invariant.held (c.in_err-own.ensures.course one))) next))

pub returns-in_err-push-clause-course : goal.returns-in_err-push-clause-course
returns-in_err-push-clause-course g c =
    let p = err_from_is_err_and c.from_residual-in_err-push.result
    c.from_residual-in_err-push.ensures.1 in
    let held = g.S.Store.held c.args.store.now in
    let c1 = g.S.Store.faults c.loop-recorder.store in
    let c2 = g.S.Store.faults c.fetch_recorder.new.store in
    let rs = c.args.recorders.now in
    let i = c.loop-recorder.recorder-index in
    let d = c.recorder-item.result in
    let map_name = c.args.map_name.now in
    let done = map files_values c.loop-recorder.files.items in
    let inside : i < length rs = omega arith in
    let leads = rw c.loop-recorder.invariant.held at c.in_ok-own.ensures.course in
    let memory : Result (List ℕ) Halt = Err halt.Memory in
    rw (p.1, p.2) (λ next. c.loop-recorder.invariant.course next c2 memory
    (one_more held c1 c2 map_name rs i d done (files_values c.in_ok-own.own) inside
    (λ one now r run. subst (λ (x : Recorder).
    Runs held c1 now (recorder_course map_name (recorder_values x) one) r) c.recorder-item.is
    (leads one now r run)) next c2 memory (λ name. refl)))

pub loop-recorder-preserved : goal.loop-recorder-preserved
loop-recorder-preserved g c =
    let held = g.S.Store.held c.args.store.now in
    let c1 = g.S.Store.faults c.loop-recorder.store in
    let c2 = g.S.Store.faults c.fetch_recorder.new.store in
    let rs = c.args.recorders.now in
    let i = c.loop-recorder.recorder-index in
    let d = c.recorder-item.result in
    let map_name = c.args.map_name.now in
    let files = c.loop-recorder.files.items in
    let own = c.in_ok-own.own in
    let inside : i < length rs = omega arith in
    let leads = rw c.loop-recorder.invariant.held at c.in_ok-own.ensures.course in
    let more = ap length c.in_ok-push.ensures.items in
    let one_longer = length-append files (own ∷ []) in
    record {
      held = c.in_ok-own.ensures.held ∙ c.loop-recorder.invariant.held;
      many = omega (arith, more, one_longer, c.loop-recorder.invariant.many);
      course = λ next now r run.
          c.loop-recorder.invariant.course next now r
          (one_more held c1 c2 map_name rs i d (map files_values files) (files_values own) inside
          (λ one later s ran. subst (λ (x : Recorder).
          Runs held c1 later (recorder_course map_name (recorder_values x) one) s) c.recorder-item.is
          (leads one later s ran)) next now r
          (subst (λ (fs : List RecorderFiles).
          Runs held c2 now
          (recorders_course map_name (map recorder_values (drop (i + 1) rs)) fs next) r)
          (ap (map files_values) c.in_ok-push.ensures.items ∙ map-append files_values files (own ∷ []))
          run));
    }
