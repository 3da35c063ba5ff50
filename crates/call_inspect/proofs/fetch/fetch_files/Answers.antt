use Rattle.std.proofs.Common.{◌<◌, ◌∙◌, arith, length, refl}
use Rattle.std.proofs.lemmas.Result.{err_from_is_err_and}
use Rattle.base_text.specs.store.CountLaws.{same_both}
use Rattle.call_inspect.proofs.Fetching.{none_fetched, one_file_fetched, stops_here}
use Rattle.call_inspect.proofs.fetch.fetch_files.Goals as goal

pub loop-place-init : goal.loop-place-init
loop-place-init g c = rw c.new-files.ensures.items (record {
  held = refl;
  same = λ name. refl;
  fetched = none_fetched (g.S.Store.held c.args.store.now);
})

pub returns-in_err-bytes : goal.returns-in_err-bytes
returns-in_err-bytes g c =
    let p = err_from_is_err_and c.from_residual.result c.from_residual.ensures.1 in
    let inside : c.loop-place.place < length c.args.names.now = omega arith in
    rw (p.1, p.2) (stops_here (g.S.Store.held c.args.store.now) (g.S.Store.held c.loop-place.store)
    (g.S.Store.faults c.args.store.now) (g.S.Store.faults c.loop-place.store) (g.S.Store.faults c.fetch_one.new.store) c.args.names.now
    c.loop-place.place _ c.in_err-bytes.field-0.0 inside c.loop-place.invariant.same
    c.in_err-bytes.ensures.file)

pub loop-place-preserved : goal.loop-place-preserved
loop-place-preserved g c =
    let inside : c.loop-place.place < length c.args.names.now = omega arith in
    let file = rw c.loop-place.invariant.held at c.in_ok-bytes.ensures.file in
    record {
      held = c.in_ok-bytes.ensures.held ∙ c.loop-place.invariant.held;
      same = same_both (g.S.Store.faults c.args.store.now) (g.S.Store.faults c.loop-place.store)
          (g.S.Store.faults c.fetch_one.new.store) c.loop-place.invariant.same file.0;
      fetched = one_file_fetched (g.S.Store.held c.args.store.now) c.args.names.now c.loop-place.place
          c.loop-place.files.items c.push.new.self.items _ _ inside c.loop-place.invariant.fetched refl file.1
          c.in_ok-push.ensures.items;
    }
