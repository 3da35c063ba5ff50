use Rattle.std.proofs.Common.{◌≡◌, ◌<◌, ◌≤◌, Some, List, length, sym, ◌∙◌, ap, subst, arith}
use Rattle.std.proofs.lemmas.Option.{slice_get_within}
use Rattle.std.specs.Prelude.{slice_get}
use Rattle.run_signal.specs.Bits.{bit_on}
use Rattle.judge_verdict.specs.boxes.Spans.{SpanLists}
use Rattle.judge_cases.specs.{Spans.AreViewSpans, Spans.view_in, Puts.views_level}
use Rattle.judge_cases.proofs.AnalysisLaws.{views_delayed, view_here, keys_are, pairs_are}
use Rattle.judge_cases.proofs.AnalysisLaws.{excluded_decided}
use Rattle.judge_cases.proofs.analysis.analyse.Goals as goal

pub run_under-requires : goal.run_under-requires
run_under-requires c =
    let line = c.args.compiled.now.line.now in
    let views = c.args.views.now in
    let own : AreViewSpans line views c.deref.result.now =
    subst (λ (s : List SpanLists). AreViewSpans line views s) (sym c.deref.ensures.value)
    c.in_ok-spans.ensures in
    record {
      one_each = own.count;
      delayed = views_delayed line views c.requires.views c.deref.result.now own c.requires.some;
      rows = c.in_ok-masks.ensures.rows;
    }

pub returns : goal.returns
returns c = record {
  width = c.in_ok-waves.ensures.width;
  horizon = c.in_ok-waves.ensures.horizon;
  few = c.requires.few;
  tells = λ lane view w at history.
      let line = c.args.compiled.now.line.now in
      let net = c.args.compiled.now.net.now in
      let script = c.args.script.now in
      let views = c.args.views.now in
      let waves = c.in_ok-waves.waves in
      let own : AreViewSpans line views c.deref.result.now =
      subst (λ (s : List SpanLists). AreViewSpans line views s) (sym c.deref.ensures.value)
      c.in_ok-spans.ensures in
      let within : lane < length views = slice_get_within views lane view at in
      let few : length views ≤ 64 = c.requires.few in
      let inside : lane < 64 = omega arith in
      let here : slice_get views (view_in (length views) lane) ≡ Some view =
      ap (slice_get views) (view_here (length views) lane within) ∙ at in
      let pairs =
      pairs_are line views c.requires.views c.deref.result.now own script net lane view w inside here
      at history waves
      (c.in_ok-waves.ensures.pairs lane (views_level line views) w.key inside
      c.in_ok-masks.ensures.put
      (keys_are line views c.requires.views c.deref.result.now own script net lane view w inside here
      at history)) in
      record {
        pairs = pairs.pairs;
        owns = pairs.owns;
        excluded = excluded_decided c.gates_stand_for_their_trees.ensures.kinds line net
            c.args.compiled.now.of_line script view (c.requires.views.each lane view at).spans lane
            w waves
            pairs (bit_on c.excluded_lanes-excluded.result lane)
            (c.excluded_lanes-excluded.ensures lane view at);
      };
}
