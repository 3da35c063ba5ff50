use Rattle.std.proofs.Common.{◌≡◌, ◌<◌, ◌≤◌, ◌+◌, ◌*◌, ℕ, List, Some, length, refl, sym, ◌∙◌}
use Rattle.std.proofs.Common.{ap, arith, subst, ⊎_elim}
use Rattle.std.proofs.lemmas.Bool.{cases_eq}
use Rattle.std.proofs.lemmas.Option.{slice_get_read}
use Rattle.std.specs.Prelude.{Option, slice_get}
use Rattle.net_gates.specs.Formulas.{formula_of}
use Rattle.run_ticks.specs.cases.Masks.{IsMask}
use Rattle.run_ticks.specs.declared.cases.mask.Mask.{Mask}
use Rattle.judge_verdict.specs.declared.boxes.terns.Terns64.{Terns64}
use Rattle.judge_verdict.specs.boxes.Terns.{terns_rails}
use Rattle.judge_cases.specs.declared.view.View.{View}
use Rattle.judge_cases.specs.Puts.{PutIn, view_below, view_level}
use Rattle.judge_cases.specs.Rows.{row_count}
use Rattle.judge_cases.proofs.BelowLaws.{below_none, below_here, below_other, below_all}
use Rattle.judge_cases.proofs.ViewLevels.{level_none, level_timers}
use Rattle.judge_cases.proofs.levels.masks_of.Goals as goal

pub loop-lane-init : goal.loop-lane-init
loop-lane-init c =
    let line = c.args.compiled.now.line.now in
    record {
      count = c.in_ok-masks.ensures.count
          ∙ ap (λ (n : ℕ). line.horizon * (n * 2)) c.terminals.ensures.count;
      puts = λ k low i row t mask early ri at.
          subst (λ (o : Option View). IsMask terns_rails k
          (view_level line o (formula_of c.args.compiled.now.net.now.gates i) t) mask)
          (sym (below_none c.args.views.now 0 k (omega arith)))
          (c.in_ok-masks.ensures.none (t * row_count line + row) mask at k low);
    }

pub loop-lane-preserved : goal.loop-lane-preserved
loop-lane-preserved c =
    let line = c.args.compiled.now.line.now in
    let net = c.args.compiled.now.net.now in
    let views = c.args.views.now in
    let rows : List (Option ℕ) = c.in_ok-rows.rows.items in
    let shown : List (Option ℕ) = c.deref.result.now in
    let n : ℕ = c.loop-lane.lane in
    let old : List (Mask Terns64) = c.loop-lane.masks.items in
    let new : List (Mask Terns64) = c.put_view.new.masks.items in
    let is : shown ≡ rows = c.deref.ensures.value in
    let inside : n < length views = c.loop-lane-test.true in
    let puts : List (Option ℕ) → List (Mask Terns64) → ℕ → Option View → Type 0 =
    λ r m k o. PutIn line net r m k (view_level line o) in
    let view : View = c.index-views-lane.result in
    let now : slice_get views n ≡ Some view =
    slice_get_read views (length views) n view refl inside c.index-views-lane.is in
    let here : view_below views (n + 1) n ≡ Some view =
    below_here views (n + 1) n (omega arith) ∙ now in
    let start : puts shown old n (view_below views n n) =
    subst (λ r. puts r old n (view_below views n n)) (sym is)
    (c.loop-lane.invariant.puts n (let few : length views ≤ 64 = c.requires.few in omega arith)) in
    let there : puts rows new n (view_below views (n + 1) n) =
    subst (puts rows new n) (sym here)
    (subst (λ r. puts r new n (Some view)) is
    (c.put_view.ensures.lane
    (subst (puts shown old n) (below_none views n n (omega arith)) start))) in
    record {
      count = c.put_view.ensures.count;
      puts = λ k low.
          ⊎_elim
          (λ same. subst (λ m. puts rows new m (view_below views (n + 1) m)) (sym same) there)
          (λ ne. subst (puts rows new k) (sym (below_other views n k ne))
          (subst (λ r. puts r new k (view_below views n k)) is
          (c.put_view.ensures.others k (view_level line (view_below views n k)) low ne
          (subst (λ r. puts r old k (view_below views n k)) (sym is)
          (c.loop-lane.invariant.puts k low)))))
          (cases_eq k n);
    }

pub returns-clause-rows : goal.returns-clause-rows
returns-clause-rows c = record {
  rows = c.in_ok-rows.ensures.count;
  within = λ i row at.
      subst (λ (m : ℕ). row < m * 2) (sym c.terminals.ensures.count)
      (c.in_ok-rows.ensures.some i row at).0;
  count = c.loop-lane.invariant.count
      ∙ ap (λ (m : ℕ). c.args.compiled.now.line.now.horizon * (m * 2))
      (sym c.terminals.ensures.count);
}

pub returns-clause-put : goal.returns-clause-put
returns-clause-put c =
    let line = c.args.compiled.now.line.now in
    let net = c.args.compiled.now.net.now in
    let views = c.args.views.now in
    let rows : List (Option ℕ) = c.in_ok-rows.rows.items in
    let masks : List (Mask Terns64) = c.loop-lane.masks.items in
    let over : length views ≤ c.loop-lane.lane = c.loop-lane-test.false in
    let under : c.loop-lane.lane ≤ length views = c.loop-lane.auto.lane-end in
    let last : c.loop-lane.lane ≡ length views = omega arith in
    record {
      put = record {
        none = λ i lane t inside early at.
            level_none line views c.requires.views c.same_trees_are_equal.ensures net rows
            c.in_ok-rows.ensures i t at lane;
        some = λ i row lane t mask inside early ri at.
            let puts : PutIn line net rows masks lane (view_level line (slice_get views lane)) =
            subst (λ (o : Option View). PutIn line net rows masks lane (view_level line o))
            (ap (λ (n : ℕ). view_below views n lane) last ∙ below_all views lane)
            (c.loop-lane.invariant.puts lane inside) in
            puts i row t mask early ri
            (ap (λ (n : ℕ). slice_get masks (t * (n * 2) + row)) (sym c.terminals.ensures.count)
            ∙ at);
      };
      timers = λ lane inside.
          level_timers line views c.requires.views c.same_trees_are_equal.ensures lane;
    }

pub put_view-requires-clause-spans : goal.put_view-requires-clause-spans
put_view-requires-clause-spans c =
    let line = c.args.compiled.now.line.now in
    let views = c.args.views.now in
    let lane : ℕ = c.loop-lane.lane in
    let view : View = c.index-views-lane.result in
    let here : slice_get views lane ≡ Some view =
    slice_get_read views (length views) lane view refl c.loop-lane-test.true c.index-views-lane.is in
    (c.requires.views.each lane view here).spans
