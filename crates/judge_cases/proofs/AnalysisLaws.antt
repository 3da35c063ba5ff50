-- From a run under levels to what it tells of views.
use Rattle.std.proofs.Common.{◌≡◌, ◌<◌, ◌≤◌, ℕ, Bool, true, false, List, Some, length, not, refl}
use Rattle.std.proofs.Common.{sym, ◌∙◌, ap, subst, arith, ⊎_elim}
use Rattle.std.proofs.Math.Path.{fun_ext}
use Rattle.std.proofs.lemmas.Bool.{cases_lt}
use Rattle.std.proofs.lemmas.Bool.Decides.{nat_tests}
use Rattle.std.specs.Prelude.{Option, Decides, IsFalse, Contains, All, slice_get}
use Rattle.std.proofs.lemmas.Option.{slice_get_past}
use Rattle.std.proofs.lemmas.List.{get_or_past}
use Rattle.model_history.specs.Rails.{Rails, single}
use Rattle.model_line.specs.{declared.line.Line.Line, declared.script.Script.Script}
use Rattle.model_line.specs.Parameters.{param_count}
use Rattle.model_logic.specs.{Boxes.box_of, Tree.Tree}
use Rattle.model_logic.specs.Choice.{Box, LeastFromOne, pair_world_of}
use Rattle.model_logic.specs.Histories.{PairHistory}
use Rattle.model_settle.specs.Assumed.{Assumption, Throughout, Interrupted, HasSpan, HaveSpans}
use Rattle.model_settle.specs.Assumed.{span_of, assumed_level, wanted}
use Rattle.model_settle.specs.Under.{own_pair, SomeIsExcluded}
use Rattle.net_gates.specs.{NetOf.NetOf, NetOf.IsNetOf, Formulas.formula_of}
use Rattle.run_step.specs.{LaneBox.own_ends, LaneBox.ends_in}
use Rattle.run_step.specs.GatePairLaws.{GatesAreTheirKinds}
use Rattle.model_history.specs.ListLaws.{exists_at}
use Rattle.run_ticks.specs.{cases.Given.span_box, cases.Runs.AreKeysUnder, cases.Runs.ArePairsUnder}
use Rattle.run_ticks.specs.cases.UnderWaves.{UnderWavesOf, own_wave}
use Rattle.judge_verdict.specs.declared.boxes.terns.Terns64.{Terns64}
use Rattle.judge_verdict.specs.{boxes.Spans.SpanLists, boxes.Spans.span_ends, boxes.Terns.terns_rails}
use Rattle.judge_cases.specs.declared.view.View.{View}
use Rattle.model_logic.specs.Boxes.{interval_of}
use Rattle.judge_cases.specs.Views.{AreViews, view_box}
use Rattle.judge_cases.specs.Spans.{AreViewSpans, view_in}
use Rattle.judge_cases.specs.{Puts.view_level, Puts.views_level}
use Rattle.judge_cases.specs.Excluded.{ExcludedIn, OneExcluded}
use Rattle.judge_cases.specs.Analyses.{IsHistoryOf}
use Rattle.judge_cases.proofs.WantExists.{want_exists}

pub view_exists : (count lane : ℕ) → 1 ≤ count → view_in count lane < count
view_exists count lane some = grind (arith, nat_tests)

pub view_here : (count lane : ℕ) → lane < count → view_in count lane ≡ lane
view_here count lane inside = grind (arith, nat_tests)

module _ (line : Line) (views : List View) (are : AreViews line views) (spans : List SpanLists)
    (spanned : AreViewSpans line views spans) where
  module _ (lane : ℕ) (view : View) (inside : lane < 64)
      (at : slice_get views (view_in (length views) lane) ≡ Some view) where
    own : (i : ℕ) → own_ends span_ends lane spans i ≡ interval_of view.ends.items i
    own i =
        let count : length view.ends.items ≡ param_count line =
        (are.each (view_in (length views) lane) view at).count in
        ⊎_elim
        (λ lt.
        let there : i < length spans = omega (arith, spanned.count, lt) in
        let (span, here) = exists_at spans i there in
        ap (ends_in span_ends lane) here ∙ spanned.each i span here lane view inside at)
        (λ le. ap (ends_in span_ends lane) (slice_get_past spans i (omega (arith, spanned.count, le)))
        ∙ sym (get_or_past view.ends.items i (single 0) (omega (arith, count, le))))
        (cases_lt i (param_count line))

    -- the box of a lane is that of its view
    pub box_is : span_box span_ends line spans lane ≡ view_box line view
    box_is = ap (box_of line) (fun_ext own)

  pub views_delayed : 1 ≤ length views → (lane : ℕ) → lane < 64
      → LeastFromOne line (span_box span_ends line spans lane)
  views_delayed some lane inside =
      let (view, at) = exists_at views (view_in (length views) lane)
      (view_exists (length views) lane some) in
      subst (LeastFromOne line) (sym (box_is lane view inside at))
      (are.each (view_in (length views) lane) view at).delays

  module _ (script : Script) (net : NetOf) (lane : ℕ) (view : View) (w : PairHistory)
      (inside : lane < 64) (at : slice_get views (view_in (length views) lane) ≡ Some view)
      (here : slice_get views lane ≡ Some view) (history : IsHistoryOf line script view w) where
    abbrev level : Tree → ℕ → Option Bool
    level = assumed_level line (view_box line view) view.assumed.items

    level_is : views_level line views lane ≡ level
    level_is = ap (view_level line) here

    -- the keys of the view's history are those that the run asks for
    pub keys_are : AreKeysUnder line (views_level line views lane)
        (pair_world_of line script (span_box span_ends line spans lane)) w.key
    keys_are =
        subst (λ (l : Tree → ℕ → Option Bool). AreKeysUnder line l
        (pair_world_of line script (span_box span_ends line spans lane)) w.key) (sym level_is)
        (subst (λ (b : Box). AreKeysUnder line level (pair_world_of line script b) w.key)
        (sym (box_is lane view inside at)) history.keys)

    -- so its pairs are those of the view
    pub pairs_are : (waves : UnderWavesOf Terns64)
        → ArePairsUnder terns_rails lane (views_level line views lane)
        (pair_world_of line script (span_box span_ends line spans lane)) w.key line net waves
        → ArePairsUnder terns_rails lane level (pair_world_of line script (view_box line view)) w.key
        line net waves
    pairs_are waves pairs =
        subst (λ (b : Box). ArePairsUnder terns_rails lane level (pair_world_of line script b) w.key
        line net waves) (box_is lane view inside at)
        (subst (λ (l : Tree → ℕ → Option Bool). ArePairsUnder terns_rails lane l
        (pair_world_of line script (span_box span_ends line spans lane)) w.key line net waves)
        level_is pairs)

-- what is so of all is so of one that is contained
contained : {X : Type 0} (P : X → Type 0) (xs : List X) (x : X) → All P xs → Contains xs x → P x
contained P xs x all is = subst P is.2 (all is.0 x is.1)

module _ (kinds : GatesAreTheirKinds) (line : Line) (net : NetOf) (of_line : IsNetOf line net)
    (script : Script) (view : View) (spans : HaveSpans line view.assumed.items) (lane : ℕ)
    (w : PairHistory) (waves : UnderWavesOf Terns64)
    (pairs : ArePairsUnder terns_rails lane (assumed_level line (view_box line view) view.assumed.items)
    (pair_world_of line script (view_box line view)) w.key line net waves) where
  abbrev own_of : Tree → ℕ → Rails
  own_of x t =
      own_pair (assumed_level line (view_box line view) view.assumed.items)
      (pair_world_of line script (view_box line view)) w.key x t

  span_has : (a : Assumption) → Contains view.assumed.items a → HasSpan line (span_of a)
  span_has a is =
      contained (λ (b : Assumption). HasSpan line (span_of b)) view.assumed.items a spans is

  own_is : (gate k t : ℕ) → gate < length net.gates → t < line.horizon
      → formula_of net.gates gate ≡ wanted line k
      → own_wave terns_rails lane waves gate t ≡ own_of (wanted line k) t
  own_is gate k t inside run stands =
      pairs.owns gate t inside run ∙ ap (λ (x : Tree). own_of x t) stands

  excluded_by : (a : Assumption) → Contains view.assumed.items a
      → ExcludedIn line net lane waves a
      → SomeIsExcluded line script (view_box line view) view.assumed.items w
  excluded_by (Throughout span) is off =
      let has = span_has (Throughout span) is in
      let to : off.tick < span.to = off.to in
      let end : span.to ≤ line.horizon = has.run in
      let run : off.tick < line.horizon = omega arith in
      let (gate, stands) = want_exists kinds line net of_line span.terminal has.weak in
      record {
        span = span;
        is = is;
        terminal = has.exists;
        tick = off.tick;
        from = off.from;
        to = off.to;
        run = run;
        excluded = subst (λ (r : Rails). IsFalse r.may)
            (own_is gate span.terminal off.tick stands.within run stands.is)
            (off.off gate stands.within stands.is);
      }
  excluded_by (Interrupted span) is off = absurd off

  -- an assumption that the values exclude is excluded over the history, and the other way round
  pub excluded_decided : (b : Bool) → Decides b (OneExcluded line net view.assumed.items lane waves)
      → Decides b (SomeIsExcluded line script (view_box line view) view.assumed.items w)
  excluded_decided b told = (
    λ on. let one = told.0 on in excluded_by one.one one.is one.excluded,
    λ some.
        told.1 (record {
          one = Throughout some.span;
          is = some.is;
          excluded = record {
            tick = some.tick;
            from = some.from;
            to = some.to;
            off = λ gate inside stands.
                subst (λ (r : Rails). IsFalse r.may)
                (sym (own_is gate some.span.terminal some.tick inside some.run stands))
                some.excluded;
          };
        }),
  )

pub off_decided : (b : Bool) → Decides (not b) (IsFalse b)
off_decided true = (λ on. absurd (cc), λ off. absurd (cc))
off_decided false = (λ on. refl, λ off. refl)
