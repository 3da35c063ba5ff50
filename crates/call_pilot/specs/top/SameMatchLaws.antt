-- What is said of a record of the field rests on the values of a line and of scripts alone.
use Rattle.std.proofs.Common.{◌≡◌, ◌<◌, ℕ, List, map, sym, ◌∙◌, ap, subst}
use Rattle.model_history.specs.Rails.{Covers, Rails, both}
use Rattle.model_line.specs.Seen.{is_lost, is_seen}
use Rattle.model_line.specs.{declared.line.Line.Line, declared.script.Script.Script}
use Rattle.model_line.specs.{declared.line.Channel.Channel, Laws.CountsRestOnNoInterval}
use Rattle.model_line.specs.{Channels.from_of, Parameters.terminal_count, SetBounds.SameButParams}
use Rattle.model_logic.specs.Choice.{Box, Choice, declared_box, pair_world_of, IsInside}
use Rattle.model_logic.specs.Choice.{steady_choice, ends_by}
use Rattle.model_logic.specs.Histories.{History, IsLineHistory, IsSameHistory}
use Rattle.model_logic.specs.IntervalLaws.{HistoriesRestOnNoInterval, TreesRestOnNoInterval}
use Rattle.model_logic.specs.Logic.{key_tree, trip_tree}
use Rattle.model_logic.specs.PairMean.{PairSignals, PairWorld, pair_mean}
use Rattle.model_logic.specs.Tree.{Tree}
use Rattle.file_line.specs.Lines.{line_values}
use Rattle.file_tables.specs.script.Values.{ScriptValues, values_of}
use Rattle.model_timing.specs.Candidates.{candidate}
use Rattle.model_timing.specs.Timing.{TimingValues}
use Rattle.run_waves.specs.derived.Claims.{declared_world, pairs_of}
use Rattle.judge_match.specs.{matching.Recorded.recorded, matching.Waves.SeenValues}
use Rattle.cert_own.specs.Matched.{HoldsOfRecord, HoldsOfRecordAt}
use Rattle.cert_own.specs.Matched.{IsGivenBy, IsGivenByNone, IsGivenBySome, IsOpenRecord}
use Rattle.cert_own.specs.Matched.{Matched}
use Rattle.cert_own.specs.Matched.{explained, impossible, unsettled}
use Rattle.call_pilot.specs.top.MatchTruths.{IsMatchToldBy, OfRecords}
use Rattle.call_files.specs.declared.stop.Status.{Status}
use Rattle.call_files.specs.declared.stop.Status.TheVariants as status
use Rattle.call_pilot.specs.top.SameFactLaws.{box_same, candidate_same, count_same, pair_world_same}
use Rattle.call_pilot.specs.top.SameRecordLaws.{records_same}
use Rattle.call_pilot.specs.top.SameValueLaws.{history_back, history_on, inside_back, inside_on}
use Rattle.call_pilot.specs.top.SameValueLaws.{same_but_params, same_steady}
use Rattle.call_pilot.specs.top.TwinLaws.{twin}

-- ---- histories that are the same

pub same_history : (counts : CountsRestOnNoInterval) (a b : Line) → line_values b ≡ line_values a
    → (g h : History) → IsSameHistory a g h → IsSameHistory b g h
same_history counts a b lines g h is =
    let others = same_but_params a b lines in
    record {
      keys = λ k t there early.
          is.keys k t (subst (λ (n : ℕ). k < n) (counts.terminals a b others) there)
          (subst (λ (n : ℕ). t < n) others.horizon early);
      trips = λ k t there early.
          is.trips k t (subst (λ (n : ℕ). k < n) (counts.terminals a b others) there)
          (subst (λ (n : ℕ). t < n) others.horizon early);
    }

-- ---- one record

module _ (counts : CountsRestOnNoInterval) (histories : HistoriesRestOnNoInterval)
    (trees : TreesRestOnNoInterval) (a b : Line) (lines : line_values b ≡ line_values a) where
  others : SameButParams a b
  others = same_but_params a b lines

  there_in : (k : ℕ) → k < terminal_count b → k < terminal_count a
  there_in k there = subst (λ (n : ℕ). k < n) (counts.terminals a b others) there

  early_in : (t : ℕ) → t < b.horizon → t < a.horizon
  early_in t early = subst (λ (n : ℕ). t < n) others.horizon early

  module _ (s r : Script) (values : values_of r ≡ values_of s) where
    given_on : (v : SeenValues) (numbers : List ℕ) → IsGivenBy a s v numbers
        → IsGivenBy b r v numbers
    given_on v numbers is = record {
      many = is.many ∙ sym (counts.params a b others);
      inside = subst (IsInside b) (same_steady counts histories a b lines s r values numbers)
          (inside_on counts histories a b lines s r values (steady_choice a numbers) is.inside);
      history = is.history;
      is_history = subst (λ (c : Choice). IsLineHistory b r c is.history)
          (same_steady counts histories a b lines s r values numbers)
          (history_on counts histories a b lines s r values (steady_choice a numbers) is.history
          is.is_history);
      same = same_history counts a b lines is.history (recorded v) is.same;
    }

    none_on : (v : SeenValues) → IsGivenByNone a s v → IsGivenByNone b r v
    none_on v never = λ choice h inside is same.
        never choice h (inside_back counts histories a b lines choice inside)
        (history_back counts histories a b lines s r values choice h is)
        (same_history counts b a (sym lines) h (recorded v) same)

    world_same : declared_world b r ≡ declared_world a s
    unfolding pair_world_of
    world_same =
        let made : Box → List Channel → PairWorld = λ box channels. record {
          seen = λ p t. both (is_seen s.spans.items p t);
          lost = λ c t. both (is_lost s.spans.items c t);
          from = from_of channels;
          delay = box.delay;
          time = ends_by box.ends;
        } in
        pair_world_same counts histories a b lines s r values (declared_box b)
        ∙ ap (λ (box : Box). made box b.channels.items) (box_same counts histories a b lines)
        ∙ ap (made (declared_box a)) others.channels

    pub mean_same : (claims : PairSignals) (x y : Tree) (t : ℕ) → y ≡ x
        → pair_mean (declared_world b r) claims y t ≡ pair_mean (declared_world a s) claims x t
    mean_same claims x y t same =
        ap (λ (tree : Tree). pair_mean (declared_world b r) claims tree t) same
        ∙ ap (λ (world : PairWorld). pair_mean world claims x t) world_same

    open_on : (v : SeenValues) → IsOpenRecord a s v → IsOpenRecord b r v
    open_on v is = record {
      keys = λ k t there early.
          subst (λ (pair : Rails). Covers pair ((recorded v).key k t))
          (sym (mean_same (pairs_of v.keys) (key_tree a k) (key_tree b k) t
          (trees.keys a b k others)))
          (is.keys k t (there_in k there) (early_in t early));
      trips = λ k t there early.
          subst (λ (pair : Rails). Covers pair ((recorded v).trip k t))
          (sym (mean_same (pairs_of v.keys) (trip_tree a k) (trip_tree b k) t
          (trees.trips a b k others)))
          (is.trips k t (there_in k there) (early_in t early));
      no_candidate = λ i h lt history same.
          is.no_candidate i h
          (subst (λ (n : ℕ). i < n) (count_same counts histories a b lines) lt)
          (subst (λ (timing : TimingValues). IsLineHistory a s (steady_choice a timing.values) h)
          (candidate_same counts histories a b lines i)
          (subst (λ (c : Choice). IsLineHistory a s c h)
          (sym (same_steady counts histories a b lines s r values (candidate b i).values))
          (history_back counts histories a b lines s r values
          (steady_choice b (candidate b i).values) h history)))
          (same_history counts b a (sym lines) h (recorded v) same);
    }

    record_on : (said : Matched) (v : SeenValues) → HoldsOfRecord said a s v
        → HoldsOfRecord said b r v
    record_on (explained numbers) v is = given_on v numbers is
    record_on (impossible place) v is = none_on v is
    record_on unsettled v is = open_on v is

    some_on : (v : SeenValues) → IsGivenBySome a s v → IsGivenBySome b r v
    some_on v (numbers, is) = (numbers, given_on v numbers is)

  -- ---- records

  module _ (xs ys : List Script) (scripts : map values_of ys ≡ map values_of xs)
      (records : List SeenValues) where
    at_on : (F : Line → Script → SeenValues → Type 0)
        → ((s r : Script) → values_of r ≡ values_of s → (v : SeenValues) → F a s v → F b r v)
        → (i : ℕ) (name : List ℕ) → HoldsOfRecordAt a xs records i name F
        → HoldsOfRecordAt b ys records i name F
    at_on F on i name is =
        let other = twin xs ys (sym scripts) is.values.script is.script is.script_is in
        record {
          values = is.values;
          stands = is.stands;
          script = other.script;
          script_is = other.at;
          name_is = ap (λ (v : ScriptValues). v.name) (sym other.values) ∙ is.name_is;
          holds = on is.script other.script (sym other.values) is.values is.holds;
        }

    pub match_on : (i : ℕ) (name : List ℕ) (said : Matched)
        → HoldsOfRecordAt a xs records i name (HoldsOfRecord said)
        → HoldsOfRecordAt b ys records i name (HoldsOfRecord said)
    match_on i name said = at_on (HoldsOfRecord said) (λ s r values v. record_on s r values said v) i name

    pub match_told_on : (s : Status) → IsMatchToldBy s a xs records → IsMatchToldBy s b ys records
    match_told_on status.Good told = λ i v at.
        let given = told i v at in (given.0, at_on IsGivenBySome some_on i given.0 given.1)
    match_told_on status.SomeNo told =
        (told.0, told.1, at_on IsGivenByNone none_on told.0 told.1 told.2)
    match_told_on status.SomeUndecided told =
        (told.0, told.1, at_on IsOpenRecord open_on told.0 told.1 told.2)
    match_told_on status.Rejected told = tt
    match_told_on status.Usage told = tt
    match_told_on status.BadInput told = tt
    match_told_on status.StoreFault told = tt
    match_told_on status.SinkFault told = tt
    match_told_on status.Memory told = tt

-- what a record file says
pub of_records_on : (a b : Line) → line_values b ≡ line_values a → (xs ys : List Script)
    → map values_of ys ≡ map values_of xs → (bytes : List ℕ)
    → (Fact : Line → List Script → List SeenValues → Type 0)
    → ((records : List SeenValues) → Fact a xs records → Fact b ys records)
    → OfRecords bytes Fact a xs → OfRecords bytes Fact b ys
of_records_on a b lines xs ys scripts bytes Fact moves is = record {
  records = is.records;
  records_are = records_same a b (same_but_params a b lines) xs ys scripts bytes ∙ is.records_are;
  holds = moves is.records is.holds;
}
