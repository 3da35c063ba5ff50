-- What the bytes of a file of timings say, and the text of a play, rest on the values of a line and of
-- scripts alone.
use Rattle.std.proofs.Common.{◌≡◌, ◌<◌, ◌++◌, ℕ, Bool, List, [], ◌∷◌, Option, Some, None, Result}
use Rattle.std.proofs.Common.{Ok, Err}
use Rattle.std.proofs.Common.{length, map, get_or, refl, sym, ◌∙◌, ap, subst}
use Rattle.std.proofs.Math.Path.{fun_ext}
use Rattle.std.specs.Prelude.{◌&&◌, ◌+◌, IsTrue, codes, not, nat_le, nat_lt, if◌then◌else◌}
use Rattle.std.specs.List.{after_first, before_first, position_from}
use Rattle.std.specs.{Option.ok_or, Str.bytes_eq}
use Rattle.std.proofs.lemmas.Map.Entries.{option_filter}
use Rattle.model_history.specs.Each.{each_below}
use Rattle.base_memory.specs.Gives.{◌>>=◌, passes_or}
use Rattle.base_records.specs.{RecordFile.RecordFile, RecordFile.said_in, Records.records_of}
use Rattle.model_history.specs.Rails.{Ends}
use Rattle.base_text.specs.store.Number.{number_of}
use Rattle.model_line.specs.Parameters.{declared_ends, is_delay}
use Rattle.model_line.specs.{declared.line.Line.Line, declared.script.Script.Script}
use Rattle.model_line.specs.{declared.line.Param.Param, declared.line.Terminal.Terminal}
use Rattle.model_line.specs.{SetBounds.SameButParams, Laws.CountsRestOnNoInterval, Intervals.leasts}
use Rattle.model_line.specs.{ParamNames.name_at, PlainNames.is_plain_name}
use Rattle.model_logic.specs.Choice.{Choice, IsIn}
use Rattle.model_logic.specs.Histories.{History, IsLineHistory}
use Rattle.model_logic.specs.IntervalLaws.{HistoriesRestOnNoInterval}
use Rattle.model_names.specs.NumbersByName.{param_named}
use Rattle.file_line.specs.Lines.{line_values}
use Rattle.file_tables.specs.script.Values.{ScriptValues, values_of}
use Rattle.run_changes.specs.rows.PlayRows.{run_rows, signal_row}
use Rattle.file_tables.specs.declared.timing.fault.TimingFault.{TimingFault}
use Rattle.file_tables.specs.declared.timing.fault.TimingFault.TheVariants as fault
use Rattle.file_tables.specs.declared.timing.named.Named.{Named}
use Rattle.file_tables.specs.declared.timing.named.Named.TheVariants as named
use Rattle.model_timing.specs.declared.step.Step.{Step}
use Rattle.file_tables.specs.timing.Checks.{Opening, check_timing, is_at, is_earlier, is_given}
use Rattle.file_tables.specs.timing.Checks.{named_in, number_or_step, number_within, step_at, step_named}
use Rattle.file_tables.specs.timing.Checks.{value_for}
use Rattle.model_timing.specs.{Choice.timing_choice, Inside.IsStepInside, Inside.IsTimingInside}
use Rattle.file_tables.specs.{timing.Row.Row, timing.Row.header_record, timing.Row.row_in}
use Rattle.model_timing.specs.{Timing.TimingValues}
use Rattle.model_timing.specs.NamedValues.{NamedValues}
use Rattle.file_tables.specs.timing.SoFar.{OpenTiming, TimingsSoFar, all_timings, closed}
use Rattle.file_tables.specs.timing.SoFar.{no_timings, opened, with_row}
use Rattle.file_tables.specs.timing.Timings.{after_record, after_row, timing_file, timings_in, timings_of}
use Rattle.call_pilot.specs.commands.Play.{IsPlayText, IsRunText, IsTimingText, Pieces}
use Rattle.call_pilot.specs.top.SameFactLaws.{choice_same, ends_same, same_params}
use Rattle.call_pilot.specs.top.SameTextLaws.{heads_same}
use Rattle.call_pilot.specs.top.SameValueLaws.{history_on, same_but_params}

module _ (counts : CountsRestOnNoInterval) (histories : HistoriesRestOnNoInterval) (a b : Line)
    (lines : line_values b ≡ line_values a) where
  others : SameButParams a b
  others = same_but_params a b lines

  -- ---- the bytes of a file of timings

  pub param_named_same : (name : List ℕ) → param_named b name ≡ param_named a name
  param_named_same name =
      ap (λ (ps : List Param). position_from (λ (p : Param). bytes_eq p.name name) 0 ps)
      (same_params a b lines)

  step_same : (o p : Option ℕ) → step_at b o p ≡ step_at a o p
  step_same None p = refl
  step_same (Some i) None = refl
  step_same (Some i) (Some from) =
      let made : Bool → ℕ → Option Named = λ delay horizon.
      if delay && (nat_le 1 from && nat_lt from horizon) then Some (named.Step i from) else None in
      ap (λ (delay : Bool). made delay b.horizon) (counts.told a b i others)
      ∙ ap (made (is_delay a i)) others.horizon

  step_named_same : (field : List ℕ) → step_named b field ≡ step_named a field
  step_named_same field =
      step_same (param_named b (before_first is_at field)) (number_of (after_first is_at field))
      ∙ ap (λ (o : Option ℕ). step_at a o (number_of (after_first is_at field)))
      (param_named_same (before_first is_at field))

  number_or_step_same : (field : List ℕ) (o : Option ℕ)
      → number_or_step b field o ≡ number_or_step a field o
  number_or_step_same field (Some i) = refl
  number_or_step_same field None = step_named_same field

  named_same : (field : List ℕ) → named_in b field ≡ named_in a field
  named_same [] = refl
  named_same (x ∷ xs) =
      number_or_step_same (x ∷ xs) (param_named b (x ∷ xs))
      ∙ ap (number_or_step a (x ∷ xs)) (param_named_same (x ∷ xs))

  within_same : (i : ℕ) (value : Option ℕ) → number_within b i value ≡ number_within a i value
  within_same i value =
      ap (λ (ends : ℕ → Ends).
      option_filter (λ v. nat_le (ends i).least v && nat_le v (ends i).greatest) value)
      (ends_same counts histories a b lines)

  value_same : (x : Named) (value : List ℕ) → value_for b x value ≡ value_for a x value
  value_same named.Nothing value = refl
  value_same (named.Number i) value = within_same i (number_of value)
  value_same (named.Step i from) value = within_same i (number_of value)

  row_same : (t : OpenTiming) (n : ℕ) (row : Row) → after_row b t n row ≡ after_row a t n row
  unfolding after_row
  row_same t n row =
      let made : Option Named → (Named → List ℕ → Option ℕ) → Result OpenTiming TimingFault =
      λ name value_of.
      ok_or name (fault.Parameter n) >>= λ x.
      ok_or (value_of x row.value) (fault.Value n) >>= λ value.
      passes_or (not (is_given t x)) (fault.Twice n) >>= λ once. Ok (with_row t x value) in
      ap (λ (o : Option Named). made o (value_for b)) (named_same row.parameter)
      ∙ ap (made (named_in a row.parameter))
      (fun_ext (λ x. fun_ext (λ value. value_same x value)))

  opened_same : (name : List ℕ) → opened b name ≡ opened a name
  opened_same name =
      let made : List Param → OpenTiming = λ ps. record {
        name = name;
        timing = record { values = leasts ps; steps = [] };
        given = [];
      } in
      ap made (same_params a b lines)

  check_same : (done : List NamedValues) (n : ℕ) (name : List ℕ) (latest : Option OpenTiming)
      → check_timing b done n name latest ≡ check_timing a done n name latest
  check_same done n name None =
      let made : OpenTiming → Result Opening TimingFault = λ timing.
      Ok (record { done = done; timing = timing }) in
      ap made (opened_same name)
  check_same done n name (Some t) =
      let made : OpenTiming → Result Opening TimingFault = λ timing.
      if bytes_eq t.name name then Ok (record { done = done; timing = t })
      else if is_earlier done name then Err (fault.Order n)
      else if nat_lt (length done + 1) 16
      then Ok (record { done = done ++ closed t ∷ []; timing = timing })
      else Err fault.TooMany in
      ap made (opened_same name)

  record_same : (s : TimingsSoFar) (n : ℕ) (fields : List (List ℕ))
      → after_record b s n fields ≡ after_record a s n fields
  unfolding after_record
  record_same s n fields =
      let made : (List NamedValues → ℕ → List ℕ → Option OpenTiming → Result Opening TimingFault)
      → (OpenTiming → ℕ → Row → Result OpenTiming TimingFault)
      → Result TimingsSoFar TimingFault = λ check after.
      ok_or (row_in fields) (fault.Fields n) >>= λ row.
      passes_or (is_plain_name row.name) (fault.BadName n) >>= λ name.
      check s.done n row.name s.latest >>= λ opening.
      after opening.timing n row >>= λ timing.
      Ok (record { done = opening.done; latest = Some timing }) in
      ap (λ (check : List NamedValues → ℕ → List ℕ → Option OpenTiming → Result Opening TimingFault).
      made check (after_row b))
      (fun_ext (λ done. fun_ext (λ n. fun_ext (λ name. fun_ext (λ latest.
      check_same done n name latest)))))
      ∙ ap (made (check_timing a))
      (fun_ext (λ t. fun_ext (λ n. fun_ext (λ row. row_same t n row))))

  file_same : timing_file b ≡ timing_file a
  file_same =
      let made : (TimingsSoFar → ℕ → List (List ℕ) → Result TimingsSoFar TimingFault)
      → RecordFile TimingsSoFar TimingFault = λ after.
      record {
        header = header_record;
        start = no_timings;
        after = after;
        no_header = fault.Header;
        no_record = fault.Empty;
      } in
      ap made (fun_ext (λ s. fun_ext (λ n. fun_ext (λ fields. record_same s n fields))))

  pub timings_same : (bytes : List ℕ) → timings_of b bytes ≡ timings_of a bytes
  unfolding timings_in
  timings_same bytes =
      ap (λ (file : RecordFile TimingsSoFar TimingFault).
      said_in file (records_of bytes) >>= λ s. Ok (all_timings s)) file_same

  -- ---- timings inside

  in_ends : (n i : ℕ) → IsIn n (declared_ends a i) → IsIn n (declared_ends b i)
  in_ends n i is =
      subst (λ (ends : ℕ → Ends). IsIn n (ends i)) (sym (ends_same counts histories a b lines)) is

  step_inside : (step : Step ℕ) → IsStepInside a step → IsStepInside b step
  step_inside step is = record {
    delay = subst IsTrue (sym (counts.told a b step.param others)) is.delay;
    late = is.late;
    early = subst (λ (n : ℕ). step.from < n) (sym others.horizon) is.early;
    value = in_ends step.value step.param is.value;
  }

  pub timing_inside : (timing : TimingValues) → IsTimingInside a timing → IsTimingInside b timing
  timing_inside timing is = record {
    count = is.count ∙ sym (counts.params a b others);
    values = λ i lt.
        in_ends (get_or timing.values i 0) i
        (is.values i (subst (λ (n : ℕ). i < n) (counts.params a b others) lt));
    steps = λ i d lt. step_inside (get_or timing.steps i d) (is.steps i d lt);
  }

  -- ---- the text of a play

  rows_same : (x y : Script) → values_of y ≡ values_of x → (timing : List ℕ) (h : History)
      → run_rows timing y.name b h ≡ run_rows timing x.name a h
  rows_same x y values timing h =
      let made : List ℕ → List Terminal → ℕ → List ℕ = λ name terminals horizon.
      each_below horizon (λ t. each_below (length terminals) (λ k.
      signal_row timing name t (name_at terminals k) (codes "key") (h.key k)
      ++ signal_row timing name t (name_at terminals k) (codes "trip") (h.trip k))) in
      ap (λ (v : ScriptValues). made v.name b.terminals.items b.horizon) values
      ∙ ap (λ (terminals : List Terminal). made x.name terminals b.horizon) others.terminals
      ∙ ap (made x.name a.terminals.items) others.horizon

  run_on : (timing : NamedValues) (x y : Script) → values_of y ≡ values_of x → (text : List ℕ)
      → IsRunText a timing x text → IsRunText b timing y text
  run_on timing x y values text is = record {
    history = is.history;
    is_history = subst (λ (c : Choice). IsLineHistory b y c is.history)
        (sym (choice_same counts histories a b lines timing.timing))
        (history_on counts histories a b lines x y values (timing_choice a timing.timing)
        is.history is.is_history);
    text_is = is.text_is ∙ sym (rows_same x y values timing.name is.history);
  }

  runs_on : (timing : NamedValues) (xs ys : List Script) → map values_of ys ≡ map values_of xs
      → (text : List ℕ) → IsTimingText a xs timing text → IsTimingText b ys timing text
  runs_on timing [] [] same text is = is
  runs_on timing [] (y ∷ ys) same text is = absurd (cc)
  runs_on timing (x ∷ xs) [] same text is = absurd (cc)
  runs_on timing (x ∷ xs) (y ∷ ys) same text is =
      let heads = heads_same (values_of y) (values_of x) (map values_of ys) (map values_of xs) same in (
        is.0,
        is.1,
        run_on timing x y heads.0 is.0 is.2,
        runs_on timing xs ys heads.1 is.1 is.3,
        is.4,
      )

  module _ (xs ys : List Script) (scripts : map values_of ys ≡ map values_of xs) where
    all_on : (timings : List NamedValues) (text : List ℕ)
        → Pieces (IsTimingText a xs) timings text → Pieces (IsTimingText b ys) timings text
    all_on [] text is = is
    all_on (timing ∷ timings) text is = (
      is.0,
      is.1,
      runs_on timing xs ys scripts is.0 is.2,
      all_on timings is.1 is.3,
      is.4,
    )

    pub play_text_on : (timings : List NamedValues) (text : List ℕ)
        → IsPlayText a xs timings text → IsPlayText b ys timings text
    play_text_on timings text is = record {
      rows = is.rows;
      are_rows = all_on timings is.rows is.are_rows;
      text_is = is.text_is;
    }
