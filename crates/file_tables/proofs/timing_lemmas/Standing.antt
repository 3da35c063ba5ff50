-- The records of timings are read back as the timings.
use Rattle.std.proofs.Common.{◌≡◌, ◌≢◌, ◌&&◌, ◌||◌, ◌==◌, ℕ, suc, ◌+◌, ◌<◌, ◌≤◌, true, false, cond}
use Rattle.std.proofs.Common.{List, [], ◌∷◌, ◌++◌, length, map, get_or, take, drop, Option, Some}
use Rattle.std.proofs.Common.{None, Ok, refl, sym, ap, ◌∙◌, subst, arith, append_assoc}
use Rattle.std.proofs.Common.{length-append, ne_eqb}
use Rattle.std.proofs.lemmas.Bool.{lt-ltb, le-leb, and_from, and_parts, or_parts}
use Rattle.std.proofs.lemmas.Bool.Decides.{nat_tests}
use Rattle.std.proofs.lemmas.List.{append-nil, length-map, get_or-map, set_at, take_at, drop_at}
use Rattle.std.proofs.lemmas.List.{drop-drop}
use Rattle.std.proofs.lemmas.List.Folds.{list_any-append}
use Rattle.std.proofs.lemmas.List.Concat.{flat_map-cons}
use Rattle.std.proofs.lemmas.Slice.Eq.{bytes_eq-Decides}
use Rattle.std.proofs.lemmas.List.Elements.{All-nil, All-cons, All-push, All-head, All-tail}
use Rattle.std.proofs.lemmas.List.Elements.{All-get_or, All-from_get_or}
use Rattle.std.specs.Prelude.{nat_lt, nat_le, not, slice_set}
use Rattle.std.specs.List.{All, list_any, flat_map, position_or_len, before_first, after_first}
use Rattle.std.specs.List.{prefix_len}
use Rattle.std.specs.Str.{bytes_eq}
use Rattle.std.specs.Fmt.{decimal}
use Rattle.base_text.specs.{store.Number.number_of, store.DecimalLaws.number_of-decimal}
use Rattle.model_line.specs.Parameters.{param_count, is_delay, declared_ends}
use Rattle.model_line.specs.{declared.line.Line.Line, declared.line.Param.Param, Intervals.leasts}
use Rattle.model_line.specs.{PlainNames.is_plain_name, Laws.DelaysAreParameters}
use Rattle.model_line.specs.NamesByNumber.{parameter_name}
use Rattle.model_line.specs.TextLaws.{bytes_differ}
use Rattle.model_names.specs.ParamNamesApart.{has_no, ParamNamesApart}
use Rattle.model_names.specs.NumbersByName.{param_named}
use Rattle.model_logic.specs.Choice.{IsIn}
use Rattle.model_timing.specs.declared.step.Step.{Step}
use Rattle.file_tables.specs.declared.timing.named.Named.{Named}
use Rattle.file_tables.specs.declared.timing.named.Named.TheVariants as named
use Rattle.model_timing.specs.Inside.{IsStepInside, IsTimingInside}
use Rattle.model_timing.specs.NamedValues.{NamedValues}
use Rattle.file_tables.specs.timing.SoFar.{OpenTiming, TimingsSoFar, all_timings, no_timings}
use Rattle.file_tables.specs.timing.SoFar.{one_or_none, closed, opened, with_row}
use Rattle.file_tables.specs.timing.Checks.{is_at, is_earlier, check_timing, named_in}
use Rattle.file_tables.specs.timing.Checks.{number_within, step_at, step_named, number_or_step, value_for}
use Rattle.file_tables.specs.timing.Timings.{after_row, after_record, timing_file, timings_in}
use Rattle.file_tables.specs.timing.Printed.{name_record, number_records, step_record, timing_records}
use Rattle.file_tables.specs.timing.Printed.{file_records, MayStand, AreOfOneFile}
use Rattle.model_timing.specs.Timing.{comes_before, ascend, with_step}
use Rattle.base_memory.specs.Gives.{◌>>=◌}
use Rattle.base_records.specs.{RecordFile.after_header, RecordFile.after_records}
use Rattle.model_timing.specs.LatestStepLaws.{all_after, ascend-tail}
use Rattle.model_timing.specs.StepOrderLaws.{same_place}

bytes_same : (bytes : List ℕ) → bytes_eq bytes bytes ≡ true
bytes_same bytes = (bytes_eq-Decides bytes bytes).1 refl

-- a timing in the making
abbrev at_timing : List NamedValues → OpenTiming → TimingsSoFar
at_timing done t = record { done = done; latest = Some t }

-- ---- what a row names

module _ (delays : DelaysAreParameters) (line : Line) (apart : ParamNamesApart line) where
  named_by : (field : List ℕ) (i : ℕ) → 0 < length field → param_named line field ≡ Some i
      → named_in line field ≡ Some (named.Number i)
  named_by [] i some found = absurd (omega arith)
  named_by (b ∷ bytes) i some found = ap (number_or_step line (b ∷ bytes)) found

  number_named : (i : ℕ) → i < param_count line
      → named_in line (parameter_name line i) ≡ Some (named.Number i)
  number_named i inside =
      named_by (parameter_name line i) i (apart.some i inside) (apart.found i inside)

  stepped_by : (field : List ℕ) → 0 < length field → param_named line field ≡ None
      → named_in line field ≡ step_named line field
  stepped_by [] some none = absurd (omega arith)
  stepped_by (b ∷ bytes) some none = ap (number_or_step line (b ∷ bytes)) none

  -- what stands before and after the first `@`
  at_place : (name rest : List ℕ) → has_no 64 name ≡ true
      → position_or_len is_at (name ++ 64 ∷ rest) ≡ length name
  at_place [] rest free = refl
  at_place (b ∷ name) rest free =
      let here = (and_parts (not (b == 64)) (has_no 64 name) free).0 in
      let later = at_place name rest (and_parts (not (b == 64)) (has_no 64 name) free).1 in
      ap (λ other. cond other (1 + prefix_len (λ x. not (is_at x)) (name ++ 64 ∷ rest)) 0) here
      ∙ (let e = later in omega arith)

  has_at : (name rest : List ℕ) → has_no 64 (name ++ 64 ∷ rest) ≡ false
  has_at [] rest = refl
  has_at (b ∷ name) rest = elim (not (b == 64)) as (λ t. t && has_no 64 (name ++ 64 ∷ rest) ≡ false) [
    | true ↦ has_at name rest
    | false ↦ refl
  ]

  step_field_named : (s : Step ℕ) → s.param < param_count line → IsStepInside line s
      → named_in line (parameter_name line s.param ++ 64 ∷ decimal s.from)
      ≡ Some (named.Step s.param s.from)
  step_field_named s inside stands =
      let name : List ℕ = parameter_name line s.param in
      let rest : List ℕ = decimal s.from in
      let field : List ℕ = name ++ 64 ∷ rest in
      let place = at_place name rest (apart.no_at s.param inside) in
      let small : line.horizon ≤ 4000 = line.horizon_in_range.1 in
      let early : s.from < line.horizon = stands.early in
      let before : before_first is_at field ≡ name =
      ap (λ n. take n field) place ∙ take_at name (64 ∷ rest) (length name) refl in
      let after : after_first is_at field ≡ rest =
      ap (λ n. drop (n + 1) field) place
      ∙ sym (drop-drop 1 (length name) field)
      ∙ ap (drop 1) (drop_at name (64 ∷ rest) (length name) refl) in
      let within : is_delay line s.param && (nat_le 1 s.from && nat_lt s.from line.horizon)
      ≡ true =
      and_from (is_delay line s.param) (nat_le 1 s.from && nat_lt s.from line.horizon) stands.delay
      (and_from (nat_le 1 s.from) (nat_lt s.from line.horizon) (le-leb 1 s.from stands.late)
      (lt-ltb s.from line.horizon early)) in
      stepped_by field (omega (arith, length-append name (64 ∷ rest)))
      (apart.none_with_at field (has_at name rest))
      ∙ ap (λ bytes. step_at line (param_named line bytes) (number_of (after_first is_at field)))
      before
      ∙ ap (λ found. step_at line found (number_of (after_first is_at field)))
      (apart.found s.param inside)
      ∙ ap (λ bytes. step_at line (Some s.param) (number_of bytes)) after
      ∙ ap (step_at line (Some s.param)) (number_of-decimal s.from (omega arith))
      ∙ ap (λ b. cond b (Some (named.Step s.param s.from)) None) within

  -- a number of the interval is read back
  number_read : (i v : ℕ) → i < param_count line → IsIn v (declared_ends line i)
      → number_within line i (number_of (decimal v)) ≡ Some v
  number_read i v inside stands =
      let least : i < length (leasts line.params.items) =
      omega (arith, length-map line.params.items (λ (p : Param). p.least)) in
      let most = (line.ends_in_range i least).1 in
      let high : v ≤ (declared_ends line i).greatest = stands.greatest in
      ap (number_within line i) (number_of-decimal v (omega arith))
      ∙ ap (λ b. cond b (Some v) None)
      (and_from (nat_le (declared_ends line i).least v) (nat_le v (declared_ends line i).greatest)
      (le-leb (declared_ends line i).least v stands.least)
      (le-leb v (declared_ends line i).greatest high))

  -- ---- one row

  row_stands : (done : List NamedValues) (t : OpenTiming) (n : ℕ) (x : Named) (field : List ℕ)
      (v : ℕ) (value : List ℕ) → is_plain_name t.name ≡ true → named_in line field ≡ Some x
      → value_for line x value ≡ Some v
      → Rattle.file_tables.specs.timing.Checks.is_given t x ≡ false
      → after_record line (at_timing done t) n (t.name ∷ field ∷ value ∷ [])
      ≡ Ok (at_timing done (with_row t x v))
  unfolding after_record after_row
  row_stands done t n x field v value plain names says new =
      rw (plain, bytes_same t.name, names, says, new) refl

  -- ---- the numbers of a timing

  abbrev opening_by : List ℕ → List ℕ → List ℕ → List (Step ℕ) → OpenTiming
  opening_by name given values steps =
      record { name = name; timing = record { values = values; steps = steps }; given = given }

  -- the parameters that have been given after these numbers
  abbrev given_after : List ℕ → ℕ → List ℕ → List ℕ
  given_after given i [] = given
  given_after given i (v ∷ values) = given_after (given ++ i ∷ []) (i + 1) values

  below_is_new : (i : ℕ) (given : List ℕ) → All (λ k. k < i) given
      → list_any (λ k. k == i) given ≡ false
  below_is_new i [] below = refl
  below_is_new i (k ∷ given) below =
      let here : k < i = All-head (λ j. j < i) k given below in
      ap (λ b. b || list_any (λ j. j == i) given) (ne_eqb k i (λ e. omega arith))
      ∙ below_is_new i given (All-tail (λ j. j < i) k given below)

  all_below_next : (i : ℕ) (given : List ℕ) → All (λ k. k < i) given → All (λ k. k < i + 1) given
  all_below_next i [] below = All-nil (λ k. k < i + 1)
  all_below_next i (k ∷ given) below =
      let here : k < i = All-head (λ j. j < i) k given below in
      All-cons (λ j. j < i + 1) k given (omega arith)
      (all_below_next i given (All-tail (λ j. j < i) k given below))

  numbers_stand : (done : List NamedValues) (name given front values old : List ℕ) (n i : ℕ)
      (rest : List (List (List ℕ))) → is_plain_name name ≡ true → i ≡ length front
      → length old ≡ length values → i + length values ≤ param_count line
      → All (λ k. k < i) given
      → ((j : ℕ) → j < length values → IsIn (get_or values j 0) (declared_ends line (i + j)))
      → after_records (timing_file line) (at_timing done (opening_by name given (front ++ old) [])) n
      (number_records line name i values ++ rest)
      ≡ after_records (timing_file line)
      (at_timing done (opening_by name (given_after given i values) (front ++ values) []))
      (n + length values) rest
  unfolding after_records
  numbers_stand done name given front [] [] n i rest plain place long inside below stand =
      let e : n ≡ n + 0 = omega arith in
      ap (λ m. after_records (timing_file line) (at_timing done (opening_by name given (front ++ []) [])) m rest) e
  numbers_stand done name given front [] (o ∷ old) n i rest plain place long inside below stand =
      absurd (omega arith)
  numbers_stand done name given front (v ∷ values) [] n i rest plain place long inside below stand =
      absurd (omega arith)
  numbers_stand done name given front (v ∷ values) (o ∷ old) n i rest plain place long inside below
      stand =
      let this : i < param_count line = omega arith in
      let zero_more : i + 0 ≡ i = omega arith in
      let here : IsIn v (declared_ends line i) =
      subst (λ (k : ℕ). IsIn v (declared_ends line k)) zero_more (stand 0 (omega arith)) in
      let t : OpenTiming = opening_by name given (front ++ o ∷ old) [] in
      let first = row_stands done t n (named.Number i) (parameter_name line i) v (decimal v) plain
      (number_named i this) (number_read i v this here) (below_is_new i given below) in
      let written : slice_set (front ++ o ∷ old) i v ≡ front ++ v ∷ old =
      set_at front o old v i (sym place) in
      let moved : front ++ v ∷ old ≡ (front ++ v ∷ []) ++ old =
      sym (append_assoc front (v ∷ []) old) in
      let behind : List (List (List ℕ)) = number_records line name (i + 1) values ++ rest in
      let counted : n + 1 + length values ≡ n + length (v ∷ values) = omega arith in
      ap (λ r. r >>= λ next. after_records (timing_file line) next (n + 1) behind) first
      ∙ ap (λ list. after_records (timing_file line)
      (at_timing done (opening_by name (given ++ i ∷ []) list [])) (n + 1) behind)
      (written ∙ moved)
      ∙ numbers_stand done name (given ++ i ∷ []) (front ++ v ∷ []) values old (n + 1) (i + 1) rest
      plain (omega (arith, length-append front (v ∷ []))) (omega arith) (omega arith)
      (All-push (λ k. k < i + 1) given i (all_below_next i given below) (omega arith))
      (λ j lt. let next : i + 1 + j ≡ i + suc j = omega arith in
      subst (λ (k : ℕ). IsIn (get_or values j 0) (declared_ends line k)) (sym next)
      (stand (suc j) (omega arith)))
      ∙ ap (λ list. after_records (timing_file line)
      (at_timing done (opening_by name (given_after (given ++ i ∷ []) (i + 1) values) list []))
      (n + 1 + length values) rest) (append_assoc front (v ∷ []) values)
      ∙ ap (λ m. after_records (timing_file line)
      (at_timing done (opening_by name (given_after (given ++ i ∷ []) (i + 1) values)
      (front ++ v ∷ values) [])) m rest) counted

  -- ---- the steps of a timing

  later_is_not_before : (x s : Step ℕ) → comes_before x s ≡ true → comes_before s x ≡ false
  later_is_not_before x s before = grind (arith, nat_tests)

  before_is_elsewhere : (x s : Step ℕ) → comes_before x s ≡ true → same_place s x ≡ false
  before_is_elsewhere x s before = grind (arith, nat_tests)

  last_step : (s : Step ℕ) (steps : List (Step ℕ)) → All (λ x. comes_before x s ≡ true) steps
      → with_step s steps ≡ steps ++ s ∷ []
  last_step s [] before = refl
  last_step s (x ∷ steps) before =
      ap (λ b. cond b (s ∷ x ∷ steps) (x ∷ with_step s steps))
      (later_is_not_before x s (All-head (λ y. comes_before y s ≡ true) x steps before))
      ∙ ap (λ (l : List (Step ℕ)). x ∷ l)
      (last_step s steps (All-tail (λ y. comes_before y s ≡ true) x steps before))

  new_step : (s : Step ℕ) (steps : List (Step ℕ)) → All (λ x. comes_before x s ≡ true) steps
      → list_any (same_place s) steps ≡ false
  new_step s [] before = refl
  new_step s (x ∷ steps) before =
      ap (λ b. b || list_any (same_place s) steps)
      (before_is_elsewhere x s (All-head (λ y. comes_before y s ≡ true) x steps before))
      ∙ new_step s steps (All-tail (λ y. comes_before y s ≡ true) x steps before)

  -- each of the first stands before each of the others
  abbrev AllBefore : List (Step ℕ) → List (Step ℕ) → Type 0
  AllBefore front steps = All (λ s. All (λ x. comes_before x s ≡ true) front) steps

  before_more : (s : Step ℕ) (front steps : List (Step ℕ)) → AllBefore front steps
      → All (λ x. comes_before s x ≡ true) steps → AllBefore (front ++ s ∷ []) steps
  before_more s front [] before after =
      All-nil (λ x. All (λ y. comes_before y x ≡ true) (front ++ s ∷ []))
  before_more s front (x ∷ steps) before after =
      All-cons (λ z. All (λ y. comes_before y z ≡ true) (front ++ s ∷ [])) x steps
      (All-push (λ y. comes_before y x ≡ true) front s
      (All-head (λ z. All (λ y. comes_before y z ≡ true) front) x steps before)
      (All-head (λ z. comes_before s z ≡ true) x steps after))
      (before_more s front steps
      (All-tail (λ z. All (λ y. comes_before y z ≡ true) front) x steps before)
      (All-tail (λ z. comes_before s z ≡ true) x steps after))

  steps_stand : (done : List NamedValues) (name given values : List ℕ)
      (front steps : List (Step ℕ)) (n : ℕ) (rest : List (List (List ℕ)))
      → is_plain_name name ≡ true → All (IsStepInside line) steps
      → All (λ s. s.param < param_count line) steps → AllBefore front steps
      → ascend steps ≡ true
      → after_records (timing_file line) (at_timing done (opening_by name given values front)) n
      (map (step_record line name) steps ++ rest)
      ≡ after_records (timing_file line) (at_timing done (opening_by name given values (front ++ steps)))
      (n + length steps) rest
  unfolding after_records
  steps_stand done name given values front [] n rest plain stand there before up =
      let e : n ≡ n + 0 = omega arith in
      ap (λ m. after_records (timing_file line) (at_timing done (opening_by name given values front)) m rest) e
      ∙ ap (λ list. after_records (timing_file line) (at_timing done (opening_by name given values list)) (n + 0)
      rest) (sym (append-nil front))
  steps_stand done name given values front (s ∷ steps) n rest plain stand there before up =
      let here : IsStepInside line s = All-head (IsStepInside line) s steps stand in
      let inside : s.param < param_count line =
      All-head (λ x. x.param < param_count line) s steps there in
      let fore : All (λ x. comes_before x s ≡ true) front =
      All-head (λ z. All (λ x. comes_before x z ≡ true) front) s steps before in
      let t : OpenTiming = opening_by name given values front in
      let first = row_stands done t n (named.Step s.param s.from)
      (parameter_name line s.param ++ 64 ∷ decimal s.from) s.value (decimal s.value) plain
      (step_field_named s inside here) (number_read s.param s.value inside here.value)
      (new_step s front fore) in
      let behind : List (List (List ℕ)) = map (step_record line name) steps ++ rest in
      let counted : n + 1 + length steps ≡ n + length (s ∷ steps) = omega arith in
      ap (λ r. r >>= λ next. after_records (timing_file line) next (n + 1) behind) first
      ∙ ap (λ list. after_records (timing_file line) (at_timing done (opening_by name given values list)) (n + 1)
      behind) (last_step s front fore)
      ∙ steps_stand done name given values (front ++ s ∷ []) steps (n + 1) rest plain
      (All-tail (IsStepInside line) s steps stand)
      (All-tail (λ x. x.param < param_count line) s steps there)
      (before_more s front steps
      (All-tail (λ z. All (λ x. comes_before x z ≡ true) front) s steps before)
      (all_after s steps up))
      (ascend-tail s steps up)
      ∙ ap (λ list. after_records (timing_file line) (at_timing done (opening_by name given values list))
      (n + 1 + length steps) rest) (append_assoc front (s ∷ []) steps)
      ∙ ap (λ m. after_records (timing_file line)
      (at_timing done (opening_by name given values (front ++ s ∷ steps))) m rest) counted

  -- ---- a timing opens

  opening : (done : List NamedValues) (latest : Option OpenTiming) (n : ℕ) (name : List ℕ)
      → is_earlier (done ++ one_or_none latest) name ≡ false
      → length (done ++ one_or_none latest) < 16
      → check_timing line done n name latest
      ≡ Ok (record { done = done ++ one_or_none latest; timing = opened line name })
  opening done None n name new few =
      ap (λ list. Ok (record { done = list; timing = opened line name })) (sym (append-nil done))
  opening done (Some t) n name new few =
      let both = or_parts (is_earlier done name) (bytes_eq t.name name || false)
      (sym (list_any-append (λ (v : NamedValues). bytes_eq v.name name) done (closed t ∷ []))
      ∙ new) in
      let other = (or_parts (bytes_eq t.name name) false both.1).0 in
      let none = both.0 in
      let room : nat_lt (length done + 1) 16 ≡ true =
      lt-ltb (length done + 1) 16 (omega (arith, length-append done (closed t ∷ []))) in
      rw (other, none, room) refl

  name_stands : (s : TimingsSoFar) (n : ℕ) (name : List ℕ) → is_plain_name name ≡ true
      → is_earlier (all_timings s) name ≡ false → length (all_timings s) < 16
      → after_record line s n (name_record name)
      ≡ Ok (at_timing (all_timings s) (opened line name))
  unfolding after_record after_row
  name_stands s n name plain new few =
      rw (plain, opening s.done s.latest n name new few) refl

  none_in_front : (steps : List (Step ℕ)) → AllBefore [] steps
  none_in_front [] = All-nil (λ s. All (λ x. comes_before x s ≡ true) [])
  none_in_front (s ∷ steps) =
      All-cons (λ z. All (λ x. comes_before x z ≡ true) []) s steps
      (All-nil (λ x. comes_before x s ≡ true)) (none_in_front steps)

  steps_there : (steps : List (Step ℕ)) → All (IsStepInside line) steps
      → All (λ s. s.param < param_count line) steps
  steps_there [] all = All-nil (λ (s : Step ℕ). s.param < param_count line)
  steps_there (s ∷ steps) all =
      let here : IsStepInside line s = All-head (IsStepInside line) s steps all in
      All-cons (λ (x : Step ℕ). x.param < param_count line) s steps
      (delays.exists line s.param here.delay)
      (steps_there steps (All-tail (IsStepInside line) s steps all))

  -- ---- a whole timing

  abbrev read_timing : NamedValues → OpenTiming
  read_timing v = opening_by v.name (given_after [] 0 v.timing.values) v.timing.values v.timing.steps

  timing_stands : (s : TimingsSoFar) (n : ℕ) (v : NamedValues) (rest : List (List (List ℕ)))
      → MayStand line v → is_earlier (all_timings s) v.name ≡ false → length (all_timings s) < 16
      → after_records (timing_file line) s n (timing_records line v ++ rest)
      ≡ after_records (timing_file line) (at_timing (all_timings s) (read_timing v))
      (n + 1 + length v.timing.values + length v.timing.steps) rest
  unfolding after_records
  timing_stands s n v rest may new few =
      let values : List ℕ = v.timing.values in
      let steps : List (Step ℕ) = v.timing.steps in
      let numbers = number_records line v.name 0 values in
      let moves = map (step_record line v.name) steps in
      let inside : IsTimingInside line v.timing = may.inside in
      let count : length values ≡ param_count line = inside.count in
      let long : length (leasts line.params.items) ≡ length values =
      length-map line.params.items (λ (p : Param). p.least) ∙ sym count in
      ap (λ r. r >>= λ next. after_records (timing_file line) next (n + 1) ((numbers ++ moves) ++ rest))
      (name_stands s n v.name may.plain_name new few)
      ∙ ap (after_records (timing_file line) (at_timing (all_timings s) (opened line v.name)) (n + 1))
      (append_assoc numbers moves rest)
      ∙ numbers_stand (all_timings s) v.name [] [] values (leasts line.params.items) (n + 1) 0
      (moves ++ rest) may.plain_name refl long (omega arith) (All-nil (λ k. k < 0))
      (λ j lt. let e : j ≡ 0 + j = omega arith in
      subst (λ (k : ℕ). IsIn (get_or values j 0) (declared_ends line k)) e
      (inside.values j (omega arith)))
      ∙ steps_stand (all_timings s) v.name (given_after [] 0 values) values [] steps
      (n + 1 + length values) rest may.plain_name inside.steps (steps_there steps inside.steps)
      (none_in_front steps) may.ascending

  -- what is left of the timings, none of whose names stands already
  record AreNew (s : TimingsSoFar) (vs : List NamedValues) : Type 0 where
    names : All (λ v. is_earlier (all_timings s) v.name ≡ false) vs
    once : (j k : ℕ) → j < k → k < length vs
        → get_or (map (λ v. v.name) vs) j [] ≢ get_or (map (λ v. v.name) vs) k []

  new_behind : (s : TimingsSoFar) (v : NamedValues) (vs : List NamedValues) → AreNew s (v ∷ vs)
      → AreNew (at_timing (all_timings s) (read_timing v)) vs
  new_behind s v vs new = record {
    names = All-from_get_or
        (λ u. is_earlier (all_timings s ++ v ∷ []) u.name ≡ false) vs v
        (λ i below.
        let u : NamedValues = get_or vs i v in
        let old : is_earlier (all_timings s) u.name ≡ false =
        All-get_or (λ w. is_earlier (all_timings s) w.name ≡ false) (v ∷ vs) (suc i) v (omega arith)
        new.names in
        let other : bytes_eq v.name u.name ≡ false =
        bytes_differ v.name u.name (λ same. new.once 0 (suc i) (omega arith) (omega arith)
        (same ∙ sym (get_or-map (λ (w : NamedValues). w.name) vs i v [] below))) in
        list_any-append (λ (w : NamedValues). bytes_eq w.name u.name) (all_timings s) (v ∷ [])
        ∙ ap (λ b. b || (bytes_eq v.name u.name || false)) old
        ∙ ap (λ b. b || false) other);
    once = λ j k less below. new.once (suc j) (suc k) (omega arith) (omega arith);
  }

  timings_stand : (s : TimingsSoFar) (n : ℕ) (vs : List NamedValues) → All (MayStand line) vs
      → AreNew s vs → length (all_timings s) + length vs ≤ 16
      → (after_records (timing_file line) s n (flat_map (timing_records line) vs) >>= λ t. Ok (all_timings t))
      ≡ Ok (all_timings s ++ vs)
  unfolding after_records
  timings_stand s n [] may new few = ap (λ list. Ok list) (sym (append-nil (all_timings s)))
  timings_stand s n (v ∷ vs) may new few =
      let rest : List (List (List ℕ)) = flat_map (timing_records line) vs in
      let next : TimingsSoFar = at_timing (all_timings s) (read_timing v) in
      let count = length-append (all_timings s) (v ∷ []) in
      ap (λ rows. after_records (timing_file line) s n rows >>= λ t. Ok (all_timings t))
      (flat_map-cons (timing_records line) v vs)
      ∙ ap (λ r. r >>= λ t. Ok (all_timings t))
      (timing_stands s n v rest (All-head (MayStand line) v vs may)
      (All-head (λ u. is_earlier (all_timings s) u.name ≡ false) v vs new.names) (omega arith))
      ∙ timings_stand next (n + 1 + length v.timing.values + length v.timing.steps) vs
      (All-tail (MayStand line) v vs may) (new_behind s v vs new) (omega arith)
      ∙ ap (λ list. Ok list) (append_assoc (all_timings s) (v ∷ []) vs)

  -- the records of timings are read back as the timings
  pub records_stand : (vs : List NamedValues) → All (MayStand line) vs → AreOfOneFile vs
      → timings_in line (file_records line vs) ≡ Ok vs
  unfolding timings_in
  records_stand [] may one_file = absurd (let some = one_file.some in omega arith)
  records_stand (v ∷ vs) may one_file =
      let new : AreNew no_timings (v ∷ vs) = record {
        names = All-from_get_or (λ u. is_earlier (all_timings no_timings) u.name ≡ false) (v ∷ vs) v
            (λ i below. refl);
        once = one_file.once;
      } in
      ap (λ rows. after_header (timing_file line) rows >>= λ s. Ok (all_timings s))
      (flat_map-cons (timing_records line) v vs)
      ∙ ap (λ rows. after_records (timing_file line) no_timings 2 rows >>= λ s. Ok (all_timings s))
      (sym (flat_map-cons (timing_records line) v vs))
      ∙ timings_stand no_timings 2 (v ∷ vs) may new (let few = one_file.few in omega arith)
