-- Each timing that was read is inside.
use Rattle.std.proofs.Common.{◌≡◌, ◌&&◌, ℕ, ◌+◌, ◌<◌, ◌≤◌, Bool, true, false, cond, List, [], ◌∷◌}
use Rattle.std.proofs.Common.{◌++◌, length, map, Option, Some, None, Result, Ok, Err, subst, ◌∙◌}
use Rattle.std.proofs.Common.{arith, inl, inr}
use Rattle.std.proofs.lemmas.List.{length-map, length-set, get_or-set_same, get_or-set_other}
use Rattle.std.proofs.lemmas.Bool.{ltb-true, leb-true, cases_eq, and_parts}
use Rattle.std.proofs.lemmas.List.Elements.{All-nil, All-cons, All-push, All-append, All-head}
use Rattle.std.proofs.lemmas.List.Elements.{All-tail}
use Rattle.std.specs.Str.{bytes_eq}
use Rattle.std.specs.Prelude.{Vec, IfOk, IfSome, nat_le, nat_lt, not}
use Rattle.std.specs.Option.{ok_or}
use Rattle.std.specs.declared.alloc.Global.{Global}
use Rattle.std.specs.List.{All, before_first, after_first}
use Rattle.base_text.specs.store.Number.{number_of}
use Rattle.model_line.specs.Parameters.{is_delay, declared_ends}
use Rattle.model_line.specs.{declared.line.Line.Line, Intervals.leasts, PlainNames.is_plain_name}
use Rattle.model_logic.specs.Choice.{IsIn}
use Rattle.model_names.specs.NumbersByName.{param_named}
use Rattle.file_tables.specs.declared.timing.fault.TimingFault.{TimingFault}
use Rattle.file_tables.specs.declared.timing.fault.TimingFault.TheVariants as fault
use Rattle.file_tables.specs.declared.timing.named.Named.{Named}
use Rattle.file_tables.specs.declared.timing.named.Named.TheVariants as named
use Rattle.model_timing.specs.declared.named_timing.NamedTiming.{NamedTiming}
use Rattle.file_tables.specs.timing.SoFarInside.{IsNamedInside, IsSoFar}
use Rattle.model_timing.specs.Inside.{IsStepInside, IsTimingInside}
use Rattle.model_timing.specs.NamedValues.{NamedValues, values_of}
use Rattle.file_tables.specs.timing.SoFar.{OpenTiming, TimingsSoFar, all_timings}
use Rattle.file_tables.specs.timing.SoFar.{no_timings, one_or_none, closed, opened, with_row}
use Rattle.file_tables.specs.timing.Checks.{Opening, is_earlier, check_timing, after_latest, is_given}
use Rattle.file_tables.specs.timing.Checks.{is_at, step_at, number_or_step, named_in, number_within}
use Rattle.file_tables.specs.timing.Checks.{value_for}
use Rattle.file_tables.specs.timing.Timings.{after_row, after_record}
use Rattle.file_tables.specs.{timing.Row.Row, timing.Row.row_in}
use Rattle.base_memory.specs.CheckLaws.{choice_passed, filtered, found, passed, refusal_passed}
use Rattle.base_memory.specs.CheckLaws.{same_ok, tested}
use Rattle.base_memory.specs.Gives.{◌>>=◌, Gives, passes_or}
use Rattle.base_memory.specs.declared.stopped.Stopped.{Stopped}
use Rattle.model_timing.specs.StepOrderLaws.{All-with_step}

pub none_so_far : (line : Line) → IsSoFar line no_timings
none_so_far line = record { done = All-nil (IsNamedInside line); latest = tt }

-- a timing that opens has each parameter at its least
opened_inside : (line : Line) (name : List ℕ) → IsTimingInside line (opened line name).timing
opened_inside line name = record {
  count = length-map line.params.items (λ p. p.least);
  values = λ i inside.
      let least : i < length (leasts line.params.items) =
      omega (arith, length-map line.params.items (λ p. p.least)) in
      record { least = omega arith; greatest = (line.ends_in_range i least).0 };
  steps = All-nil (IsStepInside line);
}

in_by_tests : (least v greatest : ℕ) → nat_le least v && nat_le v greatest ≡ true
    → IsIn v (record { least = least; greatest = greatest })
in_by_tests least v greatest e =
    let p = and_parts (nat_le least v) (nat_le v greatest) e in
    record { least = leb-true least v p.0; greatest = leb-true v greatest p.1 }

within_is : (line : Line) (i : ℕ) (o : Option ℕ) (v : ℕ) → number_within line i o ≡ Some v
    → IsIn v (declared_ends line i)
within_is line i o v e =
    let least : ℕ = (declared_ends line i).least in
    let greatest : ℕ = (declared_ends line i).greatest in
    in_by_tests least v greatest (filtered (λ w. nat_le least w && nat_le w greatest) o v e).1

-- what a step of a file keeps
pub record IsStepNamed (line : Line) (i from : ℕ) : Type 0 where
  pub delay : is_delay line i ≡ true
  pub late : 1 ≤ from
  pub early : from < line.horizon

-- what a row names is a parameter, or a step that keeps this
abbrev pub IsGoodName : Line → Named → Type 0
IsGoodName line named.Nothing = Unit {0}
IsGoodName line (named.Number i) = Unit {0}
IsGoodName line (named.Step i from) = IsStepNamed line i from

step_is_good : (line : Line) (i from : Option ℕ) (x : Named) → step_at line i from ≡ Some x
    → IsGoodName line x
step_is_good line None from x e = absurd (cc)
step_is_good line (Some i) None x e = absurd (cc)
step_is_good line (Some i) (Some from) x e =
    let rest : Bool = nat_le 1 from && nat_lt from line.horizon in
    let p = tested (is_delay line i && rest) (Some (named.Step i from)) x e in
    let same : named.Step i from ≡ x = (let f = p.1 in cc) in
    let q = and_parts (is_delay line i) rest p.0 in
    let r = and_parts (nat_le 1 from) (nat_lt from line.horizon) q.1 in
    subst (λ (y : Named). IsGoodName line y) same (record {
      delay = q.0;
      late = leb-true 1 from r.0;
      early = ltb-true from line.horizon r.1;
    })

named_is_good : (line : Line) (field : List ℕ) (o : Option ℕ) (x : Named)
    → number_or_step line field o ≡ Some x → IsGoodName line x
named_is_good line field None x e =
    step_is_good line (param_named line (before_first is_at field))
    (number_of (after_first is_at field)) x e
named_is_good line field (Some i) x e =
    let same : named.Number i ≡ x = cc in
    subst (λ (y : Named). IsGoodName line y) same tt

field_is_good : (line : Line) (field : List ℕ) (x : Named) → named_in line field ≡ Some x
    → IsGoodName line x
field_is_good line [] x e =
    let same : named.Nothing ≡ x = cc in
    subst (λ (y : Named). IsGoodName line y) same tt
field_is_good line (b ∷ bs) x e = named_is_good line (b ∷ bs) (param_named line (b ∷ bs)) x e

-- one number set
set_inside : (line : Line) (t : OpenTiming) (i v : ℕ) → IsTimingInside line t.timing
    → IsIn v (declared_ends line i) → IsTimingInside line (with_row t (named.Number i) v).timing
set_inside line t i v all here = record {
  count = length-set t.timing.values i v ∙ all.count;
  values = λ j inside. elim (cases_eq j i) [
    | inl same ↦
        let at : i < length t.timing.values =
        (let c = all.count in let s = same in omega arith) in
        rw (same, get_or-set_same) here
    | inr other ↦ rw (get_or-set_other) (all.values j inside)
  ];
  steps = all.steps;
}

row_inside : (line : Line) (t : OpenTiming) (x : Named) (field : List ℕ) (v : ℕ)
    → IsTimingInside line t.timing → IsGoodName line x → value_for line x field ≡ Some v
    → IsTimingInside line (with_row t x v).timing
row_inside line t named.Nothing field v all good e = all
row_inside line t (named.Number i) field v all good e =
    set_inside line t i v all (within_is line i (number_of field) v e)
row_inside line t (named.Step i from) field v all good e = record {
  count = all.count;
  values = all.values;
  steps = All-with_step (IsStepInside line) (record { param = i; from = from; value = v })
      t.timing.steps
      (record {
        delay = good.delay;
        late = good.late;
        early = good.early;
        value = within_is line i (number_of field) v e;
      })
      all.steps;
}

-- what a row makes of its timing is inside
after_row_inside : (line : Line) (t : OpenTiming) (n : ℕ) (row : Row) (u : OpenTiming)
    → IsTimingInside line t.timing → after_row line t n row ≡ Ok u
    → IsTimingInside line u.timing
unfolding after_row
after_row_inside line t n row u all e =
    let last : Named → ℕ → Result OpenTiming TimingFault = λ x v.
    passes_or (not (is_given t x)) (fault.Twice n) >>= λ once. Ok (with_row t x v) in
    let value : Named → Result ℕ TimingFault = λ x.
    ok_or (value_for line x row.value) (fault.Value n) in
    let a =
    passed (ok_or (named_in line row.parameter) (fault.Parameter n)) (λ x. value x >>= last x) u e in
    let b = passed (value a.value) (last a.value) u a.rest in
    let c = passed (passes_or (not (is_given t a.value)) (fault.Twice n)) (λ once. Ok (with_row t a.value b.value)) u b.rest in
    let good = field_is_good line row.parameter a.value
    (found (named_in line row.parameter) (fault.Parameter n) a.value a.was) in
    subst (λ (x : OpenTiming). IsTimingInside line x.timing)
    (same_ok (with_row t a.value b.value) u c.rest)
    (row_inside line t a.value row.value b.value all good
    (found (value_for line a.value row.value) (fault.Value n) b.value b.was))

-- the timings before a row's and its own are inside
pub record IsOpening (line : Line) (x : Opening) : Type 0 where
  pub done : All (IsNamedInside line) x.done
  pub timing : IsTimingInside line x.timing.timing

latest_inside : (line : Line) (done : List NamedValues) (n : ℕ) (name : List ℕ) (t : OpenTiming)
    (x : Opening) → All (IsNamedInside line) done → IsTimingInside line t.timing
    → after_latest line done n name t ≡ Ok x → IsOpening line x
latest_inside line done n name t x all here e =
    let next : Opening = record { done = done ++ closed t ∷ []; timing = opened line name } in
    let room : Result Opening TimingFault =
    cond (nat_lt (length done + 1) 16) (Ok next) (Err fault.TooMany) in
    let other : Result Opening TimingFault =
    cond (is_earlier done name) (Err (fault.Order n)) room in
    elim (bytes_eq t.name name) as (λ b.
    cond b (Ok (record { done = done; timing = t })) other ≡ Ok x → IsOpening line x) [
      | true ↦ λ f. subst (λ (y : Opening). IsOpening line y)
          (same_ok (record { done = done; timing = t }) x f)
          (record { done = all; timing = here })
      | false ↦ λ f.
          let p = refusal_passed (is_earlier done name) room (fault.Order n) x f in
          let q = choice_passed (nat_lt (length done + 1) 16) (Ok next) fault.TooMany x p.1 in
          subst (λ (y : Opening). IsOpening line y) (same_ok next x q) (record {
            done = All-push (IsNamedInside line) done (closed t) all here;
            timing = opened_inside line name;
          })
    ] e

opening_inside : (line : Line) (done : List NamedValues) (n : ℕ) (name : List ℕ)
    (o : Option OpenTiming) (x : Opening) → All (IsNamedInside line) done
    → IfSome o (λ t. IsTimingInside line t.timing) → check_timing line done n name o ≡ Ok x
    → IsOpening line x
opening_inside line done n name None x all here e =
    subst (λ (y : Opening). IsOpening line y)
    (same_ok (record { done = done; timing = opened line name }) x e)
    (record { done = all; timing = opened_inside line name })
opening_inside line done n name (Some t) x all here e =
    latest_inside line done n name t x all here e

-- one record more
pub record_so_far : (line : Line) (s : TimingsSoFar) (n : ℕ) (fields : List (List ℕ))
    (t : TimingsSoFar) → IsSoFar line s → after_record line s n fields ≡ Ok t → IsSoFar line t
unfolding after_record
record_so_far line s n fields t so_far e =
    let end : Opening → OpenTiming → Result TimingsSoFar TimingFault = λ x u.
    Ok (record { done = x.done; latest = Some u }) in
    let own : Row → Opening → Result TimingsSoFar TimingFault = λ row x.
    after_row line x.timing n row >>= end x in
    let opening : Row → Result Opening TimingFault = λ row.
    check_timing line s.done n row.name s.latest in
    let name : Row → Result (Unit {0}) TimingFault = λ row.
    passes_or (is_plain_name row.name) (fault.BadName n) in
    let a = passed (ok_or (row_in fields) (fault.Fields n))
    (λ row. name row >>= λ plain. opening row >>= own row) t e in
    let b = passed (name a.value) (λ plain. opening a.value >>= own a.value) t a.rest in
    let c = passed (opening a.value) (own a.value) t b.rest in
    let d = passed (after_row line c.value.timing n a.value) (end c.value) t c.rest in
    let x = opening_inside line s.done n a.value.name s.latest c.value so_far.done so_far.latest
    c.was in
    let kept : IsSoFar line (record { done = c.value.done; latest = Some d.value }) = record {
      done = x.done;
      latest = after_row_inside line c.value.timing n a.value d.value x.timing d.was;
    } in
    subst (λ (y : TimingsSoFar). IsSoFar line y)
    (same_ok (record { done = c.value.done; latest = Some d.value }) t d.rest) kept

all_inside : (line : Line) (s : TimingsSoFar) → IsSoFar line s → All (IsNamedInside line) (all_timings s)
all_inside line s so_far =
    All-append (IsNamedInside line) s.done (one_or_none s.latest) so_far.done
    (last_inside line s.latest so_far.latest)
  where
    last_inside : (line : Line) (o : Option OpenTiming)
        → IfSome o (λ t. IsTimingInside line t.timing) → All (IsNamedInside line) (one_or_none o)
    last_inside line None here = All-nil (IsNamedInside line)
    last_inside line (Some t) here =
        All-cons (IsNamedInside line) (closed t) [] here (All-nil (IsNamedInside line))

values_inside : (line : Line) (ts : List NamedTiming) → All (IsNamedInside line) (map values_of ts)
    → All (λ t. IsTimingInside line t.timing) ts
values_inside line [] all = All-nil (λ t. IsTimingInside line t.timing)
values_inside line (t ∷ ts) all =
    All-cons (λ x. IsTimingInside line x.timing) t ts
    (All-head (IsNamedInside line) (values_of t) (map values_of ts) all)
    (values_inside line ts (All-tail (IsNamedInside line) (values_of t) (map values_of ts) all))

-- so is every timing that a reader gives
pub given_inside : (line : Line) (s : TimingsSoFar) (r : Result (Vec NamedTiming Global) (Stopped TimingFault))
    → IsSoFar line s → Gives (λ v. map values_of v.items) r (Ok (all_timings s))
    → IfOk r (λ v. All (λ t. IsTimingInside line t.timing) v.items)
given_inside line s (Ok v) so_far gives =
    values_inside line v.items (subst (λ (vs : List NamedValues). All (IsNamedInside line) vs)
    (same_ok {F = TimingFault} (all_timings s) (map values_of v.items) gives)
    (all_inside line s so_far))
given_inside line s (Err e) so_far gives = tt
