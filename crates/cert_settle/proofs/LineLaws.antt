-- A line tells what it says.
use Rattle.std.proofs.Common.{◌≡◌, ◌<◌, ◌^◌, ℕ, List, ◌∷◌, ◌++◌, drop, refl, sym, ◌∙◌, ap}
use Rattle.std.proofs.Common.{arith, decimal, inl, inr, append_assoc}
use Rattle.std.proofs.lemmas.Bool.{cases_order}
use Rattle.std.proofs.lemmas.List.{append_cancel_left}
use Rattle.model_line.specs.{declared.line.Line.Line, Parameters.param_count}
use Rattle.model_line.specs.Parameters.{terminal_count}
use Rattle.model_line.specs.NamesByNumber.{parameter_name}
use Rattle.model_timing.specs.{declared.step.Step.Step, Inside.IsStepInside}
use Rattle.base_text.specs.lines.Named.{named}
use Rattle.model_settle.specs.Assumed.{HasSpan}
use Rattle.judge_cases.specs.AssumedAt.{span_at}
use Rattle.cert_settle.specs.Known.{Known}
use Rattle.cert_settle.specs.Grammar.{name_of_terminal, step_line, step_text, span_line}
use Rattle.cert_settle.proofs.NumberLaws.{IsAt, no_at}
use Rattle.cert_split.specs.text.StretchLaws.{backs_tell, fronts_tell, Unmarked}
use Rattle.cert_split.specs.text.NumberLaws.{IsSpace, no_space, one_number}
use Rattle.cert_split.specs.text.ParamLaws.{one_param}

-- a line of a word, a name and a number tells the name and the number
pub one_named : (word name other : List ℕ) (n m : ℕ) → n < 2 ^ 32 → m < 2 ^ 32
    → named word name (decimal n) ≡ named word other (decimal m) → (name ≡ other) × (n ≡ m)
one_named word name other n m small little same =
    let parts = backs_tell IsSpace name other (decimal n) (decimal m) 32 32 refl refl
    (no_space n small) (no_space m little)
    (ap (drop 1) (append_cancel_left word (32 ∷ (name ++ (32 ∷ decimal n)))
    (32 ∷ (other ++ (32 ∷ decimal m))) same)) in
    (parts.0, one_number n m small little parts.1)

-- a line of a terminal and its ticks tells all three
pub one_span : (name other : List ℕ) (from since to until : ℕ) → from < 2 ^ 32 → since < 2 ^ 32
    → to < 2 ^ 32 → until < 2 ^ 32 → span_line name from to ≡ span_line other since until
    → (name ≡ other) × ((from ≡ since) × (to ≡ until))
one_span name other from since to until a b c d same =
    let whole : name ++ (32 ∷ (decimal from ++ (32 ∷ decimal to)))
    ≡ other ++ (32 ∷ (decimal since ++ (32 ∷ decimal until))) = ap (drop 3) same in
    let joined : (name ++ (32 ∷ decimal from)) ++ (32 ∷ decimal to)
    ≡ (other ++ (32 ∷ decimal since)) ++ (32 ∷ decimal until) =
    append_assoc name (32 ∷ decimal from) (32 ∷ decimal to) ∙ whole
    ∙ sym (append_assoc other (32 ∷ decimal since) (32 ∷ decimal until)) in
    let ends = backs_tell IsSpace (name ++ (32 ∷ decimal from)) (other ++ (32 ∷ decimal since))
    (decimal to) (decimal until) 32 32 refl refl (no_space to c) (no_space until d) joined in
    let fronts = backs_tell IsSpace name other (decimal from) (decimal since) 32 32 refl refl
    (no_space from a) (no_space since b) ends.0 in
    (fronts.0, (one_number from since a b fronts.1, one_number to until c d ends.1))

-- the ticks of a span are small
pub span_small : (line : Line) (terminal from to : ℕ) → HasSpan line (span_at terminal from to)
    → (from < 2 ^ 32) × (to < 2 ^ 32)
span_small line terminal from to has =
    let range = line.horizon_in_range.1 in (
      omega (arith, has.some, has.run, range),
      omega (arith, has.run, range),
    )

pub one_terminal : (line : Line) (p q : ℕ) → p < terminal_count line → q < terminal_count line
    → name_of_terminal line p ≡ name_of_terminal line q → p ≡ q
one_terminal line p q here there same =
    elim (cases_order p q) [
      | inl is ↦ is
      | inr (inl less) ↦ absurd (line.names_once p q less there same)
      | inr (inr more) ↦ absurd (line.names_once q p more here (sym same))
    ]

-- ---- steps

-- the tick and the number of a step are small
pub step_small : Known → (line : Line) (step : Step ℕ) → IsStepInside line step
    → (step.param < param_count line) × ((step.from < 2 ^ 32) × (step.value < 2 ^ 32))
step_small known line step inside =
    let here = known.delays.exists line step.param inside.delay in
    let most = known.intervals.within line step.param here in
    let range = line.horizon_in_range.1 in (
      here,
      (
        omega (arith, inside.early, range),
        omega (arith, inside.value.greatest, most),
      ),
    )

one_step_line : (name other : List ℕ) (from since value number : ℕ) → from < 2 ^ 32
    → since < 2 ^ 32 → value < 2 ^ 32 → number < 2 ^ 32
    → (n : Unmarked IsAt name) → (o : Unmarked IsAt other)
    → step_line name from value ≡ step_line other since number
    → (name ≡ other) × ((from ≡ since) × (value ≡ number))
one_step_line name other from since value number a b c d n o same =
    let names = fronts_tell IsAt name other (64 ∷ (decimal from ++ (32 ∷ decimal value)))
    (64 ∷ (decimal since ++ (32 ∷ decimal number))) n o refl refl (ap (drop 5) same) in
    let ticks = fronts_tell IsSpace (decimal from) (decimal since) (32 ∷ decimal value)
    (32 ∷ decimal number) (no_space from a) (no_space since b) refl refl
    (ap (drop 1) names.1) in (
      names.0,
      (
        one_number from since a b ticks.0,
        one_number value number c d (ap (drop 1) ticks.1),
      ),
    )

pub one_step : Known → (line : Line) (s t : Step ℕ) → IsStepInside line s → IsStepInside line t
    → step_text line s ≡ step_text line t → s ≡ t
one_step known line s t a b same =
    let x = step_small known line s a in
    let y = step_small known line t b in
    let parts = one_step_line (parameter_name line s.param) (parameter_name line t.param) s.from
    t.from s.value t.value x.1.0 y.1.0 x.1.1 y.1.1
    (no_at (parameter_name line s.param) ((known.names line).no_at s.param x.0))
    (no_at (parameter_name line t.param) ((known.names line).no_at t.param y.0)) same in
    let param : s.param ≡ t.param =
    one_param line (known.names line) s.param t.param x.0 y.0 parts.0 in
    ap (λ (p : ℕ). record { param = p; from = s.from; value = s.value }) param
    ∙ ap (λ (f : ℕ). record { param = t.param; from = f; value = s.value }) parts.1.0
    ∙ ap (λ (v : ℕ). record { param = t.param; from = t.from; value = v }) parts.1.1

-- a line of a word, a name and a number tells the number
pub one_after : (word name : List ℕ) (n m : ℕ) → n < 2 ^ 32 → m < 2 ^ 32
    → named word name (decimal n) ≡ named word name (decimal m) → n ≡ m
one_after word name n m small little same = (one_named word name name n m small little same).1

-- a line of a terminal and its ticks tells the ticks
pub one_ticks : (name : List ℕ) (from since to until : ℕ) → from < 2 ^ 32 → since < 2 ^ 32
    → to < 2 ^ 32 → until < 2 ^ 32 → span_line name from to ≡ span_line name since until
    → (from ≡ since) × (to ≡ until)
one_ticks name from since to until a b c d same =
    (one_span name name from since to until a b c d same).1

-- a line of a delay, a tick and a number tells the step that it is of
pub told_step : Known → (line : Line) (step : Step ℕ) (param from value : ℕ)
    → step.param ≡ param → IsStepInside line step → param < param_count line → from < 2 ^ 32
    → value < 2 ^ 32 → step_text line step ≡ step_line (parameter_name line param) from value
    → step ≡ record { param = param; from = from; value = value }
told_step known line step param from value here inside exists small little same =
    let x = step_small known line step inside in
    let parts = one_step_line (parameter_name line step.param) (parameter_name line param) step.from
    from step.value value x.1.0 small x.1.1 little
    (no_at (parameter_name line step.param) ((known.names line).no_at step.param x.0))
    (no_at (parameter_name line param) ((known.names line).no_at param exists)) same in
    ap (λ (p : ℕ). record { param = p; from = step.from; value = step.value }) here
    ∙ ap (λ (f : ℕ). record { param = param; from = f; value = step.value }) parts.1.0
    ∙ ap (λ (v : ℕ). record { param = param; from = from; value = v }) parts.1.1
