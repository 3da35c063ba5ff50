-- Parts with another interval, and the timings that lie in them.
use Rattle.std.proofs.Common.{not, true, false}
use Rattle.std.proofs.lemmas.List.{ext_get_or}
use Rattle.model_line.specs.declared.script.Script.{Script}
use Rattle.model_logic.specs.Histories.{History}
use Rattle.judge_match.specs.explain.Explains.{Explains}
use Rattle.judge_match.specs.explain.Parts.{IsExcludedByPlay}
use Rattle.judge_match.specs.explain.Asked.{AreSingle, AreLeast}
use Rattle.std.proofs.Common.{◌≡◌, ◌≢◌, ◌<◌, ◌≤◌, ◌+◌, ◌⊎◌, ℕ, Bool, List, [], length}
use Rattle.std.proofs.Common.{refl, sym, ◌∙◌, ap, subst, arith, ⊎_elim, inl, inr, length-set}
use Rattle.std.proofs.Common.{get_or-set_other, get_or-set_same}
use Rattle.std.proofs.lemmas.Bool.{cases_lt}
use Rattle.std.proofs.lemmas.List.FromFn.{length-map-range_with_len, get_or-map-range_with_len}
use Rattle.std.specs.Prelude.{get_or, slice_set}
use Rattle.model_history.specs.Rails.{Ends, single}
use Rattle.model_line.specs.{declared.line.Line.Line, Laws.DelaysAreParameters}
use Rattle.model_line.specs.Parameters.{param_count, delay_param, declared_ends}
use Rattle.model_line.specs.DelayLaws.{delay_within}
use Rattle.model_logic.specs.Choice.{IsIn, IsWithin}
use Rattle.model_timing.specs.{declared.step.Step.Step, Timing.TimingValues, Timing.number_at}
use Rattle.model_timing.specs.Choice.{timing_choice}
use Rattle.judge_match.specs.explain.Explains.{IsSteadyInside}
use Rattle.model_logic.specs.Boxes.{interval_of}
use Rattle.judge_match.specs.explain.Parts.{part_box, declared_part, LiesIn, CanPart}
use Rattle.judge_match.specs.explain.Parts.{lower_part, upper_part}
use Rattle.judge_match.specs.explain.Asked.{IsPart}

cases_is : (i j : ℕ) → (i ≡ j) ⊎ (i ≢ j)
cases_is i j = ⊎_elim
    (λ (below : i < j). let no : i ≢ j = omega arith in inr no)
    (λ (not_below : j ≤ i).
    ⊎_elim
    (λ (above : j < i). let no : i ≢ j = omega arith in inr no)
    (λ (not_above : i ≤ j). let e : i ≡ j = omega arith in inl e)
    (cases_lt j i))
    (cases_lt i j)

-- the intervals with one written
pub set_here : (part : List Ends) (param i : ℕ) (new : Ends) → i ≡ param → param < length part
    → interval_of (slice_set part param new) i ≡ new
set_here part param i new e there =
    ap (λ (j : ℕ). interval_of (slice_set part param new) j) e
    ∙ get_or-set_same part param new (single 0) there

pub set_elsewhere : (part : List Ends) (param i : ℕ) (new : Ends) → i ≢ param
    → interval_of (slice_set part param new) i ≡ interval_of part i
set_elsewhere part param i new other = get_or-set_other part param i new (single 0) other

module _ (delays : DelaysAreParameters) (line : Line) where
  -- a part with a narrower interval is a part
  pub narrower_is : (part : List Ends) (param : ℕ) (new : Ends) → IsPart line part
      → param < param_count line → (interval_of part param).least ≤ new.least
      → IsPart line (slice_set part param new)
  narrower_is part param new is there narrower = record {
    count = length-set part param new ∙ is.count;
    delays = λ c t lt early. ⊎_elim
        (λ (here : delay_param line c ≡ param).
        let long : param < length part = omega (arith, is.count) in
        let least : (interval_of (slice_set part param new) (delay_param line c)).least ≡ new.least =
        ap (λ (e : Ends). e.least) (set_here part param (delay_param line c) new here long) in
        let one : 1 ≤ (interval_of part (delay_param line c)).least = is.delays c t lt early in
        let same : (interval_of part (delay_param line c)).least ≡ (interval_of part param).least =
        ap (λ (i : ℕ). (interval_of part i).least) here in
        omega (arith, least, one, same, narrower))
        (λ (other : delay_param line c ≢ param).
        subst (λ (e : Ends). 1 ≤ e.least)
        (sym (set_elsewhere part param (delay_param line c) new other)) (is.delays c t lt early))
        (cases_is (delay_param line c) param);
  }

  pub declared_is : IsPart line (declared_part line)
  declared_is = record {
    count = length-map-range_with_len (declared_ends line) 0 (param_count line);
    delays = λ c t lt early.
        subst (λ (e : Ends). 1 ≤ e.least)
        (sym (get_or-map-range_with_len (declared_ends line) 0 (param_count line)
        (delay_param line c) (delay_param line c) (single 0) (delay_within line c lt) (omega arith)))
        (delays.from_one line (delay_param line c) (delays.told line c lt));
  }

  -- the choice of a timing in a part lies in the part's box
  steady_number : (timing : TimingValues) (param t own : ℕ) → timing.steps ≡ []
      → number_at timing.steps param t own ≡ own
  steady_number timing param t own steady =
      ap (λ (steps : List (Step ℕ)). number_at steps param t own) steady

  pub lies_within : (part : List Ends) (timing : TimingValues) → LiesIn line part timing
      → IsWithin line (timing_choice line timing) (part_box line part)
  unfolding timing_choice
  lies_within part timing lies = record {
    numbers = lies.numbers;
    delays = λ c t lt early.
        subst (λ (n : ℕ). IsIn n (interval_of part (delay_param line c)))
        (sym (steady_number timing (delay_param line c) t
        (get_or timing.values (delay_param line c) 0) lies.steady))
        (lies.numbers (delay_param line c) (delay_within line c lt));
  }

-- a timing inside lies in the declared part
pub declared_lies : (line : Line) (timing : TimingValues) → IsSteadyInside line timing
    → LiesIn line (declared_part line) timing
declared_lies line timing is = record {
  count = is.inside.count;
  numbers = λ i lt.
      subst (λ (e : Ends). IsIn (get_or timing.values i 0) e)
      (sym (get_or-map-range_with_len (declared_ends line) 0 (param_count line) i i (single 0) lt
      (omega arith)))
      (is.inside.values i lt);
  steady = is.steady;
}

-- ---- both sides

module _ (line : Line) (part : List Ends) (param mid : ℕ) (is : IsPart line part)
    (can : CanPart line part param mid) (timing : TimingValues) (lies : LiesIn line part timing) where
  number : ℕ
  number = get_or timing.values param 0

  there : param < length part
  there = let long : length part ≡ param_count line = is.count in omega (arith, can.exists)

  in_side : (new : Ends) → IsIn (get_or timing.values param 0) new
      → LiesIn line (slice_set part param new) timing
  in_side new inside = record {
    count = lies.count;
    numbers = λ i lt. ⊎_elim
        (λ (here : i ≡ param).
        subst (λ (j : ℕ). IsIn (get_or timing.values j 0) (interval_of (slice_set part param new) j))
        (sym here)
        (subst (λ (e : Ends). IsIn (get_or timing.values param 0) e)
        (sym (set_here part param param new refl there)) inside))
        (λ (other : i ≢ param).
        subst (λ (e : Ends). IsIn (get_or timing.values i 0) e)
        (sym (set_elsewhere part param i new other)) (lies.numbers i lt))
        (cases_is i param);
    steady = lies.steady;
  }

  pub lies_in_one : LiesIn line (lower_part part param mid) timing
      ⊎ LiesIn line (upper_part part param mid) timing
  lies_in_one =
      let own = lies.numbers param can.exists in
      ⊎_elim
      (λ (above : mid < get_or timing.values param 0).
      inr (in_side (record { least = mid + 1; greatest = (interval_of part param).greatest })
      (record { least = omega arith; greatest = own.greatest })))
      (λ (not_above : get_or timing.values param 0 ≤ mid).
      inl (in_side (record { least = (interval_of part param).least; greatest = mid })
      (record { least = own.least; greatest = not_above })))
      (cases_lt mid (get_or timing.values param 0))

-- the sides are parts
module _ (delays : DelaysAreParameters) (line : Line) (part : List Ends) (param mid : ℕ)
    (is : IsPart line part) (can : CanPart line part param mid) where
  pub lower_is : IsPart line (lower_part part param mid)
  lower_is =
      let low : (interval_of part param).least ≤ (interval_of part param).least = omega arith in
      narrower_is delays line part param
      (record { least = (interval_of part param).least; greatest = mid }) is can.exists low

  pub upper_is : IsPart line (upper_part part param mid)
  upper_is =
      let low : (interval_of part param).least ≤ mid + 1 = omega (arith, can.above) in
      narrower_is delays line part param
      (record { least = mid + 1; greatest = (interval_of part param).greatest }) is can.exists low

-- ---- one timing alone

not_both : (b : Bool) → not b ≡ true → b ≡ true → ⊥
not_both true off on = let no : false ≡ true = off in absurd (cc)
not_both false off on = let no : false ≡ true = on in absurd (cc)

abbrev timing_by : List ℕ → List (Step ℕ) → TimingValues
timing_by values steps = record { values = values; steps = steps }

pub only_one : (line : Line) (part : List Ends) (values : List ℕ) (other : TimingValues)
    → length part ≡ param_count line → AreSingle part → AreLeast part values
    → LiesIn line part other → other ≡ record { values = values; steps = [] }
only_one line part values other count single least lies =
    let same : other.values ≡ values =
    ext_get_or 0 other.values values (lies.count ∙ sym count ∙ sym least.count)
    (λ i below.
    let inside : i < param_count line = omega (arith, below, lies.count) in
    let there : i < length part = omega (arith, inside, count) in
    let one = lies.numbers i inside in
    omega (arith, one.least, one.greatest, single i there, least.each i there)) in
    ap (λ (xs : List ℕ). timing_by xs other.steps) same
    ∙ ap (λ (steps : List (Step ℕ)). timing_by values steps) lies.steady

pub fails_alone : (line : Line) (script : Script) (within : ℕ) (recorded : History)
    (part : List Ends) (values : List ℕ) (timing : TimingValues) (b : Bool)
    → length part ≡ param_count line → AreSingle part → AreLeast part values
    → timing ≡ record { values = values; steps = [] } → not b ≡ true
    → (Explains line script within recorded timing → b ≡ true)
    → IsExcludedByPlay line script within recorded part
fails_alone line script within recorded part values timing b count single least is off told = record {
  timing = timing;
  only = λ other lies. only_one line part values other count single least lies ∙ sym is;
  fails = λ explains. not_both b off (told explains);
}
