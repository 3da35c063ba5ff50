-- The script of a fault is that of the study's words.
use Rattle.std.proofs.Common.{◌≡◌, ◌≤◌, ◌+◌, ◌/◌, ◌%◌, ◌&&◌, ◌||◌, ℕ, Bool, true, List, [], ◌∷◌, length}
use Rattle.std.proofs.Common.{refl, sym, ap, subst, arith, ◌∙◌, zero, suc}
use Rattle.std.specs.Prelude.{get_or, nat_eq, nat_le, nat_lt}
use Rattle.std.specs.List.{list_any, list_all}
use Rattle.model_history.specs.Rails.{Ends, single}
use Rattle.model_line.specs.Seen.{is_of_place, is_of_loss}
use Rattle.model_line.specs.declared.script.{Kind.Kind, What.What}
use Rattle.model_line.specs.declared.script.Kind.TheVariants.{Internal}
use Rattle.model_borders.specs.Borders.{AreLengthsIn, holds_at, shown_at, stands, sum_below}
use Rattle.model_borders.specs.declared.script.{LooseScript.LooseScript, LooseSpan.LooseSpan}
use Rattle.file_study.specs.study.Faults.{FaultValues, StageValues}
use Rattle.file_study.specs.sweeps.Choices.{choice_of, lasts_at, value_at}
use Rattle.file_study.specs.sweeps.Scripts.{deadline_of}
use Rattle.file_study.specs.sweeps.Spans as exact
use Rattle.file_borders.specs.declared.drawn.At.{At}
use Rattle.file_borders.specs.declared.loose.LooseFault.{LooseFault}
use Rattle.file_borders.specs.Drawn.{AreBorders, Drawing, drawing_of, part_of}
use Rattle.file_borders.specs.Exact.{exact_fault, exact_script, exact_stages}
use Rattle.file_borders.specs.Loose.{IsAccepted, IsLooseOf, has_one_time}
use Rattle.file_borders.proofs.Times.{at_time, no_times, place, some, stands_at}
use Rattle.file_borders.proofs.Spans.{both_of, here, holds}
use Rattle.file_borders.proofs.Alike.{Grows, all_drawn}
use Rattle.file_borders.proofs.Begins.{Starts, first_stands, starts_drawn}
use Rattle.file_borders.proofs.Steps.{as_many, few_ticks, many_drawn}

one_of : (n : ℕ) → nat_eq n 1 ≡ true → n ≡ 1
one_of n e = grind arith

none_plus : (j : ℕ) → 0 + j ≡ j
none_plus j = omega arith

-- the first choice of times that have one value each
first_choice : (start within : List ℕ) (stages : List StageValues) → length start ≡ 1 → length within ≡ 1
    → (value_at start 0 ≡ get_or start 0 0)
    × (value_at within (0 / length start) ≡ get_or within 0 0)
    × (lasts_at stages (0 / length start / length within) ≡ lasts_at stages 0)
first_choice start within stages one two = (
  ap (λ (n : ℕ). get_or start (0 % n) 0) one,
  ap (λ (n : ℕ). get_or within ((0 / n) % length within) 0) one
      ∙ ap (λ (n : ℕ). get_or within (0 % n) 0) two,
  ap (λ (n : ℕ). lasts_at stages (0 / n / length within)) one
      ∙ ap (λ (n : ℕ). lasts_at stages (0 / n)) two,
)

module _ (f : FaultValues) (accepted : IsAccepted f) (x : ℕ → ℕ)
    (in_part : AreLengthsIn 1 (part_of f.stages) x) where
  abbrev m : ℕ
  m = length (part_of f.stages)

  abbrev begin : ℕ
  begin = get_or f.start 0 0

  abbrev first : At
  first = record { ticks = begin; lengths = 0 }

  none : (n : ℕ) → sum_below (some 0 x) n ≡ 0
  none zero = refl
  none (suc n) = omega (arith, none n, no_times (x n))

  no_sum : (n : ℕ) → at_time n x first ≡ begin
  no_sum n = omega (arith, none n)

  unswept : (length f.start ≡ 1) × (length f.trip_within ≡ 1) × (list_all has_one_time f.stages ≡ true)
  unswept =
      let one = both_of (nat_eq (length f.start) 1)
      (nat_eq (length f.trip_within) 1 && list_all has_one_time f.stages) accepted.unswept in
      let two = both_of (nat_eq (length f.trip_within) 1) (list_all has_one_time f.stages) one.1 in
      (one_of (length f.start) one.0, one_of (length f.trip_within) two.0, two.1)

  pub drawn : Grows m x (record { borders = first ∷ []; spans = [] }) (drawing_of begin f.stages)
      (exact.spans_of begin (lasts_at (exact_stages x 0 f.stages) 0) (exact_stages x 0 f.stages) [])
  drawn =
      all_drawn m x f.stages first 0 begin (record { borders = first ∷ []; spans = [] }) [] (no_sum m)
      accepted.in_time unswept.2 (omega arith)
      (record {
        later = λ j lt. subst (λ (n : ℕ). (get_or (part_of f.stages) j (single 0)).least ≤ x n)
            (sym (none_plus j)) (omega (arith, in_part.least j lt));
      })
      (record { there = omega arith; at = no_sum m })
      (record { fine = tt; ordered = tt; alike = λ is_of t. refl })

  pub begins : place m x (drawing_of begin f.stages).borders 0 ≡ begin
  begins = (drawn.keeps 0 begin (record { there = omega arith; at = no_sum m })).at

  pub shows : (is_of : What → Bool) (t : ℕ)
      → list_any (holds is_of t m x (drawing_of begin f.stages).borders) (drawing_of begin f.stages).spans
      ≡ list_any (here is_of t) (exact_script x f).spans
  shows is_of t =
      let values = first_choice f.start f.trip_within (exact_stages x 0 f.stages) unswept.0 unswept.1 in
      drawn.same.alike is_of t
      ∙ ap (λ (l : List ℕ). list_any (here is_of t) (exact.spans_of begin l (exact_stages x 0 f.stages) []))
      (sym values.2)
      ∙ ap (λ (n : ℕ). list_any (here is_of t) (exact.spans_of n
      (choice_of (exact_fault x f) 0).lasts (exact_stages x 0 f.stages) [])) (sym values.0)

  pub deadline : f.kind ≡ Internal → (exact_script x f).deadline ≡ begin + get_or f.trip_within 0 0
  deadline internal =
      let values = first_choice f.start f.trip_within (exact_stages x 0 f.stages) unswept.0 unswept.1 in
      ap (λ (k : Kind). deadline_of k (choice_of (exact_fault x f) 0)) internal
      ∙ ap (λ (n : ℕ). n + value_at f.trip_within (0 / length f.start)) values.0
      ∙ ap (λ (n : ℕ). begin + n) values.1

-- the same by the borders of a script
module _ (is_of : What → Bool) (t m : ℕ) (x : ℕ → ℕ) (ats : List At) (script : LooseScript)
    (are : AreBorders ats script.borders.items) where
  abbrev own : LooseSpan → Bool
  own span = is_of span.what && holds_at 1 script m x t span

  one_own : (span : LooseSpan) → own span ≡ holds is_of t m x ats span
  one_own span =
      ap (λ (n : ℕ). is_of span.what && (nat_le n t && nat_lt t (stands 1 script.borders.items m x span.to)))
      (stands_at m x ats script.borders.items span.from are)
      ∙ ap (λ (n : ℕ). is_of span.what && (nat_le (place m x ats span.from) t && nat_lt t n))
      (stands_at m x ats script.borders.items span.to are)

  pub all_own : (spans : List LooseSpan) → list_any own spans ≡ list_any (holds is_of t m x ats) spans
  all_own [] = refl
  all_own (span ∷ more) =
      ap (λ (b : Bool). b || list_any own more) (one_own span)
      ∙ ap (λ (b : Bool). holds is_of t m x ats span || b) (all_own more)

module _ (f : FaultValues) (accepted : IsAccepted f) (loose : LooseFault) (ats : List At)
    (kind : loose.kind ≡ f.kind) (within : loose.within ≡ get_or f.trip_within 0 0)
    (part : loose.part.items ≡ part_of f.stages)
    (drawing : record { borders = ats; spans = loose.script.spans.items } ≡ drawing_of (get_or f.start 0 0) f.stages)
    (are : AreBorders ats loose.script.borders.items) where
  abbrev end : Drawing
  end = drawing_of (get_or f.start 0 0) f.stages

  ats_are : ats ≡ end.borders
  ats_are = ap (λ (d : Drawing). d.borders) drawing

  spans_are : loose.script.spans.items ≡ end.spans
  spans_are = ap (λ (d : Drawing). d.spans) drawing

  inside : (x : ℕ → ℕ) → AreLengthsIn 1 loose.part.items x → AreLengthsIn 1 (part_of f.stages) x
  inside x is = subst (λ (p : List Ends). AreLengthsIn 1 p x) part is

  many : length loose.part.items ≡ length (part_of f.stages)
  many = ap (λ (p : List Ends). length p) part

  whole : (is_of : What → Bool) (t : ℕ) (x : ℕ → ℕ) → AreLengthsIn 1 loose.part.items x
      → list_any (own is_of t (length loose.part.items) x ats loose.script are) loose.script.spans.items
      ≡ list_any (here is_of t) (exact_script x f).spans
  whole is_of t x is =
      all_own is_of t (length loose.part.items) x ats loose.script are loose.script.spans.items
      ∙ ap (λ (n : ℕ). list_any (holds is_of t n x ats) loose.script.spans.items) many
      ∙ ap (λ (a : List At). list_any (holds is_of t (length (part_of f.stages)) x a) loose.script.spans.items) ats_are
      ∙ ap (λ (s : List LooseSpan). list_any (holds is_of t (length (part_of f.stages)) x end.borders) s) spans_are
      ∙ shows f accepted x (inside x is) is_of t

  pub loose_is : IsLooseOf f loose
  unfolding shown_at
  loose_is = record {
    kind = kind;
    part = part;
    few = omega (arith, many, accepted.few);
    borders =
        let one = as_many ats loose.script.borders.items are in
        let two : length ats ≡ length end.borders = ap (λ (a : List At). length a) ats_are in
        let three = many_drawn f.stages (record { ticks = get_or f.start 0 0; lengths = 0 }) 0
        (record { borders = record { ticks = get_or f.start 0 0; lengths = 0 } ∷ []; spans = [] }) in
        omega (arith, one, two, three, accepted.borders);
    within = omega (arith, within, (few_ticks f accepted.ends).1);
    within_is = within;
    starts = λ n x.
        first_stands n (length loose.part.items) x (record { ticks = get_or f.start 0 0; lengths = 0 }) ats
        loose.script.borders.items refl
        (subst (λ (a : List At). Starts (record { ticks = get_or f.start 0 0; lengths = 0 }) a) (sym ats_are)
        (starts_drawn (record { ticks = get_or f.start 0 0; lengths = 0 }) (record { ticks = get_or f.start 0 0; lengths = 0 }) 0
        f.stages (record { borders = record { ticks = get_or f.start 0 0; lengths = 0 } ∷ []; spans = [] }) refl))
        are;
    deadline = λ x is internal.
        deadline f accepted x (inside x is) (sym kind ∙ internal)
        ∙ ap (λ (n : ℕ). n + get_or f.trip_within 0 0) (sym (begins f accepted x (inside x is)))
        ∙ ap (λ (n : ℕ). place n x end.borders 0 + get_or f.trip_within 0 0) (sym many)
        ∙ ap (λ (a : List At). place (length loose.part.items) x a 0 + get_or f.trip_within 0 0) (sym ats_are)
        ∙ ap (λ (n : ℕ). n + get_or f.trip_within 0 0)
        (sym (stands_at (length loose.part.items) x ats loose.script.borders.items 0 are))
        ∙ ap (λ (n : ℕ). stands 1 loose.script.borders.items (length loose.part.items) x 0 + n) (sym within);
    shown = λ x is. record {
      seen = λ p t. whole (is_of_place p) t x is;
      lost = λ c t. whole (is_of_loss c) t x is;
    };
  }
