-- The timing of each number at its end and of the worst delays as steps.
use Rattle.std.proofs.Common.{◌≡◌, ℕ, ◌<◌, List, map, length, get_or, sym, ap, ◌∙◌, subst}
use Rattle.std.proofs.Common.{arith}
use Rattle.std.proofs.lemmas.List.{length-map}
use Rattle.std.proofs.lemmas.List.FromFn.{get_or-map-range_with_len, length-range_with_len}
use Rattle.std.specs.List.{range_with_len}
use Rattle.run_signal.specs.Spans.{ends_of}
use Rattle.model_line.specs.Parameters.{param_count, channel_count, delay_param, declared_ends}
use Rattle.model_line.specs.Channels.{from_of}
use Rattle.model_line.specs.{declared.line.Line.Line, Laws.DeclaredIntervalsAreInOrder}
use Rattle.model_logic.specs.Choice.{IsIn, declared_box}
use Rattle.model_logic.specs.Histories.{PairHistory}
use Rattle.model_timing.specs.declared.step.Step.{Step}
use Rattle.model_timing.specs.Timing.{TimingValues}
use Rattle.model_timing.specs.{Inside.IsTimingInside, Choice.timing_choice, Choice.IsSameChoice}
use Rattle.model_settle.specs.Sides.{Rail}
use Rattle.model_settle.specs.Worst.{worst_choice, worst_delay}
use Rattle.model_settle.specs.Schemes.{scheme_sides, key_rail}
use Rattle.model_settle.specs.PolarityLaws.{WorstDelaysAreRails}
use Rattle.model_settle.specs.SideLaws.{number_within}
use Rattle.judge_settle.specs.{corner.Corner.worst_number, corner.Corner.corner, corner.Steps.AreStepsUpTo}

module _ (line : Line) (rail : Rail) where
  abbrev pub numbers : List ℕ
  numbers = map (worst_number line rail) (range_with_len 0 (param_count line))

  pub count : length numbers ≡ param_count line
  count =
      length-map (range_with_len 0 (param_count line)) (worst_number line rail)
      ∙ length-range_with_len 0 (param_count line)

  number : (i : ℕ) → i < param_count line → get_or numbers i 0 ≡ worst_number line rail i
  number i below =
      get_or-map-range_with_len (worst_number line rail) 0 (param_count line) i i 0 below
      (omega arith)

  -- ---- the delays

  module _ (w : PairHistory) (c t : ℕ) where
    abbrev sends : ℕ
    sends = from_of line.channels.items c

    pub delay_is : (r : Rail) (s p least greatest d : ℕ) → r ≡ key_rail line.scheme rail → s ≡ sends
        → p ≡ delay_param line c → least ≡ (declared_ends line p).least
        → greatest ≡ (declared_ends line p).greatest
        → d ≡ worst_delay r (w.key s) (ends_of least greatest) t
        → d ≡ (corner line rail w).delay c t
    unfolding worst_choice declared_box
    delay_is r s p least greatest d r_is s_is p_is least_is greatest_is is =
        let on : Rail = key_rail line.scheme rail in
        is
        ∙ ap (λ (x : Rail). worst_delay x (w.key s) (ends_of least greatest) t) r_is
        ∙ ap (λ (x : ℕ). worst_delay on (w.key x) (ends_of least greatest) t) s_is
        ∙ ap (λ (x : ℕ). worst_delay on (w.key sends) (ends_of x greatest) t) least_is
        ∙ ap (λ (x : ℕ). worst_delay on (w.key sends) (ends_of (declared_ends line p).least x) t)
        greatest_is
        ∙ ap (λ (x : ℕ). worst_delay on (w.key sends) (declared_ends line x) t) p_is

    pub delay_inside : WorstDelaysAreRails → DeclaredIntervalsAreInOrder
        → delay_param line c < param_count line
        → IsIn ((corner line rail w).delay c t) (declared_ends line (delay_param line c))
    unfolding worst_choice declared_box
    delay_inside delays in_order below =
        delays.within (key_rail line.scheme rail) (w.key sends)
        (declared_ends line (delay_param line c)) t
        (in_order.ordered line (delay_param line c) below)

  -- ---- the timing

  module _ (w : PairHistory) (steps : List (Step ℕ))
      (are : AreStepsUpTo line (corner line rail w).delay numbers (channel_count line) 1 steps)
    where
      abbrev timing : TimingValues
      timing = record { values = numbers; steps = steps }

      pub timing_inside : DeclaredIntervalsAreInOrder → IsTimingInside line timing
      timing_inside in_order = record {
        count = count;
        values = λ i below.
            subst (λ (n : ℕ). IsIn n (declared_ends line i)) (sym (number i below))
            (number_within ((scheme_sides line rail).end_of i) (declared_ends line i)
            (in_order.ordered line i below));
        steps = are.inside;
      }

      pub timing_is_worst : IsSameChoice line (timing_choice line timing) (corner line rail w)
      unfolding timing_choice worst_choice declared_box
      timing_is_worst = record {
        numbers = λ i below. number i below;
        delays = λ c t below late early. are.done c t below late early;
      }

  -- the timing that is made of these numbers and steps
  module _ (w : PairHistory) (xs : List ℕ) (made : xs ≡ numbers) (lent : List ℕ) (same : lent ≡ xs)
      (steps : List (Step ℕ))
      (are : AreStepsUpTo line (corner line rail w).delay lent (channel_count line) 1 steps)
      (it : TimingValues) (is : it ≡ record { values = xs; steps = steps }) where
    of_numbers : AreStepsUpTo line (corner line rail w).delay numbers (channel_count line) 1 steps
    of_numbers =
        subst (λ (ys : List ℕ). AreStepsUpTo line (corner line rail w).delay ys (channel_count line)
        1 steps) (same ∙ made) are

    abbrev with_numbers : List ℕ → TimingValues
    with_numbers ys = record { values = ys; steps = steps }

    is_timing : it ≡ timing w steps of_numbers
    is_timing = is ∙ ap with_numbers made

    pub made_inside : DeclaredIntervalsAreInOrder → IsTimingInside line it
    made_inside in_order =
        subst (IsTimingInside line) (sym is_timing) (timing_inside w steps of_numbers in_order)

    pub made_worst : IsSameChoice line (timing_choice line it) (corner line rail w)
    made_worst =
        subst (λ (x : TimingValues). IsSameChoice line (timing_choice line x) (corner line rail w))
        (sym is_timing) (timing_is_worst w steps of_numbers)
