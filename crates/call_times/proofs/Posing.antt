-- A fault that can be answered is put so that the search can answer it.
use Rattle.std.proofs.Common.{◌≡◌, ◌≤◌, ◌<◌, ◌+◌, ◌*◌, ℕ, List, length, sym, ap, subst, arith, ◌∙◌}
use Rattle.std.proofs.lemmas.List.{length-map}
use Rattle.std.specs.Prelude.{get_or}
use Rattle.model_history.specs.Rails.{Ends, single}
use Rattle.model_line.specs.declared.{line.Line.Line, line.Param.Param, line.Channel.Channel}
use Rattle.model_line.specs.Laws.{DelaysAreParameters}
use Rattle.model_line.specs.Parameters.{channel_count, declared_ends, delay_param, param_count}
use Rattle.model_fine.specs.Onward.{IsPlayedOn}
use Rattle.model_borders.specs.Borders.{stands}
use Rattle.file_borders.specs.Studies.{IsAnswerable}
use Rattle.file_borders.specs.declared.loose.LooseFault.{LooseFault}
use Rattle.judge_verdict.specs.verdict.Spans.{declared_span, declared_spans}
use Rattle.judge_borders.specs.Parts.{line_of}
use Rattle.judge_times.specs.Answers.{exact_of}
use Rattle.judge_times.specs.declared.fault.Uncertain.{Uncertain}
use Rattle.call_times.specs.Posed.{IsPosed, asked_of}
use Rattle.call_times.specs.Question.{Question, question_of}
use Rattle.call_times.proofs.Boxes.{delay_same, span_at}

module _ (laws : DelaysAreParameters) (of : Uncertain) (loose : LooseFault)
    (can : IsAnswerable (exact_of of) loose) (on : IsPlayedOn (exact_of of) (line_of of.fault))
    (spans : of.fault.spans.now ≡ declared_spans (exact_of of))
    (is : asked_of of loose.part.items ≡ question_of (exact_of of) loose) where
  abbrev own : Line
  own = exact_of of

  abbrev long : Line
  long = line_of of.fault

  one_each : length of.fault.spans.now ≡ param_count long
  one_each =
      ap (λ (l : List Ends). length l) spans
      ∙ length-map own.params.items declared_span
      ∙ sym (ap (λ (l : List Param). length l) on.params)

  delayed : (c : ℕ) → c < channel_count long
      → 1 ≤ (get_or of.fault.spans.now (delay_param long c) (single 0)).least
  delayed c lt =
      let there : c < channel_count own = subst (λ (l : List Channel). c < length l) on.channels lt in
      let first : 1 ≤ (declared_ends own (delay_param own c)).least =
      laws.from_one own (delay_param own c) (laws.told own c there) in
      let same : get_or of.fault.spans.now (delay_param long c) (single 0)
      ≡ declared_ends own (delay_param own c) =
      span_at own of.fault.spans.now spans (delay_param long c)
      ∙ ap (declared_ends own) (delay_same own long on c) in
      subst (λ (e : Ends). 1 ≤ e.least) (sym same) first

  within : of.fault.asked.within ≤ 4000
  within = subst (λ (q : Question). q.within ≤ 4000) (sym is) can.within

  borders : length of.fault.script.now.borders.items ≤ 100
  borders = subst (λ (q : Question). length q.script.borders.items ≤ 100) (sym is) can.borders

  same_end : own.horizon ≤ own.horizon
  same_end = omega arith

  ends : of.fault.asked.end ≤ own.horizon
  ends = subst (λ (q : Question). q.end ≤ own.horizon) (sym is) same_end

  abbrev Before : Question → Type 0
  Before q =
      (n : ℕ) (x : ℕ → ℕ) → 1 ≤ n
      → stands n q.script.borders.items (length q.part) x q.counted + q.within * n < own.horizon * n

  before : Before (asked_of of loose.part.items)
  before = subst (λ (q : Question). Before q) (sym is) can.before

  pub posed_is : IsPosed of loose.part.items
  posed_is = record {
    can = record {
      can = record {
        one_each = one_each;
        delayed = delayed;
        within = within;
        end = omega (arith, ends, own.horizon_in_range.1);
      };
      borders = borders;
    };
    part = record { few = omega (arith, can.few); ordered = can.ordered };
    some = can.some;
    on = on;
    spans = spans;
    before = before;
    end = ends;
  }
