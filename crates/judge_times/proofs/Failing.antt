-- Answers that fail are told of, each by its timing.
use Rattle.std.proofs.Common.{◌≡◌, ℕ, Bool, true, List, Some, map, subst}
use Rattle.std.specs.Prelude.{slice_get, IsTrue}
use Rattle.model_history.specs.Rails.{Ends}
use Rattle.model_history.specs.ListLaws.{mapped}
use Rattle.model_line.specs.{declared.line.Line.Line, declared.script.Script.Script}
use Rattle.model_timing.specs.Timing.{TimingValues}
use Rattle.judge_settle.specs.settle.Answers.{AreAnswers as AreSettled, IsAnswer as IsSettledSo, is_failing}
use Rattle.judge_settle.specs.settle.Trees.{IsFailing}
use Rattle.judge_settle.specs.declared.settle.answer.{Answer.Answer, Settled.Settled}
use Rattle.judge_settle.specs.declared.settle.answer.Answer.TheVariants.{Held, Fails, Open}
use Rattle.judge_times.specs.declared.fault.Uncertain.{Uncertain}
use Rattle.judge_times.specs.Answers.{AreFailing, exact_of}
use Rattle.judge_times.specs.Scripts.{IsScriptAt}

by_timing : (line : Line) (script : Script) (k : ℕ) (answer : Answer) → IsTrue (is_failing answer)
    → IsSettledSo line script k answer → (timing : TimingValues) × IsFailing line script k timing
by_timing line script k (Held nodes) on so = absurd (cc)
by_timing line script k (Fails timing every) on so = (timing, so.failing)
by_timing line script k (Open nodes) on so = absurd (cc)

pub failing_told : (of : Uncertain) (part : List Ends) (script : Script) (settled : List Settled)
    (fails : List Bool) → IsScriptAt of.fault part script → AreSettled (exact_of of) script settled
    → fails ≡ map (λ one. is_failing one.answer) settled → AreFailing of part fails
failing_told of part script settled fails is are made k at =
    let said : (one : Settled) × (slice_get settled k ≡ Some one) × (is_failing one.answer ≡ true) =
    mapped (λ (one : Settled). is_failing one.answer) settled k true
    (subst (λ (l : List Bool). slice_get l k ≡ Some true) made at) in
    let by = by_timing (exact_of of) script k said.0.answer said.2 (are.each k said.0 said.1).answer in
    record { script = script; is = is; timing = by.0; fails = by.1 }
