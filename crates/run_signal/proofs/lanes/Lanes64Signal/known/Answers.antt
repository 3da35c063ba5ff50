use Rattle.std.proofs.Common.{ℕ, ◌∙◌, ap, sym}
use Rattle.model_history.specs.Rails.{both}
use Rattle.run_signal.specs.Bits.{bit_rails}
use Rattle.run_signal.proofs.BitLaws.{bit_rails-ones, bit_rails-zero}
use Rattle.run_signal.proofs.lanes.Lanes64Signal.known.Goals as goal
use Rattle.run_signal.proofs.lanes.Lanes64Signal.known.Goals.{then-value, else-value}

pub returns : goal.returns
returns c = λ lane inside. elim c.if-value.branch [
  | then-value w ↦ ap (λ (n : ℕ). bit_rails n lane) w.result-is ∙ bit_rails-ones lane inside
      ∙ ap both (sym w.if-value.true)
  | else-value w ↦ ap (λ (n : ℕ). bit_rails n lane) w.result-is ∙ bit_rails-zero lane
      ∙ ap both (sym w.if-value.false)
]
