use Rattle.std.proofs.Common.{ℕ, ◌∙◌, ap}
use Rattle.model_history.specs.Rails.{rails_not}
use Rattle.run_signal.specs.Bits.{bit_rails}
use Rattle.run_signal.proofs.BitLaws.{bit_rails-not}
use Rattle.run_signal.proofs.lanes.Lanes64Signal.not.Goals as goal

pub returns : goal.returns
returns c = λ lane inside. bit_rails-not c.bits-bits.result lane c.bits-bits.type_inv inside
    ∙ ap (λ (n : ℕ). rails_not (bit_rails n lane)) c.bits-bits.ensures
