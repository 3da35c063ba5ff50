use Rattle.std.proofs.Common.{ℕ, ◌∙◌, ap}
use Rattle.model_history.specs.Rails.{rails_and}
use Rattle.run_signal.specs.Bits.{bit_rails}
use Rattle.run_signal.proofs.BitLaws.{bit_rails-and}
use Rattle.run_signal.proofs.lanes.Lanes64Signal.and.Goals as goal

pub returns : goal.returns
returns c = λ lane inside. bit_rails-and c.self.inside.bits c.other.inside.bits lane
    ∙ ap (λ (n : ℕ). rails_and (bit_rails n lane)
    (bit_rails c.other.inside.bits lane)) c.self.view_is
    ∙ ap (λ (n : ℕ). rails_and (bit_rails c.args.self lane) (bit_rails n lane)) c.other.view_is
