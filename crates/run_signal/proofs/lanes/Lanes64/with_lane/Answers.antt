use Rattle.std.proofs.Common.{ℕ, ◌^◌, ◌-◌, ◌∙◌, ap, sym, bit_and, bit_or}
use Rattle.std.proofs.lemmas.Nat.{one_shl}
use Rattle.model_history.specs.Rails.{both}
use Rattle.run_signal.specs.Bits.{bit_rails}
use Rattle.run_signal.proofs.BitLaws.{bit_rails-set, bit_rails-set_other, bit_rails-clear}
use Rattle.run_signal.proofs.BitLaws.{bit_rails-clear_other}
use Rattle.run_signal.proofs.lanes.Lanes64.with_lane.Goals as goal
use Rattle.run_signal.proofs.lanes.Lanes64.with_lane.Goals.{then-value, else-value}

pub returns-clause-lane : goal.returns-clause-lane
returns-clause-lane c =
    let a : ℕ = c.self.inside.bits in
    let lane : ℕ = c.args.lane in
    elim c.if-value.branch [
      | then-value w ↦
          ap (λ (n : ℕ). bit_rails n lane) (w.result-is
          ∙ ap (bit_or a) (one_shl lane 64 c.requires))
          ∙ bit_rails-set a lane
          ∙ ap both (sym w.if-value.true)
      | else-value w ↦
          ap (λ (n : ℕ). bit_rails n lane) (w.result-is
          ∙ ap (λ (m : ℕ). bit_and a (2 ^ 64 - 1 - m)) (one_shl lane 64 c.requires))
          ∙ bit_rails-clear a lane c.requires
          ∙ ap both (sym w.if-value.false)
    ]

pub returns-clause-others : goal.returns-clause-others
returns-clause-others c = λ k inside ne.
    let a : ℕ = c.self.inside.bits in
    let lane : ℕ = c.args.lane in
    elim c.if-value.branch [
      | then-value w ↦
          ap (λ (n : ℕ). bit_rails n k) (w.result-is ∙ ap (bit_or a) (one_shl lane 64 c.requires))
          ∙ bit_rails-set_other a lane k ne
          ∙ ap (λ (n : ℕ). bit_rails n k) c.self.view_is
      | else-value w ↦
          ap (λ (n : ℕ). bit_rails n k) (w.result-is
          ∙ ap (λ (m : ℕ). bit_and a (2 ^ 64 - 1 - m)) (one_shl lane 64 c.requires))
          ∙ bit_rails-clear_other a lane k c.requires inside ne
          ∙ ap (λ (n : ℕ). bit_rails n k) c.self.view_is
    ]
