use Rattle.std.proofs.Common.{◌≡◌, ◌==◌, ℕ, Bool, ◌<◌, ◌≤◌, ◌∙◌, arith, ap, below_more}
use Rattle.std.specs.Prelude.{slice_index}
use Rattle.run_signal.specs.Bits.{bit_on}
use Rattle.run_signal.specs.Counts.{steady_of}
use Rattle.run_signal.proofs.VectorLaws.{bit_back, met_more}
use Rattle.run_signal.proofs.vectors.least_steady.Goals as goal

pub loop-lane-preserved : goal.loop-lane-preserved
loop-lane-preserved c =
    let lane = c.loop-lane.lane in
    let least = c.loop-lane.least in
    let on : ℕ → Bool = bit_on c.args.input in
    let steady_with : ℕ → Bool → ℕ = λ k. steady_of (slice_index c.args.pickup.now k)
    (slice_index c.args.run.now k) (slice_index c.args.left.now k) in
    let steady : ℕ → ℕ = λ k. steady_with k (on k) in
    let inside : lane < 64 = c.loop-lane-test.true in
    let here : c.steady_ticks.result ≡ steady lane = c.steady_ticks.ensures
    ∙ ap (steady_with lane) (ap (λ n. n == 1) (c.spread-on.ensures lane inside)
    ∙ bit_back (on lane)) in
    record {
      under = below_more (λ k. c.min-least.result ≤ steady k) lane
          (λ k lt. let low : least ≤ steady k = c.loop-lane.invariant.under k lt in
          omega (arith, c.min-least.ensures, low))
          (omega (arith, c.min-least.ensures, here));
      met = met_more steady lane least c.steady_ticks.result c.min-least.result c.min-least.ensures here
          c.loop-lane.invariant.met;
      limited = (let before : least ≤ 4000 = c.loop-lane.invariant.limited in omega (arith, c.min-least.ensures));
    }
