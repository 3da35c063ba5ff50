use Rattle.std.proofs.Common.{◌≡◌, ◌-◌, ◌≤◌, ℕ, List, length, sym, ◌∙◌, ap, arith}
use Rattle.model_history.specs.{Rails.Rails, Rails.rails_sealed, Recorded.first_ticks}
use Rattle.run_signal.specs.{declared.tern.Tern.Tern, Terns.tern_rails}
use Rattle.run_signal.specs.{Seals.last_seal, Stretches.StaysAt}
use Rattle.run_waves.specs.waves.Waves.{wave_at}
use Rattle.run_waves.proofs.waves_lemmas.WaveLaws.{ticks_more, longer, rails_along, new_length}
use Rattle.run_waves.proofs.waves_lemmas.ElementLaws.{seal_stands, seal_answer, kept_to_the_end}
use Rattle.run_waves.proofs.waves.elements.seal.Goals as goal

pub stretch-first-requires : goal.stretch-first-requires
stretch-first-requires c =
    omega (arith, ap length c.stretches.invariant.sets, c.len-t.ensures.length)

pub stretch-second-requires : goal.stretch-second-requires
stretch-second-requires c =
    omega (arith, ap length c.stretches.invariant.holds, c.len-t.ensures.length, c.requires)

pub stretches-preserved : goal.stretches-preserved
stretches-preserved c =
    let u : ℕ → Rails = wave_at c.args.set.now in
    let v : ℕ → Rails = wave_at c.args.hold.now in
    let wave : List Tern = c.stretches.wave in
    let new : List Tern = c.push.new.self in
    let answer : Tern = c.tick-answer.result in
    let n : ℕ = length wave in
    let m : ℕ = c.min.result - c.len-t.result in
    let here : c.len-t.result ≡ length wave = c.len-t.ensures.length in
    let x : Rails = tern_rails c.stretch-first.result.level in
    let y : Rails = tern_rails c.stretch-second.result.level in
    let some : 1 ≤ m = omega (arith, c.min.ensures) in
    let sets : c.stretches.sets ≡ c.args.set.now = c.stretches.invariant.sets in
    let holds : c.stretches.holds ≡ c.args.hold.now = c.stretches.invariant.holds in
    let stays : StaysAt u x n m =
    λ k low high. rails_along c.args.set.now c.stretches.sets c.stretch-first.result.level
    c.len-t.result c.stretch-first.result.end k sets c.stretch-first.ensures.level (omega arith)
    (omega (arith, c.min.ensures)) in
    let keeps : StaysAt v y n m =
    λ k low high. rails_along c.args.hold.now c.stretches.holds c.stretch-second.result.level
    c.len-t.result c.stretch-second.result.end k holds c.stretch-second.ensures.level (omega arith)
    (omega (arith, c.min.ensures)) in
    let set_now = stays n (omega arith) (omega arith) in
    let hold_now = keeps n (omega arith) (omega arith) in
    let stands = seal_stands c.history_laws.ensures u v (tern_rails c.stretches.cell) n c.stretches.invariant.last in
    let now : tern_rails answer ≡ rails_sealed u v n =
    seal_answer c.history_laws.ensures u v x y (tern_rails answer) n set_now hold_now
    (c.tick-answer.ensures.sealed 0 (first_ticks u n) (first_ticks v n) (omega arith) stands) in
    let kept : tern_rails c.tick-answer.new.self ≡ rails_sealed u v n =
    seal_answer c.history_laws.ensures u v x y (tern_rails c.tick-answer.new.self) n set_now hold_now
    (c.a_seal_is_its_last_answer.ensures (first_ticks u n) (first_ticks v n) x y (tern_rails c.tick-answer.new.self)
    (c.tick-answer.ensures.stands 0 (first_ticks u n) (first_ticks v n) (omega arith) stands)) in
    record {
      sets = c.stretch-first.ensures.same ∙ sets;
      holds = c.stretch-second.ensures.same ∙ holds;
      short = longer wave new answer m (length c.args.set.now) c.in_ok-push.ensures
          (omega (arith, c.min.ensures, ap length sets));
      values = ticks_more wave new answer m (rails_sealed u v) c.stretches.invariant.values
          c.in_ok-push.ensures
          (λ k low high. now ∙ sym (c.elements_stay_in_a_stretch.ensures.sealed u v x y n m k
          stays keeps low high));
      last = kept_to_the_end c.history_laws.ensures c.elements_stay_in_a_stretch.ensures u v x y
          (tern_rails c.tick-answer.new.self) n m stays keeps some kept
          ∙ ap (last_seal u v) (sym (new_length wave new answer m c.in_ok-push.ensures));
    }
