use Rattle.std.proofs.Common.{ℕ, List, length, ap, sym, ◌∙◌, arith, subst, refl}
use Rattle.model_history.specs.Rails.{RailsCover}
use Rattle.run_signal.specs.{declared.tern.Tern.Tern, Terns.tern_rails}
use Rattle.run_waves.specs.waves.Waves.{wave_at}
use Rattle.model_history.specs.TruthLaws.{not_both}
use Rattle.run_waves.proofs.derived_lemmas.CoverLaws.{along, cover_same, stretch_more}
use Rattle.run_waves.proofs.derived.cover.first_uncovered_tick.Goals as goal

pub returns-then-is_like : goal.returns-then-is_like
returns-then-is_like c = λ t within.
    let P : List Tern → Type 0 =
    λ w. RailsCover (wave_at c.args.wide.now t) (wave_at w t) in
    subst P (c.if-is_like.ensures refl)
    (c.covering_is_an_order.ensures.itself (wave_at c.args.wide.now t))

pub stretch-first-requires : goal.stretch-first-requires
stretch-first-requires c =
    omega (arith, ap length c.stretches.invariant.wides, c.len.ensures.length)

pub stretch-second-requires : goal.stretch-second-requires
stretch-second-requires c =
    omega (
      arith,
      ap length c.stretches.invariant.narrows,
      c.len.ensures.length,
      c.requires,
    )

pub returns-then-not-covers : goal.returns-then-not-covers
returns-then-not-covers c =
    let t : ℕ = c.stretches.t in
    let x = c.stretch-first.result.level in
    let y = c.stretch-second.result.level in
    let wide = c.args.wide.now in
    let narrow = c.args.narrow.now in
    record {
      inside = omega (arith, c.stretches-test.true, c.len.ensures.length);
      fails = λ cover. not_both c.covers.result c.if-not-covers.true
          (c.covers.ensures.covers.1
          (cover_same (tern_rails x) (tern_rails y) (wave_at wide t) (wave_at narrow t)
          (sym (along wide c.stretches.wides t (tern_rails x) c.stretches.invariant.wides
          (c.stretch-first.ensures.rails t (omega arith) c.stretch-first.ensures.later)))
          (sym (along narrow c.stretches.narrows t (tern_rails y) c.stretches.invariant.narrows
          (c.stretch-second.ensures.rails t (omega arith) c.stretch-second.ensures.later)))
          cover));
      before = c.stretches.invariant.covered;
    }

pub stretches-preserved : goal.stretches-preserved
stretches-preserved c =
    let x = c.stretch-first.result.level in
    let y = c.stretch-second.result.level in
    let wide = c.args.wide.now in
    let narrow = c.args.narrow.now in
    record {
      wides = c.stretch-first.ensures.same ∙ c.stretches.invariant.wides;
      narrows = c.stretch-second.ensures.same ∙ c.stretches.invariant.narrows;
      covered = stretch_more (λ t. RailsCover (wave_at wide t) (wave_at narrow t))
          c.stretches.t c.min-t.result c.stretches.invariant.covered
          (λ i low high. cover_same (wave_at wide i) (wave_at narrow i)
          (tern_rails x) (tern_rails y)
          (along wide c.stretches.wides i (tern_rails x) c.stretches.invariant.wides
          (c.stretch-first.ensures.rails i low (omega (arith, c.min-t.ensures))))
          (along narrow c.stretches.narrows i (tern_rails y) c.stretches.invariant.narrows
          (c.stretch-second.ensures.rails i low (omega (arith, c.min-t.ensures))))
          (c.covers.ensures.covers.0 c.if-not-covers.false));
    }
