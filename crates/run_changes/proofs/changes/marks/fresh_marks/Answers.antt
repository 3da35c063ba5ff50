use Rattle.std.proofs.Common.{◌≡◌, ◌+◌, ◌*◌, ◌/◌, ◌<◌, ℕ, length, ⊎_elim, inl, arith, ap, subst, ◌∙◌}
use Rattle.std.proofs.lemmas.Bool.{cases_lt}
use Rattle.std.proofs.lemmas.List.{length-replicate}
use Rattle.std.proofs.lemmas.Option.{slice_get_within}
use Rattle.run_changes.specs.changes.Marks.{IsMarked}
use Rattle.run_changes.proofs.changes.marks.fresh_marks.Goals as goal

pub loop-gate-init : goal.loop-gate-init
loop-gate-init c = record {
  wide = ap length c.in_ok-words.ensures ∙ length-replicate _ _;
  marked = λ i below. absurd (omega (arith, below));
}

pub loop-gate-preserved : goal.loop-gate-preserved
loop-gate-preserved c = record {
  wide = c.mark.ensures.count ∙ c.loop-gate.invariant.wide;
  marked = λ i below.
      ⊎_elim
      (λ low. c.mark.ensures.stay i (c.loop-gate.invariant.marked i low))
      (λ high.
      let here : c.loop-gate.gate ≡ i = omega (arith, below, high) in
      subst (λ (k : ℕ). IsMarked k c.mark.new.words.items) here c.mark.ensures.marked)
      (cases_lt i c.loop-gate.gate);
}

pub returns-clause-marks : goal.returns-clause-marks
returns-clause-marks c = λ dues count.
    let wide = c.loop-gate.invariant.wide in
    let agenda : length c.in_ok-agenda.agenda.items ≡ 512 * (c.args.count / 64 + 1) =
    ap length c.in_ok-agenda.ensures ∙ length-replicate _ _ in
    let ticks : length c.in_ok-ticks.ticks.items ≡ c.args.horizon / 64 + 1 =
    ap length c.in_ok-ticks.ensures ∙ length-replicate _ _ in
    record {
      room = record {
        agenda = omega (arith, wide, agenda);
        ticks = omega (arith, ticks);
        few = omega (arith, wide, c.requires.few);
        short = c.requires.short;
        reached = omega arith;
      };
      wide = omega (arith, wide, count);
      planned = λ i due at.
          let inside : i < length dues = slice_get_within dues i due at in
          inl (c.loop-gate.invariant.marked i (omega (arith, inside, count, c.loop-gate-test.false)));
    }
