use Rattle.std.proofs.Common.{◌∙◌, subst, sym, ℕ, Bool, length}
use Rattle.run_waves.specs.waves.Waves.{wave_at}
use Rattle.judge_match.specs.{explain.Asked.AreLevels}
use Rattle.judge_match.proofs.explain_lemmas.ListLaws.{levels_changes, levels_stay}
use Rattle.judge_match.proofs.explain.recorded.kept_of_wave.Goals as goal

pub returns : goal.returns
returns c =
    let n : ℕ = length c.args.wave.now in
    let u : ℕ → Bool = λ t. (wave_at c.args.wave.now t).must in
    let are = c.in_ok-levels.ensures.levels in
    let one = subst (AreLevels n u) (sym c.deref.ensures.value) are in
    let two = subst (AreLevels n u) (sym c.deref-2.ensures.value) are in
    rw (sym c.requires)
    (record {
      changes_are = c.in_ok-changes.ensures ∙ levels_changes u n c.deref.result.now one;
      count = c.in_ok-stays.ensures.count ∙ two.count;
      stays = λ t level at.
          levels_stay c.args.within n u c.deref-2.result.now t level two
          (c.in_ok-stays.ensures.each t level at);
    })
