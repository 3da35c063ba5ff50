use Rattle.std.proofs.Common.{◌++◌, List, ℕ, take, get_or, sym, ◌∙◌, ap, arith}
use Rattle.std.proofs.lemmas.List.{take_more}
use Rattle.run_signal.specs.declared.tern.Tern.TheVariants.{Zero}
use Rattle.run_waves.specs.declared.waves.runs.Stretch.{Stretch}
use Rattle.run_waves.specs.{waves.Waves.runs_from, waves.Text.gap, waves.Text.item_text, waves.Text.items_text}
use Rattle.run_waves.proofs.waves_lemmas.RunLaws.{run_to, end_from, ends_before, end_from-push}
use Rattle.run_waves.proofs.waves_lemmas.TextLaws.{one_item_more}
use Rattle.run_waves.proofs.waves.text.print_items.Goals as goal

pub overflow_sub-ticks : goal.overflow_sub-ticks
overflow_sub-ticks c =
    let none : Stretch = record { level = Zero; end = 0 } in
    let before = ends_before 0 c.args.stretches.now c.loop-i.i none c.requires c.loop-i-test.true in
    omega (arith, before, c.loop-i.invariant.ends)

pub loop-i-preserved : goal.loop-i-preserved
loop-i-preserved c =
    let stretches : List Stretch = c.args.stretches.now in
    let i = c.loop-i.i in
    let none : Stretch = record { level = Zero; end = 0 } in
    let next : Stretch = get_or stretches i none in
    let item : List ℕ = item_text (run_to c.loop-i.from next) in
    record {
      written = c.in_ok-push_item.ensures
          ∙ ap (λ (text : List ℕ). text ++ (c.gap_before.result.now ++ item))
          c.loop-i.invariant.written
          ∙ ap (λ (before : List ℕ). items_text (runs_from 0 (take i stretches)) ++ (before ++ item))
          c.gap_before.ensures
          ∙ ap (λ (from : ℕ). items_text (runs_from 0 (take i stretches))
          ++ (gap i ++ item_text (run_to from next))) c.loop-i.invariant.ends
          ∙ sym (one_item_more stretches i none (omega arith));
      ends = sym (ap (end_from 0) (take_more stretches i none (omega arith))
          ∙ end_from-push 0 (take i stretches) next);
    }
