-- The text of a wave has no line feed.
use Rattle.std.proofs.Common.{◌≡◌, ◌+◌, ◌<◌, ◌≤◌, ◌^◌, true, List, [], ◌∷◌, length, refl, ap, arith}
use Rattle.std.proofs.Common.{decimal, length-append}
use Rattle.std.proofs.lemmas.List.{length-replicate}
use Rattle.run_signal.specs.declared.tern.Tern.{Tern}
use Rattle.run_signal.specs.declared.tern.Tern.TheVariants.{Zero, One, Unknown}
use Rattle.base_text.specs.lines.Lines.{is_no_feed, is_one_line}
use Rattle.base_text.specs.lines.NamedLaws.{whole_append, whole_more, decimal_whole}
use Rattle.run_waves.specs.waves.Text.{item_text, items_text, level_letter, runs_of, runs_text}
use Rattle.run_waves.specs.{declared.waves.runs.Run.Run, waves.Waves.levels_of, waves.Waves.ticks_of}
use Rattle.run_waves.proofs.waves_lemmas.LongestRuns.{levels_of-runs_of}

letter_whole : (level : Tern) → is_no_feed (level_letter level) ≡ true
letter_whole Zero = refl
letter_whole One = refl
letter_whole Unknown = refl

item_whole : (run : Run) → run.ticks < 2 ^ 64 → is_one_line (item_text run) ≡ true
item_whole run small =
    whole_more (level_letter run.level) (58 ∷ decimal run.ticks) (letter_whole run.level)
    (decimal_whole run.ticks small)

items_whole : (runs : List Run) → length (levels_of runs) ≤ 4000
    → is_one_line (items_text runs) ≡ true
items_whole [] short = refl
items_whole (run ∷ []) short =
    item_whole run (omega (
      arith,
      short,
      length-append (ticks_of run) [],
      length-replicate run.ticks run.level,
    ))
items_whole (run ∷ next ∷ runs) short =
    let rest : List Tern = levels_of (next ∷ runs) in
    let small : run.ticks + length rest ≤ 4000 =
    omega (
      arith,
      short,
      length-append (ticks_of run) rest,
      length-replicate run.ticks run.level,
    ) in
    whole_append (item_text run) (32 ∷ items_text (next ∷ runs)) (item_whole run (omega arith))
    (items_whole (next ∷ runs) (omega arith))

pub runs_whole : (wave : List Tern) → length wave ≤ 4000 → is_one_line (runs_text wave) ≡ true
runs_whole wave short =
    items_whole (runs_of wave) (omega (arith, ap length (levels_of-runs_of wave)))
