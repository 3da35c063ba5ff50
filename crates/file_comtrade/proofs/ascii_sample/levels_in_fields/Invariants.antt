use Rattle.std.proofs.Common.{◌≡◌, Ok, []}
use Rattle.file_comtrade.specs.RawSample.{level_after}
use Rattle.file_comtrade.specs.{Steps.steps, Views.texts}
use Rattle.file_comtrade.proofs.ascii_sample.levels_in_fields.Given as goal

abbrev pub invariant-loop-j : goal.invariant-loop-j
invariant-loop-j l =
    steps (level_after l.shape l.chosen (texts l.fields) l.k) [] l.j ≡ Ok l.levels.items
