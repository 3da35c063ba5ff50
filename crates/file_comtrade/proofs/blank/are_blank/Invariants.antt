use Rattle.std.proofs.Common.{◌≡◌, drop}
use Rattle.std.specs.List.{list_all}
use Rattle.file_comtrade.specs.{Text.is_blank, Views.texts}
use Rattle.file_comtrade.proofs.blank.are_blank.Given as goal

abbrev pub invariant-loop-line : goal.invariant-loop-line
invariant-loop-line l =
    list_all is_blank (texts (drop l.line-index l.lines)) ≡ list_all is_blank (texts l.lines)
