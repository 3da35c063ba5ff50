use Rattle.std.proofs.Common.{◌≡◌, ◌∙◌, Ok, List, ℕ, sym, ap}
use Rattle.file_study.specs.times.Names.{params_of}
use Rattle.file_study.specs.times.Parts.{names_of}
use Rattle.call_choose.specs.Asked.{rows_unless}
use Rattle.call_choose.specs.Rows.{rows_by}
use Rattle.call_choose.proofs.asked.push_word.Goals as goal

pub returns-in_ok-push_rows-in-None-clause-is : goal.returns-in_ok-push_rows-in-None-clause-is
returns-in_ok-push_rows-in-None-clause-is c =
    let line = c.args.line.now in
    let word = c.args.word.now in
    let params : c.in_ok-params.params.items ≡ params_of line (names_of word) =
    c.in_ok-params.ensures.are
    ∙ ap (λ (names : List ℕ). params_of line names) c.names_of.ensures in (
      rows_by line word c.in_ok-params.params.items,
      ap (rows_unless line word) (sym c.in_ok-why.ensures.told ∙ c.in-None.is)
          ∙ ap (λ (ps : List ℕ). Ok (rows_by line word ps)) (sym params),
      c.in_ok-push_rows-in-None.ensures,
    )
