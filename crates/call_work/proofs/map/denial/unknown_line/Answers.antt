use Rattle.std.proofs.Common.{◌≡◌, ◌∙◌, ◌-◌, ap, ℕ, List}
use Rattle.file_study.specs.{times.Names.name_of, times.Parts.names_of}
use Rattle.call_work.proofs.map.denial.unknown_line.Goals as goal

pub returns : goal.returns
returns c =
    let words = c.args.words.now in
    let number = c.args.number in
    let name : c.name_in_list-name.result.now ≡ name_of (names_of words) (number - 1) =
    c.name_in_list-name.ensures
    ∙ ap (λ (k : ℕ). name_of c.names_of.result.now k) c.saturating_sub.ensures
    ∙ ap (λ (names : List ℕ). name_of names (number - 1)) c.names_of.ensures in
    rw (
      c.as_slice.ensures.value,
      c.in_ok-asked.ensures,
      name,
      c.as_slice-2.ensures.value,
      c.in_ok-near.ensures,
    )
    at c.one_line.ensures
