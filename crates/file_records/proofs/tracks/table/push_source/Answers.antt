use Rattle.std.proofs.Common.{◌≡◌, ◌++◌, ℕ, List, subst}
use Rattle.std.specs.Prelude.{OnOk}
use Rattle.csv.specs.Writing.{default_writer, row_text}
use Rattle.file_records.proofs.tracks.table.push_source.Goals as goal

pub returns : goal.returns
returns c =
    subst
    (λ (r : List (List ℕ)). OnOk c.push_row.result
    (c.push_row.new.text.items ≡ c.args.text.now.items ++ row_text default_writer r))
    c.in_ok-row.ensures c.push_row.ensures
