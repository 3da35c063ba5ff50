use Rattle.std.proofs.Common.{refl}
use Rattle.toml.specs.Data.{no_members}
use Rattle.file_study.proofs.study.line.terminal_table.Goals as goal

pub returns : goal.returns
returns c =
    let name = c.with_text-table.ensures no_members (rw c.new.ensures.empty refl) in
    rw (← c.plain_text-name.ensures) (c.with_owner.ensures _ name)
