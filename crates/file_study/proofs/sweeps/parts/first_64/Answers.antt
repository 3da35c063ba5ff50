use Rattle.std.proofs.Common.{◌≤◌, arith, length, sym}
use Rattle.std.proofs.lemmas.List.{take_all}
use Rattle.file_study.proofs.sweeps.parts.first_64.Goals as goal

pub returns-then-scripts-le64 : goal.returns-then-scripts-le64
returns-then-scripts-le64 c =
    let few : length c.args.scripts.now ≤ 64 = omega arith in
    sym (take_all 64 c.args.scripts.now few)
