use Rattle.std.proofs.Common.{subst, arith}
use Rattle.model_plain.specs.Parts.{StandsOver, local_trees}
use Rattle.std.specs.Prelude.{IfOk}
use Rattle.model_plain.proofs.ProgramLaws.{stands_over}
use Rattle.model_plain.proofs.logic.closed_program.Goals as goal

pub returns : goal.returns
returns c sent trips sends pilots key pilot =
    let line = c.args.line.now in
    let trees = local_trees line c.args.k in
    c.program.ensures trees 13 9 83 (omega arith) c.local_parts.ensures
    (subst (λ t. IfOk c.args.key (StandsOver trees t 9)) sends.is
    (stands_over (λ parts. sent) 9 c.args.key key sends.few trees))
    (subst (λ t. IfOk c.args.pilot (StandsOver trees t 83)) pilots.is
    (stands_over (λ parts. trips) 83 c.args.pilot pilot pilots.few trees))
