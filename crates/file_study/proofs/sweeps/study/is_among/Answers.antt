use Rattle.file_study.proofs.sweeps_lemmas.Names.{among_first, among_second}
use Rattle.file_study.proofs.sweeps.study.is_among.Goals as goal

pub returns-then-is_taken : goal.returns-then-is_taken
returns-then-is_taken c =
    among_first c.args.done.now c.args.own.now c.args.script.now.name c.is_taken.result
    c.if-is_taken.true c.is_taken.ensures

pub returns-else-is_taken : goal.returns-else-is_taken
returns-else-is_taken c =
    among_second c.args.done.now c.args.own.now c.args.script.now.name c.is_taken.result
    c.is_taken-else-is_taken.result c.if-is_taken.false c.is_taken.ensures
    c.is_taken-else-is_taken.ensures
