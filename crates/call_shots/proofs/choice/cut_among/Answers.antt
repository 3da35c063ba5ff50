use Rattle.std.proofs.Common.{◌≡◌, ◌<◌, List, Some, length, arith, refl}
use Rattle.std.proofs.lemmas.Option.{slice_get_read}
use Rattle.std.specs.Prelude.{slice_get}
use Rattle.judge_settle.specs.declared.settle.answer.Settled.{Settled}
use Rattle.call_shots.proofs.choice.cut_among.Goals as goal

pub cut_of-requires-clause-answer : goal.cut_of-requires-clause-answer
cut_of-requires-clause-answer c =
    let settled : List Settled = c.args.settled.now in
    let there : c.args.terminal < length settled = omega arith in
    let at : slice_get settled c.args.terminal ≡ Some c.index-settled-terminal.result =
    slice_get_read settled (length settled) c.args.terminal c.index-settled-terminal.result refl
    there c.index-settled-terminal.is in
    (c.requires.answers.each c.args.terminal c.index-settled-terminal.result at).answer
