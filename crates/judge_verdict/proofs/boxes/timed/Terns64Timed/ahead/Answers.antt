use Rattle.judge_verdict.proofs.boxes_lemmas.CellLaws.{steady_of_both}
use Rattle.judge_verdict.proofs.boxes.timed.Terns64Timed.ahead.Goals as goal

pub returns : goal.returns
returns c = λ pickup dropout inputs stands.
    steady_of_both c.history_laws.ensures c.args.cells.now.must c.args.cells.now.may pickup
    dropout inputs c.args.input c.possible.result c.ahead-must.result c.ahead-may.result c.min.result
    c.ahead-must.ensures c.ahead-may.ensures c.possible.ensures c.min.ensures stands
