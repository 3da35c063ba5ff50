use Rattle.judge_verdict.proofs.boxes_lemmas.CellLaws.{stand_more}
use Rattle.judge_verdict.proofs.boxes.timed.Terns64Timed.skip.Goals as goal

pub returns : goal.returns
returns c = λ pickup dropout lane inputs inside h.
    stand_more c.args.cells.now.must c.args.cells.now.may c.skip.new.cells c.skip-2.new.cells pickup
    dropout lane inputs c.args.input c.possible.result c.args.count inside
    c.skip.ensures c.skip-2.ensures (c.possible.ensures lane inside) h
