use Rattle.judge_verdict.proofs.boxes_lemmas.CellLaws.{stand_more, answer_of}
use Rattle.judge_verdict.proofs.boxes.timed.Terns64Timed.tick.Goals as goal

pub returns-clause-stands : goal.returns-clause-stands
returns-clause-stands c = λ pickup dropout lane inputs inside h.
    stand_more c.args.cells.now.must c.args.cells.now.may c.tick.new.cells c.tick-2.new.cells pickup
    dropout lane inputs c.args.input c.possible.result 1 inside
    c.tick.ensures.stands c.tick-2.ensures.stands (c.possible.ensures lane inside) h

pub returns-clause-timed : goal.returns-clause-timed
returns-clause-timed c = λ pickup dropout lane inputs inside h.
    answer_of c.history_laws.ensures c.args.cells.now.must c.args.cells.now.may pickup
    dropout lane inputs c.args.input c.possible.result c.tick.result c.tick-2.result inside
    c.tick.ensures.timed c.tick-2.ensures.timed (c.possible.ensures lane inside) h
