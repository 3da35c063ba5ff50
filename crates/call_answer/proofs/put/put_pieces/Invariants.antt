use Rattle.std.proofs.Common.{map, take}
use Rattle.std.specs.List.{concat}
use Rattle.call_answer.specs.Sinks.{GrewByAll, sink_view}
use Rattle.call_answer.proofs.put.put_pieces.Given as goal

abbrev pub invariant-loop-piece : goal.invariant-loop-piece
invariant-loop-piece g l =
    GrewByAll (sink_view g.K.Sink.written g.K.Sink.faults l.fn.sink)
    (sink_view g.K.Sink.written g.K.Sink.faults l.sink)
    (concat (map (λ piece. piece.now) (take l.piece-index l.pieces)))
