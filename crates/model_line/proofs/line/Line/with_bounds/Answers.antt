use Rattle.std.proofs.Common.{sym, ◌∙◌}
use Rattle.model_line.specs.SameCountLaws.{is_delay_same}
use Rattle.model_line.proofs.line.Line.with_bounds.Goals as goal

pub set_bounds-requires-clause-delay : goal.set_bounds-requires-clause-delay
set_bounds-requires-clause-delay c told =
    c.requires.delay
    (sym (is_delay_same c.args.self.now c.in_ok-other.other c.in_ok-other.ensures.rest c.args.param)
    ∙ told)
