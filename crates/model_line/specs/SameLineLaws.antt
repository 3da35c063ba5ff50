-- Lines that are the same in every field but their parameters: each is so to itself, with the
-- two exchanged, and on from one to the next.
use Rattle.std.proofs.Common.{refl, sym, ◌∙◌}
use Rattle.model_line.specs.{declared.line.Line.Line, SetBounds.SameButParams}

pub same_line : (line : Line) → SameButParams line line
same_line line = record {
  tick_us = refl;
  horizon = refl;
  scheme = refl;
  zone1_trip = refl;
  terminals = refl;
  channels = refl;
}

pub exchanged : (line other : Line) → SameButParams line other → SameButParams other line
exchanged line other same = record {
  tick_us = sym same.tick_us;
  horizon = sym same.horizon;
  scheme = sym same.scheme;
  zone1_trip = sym same.zone1_trip;
  terminals = sym same.terminals;
  channels = sym same.channels;
}

-- and so is one with another that follows
pub on_from : (line part other : Line) → SameButParams line part → SameButParams part other
    → SameButParams line other
on_from line part other first second = record {
  tick_us = second.tick_us ∙ first.tick_us;
  horizon = second.horizon ∙ first.horizon;
  scheme = second.scheme ∙ first.scheme;
  zone1_trip = second.zone1_trip ∙ first.zone1_trip;
  terminals = second.terminals ∙ first.terminals;
  channels = second.channels ∙ first.channels;
}
