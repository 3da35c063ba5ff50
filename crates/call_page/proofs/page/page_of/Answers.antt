use Rattle.std.proofs.Common.{refl}
use Rattle.call_page.proofs.page.page_of.Goals as goal

pub returns : goal.returns
returns c = record {
  head = record {
    title_is = c.in_ok-told.ensures.title;
    made = c.in_ok-told.ensures.made;
    date = c.in_ok-told.ensures.date;
    sources = c.in_ok-told.ensures.sources;
    scheme = c.in_ok-told.ensures.scheme;
    zone1 = refl;
    tick = refl;
    horizon = refl;
    terminals = c.in_ok-told.ensures.terminals;
  };
  notes = c.in_ok-told.ensures.notes;
  counts = c.in_ok-found.ensures.counts;
  least = c.in_ok-found.ensures.least;
  parts = c.args.parts.now;
  are_parts = c.requires.parts;
  faults = c.in_ok-found.ensures.faults;
  failing = c.in_ok-found.ensures.failing;
  undecided = c.in_ok-found.ensures.undecided;
  few = c.in_ok-few.ensures;
  files = c.in_ok-told.ensures.files;
}
