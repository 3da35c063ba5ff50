use Rattle.std.proofs.Common.{◌≤◌, arith, ⊎_elim}
use Rattle.std.proofs.lemmas.Bool.{cases_lt}
use Rattle.std.proofs.lemmas.Option.{slice_get-get_or}
use Rattle.judge_races.proofs.StretchLaws.{stretch_short, stretch_there, off_here}
use Rattle.judge_races.proofs.stretch.longest.Goals as goal

pub returns-then-best-eq0 : goal.returns-then-best-eq0
returns-then-best-eq0 c = λ u are r within.
    let at = slice_get-get_or c.args.offs.now r 0 within in
    let short = c.loop-r.invariant.longest r _ (omega (arith, within, c.loop-r-test.false)) at in
    off_here u _ r _ (are.each r _ at) (omega (arith, short, c.if-best-eq0.true)) within

pub returns-else-best-eq0 : goal.returns-else-best-eq0
returns-else-best-eq0 c = λ u are.
    let offs = c.args.offs.now in
    let best = c.loop-r.best in
    let some : 1 ≤ best.ticks = omega (arith, c.if-best-eq0.false) in
    let is = c.loop-r.invariant.is some in
    record {
      is = stretch_there u _ best.from best.ticks is.0 (are.each best.from is.0 is.1) is.2 some;
      longest = λ from ticks s.
          let at = slice_get-get_or offs from 0 (omega (arith, s.some, s.within)) in
          let short = stretch_short u _ from ticks _ (are.each from _ at) s in
          let done = c.loop-r.invariant.longest from _
          (omega (arith, s.some, s.within, c.loop-r-test.false)) at in
          omega (arith, short, done);
      first = λ from s.
          ⊎_elim
          (λ lt.
          let at = slice_get-get_or offs from 0 (omega (arith, s.some, s.within)) in
          let short = stretch_short u _ from best.ticks _ (are.each from _ at) s in
          let less = c.loop-r.invariant.first from _ lt at in
          absurd (let no : ⊥ = omega (arith, short, less) in no))
          (λ ge. ge)
          (cases_lt from best.from);
    }
