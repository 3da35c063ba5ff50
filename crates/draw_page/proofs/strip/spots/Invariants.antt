use Rattle.std.proofs.Common.{◌≡◌, ◌++◌, drop}
use Rattle.draw_page.specs.Elements.{numbered}
use Rattle.draw_page.specs.Sweeps.{spot_html}
use Rattle.draw_page.proofs.strip.spots.Given as goal

abbrev pub invariant-loop-place : goal.invariant-loop-place
invariant-loop-place l =
    l.made.text.items ++ numbered (spot_html l.cases) l.place (drop l.place l.standings)
    ≡ numbered (spot_html l.cases) 0 l.standings
