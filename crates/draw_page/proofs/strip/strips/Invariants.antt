use Rattle.std.proofs.Common.{◌≡◌, IfOk, take}
use Rattle.std.specs.List.{flat_map}
use Rattle.draw_page.specs.Sweeps.{strip_html}
use Rattle.draw_page.proofs.strip.strips.Given as goal

abbrev pub invariant-loop-verdict : goal.invariant-loop-verdict
invariant-loop-verdict l =
    IfOk l.made (λ html. html.text.items
    ≡ flat_map (strip_html l.cases) (take l.verdict-index l.verdicts))
