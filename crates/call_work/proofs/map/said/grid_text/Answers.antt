use Rattle.std.proofs.Common.{ap, ◌∙◌}
use Rattle.draw_shapes.specs.Svg.{svg_of}
use Rattle.call_work.proofs.map.said.grid_text.Goals as goal

pub returns-clause-drawn : goal.returns-clause-drawn
returns-clause-drawn c = c.in_ok-markup.ensures ∙ ap (svg_of c.args.made.now) c.in_ok-drawn.ensures
