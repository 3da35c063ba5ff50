use Rattle.model_timing.specs.Choice.{timing_choice}
use Rattle.call_study.proofs.pictures.dump_text.Goals as goal

pub returns : goal.returns
returns c =
    let line = c.args.compiled.now.line.now in
    let timing = c.args.timing.now.timing in
    let choice = timing_choice line timing in
    let inside = c.timings_inside_are_choices_inside.ensures line timing c.requires.inside in
    let delays = c.each_line_has_a_choice_inside.ensures.choices line choice inside in
    let h = c.each_choice_has_one_history.ensures.exists line c.args.script.now choice delays in
    record {
      history = h.0;
      is_history = h.1;
      net = c.args.compiled.now.net.now;
      of_line = c.args.compiled.now.of_line;
      printed = c.in_ok-text.ensures h.0 h.1;
    }
