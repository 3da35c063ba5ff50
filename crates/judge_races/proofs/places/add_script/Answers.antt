use Rattle.std.proofs.Common.{Some, ap, sym, ◌∙◌}
use Rattle.judge_races.specs.Races.{columns_of}
use Rattle.judge_races.proofs.PlaceLaws.{script_skipped, script_added}
use Rattle.judge_races.proofs.places.add_script.Goals as goal

pub returns-in-Some : goal.returns-in-Some
returns-in-Some c = λ scripts script trips here at waves over.
    script_skipped c.args.compiled.now.line.now scripts trips _ c.args.place c.args.races.now.items _
    (at ∙ ap Some c.in-Some.is) over

pub returns : goal.returns
returns c = λ scripts script trips here at waves over.
    script_added c.args.compiled.now.line.now scripts script trips _ c.args.place
    (columns_of c.in_ok-columns.columns.items) c.args.races.now.items
    c.add_races.new.races.items here (at ∙ ap Some c.in_default.is)
    (c.in_ok-columns.ensures.are script waves)
    (λ all counts is counted are.
    c.in_ok-add_races.ensures all counts (is ∙ sym (ap columns_of c.deref.ensures.value)) counted are)
    over
