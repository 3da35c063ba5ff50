use Rattle.std.proofs.Common.{ℕ, List, length, refl}
use Rattle.std.proofs.lemmas.Option.{slice_get_read}
use Rattle.model_line.specs.declared.script.Script.{Script}
use Rattle.call_shots.proofs.choice.choice_of.Goals as goal

pub returns : goal.returns
returns c =
    let scripts : List Script = c.args.cases.now.scripts.now in
    let script : Script = c.in-Some.script.now in
    record {
      script = script;
      at = slice_get_read scripts (length scripts) c.args.shot.now.script script refl
          c.in-Some.ensures.lookup.3.0 c.in-Some.ensures.lookup.1;
      is = c.in_ok-timing.ensures;
    }
