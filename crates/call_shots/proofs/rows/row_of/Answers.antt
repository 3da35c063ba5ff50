use Rattle.std.proofs.Common.{ℕ, List, refl}
use Rattle.std.proofs.lemmas.Option.{slice_get-get_or}
use Rattle.model_line.specs.declared.line.Line.{Line}
use Rattle.call_verdicts.specs.declared.finding.Finding.{Finding}
use Rattle.call_shots.proofs.rows.row_of.Goals as goal

pub returns : goal.returns
returns c =
    let line : Line = c.args.cases.now.compiled.line.now in
    let shots : List Finding = c.args.shots.now in
    let at = slice_get-get_or shots c.args.i _ c.requires.exists in
    record {
      shot = c.args.i;
      number = refl;
      at = at;
      script = c.args.script.now;
      script_at = c.requires.script _ at;
      terminal = c.requires.terminal;
      place = refl;
      window = c.window_of.ensures line c.args.script.now c.requires.terminals c.requires.horizon
          c.requires.history;
    }
