use Rattle.std.proofs.Common.{ℕ, List, refl, ◌∙◌, ap}
use Rattle.model_history.specs.ListLaws.{exists_at}
use Rattle.model_history.specs.Rails.{Rails, must_of}
use Rattle.model_line.specs.{declared.line.Line.Line, declared.script.Script.Script}
use Rattle.judge_verdict.specs.verdict.PairWavesOf.{pair_at}
use Rattle.run_waves.specs.waves.FirstTick.{first_on}
use Rattle.run_waves.specs.waves.FirstTickLaws.{first_on-same}
use Rattle.call_verdicts.proofs.finding.find.Goals as goal

pub returns : goal.returns
returns c =
    let line : Line = c.args.cases.now.compiled.line.now in
    let scripts : List Script = c.args.cases.now.scripts.now in
    let k : ℕ = c.args.terminal in
    let trip : ℕ → Rails = pair_at c.args.waves.now.trips k in
    let (script, at) = exists_at scripts c.args.i c.requires.exists in
    record {
      script = script;
      at = at;
      terminal = c.requires.terminal;
      place = refl;
      standing = c.standing_of.ensures line script k (c.requires.answered script at).answer;
      by = record { settled = c.args.settled.now; is = c.requires.answered script at; by_is = refl };
      first = λ w is_w.
          c.first_must.ensures.first
          ∙ ap (first_on (λ t. (trip t).must)) c.requires.horizon
          ∙ first_on-same (λ t. (trip t).must) (λ t. (w.trip k t).must) line.horizon
          (λ t lt.
          ap must_of (((c.requires.history script at).only w is_w).trips k t c.requires.terminal lt));
    }
