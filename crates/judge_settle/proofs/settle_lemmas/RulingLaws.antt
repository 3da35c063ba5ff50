-- What the verdicts of a certificate say of obligations.
use Rattle.std.proofs.Common.{◌≡◌, ℕ, List, Some, refl}
use Rattle.std.specs.Prelude.{slice_get}
use Rattle.model_line.specs.{declared.line.Line.Line, declared.script.Script.Script}
use Rattle.model_logic.specs.Choice.{declared_box}
use Rattle.model_logic.specs.Histories.{PairHistory, IsPairHistory}
use Rattle.model_logic.specs.Laws.{LineLaws}
use Rattle.model_timing.specs.{Timing.TimingValues, Choice.timing_choice}
use Rattle.model_timing.specs.Laws.{TimingsInsideAreChoicesInside}
use Rattle.judge_verdict.specs.declared.verdict.verdict.Verdict.{Verdict}
use Rattle.judge_verdict.specs.declared.verdict.verdict.Verdict.TheVariants.{Yes, No, Undecided}
use Rattle.judge_verdict.specs.verdict.Verdicts.{AreVerdicts, IsRefutation}
use Rattle.judge_settle.specs.settle.{Answers.IsRuling, Trees.IsFailing}

-- over the interval history w
pub ruling_of : (line : Line) (script : Script) (k : ℕ) (verdicts : List Verdict) (verdict : Verdict)
    → slice_get verdicts k ≡ Some verdict
    → ((w : PairHistory) × IsPairHistory line script (declared_box line) w)
    → ((w : PairHistory) → IsPairHistory line script (declared_box line) w
    → AreVerdicts line script w verdicts)
    → ((i : ℕ) (timing : TimingValues) → slice_get verdicts i ≡ Some (No timing)
    → IsRefutation line script i timing)
    → IsRuling line script k verdict
ruling_of line script k verdicts Yes at exists are noes =
    record { held = λ w is. (are w is).each k Yes at }
ruling_of line script k verdicts (No timing) at exists are noes = noes k timing at
ruling_of line script k verdicts Undecided at exists are noes =
    let open_there = (are exists.0 exists.1).each k Undecided at in
    record {
      not_held = λ over. open_there.not_held (over.held exists.0 exists.1);
      passes = open_there.passes;
    }

-- a timing that refutes an obligation fails it
pub refuted_fails : LineLaws → TimingsInsideAreChoicesInside → (line : Line) (script : Script)
    (k : ℕ) (timing : TimingValues) → IsRefutation line script k timing
    → IsFailing line script k timing
refuted_fails laws inside line script k timing is =
    let (h, is_h) = laws.histories.exists line script (timing_choice line timing)
    (laws.inside.choices line (timing_choice line timing) (inside line timing is.inside)) in
    record {
      inside = is.inside;
      ascending = rw is.steady refl;
      fails = record { history = h; is = is_h; fails = is.fails h is_h };
    }
