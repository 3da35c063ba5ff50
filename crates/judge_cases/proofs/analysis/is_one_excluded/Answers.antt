use Rattle.std.proofs.Common.{◌≡◌, ◌∙◌, Bool, sym, ap, subst}
use Rattle.std.specs.Prelude.{Decides, false}
use Rattle.model_settle.specs.Assumed.{Assumption, HasSpan, Throughout, Interrupted, span_of}
use Rattle.judge_cases.specs.AssumedAt.{assumed_at, span_at}
use Rattle.judge_cases.specs.AssumedParts.{span_back}
use Rattle.judge_cases.specs.Excluded.{ExcludedIn}
use Rattle.judge_cases.proofs.analysis.is_one_excluded.Goals as goal

pub is_off_in-requires-clause-span : goal.is_off_in-requires-clause-span
is_off_in-requires-clause-span c =
    subst (HasSpan c.args.compiled.now.line.now)
    (ap span_of c.parts-terminal.ensures
    ∙ span_back c.parts-terminal.result.0 c.parts-terminal.result.1 c.parts-terminal.result.2 c.parts-terminal.result.3)
    c.requires.span

pub returns-then-throughout : goal.returns-then-throughout
returns-then-throughout c =
    let is : c.args.assumed
    ≡ Throughout (span_at c.parts-terminal.result.0 c.parts-terminal.result.1 c.parts-terminal.result.2) =
    c.parts-terminal.ensures
    ∙ ap (λ (b : Bool). assumed_at c.parts-terminal.result.0 c.parts-terminal.result.1 c.parts-terminal.result.2 b)
    c.if-throughout.true in
    subst (λ (a : Assumption). Decides c.is_off_in.result
    (ExcludedIn c.args.compiled.now.line.now c.args.compiled.now.net.now c.args.lane
    c.args.waves.now a)) (sym is) c.is_off_in.ensures

pub returns-else-throughout : goal.returns-else-throughout
returns-else-throughout c =
    let is : c.args.assumed
    ≡ Interrupted (span_at c.parts-terminal.result.0 c.parts-terminal.result.1 c.parts-terminal.result.2) =
    c.parts-terminal.ensures
    ∙ ap (λ (b : Bool). assumed_at c.parts-terminal.result.0 c.parts-terminal.result.1 c.parts-terminal.result.2 b)
    c.if-throughout.false in
    subst (λ (a : Assumption). Decides false
    (ExcludedIn c.args.compiled.now.line.now c.args.compiled.now.net.now c.args.lane
    c.args.waves.now a)) (sym is) (λ on. absurd (cc), λ never. absurd never)
