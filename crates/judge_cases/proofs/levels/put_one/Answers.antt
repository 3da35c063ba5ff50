use Rattle.std.proofs.Common.{◌≡◌, ◌+◌, ◌∷◌, ℕ, Bool, sym, ◌∙◌, ap, subst, arith}
use Rattle.std.specs.Prelude.{false}
use Rattle.model_settle.specs.Assumed.{Assumption, Throughout, Interrupted, HasSpan, span_of}
use Rattle.model_settle.specs.Assumed.{assumed_level, is_among, least_pulse, pulse_over, wanted}
use Rattle.judge_cases.specs.AssumedAt.{assumed_at, span_at}
use Rattle.judge_cases.specs.AssumedParts.{span_back}
use Rattle.judge_cases.specs.{Puts.PutIn, Rows.IsRowOf, Rows.echo_timer, Views.view_box}
use Rattle.judge_cases.proofs.PutLaws.{put_until}
use Rattle.judge_cases.proofs.levels.put_one.Goals as goal
use Rattle.judge_cases.proofs.levels.put_one.Goals.{After-parts-terminal}

has : (c : After-parts-terminal) → HasSpan c.args.compiled.now.line.now
    (span_at c.parts-terminal.result.0 c.parts-terminal.result.1 c.parts-terminal.result.2)
has c =
    subst (HasSpan c.args.compiled.now.line.now)
    (ap span_of c.parts-terminal.ensures
    ∙ span_back c.parts-terminal.result.0 c.parts-terminal.result.1 c.parts-terminal.result.2 c.parts-terminal.result.3)
    c.requires.span

pub row_at-row-requires-clause-weak : goal.row_at-row-requires-clause-weak
row_at-row-requires-clause-weak c = (has (goal.at.row_at-row-requires-clause-weak c).After-parts-terminal).weak

pub put_level-requires-clause-from : goal.put_level-requires-clause-from
put_level-requires-clause-from c =
    let some = (has (goal.at.put_level-requires-clause-from c).After-parts-terminal).some in omega (arith, some)

pub put_level-requires-clause-run : goal.put_level-requires-clause-run
put_level-requires-clause-run c = (has (goal.at.put_level-requires-clause-run c).After-parts-terminal).run

pub pulse_in-requires : goal.pulse_in-requires
pulse_in-requires c =
    record { weak = (has (goal.at.pulse_in-requires c).After-parts-terminal).weak }

pub end_of-end-requires : goal.end_of-end-requires
end_of-end-requires c = (has (goal.at.end_of-end-requires c).After-parts-terminal).run

pub returns-then-throughout-clause-lane : goal.returns-then-throughout-clause-lane
returns-then-throughout-clause-lane c = λ before put.
    let line = c.args.compiled.now.line.now in
    let net = c.args.compiled.now.net.now in
    let box = view_box line c.args.view.now in
    let k : ℕ = c.parts-terminal.result.0 in
    let is : c.args.assumed ≡ Throughout (span_at k c.parts-terminal.result.1 c.parts-terminal.result.2) =
    c.parts-terminal.ensures
    ∙ ap (assumed_at k c.parts-terminal.result.1 c.parts-terminal.result.2) c.if-throughout.true in
    subst (λ (a : Assumption). PutIn line net c.args.rows.now c.put_level.new.masks.items
    c.args.lane (assumed_level line box (a ∷ before))) (sym is)
    (c.put_level.ensures.lane (wanted line k) (assumed_level line box before)
    (subst (λ (b : Bool). IsRowOf net c.args.rows.now (echo_timer line k b) c.row_at-row.result)
    c.if-throughout.true c.row_at-row.ensures.is)
    put)

pub returns-else-throughout-clause-lane : goal.returns-else-throughout-clause-lane
returns-else-throughout-clause-lane c = λ before put.
    let line = c.args.compiled.now.line.now in
    let net = c.args.compiled.now.net.now in
    let box = view_box line c.args.view.now in
    let k : ℕ = c.parts-terminal.result.0 in
    let from : ℕ = c.parts-terminal.result.1 in
    let to : ℕ = c.parts-terminal.result.2 in
    let until : ℕ = from + least_pulse line box k in
    let is : c.args.assumed ≡ Interrupted (span_at k from to) =
    c.parts-terminal.ensures ∙ ap (assumed_at k from to) c.if-throughout.false in
    subst (λ (a : Assumption). PutIn line net c.args.rows.now c.put_level-else-throughout.new.masks.items
    c.args.lane (assumed_level line box (a ∷ before))) (sym is)
    (put_until line net c.args.rows.now c.put_level-else-throughout.new.masks.items c.args.lane
    (assumed_level line box before) (pulse_over line k) to c.end_of-end.result until false
    (λ t early. c.end_of-end.ensures.among t early
    ∙ ap (λ (n : ℕ). is_among to (from + n) t) c.pulse_in.ensures)
    (c.put_level-else-throughout.ensures.lane (pulse_over line k) (assumed_level line box before)
    (subst (λ (b : Bool). IsRowOf net c.args.rows.now (echo_timer line k b) c.row_at-row.result)
    c.if-throughout.false c.row_at-row.ensures.is)
    put))
