use Rattle.std.proofs.Common.{◌≡◌, ◌≤◌, ◌+◌, ◌++◌, ◌<◌, ℕ, List, length, drop, get_or, sym, ◌∙◌}
use Rattle.std.proofs.Common.{None, ap, subst, append_assoc, arith}
use Rattle.std.proofs.lemmas.List.{append-nil, at_drop_all, drop_more}
use Rattle.std.proofs.lemmas.Option.{slice_get-get_or}
use Rattle.model_line.specs.{declared.script.Script.Script, declared.line.Line.Line}
use Rattle.judge_margins.specs.{declared.margins.end.End.End, declared.margins.end.Side.Side}
use Rattle.judge_margins.specs.margins.MarginsText.{end_row, end_rows}
use Rattle.judge_margins.specs.margins.Widened.{param_at, room, side_at}
use Rattle.judge_margins.proofs.margins.text.margins_text.Goals as goal

-- the text with the row of the next end
one_row : (line : Line) (scripts : List Script) (ends : List End) (place param : ℕ) (side : Side)
    (d : End) (text new all : List ℕ) → place < length ends → param ≡ param_at place
    → side ≡ side_at place → new ≡ text ++ end_row line scripts param side (get_or ends place d)
    → text ++ end_rows line scripts place (drop place ends) ≡ all
    → new ++ end_rows line scripts (place + 1) (drop (place + 1) ends) ≡ all
one_row line scripts ends place param side d text new all lt of on is before =
    let end : End = get_or ends place d in
    let rest : List ℕ = end_rows line scripts (place + 1) (drop (place + 1) ends) in
    ap (λ (l : List ℕ). l ++ rest) is ∙ append_assoc text (end_row line scripts param side end) rest
    ∙ ap (λ (n : ℕ). text ++ (end_row line scripts n side end ++ rest)) of
    ∙ ap (λ (s : Side). text ++ (end_row line scripts (param_at place) s end ++ rest)) on
    ∙ ap (λ (l : List End). text ++ end_rows line scripts place l) (sym (drop_more ends place d lt))
    ∙ before

pub loop-place-init : goal.loop-place-init
loop-place-init c =
    ap (λ (l : List ℕ). l ++ end_rows c.args.line.now c.args.scripts.now 0 c.args.ends.now)
    c.in_ok-text.ensures.items

pub push_row-requires-clause-param : goal.push_row-requires-clause-param
push_row-requires-clause-param c =
    omega (arith, c.param_at.ensures, c.loop-place-test.true, c.requires.count)

pub push_row-requires-clause-slack : goal.push_row-requires-clause-slack
push_row-requires-clause-slack c =
    let line = c.args.line.now in
    let ends = c.args.ends.now in
    let place : ℕ = c.loop-place.place in
    let d : End = record { slack = 0; lost = None } in
    let end : End = get_or ends place d in
    subst (λ (s : Side). end.slack ≤ room line c.param_at.result s) (sym c.side_at.ensures)
    (subst (λ (n : ℕ). end.slack ≤ room line n (side_at place)) (sym c.param_at.ensures)
    (c.requires.each place end (slice_get-get_or ends place d c.loop-place-test.true)))

pub loop-place-preserved : goal.loop-place-preserved
loop-place-preserved c =
    one_row c.args.line.now c.args.scripts.now c.args.ends.now c.loop-place.place c.param_at.result
    c.side_at.result (record { slack = 0; lost = None }) c.loop-place.text.items
    c.push_row.new.text.items _ c.loop-place-test.true c.param_at.ensures c.side_at.ensures
    c.in_ok-push_row.ensures c.loop-place.invariant

pub returns : goal.returns
returns c =
    let text = c.loop-place.text.items in
    let rows = end_rows c.args.line.now c.args.scripts.now c.loop-place.place in
    sym (append-nil text) ∙ ap (λ (l : List ℕ). text ++ l)
    (sym (at_drop_all rows c.args.ends.now c.loop-place.place c.loop-place-test.false))
    ∙ c.loop-place.invariant
