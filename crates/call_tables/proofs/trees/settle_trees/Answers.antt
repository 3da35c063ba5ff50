use Rattle.std.proofs.Common.{◌≡◌, ◌<◌, ◌++◌, ℕ, List, length, sym, ◌∙◌, ap, subst, arith}
use Rattle.model_line.specs.declared.script.Script.{Script}
use Rattle.cert_claims.specs.declared.check.counts.Counts.{Counts}
use Rattle.cert_settle.specs.Grammar.{HasOneEach}
use Rattle.cert_settle.specs.Text.{part_text}
use Rattle.cert_settle.specs.Check.{IsAccepted}
use Rattle.call_tables.specs.declared.row.Row.{Row}
use Rattle.call_tables.specs.Written.{results_of, rows_of, trees_text}
use Rattle.call_tables.proofs.RowLaws.{rows_end}
use Rattle.call_tables.proofs.TextLaws.{begun_none, begun_more, ended}
use Rattle.call_tables.proofs.trees.settle_trees.Goals as goal

pub loop-s-init : goal.loop-s-init
loop-s-init c =
    let line = c.args.study.now.line in
    let rows : List Row = c.args.rows.now in
    begun_none line c.args.study.now.scripts.items (λ (s : ℕ). results_of (rows_of line rows s)) _
    (c.in_ok-text.ensures.items ∙ c.a_settle_text_has_a_head_and_an_end.ensures.head)

pub rows_of-of_script-requires : goal.rows_of-of_script-requires
rows_of-of_script-requires c =
    let line = c.args.study.now.line in
    let scripts : List Script = c.args.study.now.scripts.items in
    let early : c.loop-s.s < length scripts =
    omega (arith, c.loop-s-test.true, c.len-s-end.ensures, c.args.study.now.scripts.ok.0) in
    record {
      few = omega (arith, early, c.requires.study.few);
      within = rows_end line scripts c.args.rows.now c.loop-s.s c.requires.rows early;
    }

pub push_part-requires : goal.push_part-requires
push_part-requires c =
    let line = c.args.study.now.line in
    let scripts : List Script = c.args.study.now.scripts.items in
    let early : c.loop-s.s < length scripts =
    omega (arith, c.loop-s-test.true, c.len-s-end.ensures, c.args.study.now.scripts.ok.0) in
    subst (λ (rs : List Row). HasOneEach line (results_of rs)) (sym c.rows_of-of_script.ensures)
    (c.rows_are_printable.ensures line scripts c.args.rows.now c.loop-s.s c.requires.rows early)

pub loop-s-preserved : goal.loop-s-preserved
loop-s-preserved c =
    let line = c.args.study.now.line in
    let scripts : List Script = c.args.study.now.scripts.items in
    let rows : List Row = c.args.rows.now in
    let script : Script = c.index.result.now in
    let old : List ℕ = c.loop-s.text.items in
    let early : c.loop-s.s < length scripts =
    omega (arith, c.loop-s-test.true, c.len-s-end.ensures, c.args.study.now.scripts.ok.0) in
    begun_more line scripts (λ (s : ℕ). results_of (rows_of line rows s))
    (c.a_settle_text_grows_by_parts.ensures line) c.loop-s.s script old
    c.push_part.new.text.items early (sym c.index.ensures) c.loop-s.invariant
    (c.in_ok-push_part.ensures
    ∙ ap (λ (rs : List Row). old ++ part_text line script (results_of rs))
    c.rows_of-of_script.ensures)

pub returns : goal.returns
returns c =
    let line = c.args.study.now.line in
    let scripts : List Script = c.args.study.now.scripts.items in
    let rows : List Row = c.args.rows.now in
    let whole : List ℕ = c.extend_from_slice.new.self.items in
    let all : c.loop-s.s ≡ length scripts =
    omega (
      arith,
      c.loop-s-test.false,
      c.loop-s.auto.s-end,
      c.len-s-end.ensures,
      c.args.study.now.scripts.ok.0,
    ) in
    let is : whole ≡ trees_text line scripts rows =
    ended line scripts (λ (s : ℕ). results_of (rows_of line rows s)) c.loop-s.s
    c.loop-s.text.items whole all c.loop-s.invariant
    (c.in_ok-extend_from_slice.ensures.items
    ∙ ap (λ (z : List ℕ). c.loop-s.text.items ++ z)
    c.a_settle_text_has_a_head_and_an_end.ensures.end) in
    record {
      text = is;
      accepted = subst (λ (t : List ℕ). (counts : Counts) × IsAccepted line scripts t counts)
          (sym is)
          (c.what_settle_writes_is_accepted.ensures line scripts rows c.requires.study.fit
          c.requires.rows);
    }
