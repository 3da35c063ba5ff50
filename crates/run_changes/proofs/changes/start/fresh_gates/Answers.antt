use Rattle.std.proofs.Common.{◌≡◌, length, ◌∙◌, ap, arith, subst, Some}
use Rattle.std.proofs.lemmas.List.{length-replicate}
use Rattle.std.specs.Prelude.{slice_get}
use Rattle.run_changes.specs.declared.changes.since.Since.{Since}
use Rattle.run_changes.proofs.changes_lemmas.WaitLaws.{at_replicate, wait_fresh}
use Rattle.run_changes.proofs.changes.start.fresh_gates.Goals as goal

pub returns-clause-gates : goal.returns-clause-gates
returns-clause-gates g c = record {
  cells = c.in_ok-cells.ensures.shape;
  sinces = ap length c.in_ok-sinces.ensures ∙ length-replicate _ _ ∙ c.len-count.ensures.len;
  dues = ap length c.in_ok-dues.ensures ∙ length-replicate _ _ ∙ c.len-count.ensures.len;
  column = ap length c.in_ok-column.ensures ∙ length-replicate _ _ ∙ c.len-count.ensures.len;
  marks = c.in_ok-marks.ensures.marks c.in_ok-dues.dues.items
      (ap length c.in_ok-dues.ensures ∙ length-replicate _ _);
  fresh = λ _ i due low at.
      at_replicate c.len-count.result 0 i due
      (subst (λ l. slice_get l i ≡ Some due) c.in_ok-dues.ensures at);
}

pub returns-clause-wait : goal.returns-clause-wait
returns-clause-wait g c = λ lane p inside times.
    wait_fresh g.V.Signal.signal g.V.Timed.stands_for lane p.world p.keys p.pairs
    c.args.run.now.compiled.now.net.now.gates
    (record {
      cells = c.in_ok-cells.cells;
      sinces = c.in_ok-sinces.sinces;
      dues = c.in_ok-dues.dues;
      marks = c.in_ok-marks.marks;
      column = c.in_ok-column.column;
    })
    (λ i s at. ap (λ (x : Since _). x.fed) (at_replicate c.len-count.result _ i s
    (subst (λ x. slice_get x i ≡ Some s) c.in_ok-sinces.ensures at)))
    (λ i due at. at_replicate c.len-count.result 0 i due
    (subst (λ x. slice_get x i ≡ Some due) c.in_ok-dues.ensures at))
    (c.in_ok-cells.ensures.stands lane p.world p.pairs inside times)

pub fresh_marks-requires-clause-few : goal.fresh_marks-requires-clause-few
fresh_marks-requires-clause-few g c =
    omega (arith, c.len-count.ensures.len, c.args.run.now.compiled.now.of_line.laws.gates.few)

pub fresh_marks-requires-clause-short : goal.fresh_marks-requires-clause-short
fresh_marks-requires-clause-short g c = c.args.run.now.compiled.now.line.now.horizon_in_range.1

pub fresh_cells-requires-clause-names : goal.fresh_cells-requires-clause-names
fresh_cells-requires-clause-names g c = c.args.run.now.compiled.now.of_line.named

pub fresh_cells-requires-clause-spans : goal.fresh_cells-requires-clause-spans
fresh_cells-requires-clause-spans g c = c.requires.spans

pub returns-clause-horizon : goal.returns-clause-horizon
returns-clause-horizon g c = c.in_ok-marks.ensures.horizon

pub returns-clause-next : goal.returns-clause-next
returns-clause-next g c = c.in_ok-marks.ensures.next
