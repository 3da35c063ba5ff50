use Rattle.std.proofs.Common.{◌≡◌, ◌<◌, ◌++◌, ◌∷◌, ℕ, List, [], length, ap, arith, rules, sym, subst, ◌∙◌}
use Rattle.std.proofs.lemmas.Option.{slice_get_within}
use Rattle.std.specs.List.{filter}
use Rattle.model_line.specs.declared.script.SeenSpan.{SeenSpan}
use Rattle.run_step.specs.Shown.{is_shown_by}
use Rattle.run_changes.specs.changes.ShownBy.{AreListed}
use Rattle.run_changes.proofs.changes_lemmas.ShownListLaws.{listed_none, listed_more}
use Rattle.run_changes.proofs.changes.shown_by.fresh_shown.Goals as goal

pub loop-i-init : goal.loop-i-init
loop-i-init c =
    let script = c.args.script.now in
    let gates = c.args.net.now.gates in
    let starts = c.push_reserved.new.self.items in
    let no_starts : starts ≡ 0 ∷ [] =
    c.push_reserved.ensures.items ∙ ap (λ (l : List ℕ). l ++ 0 ∷ []) c.in_ok-starts.ensures.items in
    record {
      listed = subst (λ (l : List SeenSpan). AreListed script gates 0 l starts) (sym c.in_ok-spans.ensures.items)
          (subst (λ (l : List ℕ). AreListed script gates 0 [] l) (sym no_starts) (listed_none script gates));
      room = omega (
        arith,
        c.push_reserved.ensures.capacity,
        c.in_ok-starts.ensures.capacity,
        c.len-2.ensures.len,
      );
    }

pub loop-i-preserved : goal.loop-i-preserved
loop-i-preserved c =
    let spans = c.loop-i.spans.items in
    let now = c.list_shown.new.spans.items in
    let gate = c.gate.result.now in
    let long : c.len-in-loop-i.result ≡ length now = search rules in
    record {
      listed = listed_more c.args.script.now c.args.net.now.gates c.loop-i.i gate c.gate.ensures.is spans
          c.loop-i.starts.items c.loop-i.invariant.listed now c.push_reserved-in-loop-i.new.self.items
          (c.in_ok-list_shown.ensures
          ∙ ap (λ (l : List SeenSpan). spans ++ filter (is_shown_by gate) l) c.deref.ensures.value)
          (c.push_reserved-in-loop-i.ensures.items ∙ ap (λ (n : ℕ). c.loop-i.starts.items ++ n ∷ []) long);
      room = omega (arith, c.loop-i.invariant.room, c.push_reserved-in-loop-i.ensures.capacity);
    }

pub returns-clause-each : goal.returns-clause-each
returns-clause-each c =
    let done : c.loop-i.i ≡ length c.args.net.now.gates =
    omega (arith, c.loop-i-test.false, c.len-i-end.ensures.len) in
    record {
      count = omega (arith, c.loop-i.invariant.listed.count, done);
      starts = c.loop-i.invariant.listed.are;
    }

pub returns-clause-shown : goal.returns-clause-shown
returns-clause-shown c = λ i gate at.
    let within : i < length c.args.net.now.gates =
    slice_get_within c.args.net.now.gates i gate at in
    c.loop-i.invariant.listed.shown i gate
    (omega (arith, within, c.loop-i-test.false, c.len-i-end.ensures.len)) at
