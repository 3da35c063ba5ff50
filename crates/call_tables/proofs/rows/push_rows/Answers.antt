use Rattle.std.proofs.Common.{◌≡◌, ◌<◌, ◌*◌, ◌+◌, ◌∷◌, ◌++◌, [], ℕ, List, Some, length, refl, sym}
use Rattle.std.proofs.Common.{◌∙◌, ap, subst, arith, append_assoc, length-append}
use Rattle.std.specs.Prelude.{slice_get}
use Rattle.std.specs.Vec.Iter.{into_iter_items}
use Rattle.model_history.specs.ListLaws.{after_append}
use Rattle.model_line.specs.Parameters.{terminal_count}
use Rattle.judge_verdict.specs.verdict.OneEachLaws.{one_next, all_there}
use Rattle.judge_settle.specs.declared.settle.answer.Settled.{Settled}
use Rattle.call_tables.specs.Rows.{IsRow}
use Rattle.call_tables.proofs.rows.push_rows.Goals as goal

-- the element behind those that were taken
next_at : (taken : List Settled) (one : Settled) (rest all : List Settled)
    → (taken ++ one ∷ rest) ≡ all → slice_get all (length taken) ≡ Some one
next_at taken one rest all is =
    let here : length taken + 0 ≡ length taken = omega arith in
    subst (λ (l : List Settled). slice_get l (length taken) ≡ Some one) is
    (ap (slice_get (taken ++ one ∷ rest)) (sym here) ∙ after_append taken (one ∷ rest) 0)

pub loop-one-preserved : goal.loop-one-preserved
loop-one-preserved c =
    let at = c.loop-one in
    let one : Settled = c.in-Some.one in
    let rest : List Settled = into_iter_items c.next.new.self in
    let steps : into_iter_items at.one-iterator ≡ one ∷ rest = c.in-Some.ensures.steps.0 in
    let all : List Settled = c.args.settled.items in
    let items : (at.yielded ++ one ∷ rest) ≡ all = rw (← steps) at.invariant.items in
    let place : slice_get all (length at.yielded) ≡ Some one =
    next_at at.yielded one rest all items in
    record {
      items = append_assoc at.yielded (one ∷ []) rest ∙ items;
      count =
          let was = at.invariant.count in
          let gone = c.in-Some.ensures.steps.1 in
          let short = ap length steps in
          omega (arith, was, gone, short);
      terminal = omega (arith, at.invariant.terminal, length-append at.yielded (one ∷ []));
      rows = λ line scripts s here are before.
          let inside : length at.yielded < terminal_count line =
          omega (arith, are.count, ap length items, length-append at.yielded (one ∷ rest)) in
          let terminal : at.terminal < terminal_count line =
          omega (arith, inside, at.invariant.terminal) in
          one_next (IsRow line scripts) (c.args.script * terminal_count line + at.terminal)
          (c.args.script * terminal_count line + (at.terminal + 1)) at.rows.items
          c.push.new.self.items _ (omega arith) c.in_ok-push.ensures.items (record {
            script = s;
            at = here;
            terminal = terminal;
            place = refl;
            answered = are.each at.terminal one
                (subst (λ (n : ℕ). slice_get all n ≡ Some one) (sym at.invariant.terminal) place);
          })
          (at.invariant.rows line scripts s here are before);
    }

pub returns : goal.returns
returns c = λ line scripts s here are before.
    let at = c.loop-one in
    let left : List Settled = into_iter_items at.one-iterator in
    let empty : length left ≡ 0 = sym at.invariant.count ∙ c.in-None.ensures.steps.0 in
    all_there (IsRow line scripts) (c.args.script * terminal_count line + at.terminal)
    (c.args.script * terminal_count line + terminal_count line) at.rows.items
    (omega (
      arith,
      at.invariant.terminal,
      empty,
      ap length at.invariant.items,
      length-append at.yielded left,
      are.count,
    ))
    (at.invariant.rows line scripts s here are before)
