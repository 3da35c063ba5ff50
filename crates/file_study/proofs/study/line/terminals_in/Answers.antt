use Rattle.std.proofs.Common.{false, [], ◌∷◌, length-append, sym, ◌∙◌, refl, arith}
use Rattle.std.proofs.lemmas.Result.{err_from_is_err_and}
use Rattle.std.proofs.lemmas.List.{drop_all}
use Rattle.std.proofs.lemmas.List.Folds.{list_all-append}
use Rattle.base_memory.specs.CheckLaws.{fails_ends}
use Rattle.base_memory.specs.declared.stopped.Stopped.TheVariants as stopped
use Rattle.model_line.specs.PlainNames.{is_plain_name}
use Rattle.model_line.specs.declared.line.Terminal.{Terminal}
use Rattle.file_study.specs.study.LineTables.{terminals_in}
use Rattle.file_study.proofs.study_lemmas.Steps.{terminals_more}
use Rattle.file_study.proofs.study.line.terminals_in.Goals as goal

pub returns-in_err-text-clause-terminals : goal.returns-in_err-text-clause-terminals
returns-in_err-text-clause-terminals c =
    let told = err_from_is_err_and c.from_residual.result c.from_residual.ensures.1 in
    let more = terminals_more c.args.path c.loop-i.i c.args.names.now c.index-names-i.result
    c.loop-i.terminals.items c.loop-i-test.true in
    let here = rw (← c.index-names-i.is, ← c.item.ensures) at more in
    rw (told.1, told.2)
    (fails_ends (stopped.Fault c.in_err-text.field-0.0) _ _ _ (sym c.in_err-text.ensures)
    (here ∙ c.loop-i.invariant.read))

pub returns-in_err-name-clause-terminals : goal.returns-in_err-name-clause-terminals
returns-in_err-name-clause-terminals c =
    let told = err_from_is_err_and c.from_residual-in_err-name.result
    c.from_residual-in_err-name.ensures.1 in
    let more = terminals_more c.args.path c.loop-i.i c.args.names.now c.index-names-i.result
    c.loop-i.terminals.items c.loop-i-test.true in
    let here = rw (← c.index-names-i.is, ← c.item.ensures) at more in
    let then = rw (← c.in_ok-text.ensures, c.item.ensures, ← c.item-in-loop-i.ensures) at here in
    rw (told.1, told.2)
    (fails_ends (stopped.Fault c.in_err-name.field-0.0) _ _ _
    (sym (rw c.deref.ensures.value at c.in_err-name.ensures.is))
    (then ∙ c.loop-i.invariant.read))

pub loop-i-preserved : goal.loop-i-preserved
loop-i-preserved c =
    let more = terminals_more c.args.path c.loop-i.i c.args.names.now c.index-names-i.result
    c.loop-i.terminals.items c.loop-i-test.true in
    let here = rw (← c.index-names-i.is, ← c.item.ensures) at more in
    let then = rw (← c.in_ok-text.ensures, c.item.ensures, ← c.item-in-loop-i.ensures) at here in
    let said = rw c.deref.ensures.value at c.in_ok-name.ensures.is in
    let next = rw (← said) at then in
    let new : Terminal = record { name = c.in_ok-name.name; weak = false; guard = false } in
    let plain = list_all-append (λ (t : Terminal). is_plain_name t.name) c.loop-i.terminals.items
    (new ∷ []) in
    record {
      read = rw c.in_ok-push.ensures.items (next ∙ c.loop-i.invariant.read);
      plain =
          rw (
            c.in_ok-push.ensures.items,
            plain,
            c.loop-i.invariant.plain,
            c.in_ok-name.ensures.plain,
          ) refl;
      count =
          rw c.in_ok-push.ensures.items
          (omega (arith, length-append c.loop-i.terminals.items (new ∷ [])));
    }

pub returns-clause-terminals : goal.returns-clause-terminals
unfolding terminals_in
returns-clause-terminals c =
    let none = drop_all c.loop-i.i c.args.names.now c.loop-i-test.false in
    sym (rw none at c.loop-i.invariant.read)
