use Rattle.std.proofs.Common.{map, ◌≡◌, ◌++◌, [], ◌∷◌, length-append, ap, sym, ◌∙◌, arith, codes}
use Rattle.std.proofs.lemmas.Result.{err_from_is_err_and}
use Rattle.std.proofs.lemmas.List.{drop_all}
use Rattle.file_line.specs.Places.{places_of, places_in}
use Rattle.file_line.specs.{Lines.LineValues, Lines.values_of, Lines.items_at}
use Rattle.file_line.specs.TerminalTables.{terminal_at}
use Rattle.base_memory.specs.CheckLaws.{fails_ends}
use Rattle.file_line.proofs.{ItemSteps.items_more, TerminalLaws.terminal_at-ok}
use Rattle.file_line.proofs.terminal.terminals.Goals as goal

pub returns-in_err-item-clause-values : goal.returns-in_err-item-clause-values
returns-in_err-item-clause-values c =
    let p = err_from_is_err_and c.from_residual.result c.from_residual.ensures.1 in
    let more = items_more (terminal_at c.args.unit) (places_in (codes "terminal") (map places_of c.args.told.now)) c.loop-i.i c.args.values.now (values_of c.loop-i.line)
    c.index-values-i.result c.loop-i-test.true in
    let here = rw (← c.index-values-i.is) at more in
    rw (p.1, p.2)
    (fails_ends c.in_err-item.field-0.0 _ _ _ c.in_err-item.ensures
    (sym here ∙ c.loop-i.invariant.read))

pub loop-i-preserved : goal.loop-i-preserved
loop-i-preserved c =
    let more = items_more (terminal_at c.args.unit) (places_in (codes "terminal") (map places_of c.args.told.now)) c.loop-i.i c.args.values.now (values_of c.loop-i.line)
    c.index-values-i.result c.loop-i-test.true in
    let here =
    rw (← c.index-values-i.is, c.in_ok-item.ensures) at more in
    let one = terminal_at-ok _ _ _ (values_of c.loop-i.line) (values_of c.item.new.line)
    c.requires.some c.in_ok-item.ensures in
    let terminals : c.loop-i.line.terminals.items ++ one.terminal ∷ []
    ≡ c.item.new.line.terminals.items = ap (λ (v : LineValues). v.terminals) one.is in
    let channels : c.loop-i.line.channels.items ≡ c.item.new.line.channels.items =
    ap (λ (v : LineValues). v.channels) one.is in
    record {
      read = sym here ∙ c.loop-i.invariant.read;
      count =
          rw (← terminals)
          (omega (arith, length-append c.loop-i.line.terminals.items (one.terminal ∷ [])));
      channels = sym channels ∙ c.loop-i.invariant.channels;
    }

pub returns-clause-values : goal.returns-clause-values
unfolding items_at
returns-clause-values c =
    let none = drop_all c.loop-i.i c.args.values.now c.loop-i-test.false in
    sym (rw none at c.loop-i.invariant.read)
