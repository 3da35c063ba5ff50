use Rattle.std.proofs.Common.{◌++◌, refl, sym, ap, ◌∙◌}
use Rattle.call_pilot.proofs.commands_lemmas.Searched.{begun_more, begun_none, ended}
use Rattle.call_pilot.proofs.commands.split.split.Goals as goal

pub loop-script-init : goal.loop-script-init
loop-script-init c =
    begun_none c.args.study.now.line c.args.depth c.in_ok-text.text.items _
    (c.in_ok-text.ensures.items ∙ c.a_split_text_has_a_head_and_an_end.ensures.head) refl refl

pub loop-script-preserved : goal.loop-script-preserved
loop-script-preserved c =
    begun_more c.args.study.now.line c.args.depth
    (c.a_split_text_grows_by_parts.ensures c.args.study.now.line)
    (c.what_is_searched_grows_by_parts.ensures.results c.args.study.now.line c.args.depth)
    (c.what_is_searched_grows_by_parts.ensures.many c.args.study.now.line c.args.depth)
    c.as_slice-scripts.result.now c.loop-script.script-index c.script-item.result
    c.loop-script.text.items c.push_part.new.text.items c.loop-script.found c.in_ok-more.more
    c.and-found.result c.loop-script-test.true (sym c.script-item.is) c.and-found.ensures.no
    c.and-found.ensures.undecided c.loop-script.invariant c.in_ok-more.ensures

pub returns : goal.returns
returns c =
    rw c.status.ensures (ended c.args.study.now.line c.args.depth
    c.args.study.now.scripts.items c.loop-script.script-index c.loop-script.text.items _
    c.loop-script.found (rw c.as_slice-scripts.ensures.value at c.loop-script-test.false)
    (c.in_ok-extend_from_slice.ensures.items
    ∙ ap (λ z. c.loop-script.text.items ++ z) c.a_split_text_has_a_head_and_an_end.ensures.end)
    (rw c.as_slice-scripts.ensures.value at c.loop-script.invariant))
