use Rattle.std.proofs.Common.{refl, sym}
use Rattle.call_pilot.proofs.commands_lemmas.Benched.{begun_more, begun_none, ended}
use Rattle.call_pilot.proofs.commands_lemmas.Counts.{grew_nothing, grew_once, none_fell_both, none_fell_same}
use Rattle.call_pilot.proofs.commands.run_bench.certified_text.Goals as goal

pub returns-in_err-text-clause-kept : goal.returns-in_err-text-clause-kept
returns-in_err-text-clause-kept g c = none_fell_same (g.G.Engine.calls c.args.engine.now)

pub loop-script-init : goal.loop-script-init
loop-script-init g c = (
  grew_nothing _ 0 refl,
  none_fell_same (g.G.Engine.calls c.args.engine.now),
  begun_none c.args.compiled.now.line.now c.in_ok-text.text.items c.in_ok-text.ensures.items,
)

pub loop-script-preserved : goal.loop-script-preserved
loop-script-preserved g c = (
  grew_once _ _ _ c.loop-script.script-index c.loop-script.invariant.0
      c.in_ok-push_certified.ensures.asked,
  none_fell_both _ _ _ c.loop-script.invariant.1 c.in_ok-push_certified.ensures.kept,
  begun_more c.args.compiled.now.line.now
      (c.a_certificate_grows_by_parts.ensures.text c.args.compiled.now.line.now)
      (c.a_certificate_grows_by_parts.ensures.claims c.args.compiled.now.line.now)
      (c.a_certificate_grows_by_parts.ensures.many c.args.compiled.now.line.now)
      c.args.scripts.now c.loop-script.script-index c.script-item.result
      c.loop-script.text.items c.push_certified.new.text.items c.loop-script-test.true
      (sym c.script-item.is) c.loop-script.invariant.2 c.in_ok-push_certified.ensures.text,
)

pub returns-in_err-push_certified-clause-kept : goal.returns-in_err-push_certified-clause-kept
returns-in_err-push_certified-clause-kept g c =
    none_fell_both _ _ _ c.loop-script.invariant.1 c.in_err-push_certified.ensures.kept

pub returns-clause-text : goal.returns-clause-text
returns-clause-text g c =
    ended c.args.compiled.now.line.now
    (c.a_certificate_grows_by_parts.ensures.text c.args.compiled.now.line.now)
    (c.a_certificate_grows_by_parts.ensures.claims c.args.compiled.now.line.now)
    (c.a_certificate_grows_by_parts.ensures.many c.args.compiled.now.line.now)
    (λ script claims is.
    (c.what_is_certified_is_accepted.ensures.written c.args.compiled.now.line.now script claims
    is).each)
    (c.a_certificate_is_its_parts.ensures.parts c.args.compiled.now.line.now)
    c.args.scripts.now c.loop-script.script-index c.loop-script.text.items _
    c.loop-script-test.false c.in_ok-extend_from_slice.ensures.items c.loop-script.invariant.2
