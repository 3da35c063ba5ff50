use Rattle.call_pilot.proofs.commands_lemmas.ScriptLists.{fits_more, scripts_more}
use Rattle.call_pilot.proofs.commands.scripts.bench_scripts.Goals as goal

pub loop-before-preserved : goal.loop-before-preserved
loop-before-preserved c =
    let old = c.loop-before.scripts.items in
    let script = c.in_ok-script.script in
    record {
      are = scripts_more c.loop-before.before old _ script c.in_ok-push.ensures.items
          c.loop-before.invariant.are c.in_ok-script.ensures.is;
      fit = λ line is.
          fits_more line old _ script c.in_ok-push.ensures.items (c.loop-before.invariant.fit line is)
          (c.in_ok-script.ensures.fits line is);
    }
