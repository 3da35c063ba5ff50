use Rattle.std.proofs.Common.{true, false}
use Rattle.file_comtrade.proofs.Ids.{named_alone, named_none}
use Rattle.file_comtrade.proofs.channel.channel_named.Goals as goal

pub returns-in-None-clause-value : goal.returns-in-None-clause-value
returns-in-None-clause-value c =
    named_none c.args.ids.now c.args.id.now c.in-None.ensures.value

pub returns-then-is_any-clause-value : goal.returns-then-is_any-clause-value
returns-then-is_any-clause-value c =
    named_alone c.args.ids.now c.args.id.now c.in-Some.i true c.in-Some.ensures.value c.if-is_any.ensures

pub returns-else-is_any-clause-value : goal.returns-else-is_any-clause-value
returns-else-is_any-clause-value c =
    named_alone c.args.ids.now c.args.id.now c.in-Some.i false c.in-Some.ensures.value c.if-is_any.ensures
