use Rattle.std.proofs.Common.{[]}
use Rattle.model_plain.proofs.NamedLaws.{no_named}
use Rattle.model_plain.proofs.named.seen_parts.Goals as goal

pub returns : goal.returns
returns c =
    let line = c.args.line.now in
    c.with_timed.ensures _ (c.with_timed-timed_reverse.ensures _
    (c.with_timed-timed_zone2.ensures _ (c.with_timed-timed_zone1.ensures _
    (c.with_seen-at_once.ensures line _ (c.with_seen-voltage.ensures line _
    (c.with_seen-reverse.ensures line _ (c.with_seen-zone2.ensures line _
    (c.with_seen-zone1.ensures line [] (rw c.new.ensures.items (no_named line))))))))))
