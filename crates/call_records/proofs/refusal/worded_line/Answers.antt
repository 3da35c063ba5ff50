use Rattle.std.proofs.Common.{map}
use Rattle.call_records.proofs.Wording.{worded_so}
use Rattle.call_records.proofs.refusal.worded_line.Goals as goal

pub returns : goal.returns
returns c =
    worded_so c.args.asked.name.now c.args.asked.bytes.now c.in_ok-at.at
    (map (λ piece. piece.now) c.args.words.now) c.new-line.result.items _ _ _ _ c.in_ok-at.ensures
    c.new-line.ensures.items c.in_ok-push_place.ensures c.in_ok-text_of.ensures
    (rw c.as_slice.ensures.value at c.in_ok-push_within.ensures) c.in_ok-push.ensures.items
