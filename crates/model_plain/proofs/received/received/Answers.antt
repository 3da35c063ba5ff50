use Rattle.std.proofs.Common.{refl}
use Rattle.model_logic.specs.Received.{received}
use Rattle.model_plain.proofs.ProgramLaws.{closed_from}
use Rattle.model_plain.proofs.received.received.Goals as goal

pub returns : goal.returns
unfolding received
returns c =
    closed_from (received c.args.line.now c.args.k c.args.j) c.and.result (λ parts.
    rw c.channel_to-channel.ensures.is at (c.and.ensures parts _ _ refl
    (c.not-safe.ensures parts _ refl)))
