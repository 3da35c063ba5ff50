use Rattle.std.proofs.Common.{◌≡◌, ℕ, ◌<◌, subst, sym}
use Rattle.model_line.specs.Channels.{from_of, to_of}
use Rattle.model_line.specs.Parameters.{channel_count}
use Rattle.model_logic.proofs.OwnNames.{channel_there}
use Rattle.model_logic.proofs.times.channel_to.Goals as goal

pub returns-clause-exists : goal.returns-clause-exists
returns-clause-exists c =
    subst (λ (n : ℕ). n < channel_count c.args.line.now) (sym c.unwrap_or.ensures)
    (channel_there c.args.line.now c.channel_of.result
    (λ i. from_of c.args.line.now.channels.items i ≡ c.args.from)
    (λ i. to_of c.args.line.now.channels.items i ≡ c.args.terminal)
    c.channel_of.ensures.ends)
