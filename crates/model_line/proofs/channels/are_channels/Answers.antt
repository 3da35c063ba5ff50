use Rattle.std.proofs.Common.{◌≡◌, true}
use Rattle.model_line.specs.{Channels.channels_are, ChannelLaws.channels_below}
use Rattle.model_line.proofs.channels.are_channels.Goals as goal

pub returns-then-not-are_pairs : goal.returns-then-not-are_pairs
returns-then-not-are_pairs c = (
  λ h. absurd (cc),
  λ are.
      let paired : c.are_pairs.result ≡ true =
      c.are_pairs.ensures.1 (channels_below c.args.count c.args.channels.now are) in
      absurd (cc),
)

pub returns : goal.returns
returns c = (
  λ found. channels_are c.args.count c.args.channels.now
      (c.are_enough.ensures.0 c.if-not-are_enough.false)
      (c.are_pairs.ensures.0 c.if-not-are_pairs.false) (c.are_found.ensures.0 found),
  λ are. c.are_found.ensures.1 are.found,
)
