use Rattle.std.proofs.Common.{◌≡◌, ◌*◌, ◌-◌, length}
use Rattle.judge_verdict.specs.boxes.Held.{TellBlocks}
use Rattle.judge_verdict.proofs.boxes.held.held_blocks.Given as goal

abbrev pub invariant-next_block : goal.invariant-next_block
invariant-next_block l = record {
  count : l.first ≡ 64 * length l.blocks.items;
  tell : TellBlocks l.script l.terminal l.parts l.blocks.items;
}

abbrev pub decreases-next_block : goal.decreases-next_block
decreases-next_block l = length l.parts - l.first
