-- The trees of a channel that opens for a while when it is lost. Times are those of the channel.
use Rattle.std.specs.Prelude.{ℕ}
use Rattle.model_line.specs.declared.line.Setting.TheVariants.{UnblockPickup, UnblockWindow}
use Rattle.model_line.specs.declared.line.Setting.TheVariants.{UnblockRestore}
use Rattle.model_line.specs.{declared.line.Line.Line, declared.line.Setting.Setting}
use Rattle.model_line.specs.declared.line.Owner.TheVariants as owner
use Rattle.model_logic.specs.Tree.{Tree, Loss, Raw, Not, And, Or, Timer, Seal}
use Rattle.model_logic.specs.Received.{channel_to, received, all_others}
use Rattle.model_logic.specs.Elements.{setting_of}
use Rattle.model_logic.specs.{declared.time.Time.TheVariants.Zero, declared.time.Time.Time}

-- a setting of the channel to k from j
unfoldable pub channel_setting : Line → ℕ → ℕ → Setting → Time
channel_setting line k j x = setting_of line (owner.Channel (channel_to line k j)) x

-- k hears the guard tone of j: no signal, and the channel is not lost (GUARD)
unfoldable pub guard_seen : Line → ℕ → ℕ → Tree
guard_seen line k j = And (Not (Raw (channel_to line k j))) (Not (Loss (channel_to line k j)))

-- the channel has been lost for as long as the window (LATE)
unfoldable pub late : Line → ℕ → ℕ → Tree
late line k j = Timer (Loss (channel_to line k j)) (channel_setting line k j UnblockWindow) Zero

-- the channel is lost, and its window is open (UNB)
unfoldable pub unblocked : Line → ℕ → ℕ → Tree
unblocked line k j =
    And (Timer (Loss (channel_to line k j)) (channel_setting line k j UnblockPickup) Zero)
    (Not (late line k j))

-- the window closed, and the guard tone has not come back for long enough since (LOCK)
unfoldable pub locked_out : Line → ℕ → ℕ → Tree
locked_out line k j =
    Seal (late line k j)
    (Not (Timer (guard_seen line k j) (channel_setting line k j UnblockRestore) Zero))

-- k takes j as permitting: it receives its signal or its window is open, and it is not locked out
-- (OPEN)
unfoldable pub open_from : Line → ℕ → ℕ → Tree
open_from line k j =
    And (Or (received line k j) (unblocked line k j)) (Not (locked_out line k j))

-- each other terminal permits
unfoldable pub all_open : Line → ℕ → Tree
all_open line k = all_others And (open_from line k) line k
