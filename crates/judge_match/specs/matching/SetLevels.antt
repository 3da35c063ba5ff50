-- Levels that are set for some ticks.
use Rattle.std.specs.Prelude.{◌≡◌, ◌<◌, ◌≤◌, ◌&&◌, ℕ, Bool, List, get_or, nat_le, IsTrue, IsFalse}
use Rattle.run_signal.specs.declared.tern.Tern.{Tern}
use Rattle.run_signal.specs.declared.tern.Tern.TheVariants.{Zero}
use Rattle.judge_match.specs.declared.matching.change.Change.{Change}
use Rattle.judge_match.specs.{matching.Heads.is_of, matching.Waves.known_level}

-- from a tick on until another there is this level, and at all others what there was
pub record IsSetBetween (before after : List Tern) (level : Tern) (from end : ℕ) : Type 0 where
  pub within : (t : ℕ) → from ≤ t → t < end → get_or after t Zero ≡ level
  pub below : (t : ℕ) → t < from → get_or after t Zero ≡ get_or before t Zero
  pub above : (t : ℕ) → end ≤ t → get_or after t Zero ≡ get_or before t Zero

-- the change is of the signal, and not after tick t
abbrev pub decides : ℕ → Bool → Change → ℕ → Bool
decides terminal trip c t = is_of terminal trip c && nat_le c.tick t

-- the ticks before `end` that the change decides are set, and begin at this one
pub record IsSetBy (before after : List Tern) (terminal : ℕ) (trip : Bool) (c : Change) (end begins : ℕ)
    : Type 0 where
  pub earlier : begins ≤ end
  pub set : (t : ℕ) → begins ≤ t → t < end → get_or after t Zero ≡ known_level c.level
  pub decided : (t : ℕ) → begins ≤ t → t < end → IsTrue (decides terminal trip c t)
  pub below : (t : ℕ) → t < begins → get_or after t Zero ≡ get_or before t Zero
  pub undecided : (t : ℕ) → t < begins → IsFalse (decides terminal trip c t)
  pub above : (t : ℕ) → end ≤ t → get_or after t Zero ≡ get_or before t Zero
