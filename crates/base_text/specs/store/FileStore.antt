-- What contracts see of a store over files: its counts alone.
use Rattle.std.specs.Prelude.{ℕ}

-- how many pulls failed, how many bytes were given, and how many pulls were made
pub record StoreCounts : Type 0 where
  pub faults : ℕ
  pub given : ℕ
  pub pulls : ℕ
