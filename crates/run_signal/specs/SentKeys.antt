-- What a delay line stands for.
use Rattle.std.specs.Prelude.{ℕ, List}

-- the keys sent so far, in order of time, and the horizon
pub record SentKeys (V : Type 0) : Type 0 where
  pub keys : List V
  pub horizon : ℕ
