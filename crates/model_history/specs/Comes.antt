-- What arrives through a delay, as facts.
use Rattle.std.specs.Prelude.{ℕ, ◌-◌, ◌≤◌, Bool, IsTrue}
use Rattle.model_history.specs.Rails.{Ends}

-- what u was c ticks before t arrives at t, and was on
pub record Comes (u : ℕ → Bool) (c t : ℕ) : Type 0 where
  pub past : c ≤ t
  pub on : IsTrue (u (t - c))

-- it does for every delay within the ends
abbrev pub AllCome : (ℕ → Bool) → Ends → ℕ → Type 0
AllCome u ends t = (c : ℕ) → ends.least ≤ c → c ≤ ends.greatest → Comes u c t

-- it does for some delay within the ends
pub record SomeComes (u : ℕ → Bool) (ends : Ends) (t : ℕ) : Type 0 where
  pub c : ℕ
  pub least : ends.least ≤ c
  pub greatest : c ≤ ends.greatest
  pub comes : Comes u c t
