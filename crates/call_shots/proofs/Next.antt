-- The first tick at which a state begins, one step on.
use Rattle.std.proofs.Common.{◌≡◌, ◌+◌, ◌-◌, ◌<◌, ◌≤◌, ℕ, suc, zero, true, false, refl, arith}
use Rattle.model_line.specs.{declared.line.Line.Line, declared.script.Script.Script}
use Rattle.call_shots.specs.Changes.{begins, next_begun}

module _ (line : Line) (script : Script) (k u n : ℕ) (inside : u < n) where
  ticks_left : n - u ≡ suc (n - (u + 1))
  ticks_left = omega arith

  pub begun_here : begins line script k u ≡ true → next_begun line script k u (n - u) ≡ u
  begun_here begun = rw (ticks_left, begun) refl

  pub begun_later : begins line script k u ≡ false
      → next_begun line script k u (n - u) ≡ next_begun line script k (u + 1) (n - (u + 1))
  begun_later none = rw (ticks_left, none) refl

pub begun_end : (line : Line) (script : Script) (k u n : ℕ) → n ≤ u
    → next_begun line script k u (n - u) ≡ u
begun_end line script k u n over = let none : n - u ≡ zero = omega arith in rw none refl
