-- A dump speaks of the net's gates and the line's ticks alone.
use Rattle.std.proofs.Common.{◌≡◌, ℕ, suc, ◌-◌, ◌<◌, ◌≤◌, Bool, List, length, ◌∙◌, ap, arith}
use Rattle.model_history.specs.Each.{each_below}
use Rattle.model_history.specs.EachLaws.{each_below-same}
use Rattle.model_line.specs.declared.line.Line.{Line}
use Rattle.net_gates.specs.NetOf.{NetOf}
use Rattle.draw_gates.specs.dump.Dump.{GateLevels, value_text, change_text, timed_text, first_text}
use Rattle.draw_gates.specs.dump.Dump.{next_text, tick_text, changes_text, dump_text}

-- the two have the same value for each of n gates at each tick before the horizon
abbrev pub AreSameLevels : ℕ → ℕ → GateLevels → GateLevels → Type 0
AreSameLevels n horizon f g = (i t : ℕ) → i < n → t < horizon → f i t ≡ g i t

module _ (n horizon : ℕ) (f g : GateLevels) (same : AreSameLevels n horizon f g) where
  first_text-same : 1 ≤ horizon → (i : ℕ) → i < n → first_text f i ≡ first_text g i
  unfolding first_text
  first_text-same some i lt = ap (value_text i) (same i 0 lt (omega arith))

  next_text-same : (t i : ℕ) → t < horizon - 1 → i < n → next_text f t i ≡ next_text g t i
  unfolding next_text
  next_text-same t i early lt =
      ap (λ (b : Bool). change_text i b (f i (suc t))) (same i t lt (omega arith))
      ∙ ap (change_text i (g i t)) (same i (suc t) lt (omega arith))

  tick_text-same : (tick_us t : ℕ) → t < horizon - 1 → tick_text tick_us f n t ≡ tick_text tick_us g n t
  unfolding tick_text
  tick_text-same tick_us t early =
      ap (timed_text tick_us (suc t))
      (each_below-same n (next_text f t) (next_text g t)
      (λ i lt. next_text-same t i early lt))

  changes_text-same : (tick_us : ℕ) → 1 ≤ horizon
      → changes_text tick_us horizon f n ≡ changes_text tick_us horizon g n
  unfolding changes_text
  changes_text-same tick_us some =
      let first : each_below n (first_text f) ≡ each_below n (first_text g) =
      each_below-same n (first_text f) (first_text g) (first_text-same some) in
      let ticks : each_below (horizon - 1) (tick_text tick_us f n)
      ≡ each_below (horizon - 1) (tick_text tick_us g n) =
      each_below-same (horizon - 1) (tick_text tick_us f n) (tick_text tick_us g n)
      (λ t early. tick_text-same tick_us t early) in
      rw (first, ticks)

pub dump_text-same : (timing script : List ℕ) (line : Line) (net : NetOf) (f g : GateLevels)
    → AreSameLevels (length net.gates) line.horizon f g
    → dump_text timing script line net f ≡ dump_text timing script line net g
unfolding dump_text
dump_text-same timing script line net f g same =
    rw (changes_text-same (length net.gates) line.horizon f g same line.tick_us
    line.horizon_in_range.0)
