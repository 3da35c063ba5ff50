-- A history rests on the numbers of the choice and on its delays from tick 1 on.
use Rattle.std.proofs.Common.{◌≡◌, ◌&&◌, ◌-◌, ℕ, zero, suc, ◌<◌, ◌≤◌, Bool, false, not, refl, sym}
use Rattle.std.proofs.Common.{◌∙◌, ap, arith}
use Rattle.std.proofs.lemmas.Bool.{lt-leb}
use Rattle.std.specs.Prelude.{◌||◌}
use Rattle.model_history.specs.{Elements.timed, Elements.delayed, Laws.ElementsReadThePast}
use Rattle.model_line.specs.{declared.script.Script.Script, Channels.from_of}
use Rattle.model_line.specs.{declared.line.Line.Line, Parameters.channel_count}
use Rattle.model_logic.specs.declared.time.Time.TheVariants.{Zero, Param}
use Rattle.model_logic.specs.Tree.{Tree, Const, Seen, Loss, Raw, Not, And, Or, Timer, Seal}
use Rattle.model_logic.specs.Mean.{World, Signals, mean}
use Rattle.model_logic.specs.Choice.{Choice, DelaysFromOne, time_by, world_of}
use Rattle.model_logic.specs.Names.{HasTime, Names}
use Rattle.model_logic.specs.Logic.{key_tree, trip_tree}
use Rattle.model_logic.specs.Histories.{History, IsLineHistory}
use Rattle.model_logic.specs.{declared.time.Time.Time, Laws.TreesNameTheLine}
use Rattle.model_timing.specs.Choice.{IsSameChoice}

-- nothing arrives at tick 0
none_at_start : (u : ℕ → Bool) (d : ℕ) → 1 ≤ d → delayed u d 0 ≡ false
unfolding delayed
none_at_start u d some = ap (λ b. b && u (0 - d)) (lt-leb d 0 some)

module _ (past : ElementsReadThePast) (trees : TreesNameTheLine) (line : Line) (script : Script)
    (a b : Choice) (from_a : DelaysFromOne line a)
    (from_b : DelaysFromOne line b) (same : IsSameChoice line a b) where
  same_time : (x : Time) → HasTime line x → time_by a.number x ≡ time_by b.number x
  same_time Zero has = refl
  same_time (Param i) has = same.numbers i has

  same_arrival : (u : ℕ → Bool) (c t : ℕ) → c < channel_count line → t < line.horizon
      → delayed u (a.delay c t) t ≡ delayed u (b.delay c t) t
  same_arrival u c zero below early =
      none_at_start u (a.delay c 0) (from_a c 0 below early)
      ∙ sym (none_at_start u (b.delay c 0) (from_b c 0 below early))
  same_arrival u c (suc t) below early =
      ap (λ (d : ℕ). delayed u d (suc t)) (same.delays c (suc t) below (omega arith) early)

  mean_same : (keys : Signals) (x : Tree) (t : ℕ) → t < line.horizon → Names line x
      → mean (world_of line script a) keys x t ≡ mean (world_of line script b) keys x t
  unfolding mean Names world_of
  mean_same keys (Const v) t early h = refl
  mean_same keys (Seen p) t early h = refl
  mean_same keys (Loss c) t early h = refl
  mean_same keys (Raw c) t early h =
      same_arrival (keys (from_of line.channels.items c)) c t h early
  mean_same keys (Not x) t early h = ap not (mean_same keys x t early h)
  mean_same keys (And x y) t early h =
      ap (λ p. p && mean (world_of line script a) keys y t) (mean_same keys x t early h.0)
      ∙ ap (λ p. mean (world_of line script b) keys x t && p) (mean_same keys y t early h.1)
  mean_same keys (Or x y) t early h =
      ap (λ p. p || mean (world_of line script a) keys y t) (mean_same keys x t early h.0)
      ∙ ap (λ p. mean (world_of line script b) keys x t || p) (mean_same keys y t early h.1)
  mean_same keys (Timer x p d) t early h =
      let wa : World = world_of line script a in
      let wb : World = world_of line script b in
      past.timed (mean wa keys x) (mean wb keys x) (wa.time p) (wa.time d) t
      (λ r le. mean_same keys x r (omega arith) h.0)
      ∙ ap (λ n. timed (mean wb keys x) n (wa.time d) t) (same_time p h.1.0)
      ∙ ap (λ n. timed (mean wb keys x) (wb.time p) n t) (same_time d h.1.1)
  mean_same keys (Seal x y) t early h =
      let wa : World = world_of line script a in
      let wb : World = world_of line script b in
      past.sealed (mean wa keys x) (mean wa keys y) (mean wb keys x) (mean wb keys y) t
      (λ r le. mean_same keys x r (omega arith) h.0)
      (λ r le. mean_same keys y r (omega arith) h.1)

  pub same_history : (h : History) → IsLineHistory line script a h → IsLineHistory line script b h
  same_history h is = record {
    keys = λ k t below early.
        is.keys k t below early
        ∙ mean_same h.key (key_tree line k) t early (trees.keys line k below);
    trips = λ k t below early.
        is.trips k t below early
        ∙ mean_same h.key (trip_tree line k) t early (trees.trips line k below);
  }

pub same_other_way : (line : Line) (a b : Choice) → IsSameChoice line a b → IsSameChoice line b a
same_other_way line a b same = record {
  numbers = λ i below. sym (same.numbers i below);
  delays = λ c t below late early. sym (same.delays c t below late early);
}
