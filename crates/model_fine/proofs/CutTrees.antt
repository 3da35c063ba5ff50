-- Each tree has at a fine tick the value, and the pair, that it has at the tick.
use Rattle.std.proofs.Common.{◌≡◌, ◌*◌, ◌/◌, ◌≤◌, ◌&&◌, ◌||◌, ℕ, Bool, not, refl, ◌∙◌, ap}
use Rattle.model_history.specs.{Laws.HistoryLaws}
use Rattle.model_history.specs.Rails.{Rails, rails_not, rails_and, rails_or}
use Rattle.model_logic.specs.Tree.{Tree, Const, Seen, Loss, Raw, Not, And, Or, Timer, Seal}
use Rattle.model_logic.specs.Mean.{World, Signals, mean}
use Rattle.model_logic.specs.PairMean.{PairWorld, PairSignals, pair_mean}
use Rattle.model_fine.specs.Cut.{cut, cut_each, cut_ends, cut_world, cut_pair_world}
use Rattle.model_fine.proofs.CutElements.{timed-cut, sealed-cut, delayed-cut}
use Rattle.model_fine.proofs.CutRails.{rails_timed-cut, rails_sealed-cut, rails_delayed-cut}

module _ (laws : HistoryLaws) (n : ℕ) (some : 1 ≤ n) where
  pub mean-cut : (w : World) (keys : Signals) (x : Tree) (t : ℕ)
      → mean (cut_world n w) (cut_each n keys) x t ≡ mean w keys x (t / n)
  unfolding mean
  mean-cut w keys (Const v) t = refl
  mean-cut w keys (Seen p) t = refl
  mean-cut w keys (Loss c) t = refl
  mean-cut w keys (Raw c) t =
      delayed-cut n some laws (keys (w.from c)) (w.delay c (t / n)) t
  mean-cut w keys (Not x) t = ap not (mean-cut w keys x t)
  mean-cut w keys (And x y) t =
      ap (λ (a : Bool). a && mean (cut_world n w) (cut_each n keys) y t) (mean-cut w keys x t)
      ∙ ap (λ (a : Bool). mean w keys x (t / n) && a) (mean-cut w keys y t)
  mean-cut w keys (Or x y) t =
      ap (λ (a : Bool). a || mean (cut_world n w) (cut_each n keys) y t) (mean-cut w keys x t)
      ∙ ap (λ (a : Bool). mean w keys x (t / n) || a) (mean-cut w keys y t)
  mean-cut w keys (Timer x p d) t =
      laws.elements_past.timed (mean (cut_world n w) (cut_each n keys) x) (cut n (mean w keys x))
      (w.time p * n) (w.time d * n) t (λ r le. mean-cut w keys x r)
      ∙ timed-cut n some laws (mean w keys x) (w.time p) (w.time d) t
  mean-cut w keys (Seal x y) t =
      laws.elements_past.sealed (mean (cut_world n w) (cut_each n keys) x)
      (mean (cut_world n w) (cut_each n keys) y) (cut n (mean w keys x)) (cut n (mean w keys y)) t
      (λ r le. mean-cut w keys x r) (λ r le. mean-cut w keys y r)
      ∙ sealed-cut n some laws (mean w keys x) (mean w keys y) t

  pub pair_mean-cut : (w : PairWorld) (keys : PairSignals) (x : Tree) (t : ℕ)
      → pair_mean (cut_pair_world n w) (cut_each n keys) x t ≡ pair_mean w keys x (t / n)
  unfolding pair_mean
  pair_mean-cut w keys (Const v) t = refl
  pair_mean-cut w keys (Seen p) t = refl
  pair_mean-cut w keys (Loss c) t = refl
  pair_mean-cut w keys (Raw c) t =
      rails_delayed-cut n some laws (keys (w.from c)) (w.delay c (t / n)) t
  pair_mean-cut w keys (Not x) t = ap rails_not (pair_mean-cut w keys x t)
  pair_mean-cut w keys (And x y) t =
      ap (λ (a : Rails). rails_and a (pair_mean (cut_pair_world n w) (cut_each n keys) y t))
      (pair_mean-cut w keys x t)
      ∙ ap (rails_and (pair_mean w keys x (t / n))) (pair_mean-cut w keys y t)
  pair_mean-cut w keys (Or x y) t =
      ap (λ (a : Rails). rails_or a (pair_mean (cut_pair_world n w) (cut_each n keys) y t))
      (pair_mean-cut w keys x t)
      ∙ ap (rails_or (pair_mean w keys x (t / n))) (pair_mean-cut w keys y t)
  pair_mean-cut w keys (Timer x p d) t =
      laws.rails_past.timed (pair_mean (cut_pair_world n w) (cut_each n keys) x)
      (cut n (pair_mean w keys x)) (cut_ends n (w.time p)) (cut_ends n (w.time d)) t
      (λ r le. pair_mean-cut w keys x r)
      ∙ rails_timed-cut n some laws (pair_mean w keys x) (w.time p) (w.time d) t
  pair_mean-cut w keys (Seal x y) t =
      laws.rails_past.sealed (pair_mean (cut_pair_world n w) (cut_each n keys) x)
      (pair_mean (cut_pair_world n w) (cut_each n keys) y) (cut n (pair_mean w keys x))
      (cut n (pair_mean w keys y)) t
      (λ r le. pair_mean-cut w keys x r) (λ r le. pair_mean-cut w keys y r)
      ∙ rails_sealed-cut n some laws (pair_mean w keys x) (pair_mean w keys y) t
