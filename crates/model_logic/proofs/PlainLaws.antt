-- In a world of single numbers both rails are the plain value.
use Rattle.std.proofs.Common.{◌≡◌, ℕ, zero, suc, ◌<◌, ◌≤◌, Bool, refl, sym, ◌∙◌, ap, subst, arith}
use Rattle.std.proofs.Common.{⊎_elim}
use Rattle.std.proofs.lemmas.Bool.{cases_lt}
use Rattle.model_history.specs.Laws.{HistoryLaws}
use Rattle.model_history.specs.Rails.{Ends, both, single, must_of, rails_not, rails_and, rails_or}
use Rattle.model_history.specs.Rails.{rails_timed, rails_delayed}
use Rattle.model_logic.specs.Tree.{Tree, Const, Seen, Loss, Raw, Not, And, Or, Timer, Seal}
use Rattle.model_logic.specs.PairMean.{PairWorld, PairSignals, pair_mean, singles}
use Rattle.model_logic.specs.Solution.{IsDelayed, Solves, SolvesPlain, SameBefore, the_keys}
use Rattle.model_logic.specs.Solution.{AgreeBefore}
use Rattle.model_logic.specs.Names.{Names, AllNamed}
use Rattle.model_logic.specs.Mean.{World, Signals, mean}
use Rattle.model_logic.specs.Covering.{IsSameWorld}
use Rattle.model_line.specs.declared.line.Line.{Line}
use Rattle.model_logic.proofs.PairLaws.{pair_mean-past, solution_once, the_keys-solve}

-- plain keys as pairs with equal rails, and the must rails of pairs as plain keys
abbrev pub lifted : Signals → PairSignals
lifted keys k r = both (keys k r)

abbrev pub plain_of : PairSignals → Signals
plain_of keys k r = (keys k r).must

module _ (laws : HistoryLaws) where
  pub pair_mean-single : (w : World) (keys : Signals) (x : Tree) (t : ℕ)
      → pair_mean (singles w) (lifted keys) x t ≡ both (mean w keys x t)
  unfolding pair_mean mean
  pair_mean-single w keys (Const v) t = refl
  pair_mean-single w keys (Seen p) t = refl
  pair_mean-single w keys (Loss c) t = refl
  pair_mean-single w keys (Raw c) t = laws.delays_single (keys (w.from c)) (w.delay c) t
  pair_mean-single w keys (Not x) t = ap rails_not (pair_mean-single w keys x t)
  pair_mean-single w keys (And x y) t =
      ap (λ a. rails_and a (pair_mean (singles w) (lifted keys) y t)) (pair_mean-single w keys x t)
      ∙ ap (rails_and (both (mean w keys x t))) (pair_mean-single w keys y t)
  pair_mean-single w keys (Or x y) t =
      ap (λ a. rails_or a (pair_mean (singles w) (lifted keys) y t)) (pair_mean-single w keys x t)
      ∙ ap (rails_or (both (mean w keys x t))) (pair_mean-single w keys y t)
  pair_mean-single w keys (Timer x p d) t =
      laws.rails_past.timed (pair_mean (singles w) (lifted keys) x) (λ r. both (mean w keys x r))
      (single (w.time p)) (single (w.time d)) t (λ r le. pair_mean-single w keys x r)
  pair_mean-single w keys (Seal x y) t =
      laws.rails_past.sealed (pair_mean (singles w) (lifted keys) x)
      (pair_mean (singles w) (lifted keys) y)
      (λ r. both (mean w keys x r)) (λ r. both (mean w keys y r)) t
      (λ r le. pair_mean-single w keys x r) (λ r le. pair_mean-single w keys y r)

  -- worlds that are the same give the same pairs
  pub pair_mean-world : (line : Line) (w v : PairWorld) (keys : PairSignals) (x : Tree) (t : ℕ)
      → t < line.horizon → Names line x → IsSameWorld line w v
      → pair_mean w keys x t ≡ pair_mean v keys x t
  unfolding pair_mean Names
  pair_mean-world line w v keys (Const b) t early h s = refl
  pair_mean-world line w v keys (Seen p) t early h s = s.seen p t
  pair_mean-world line w v keys (Loss c) t early h s = s.lost c t
  pair_mean-world line w v keys (Raw c) t early h s =
      ap (λ (k : ℕ). rails_delayed (keys k) (w.delay c t) t) (s.from c)
      ∙ ap (λ (e : Ends). rails_delayed (keys (v.from c)) e t) (s.delay c t h early)
  pair_mean-world line w v keys (Not x) t early h s =
      ap rails_not (pair_mean-world line w v keys x t early h s)
  pair_mean-world line w v keys (And x y) t early h s =
      ap (λ a. rails_and a (pair_mean w keys y t)) (pair_mean-world line w v keys x t early h.0 s)
      ∙ ap (rails_and (pair_mean v keys x t)) (pair_mean-world line w v keys y t early h.1 s)
  pair_mean-world line w v keys (Or x y) t early h s =
      ap (λ a. rails_or a (pair_mean w keys y t)) (pair_mean-world line w v keys x t early h.0 s)
      ∙ ap (rails_or (pair_mean v keys x t)) (pair_mean-world line w v keys y t early h.1 s)
  pair_mean-world line w v keys (Timer x p d) t early h s =
      laws.rails_past.timed (pair_mean w keys x) (pair_mean v keys x) (w.time p) (w.time d) t
      (λ r le. pair_mean-world line w v keys x r (omega arith) h.0 s)
      ∙ ap (λ (e : Ends). rails_timed (pair_mean v keys x) e (w.time d) t) (s.time p h.1.0)
      ∙ ap (λ (e : Ends). rails_timed (pair_mean v keys x) (v.time p) e t) (s.time d h.1.1)
  pair_mean-world line w v keys (Seal x y) t early h s =
      laws.rails_past.sealed (pair_mean w keys x) (pair_mean w keys y) (pair_mean v keys x)
      (pair_mean v keys y) t
      (λ r le. pair_mean-world line w v keys x r (omega arith) h.0 s)
      (λ r le. pair_mean-world line w v keys y r (omega arith) h.1 s)

  module _ (line : Line) (w : World) (d : IsDelayed line (singles w)) where
    -- the value at t is the same wherever the keys before t are
    pub mean-past : (u v : Signals) (x : Tree) (t : ℕ) → t < line.horizon → Names line x
        → AgreeBefore line u v t → mean w u x t ≡ mean w v x t
    mean-past u v x t early h same =
        ap must_of (sym (pair_mean-single w u x t)
        ∙ pair_mean-past laws line (singles w) d (lifted u) (lifted v) x t early h
        (λ k r kn lt. ap (λ (b : Bool). both b) (same k r kn lt))
        ∙ pair_mean-single w v x t)

    module _ (trees : ℕ → Tree) (named : AllNamed line trees) where
      -- keys that solve the pair equations have equal rails
      pub solution_plain : (keys : PairSignals) → Solves line (singles w) trees keys
          → (t : ℕ) → t ≤ line.horizon → SameBefore line keys (lifted (plain_of keys)) t
      solution_plain keys solves zero le k r kn lt = absurd (omega arith)
      solution_plain keys solves (suc t) le k r kn lt =
          let before : SameBefore line keys (lifted (plain_of keys)) t =
          solution_plain keys solves t (omega arith) in
          ⊎_elim (λ earlier. before k r kn earlier)
          (λ last. let e : t ≡ r = omega arith in
          let now : keys k t ≡ both (mean w (plain_of keys) (trees k) t) =
          solves k t kn (omega arith)
          ∙ pair_mean-past laws line (singles w) d keys (lifted (plain_of keys)) (trees k) t
          (omega arith) (named k kn) before
          ∙ pair_mean-single w (plain_of keys) (trees k) t in
          subst (λ (s : ℕ). keys k s ≡ both (plain_of keys k s)) e
          (now ∙ ap (λ (b : Bool). both b) (sym (ap must_of now))))
          (cases_lt r t)

      -- and each rail solves the plain equations
      pub solution_solves_plain : (keys : PairSignals) → Solves line (singles w) trees keys
          → SolvesPlain line w trees (plain_of keys)
      solution_solves_plain keys solves k t kn lt =
          ap must_of (solves k t kn lt
          ∙ pair_mean-past laws line (singles w) d keys (lifted (plain_of keys)) (trees k) t lt
          (named k kn) (solution_plain keys solves t (omega arith))
          ∙ pair_mean-single w (plain_of keys) (trees k) t)

      -- plain keys that solve the plain equations solve the pair equations
      pub lifted-solve : (keys : Signals) → SolvesPlain line w trees keys
          → Solves line (singles w) trees (lifted keys)
      lifted-solve keys solves k t kn lt =
          ap (λ (v : Bool). both v) (solves k t kn lt) ∙ sym (pair_mean-single w keys (trees k) t)

      -- two plain solutions agree
      pub plain_once : (a b : Signals) → SolvesPlain line w trees a → SolvesPlain line w trees b
          → AgreeBefore line a b line.horizon
      plain_once a b sa sb k t kn lt =
          ap must_of (solution_once laws line (singles w) d trees (lifted a) (lifted b) named
          (lifted-solve a sa) (lifted-solve b sb) line.horizon (omega arith) k t kn lt)

      -- there is one
      pub plain_exists : SolvesPlain line w trees (plain_of (the_keys (singles w) trees))
      plain_exists = solution_solves_plain (the_keys (singles w) trees)
          (the_keys-solve laws line (singles w) d trees named)
