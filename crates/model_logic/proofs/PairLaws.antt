-- A pair at a tick rests on the keys of earlier ticks only, so the equations of a line have exactly
-- one solution, in each world whose delays are at least 1.
use Rattle.std.proofs.Common.{◌≡◌, ℕ, zero, suc, ◌<◌, ◌≤◌, Bool, refl, sym, ◌∙◌, ap, subst, arith}
use Rattle.std.proofs.Common.{⊎_elim, eq-eqb}
use Rattle.std.proofs.lemmas.Bool.{cases_lt, ne_eqb}
use Rattle.std.specs.Prelude.{cond}
use Rattle.model_history.specs.Laws.{HistoryLaws}
use Rattle.model_history.specs.Rails.{rails_not, rails_and, rails_or}
use Rattle.model_logic.specs.Tree.{Tree, Const, Seen, Loss, Raw, Not, And, Or, Timer, Seal}
use Rattle.model_logic.specs.PairMean.{PairWorld, PairSignals, pair_mean}
use Rattle.model_logic.specs.Solution.{IsDelayed, Solves, SameBefore, keys_before, the_keys}
use Rattle.model_logic.specs.Names.{Names, AllNamed}
use Rattle.model_logic.specs.BoxLaws.{same_earlier}
use Rattle.model_line.specs.declared.line.Line.{Line}

module _ (laws : HistoryLaws) where
  module _ (line : Line) (w : PairWorld) (d : IsDelayed line w) where
    -- the pair at t is the same wherever the keys before t are
    pub pair_mean-past : (u v : PairSignals) (x : Tree) (t : ℕ) → t < line.horizon → Names line x
        → SameBefore line u v t → pair_mean w u x t ≡ pair_mean w v x t
    unfolding pair_mean Names
    pair_mean-past u v (Const b) t early h same = refl
    pair_mean-past u v (Seen p) t early h same = refl
    pair_mean-past u v (Loss c) t early h same = refl
    pair_mean-past u v (Raw c) t early h same =
        let later : 1 ≤ (w.delay c t).least = d.later c t h early in
        laws.delays_earlier.rails (u (w.from c)) (v (w.from c)) (w.delay c) t
        (λ r low high. same (w.from c) r (d.from c h) (omega arith))
    pair_mean-past u v (Not x) t early h same = ap rails_not (pair_mean-past u v x t early h same)
    pair_mean-past u v (And x y) t early h same =
        ap (λ a. rails_and a (pair_mean w u y t)) (pair_mean-past u v x t early h.0 same)
        ∙ ap (rails_and (pair_mean w v x t)) (pair_mean-past u v y t early h.1 same)
    pair_mean-past u v (Or x y) t early h same =
        ap (λ a. rails_or a (pair_mean w u y t)) (pair_mean-past u v x t early h.0 same)
        ∙ ap (rails_or (pair_mean w v x t)) (pair_mean-past u v y t early h.1 same)
    pair_mean-past u v (Timer x p e) t early h same =
        laws.rails_past.timed (pair_mean w u x) (pair_mean w v x) (w.time p) (w.time e) t
        (λ r le. pair_mean-past u v x r (omega arith) h.0 (same_earlier line u v r t le same))
    pair_mean-past u v (Seal x y) t early h same =
        laws.rails_past.sealed (pair_mean w u x) (pair_mean w u y) (pair_mean w v x) (pair_mean w v y) t
        (λ r le. pair_mean-past u v x r (omega arith) h.0 (same_earlier line u v r t le same))
        (λ r le. pair_mean-past u v y r (omega arith) h.1 (same_earlier line u v r t le same))

    -- two solutions agree
    pub solution_once : (trees : ℕ → Tree) (u v : PairSignals) → AllNamed line trees
        → Solves line w trees u → Solves line w trees v
        → (t : ℕ) → t ≤ line.horizon → SameBefore line u v t
    solution_once trees u v named su sv zero le k r kn lt = absurd (omega arith)
    solution_once trees u v named su sv (suc t) le k r kn lt =
        let before : SameBefore line u v t =
        solution_once trees u v named su sv t (omega arith) in
        ⊎_elim (λ earlier. before k r kn earlier)
        (λ last. let e : t ≡ r = omega arith in
        let now : u k t ≡ v k t = su k t kn (omega arith)
        ∙ pair_mean-past u v (trees k) t (omega arith) (named k kn) before
        ∙ sym (sv k t kn (omega arith)) in
        subst (λ (s : ℕ). u k s ≡ v k s) e now)
        (cases_lt r t)

  -- the keys of the ticks before t are the keys
  keys_before-is : (w : PairWorld) (trees : ℕ → Tree) (t k r : ℕ) → r < t
      → keys_before w trees t k r ≡ the_keys w trees k r
  unfolding keys_before the_keys
  keys_before-is w trees zero k r lt = absurd (omega arith)
  keys_before-is w trees (suc t) k r lt =
      ⊎_elim
      (λ earlier. ap (λ (b : Bool). cond b (pair_mean w (keys_before w trees t) (trees k) t)
      (keys_before w trees t k r)) (ne_eqb r t (λ e. absurd (omega arith)))
      ∙ keys_before-is w trees t k r earlier)
      (λ last. let e : t ≡ r = omega arith in
      subst (λ (s : ℕ). keys_before w trees (suc t) k s ≡ the_keys w trees k s) e refl)
      (cases_lt r t)

  -- they solve the equations
  pub the_keys-solve : (line : Line) (w : PairWorld) → IsDelayed line w → (trees : ℕ → Tree)
      → AllNamed line trees → Solves line w trees (the_keys w trees)
  unfolding the_keys keys_before
  the_keys-solve line w d trees named k t kn lt =
      ap (λ (b : Bool). cond b (pair_mean w (keys_before w trees t) (trees k) t)
      (keys_before w trees t k t)) (eq-eqb t t refl)
      ∙ pair_mean-past line w d (keys_before w trees t) (the_keys w trees) (trees k) t lt
      (named k kn) (λ j r jn before. keys_before-is w trees t j r before)
