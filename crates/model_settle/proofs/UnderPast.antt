-- Under assumptions too, a pair at a tick rests on the keys of earlier ticks only, so the equations
-- of a line have exactly one solution.
use Rattle.std.proofs.Common.{◌≡◌, ◌<◌, ◌≤◌, ◌==◌, ℕ, zero, suc, Bool, refl, sym, ◌∙◌, ap, subst}
use Rattle.std.proofs.Common.{arith, ⊎_elim, eq-eqb}
use Rattle.std.proofs.lemmas.Bool.{cases_lt, ne_eqb}
use Rattle.std.specs.Prelude.{cond, Option, None, false}
use Rattle.model_history.specs.{Laws.HistoryLaws, Rails.both}
use Rattle.model_history.specs.Rails.{rails_not, rails_and, rails_or}
use Rattle.model_line.specs.declared.line.Line.{Line}
use Rattle.model_logic.specs.Tree.{Tree, Const, Seen, Loss, Raw, Not, And, Or, Timer, Seal}
use Rattle.model_logic.specs.PairMean.{PairWorld, PairSignals, pair_mean}
use Rattle.model_logic.specs.Solution.{IsDelayed, SameBefore}
use Rattle.model_logic.specs.Names.{Names, AllNamed}
use Rattle.model_logic.specs.BoxLaws.{same_earlier}
use Rattle.model_line.specs.Parameters.{terminal_count}
use Rattle.model_settle.specs.Under.{assumed_or, pair_under}

-- the keys solve the equations of their trees under levels
abbrev pub SolvesUnder : Line → (Tree → ℕ → Option Bool) → PairWorld → (ℕ → Tree) → PairSignals
    → Type 0
SolvesUnder line level w trees keys =
    (k t : ℕ) → k < terminal_count line → t < line.horizon
    → keys k t ≡ pair_under level w keys (trees k) t

module _ (laws : HistoryLaws) (level : Tree → ℕ → Option Bool) where
  module _ (line : Line) (w : PairWorld) (d : IsDelayed line w) where
    -- the pair at t is the same wherever the keys before t are
    pub pair_under-past : (u v : PairSignals) (x : Tree) (t : ℕ) → t < line.horizon
        → Names line x → SameBefore line u v t → pair_under level w u x t ≡ pair_under level w v x t
    unfolding pair_under Names
    pair_under-past u v (Const b) t early h same = refl
    pair_under-past u v (Seen p) t early h same = refl
    pair_under-past u v (Loss c) t early h same = refl
    pair_under-past u v (Raw c) t early h same =
        let later : 1 ≤ (w.delay c t).least = d.later c t h early in
        laws.delays_earlier.rails (u (w.from c)) (v (w.from c)) (w.delay c) t
        (λ r low high. same (w.from c) r (d.from c h) (omega arith))
    pair_under-past u v (Not x) t early h same =
        ap rails_not (pair_under-past u v x t early h same)
    pair_under-past u v (And x y) t early h same =
        ap (λ a. rails_and a (pair_under level w u y t)) (pair_under-past u v x t early h.0 same)
        ∙ ap (rails_and (pair_under level w v x t)) (pair_under-past u v y t early h.1 same)
    pair_under-past u v (Or x y) t early h same =
        ap (λ a. rails_or a (pair_under level w u y t)) (pair_under-past u v x t early h.0 same)
        ∙ ap (rails_or (pair_under level w v x t)) (pair_under-past u v y t early h.1 same)
    pair_under-past u v (Timer x p e) t early h same =
        ap (assumed_or (level (Timer x p e) t))
        (laws.rails_past.timed (pair_under level w u x) (pair_under level w v x) (w.time p)
        (w.time e) t
        (λ r le. pair_under-past u v x r (omega arith) h.0 (same_earlier line u v r t le same)))
    pair_under-past u v (Seal x y) t early h same =
        laws.rails_past.sealed (pair_under level w u x) (pair_under level w u y)
        (pair_under level w v x) (pair_under level w v y) t
        (λ r le. pair_under-past u v x r (omega arith) h.0 (same_earlier line u v r t le same))
        (λ r le. pair_under-past u v y r (omega arith) h.1 (same_earlier line u v r t le same))

    -- two solutions agree
    pub solution_once : (trees : ℕ → Tree) (u v : PairSignals) → AllNamed line trees
        → SolvesUnder line level w trees u → SolvesUnder line level w trees v
        → (t : ℕ) → t ≤ line.horizon → SameBefore line u v t
    solution_once trees u v named su sv zero le k r kn lt = absurd (omega arith)
    solution_once trees u v named su sv (suc t) le k r kn lt =
        let before : SameBefore line u v t =
        solution_once trees u v named su sv t (omega arith) in
        ⊎_elim (λ earlier. before k r kn earlier)
        (λ last. let e : t ≡ r = omega arith in
        let now : u k t ≡ v k t = su k t kn (omega arith)
        ∙ pair_under-past u v (trees k) t (omega arith) (named k kn) before
        ∙ sym (sv k t kn (omega arith)) in
        subst (λ (s : ℕ). u k s ≡ v k s) e now)
        (cases_lt r t)

  -- the keys of the ticks before t, each by those before it, and off from t on
  keys_before : PairWorld → (ℕ → Tree) → ℕ → PairSignals
  keys_before w trees zero k r = both false
  keys_before w trees (suc t) k r =
      cond (r == t) (pair_under level w (keys_before w trees t) (trees k) t)
      (keys_before w trees t k r)

  -- the keys of all ticks
  pub keys_under : PairWorld → (ℕ → Tree) → PairSignals
  keys_under w trees k t = keys_before w trees (suc t) k t

  keys_before-is : (w : PairWorld) (trees : ℕ → Tree) (t k r : ℕ) → r < t
      → keys_before w trees t k r ≡ keys_under w trees k r
  unfolding keys_before keys_under
  keys_before-is w trees zero k r lt = absurd (omega arith)
  keys_before-is w trees (suc t) k r lt =
      ⊎_elim
      (λ earlier. ap (λ (b : Bool). cond b (pair_under level w (keys_before w trees t) (trees k) t)
      (keys_before w trees t k r)) (ne_eqb r t (λ e. absurd (omega arith)))
      ∙ keys_before-is w trees t k r earlier)
      (λ last. let e : t ≡ r = omega arith in
      subst (λ (s : ℕ). keys_before w trees (suc t) k s ≡ keys_under w trees k s) e refl)
      (cases_lt r t)

  -- they solve the equations
  pub keys_under-solve : (line : Line) (w : PairWorld) → IsDelayed line w → (trees : ℕ → Tree)
      → AllNamed line trees → SolvesUnder line level w trees (keys_under w trees)
  unfolding keys_under keys_before
  keys_under-solve line w d trees named k t kn lt =
      ap (λ (b : Bool). cond b (pair_under level w (keys_before w trees t) (trees k) t)
      (keys_before w trees t k t)) (eq-eqb t t refl)
      ∙ pair_under-past line w d (keys_before w trees t) (keys_under w trees) (trees k) t lt
      (named k kn) (λ j r jn before. keys_before-is w trees t j r before)

-- where nothing is assumed, the pair is that of the interval rules
pub pair_under-nothing : HistoryLaws → (w : PairWorld) (keys : PairSignals) (x : Tree) (t : ℕ)
    → pair_under (λ _ _. None) w keys x t ≡ pair_mean w keys x t
unfolding pair_under pair_mean
pair_under-nothing laws w keys (Const b) t = refl
pair_under-nothing laws w keys (Seen p) t = refl
pair_under-nothing laws w keys (Loss c) t = refl
pair_under-nothing laws w keys (Raw c) t = refl
pair_under-nothing laws w keys (Not x) t = ap rails_not (pair_under-nothing laws w keys x t)
pair_under-nothing laws w keys (And x y) t =
    ap (λ a. rails_and a (pair_under (λ _ _. None) w keys y t)) (pair_under-nothing laws w keys x t)
    ∙ ap (rails_and (pair_mean w keys x t)) (pair_under-nothing laws w keys y t)
pair_under-nothing laws w keys (Or x y) t =
    ap (λ a. rails_or a (pair_under (λ _ _. None) w keys y t)) (pair_under-nothing laws w keys x t)
    ∙ ap (rails_or (pair_mean w keys x t)) (pair_under-nothing laws w keys y t)
pair_under-nothing laws w keys (Timer x p d) t =
    laws.rails_past.timed (pair_under (λ _ _. None) w keys x) (pair_mean w keys x) (w.time p)
    (w.time d) t (λ r le. pair_under-nothing laws w keys x r)
pair_under-nothing laws w keys (Seal x y) t =
    laws.rails_past.sealed (pair_under (λ _ _. None) w keys x) (pair_under (λ _ _. None) w keys y)
    (pair_mean w keys x) (pair_mean w keys y) t
    (λ r le. pair_under-nothing laws w keys x r) (λ r le. pair_under-nothing laws w keys y r)
