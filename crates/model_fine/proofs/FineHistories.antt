-- Each fine choice has exactly one history, since a value at a tick rests on earlier keys alone: in any
-- world whose delays are at least 1, up to any horizon.
use Rattle.std.proofs.Common.{◌≡◌, ◌*◌, ◌/◌, ◌<◌, ◌≤◌, ◌==◌, ℕ, zero, suc, Bool, false, not, refl}
use Rattle.std.proofs.Common.{◌&&◌, ◌||◌, sym, ◌∙◌, ap, subst, arith, ⊎_elim, eq-eqb}
use Rattle.std.proofs.lemmas.Bool.{cases_lt, ne_eqb}
use Rattle.std.specs.Prelude.{cond}
use Rattle.model_history.specs.Laws.{HistoryLaws}
use Rattle.model_line.specs.{declared.line.Line.Line, declared.script.Script.Script}
use Rattle.model_line.specs.Parameters.{terminal_count, channel_count}
use Rattle.model_logic.specs.Tree.{Tree, Const, Seen, Loss, Raw, Not, And, Or, Timer, Seal}
use Rattle.model_logic.specs.Choice.{Choice, Box, LeastFromOne}
use Rattle.model_logic.specs.Histories.{History}
use Rattle.model_logic.specs.{Laws.TreesNameTheLine, Names.Names}
use Rattle.model_logic.specs.Logic.{key_tree, trip_tree}
use Rattle.model_logic.specs.Mean.{World, Signals, mean}
use Rattle.model_logic.specs.Solution.{AgreeBefore}
use Rattle.model_fine.specs.Fine.{IsFineWithin, FineDelaysFromOne, IsFineHistory}
use Rattle.model_fine.specs.Fine.{IsSameFineHistory, fine_world_of}
use Rattle.model_fine.proofs.Floors.{before, times}

-- the delays of a choice within a box whose delays are at least a tick are at least a fine tick
pub delays_from_one : (n : ℕ) → 1 ≤ n → (line : Line) (choice : Choice) (box : Box)
    → LeastFromOne line box → IsFineWithin n line choice box → FineDelaysFromOne n line choice
delays_from_one n some line choice box d within c t lt early =
    let one : 1 ≤ (box.delay c (t / n)).least =
    d c (t / n) lt (before n some line.horizon t early) in
    let fine : 1 * n ≤ (box.delay c (t / n)).least * n =
    times n some 1 (box.delay c (t / n)).least one in
    let low : (box.delay c (t / n)).least * n ≤ choice.delay c t =
    (within.delays c t lt early).least in
    omega (arith, some, fine, low)

-- the keys of the ticks before t, each by those before it, and off from t on
keys_before : World → (ℕ → Tree) → ℕ → Signals
keys_before w trees zero k r = false
keys_before w trees (suc t) k r =
    cond (r == t) (mean w (keys_before w trees t) (trees k) t) (keys_before w trees t k r)

pub the_keys : World → (ℕ → Tree) → Signals
the_keys w trees k t = keys_before w trees (suc t) k t

keys_before-is : (w : World) (trees : ℕ → Tree) (t k r : ℕ) → r < t
    → keys_before w trees t k r ≡ the_keys w trees k r
unfolding keys_before the_keys
keys_before-is w trees zero k r lt = absurd (omega arith)
keys_before-is w trees (suc t) k r lt =
    ⊎_elim
    (λ earlier. ap (λ (b : Bool). cond b (mean w (keys_before w trees t) (trees k) t)
    (keys_before w trees t k r)) (ne_eqb r t (λ e. absurd (omega arith)))
    ∙ keys_before-is w trees t k r earlier)
    (λ last. let e : t ≡ r = omega arith in
    subst (λ (s : ℕ). keys_before w trees (suc t) k s ≡ the_keys w trees k s) e refl)
    (cases_lt r t)

module _ (laws : HistoryLaws) (line : Line) (horizon : ℕ) (w : World)
    (from : (c : ℕ) → c < channel_count line → w.from c < terminal_count line)
    (later : (c t : ℕ) → c < channel_count line → t < horizon → 1 ≤ w.delay c t) where
  agree_earlier : (u v : Signals) (r t : ℕ) → r ≤ t → AgreeBefore line u v t
      → AgreeBefore line u v r
  agree_earlier u v r t le same k s kn lt = same k s kn (omega arith)

  -- the value at t is the same wherever the keys before t are
  pub value_past : (u v : Signals) (x : Tree) (t : ℕ) → t < horizon → Names line x
      → AgreeBefore line u v t → mean w u x t ≡ mean w v x t
  unfolding mean Names
  value_past u v (Const b) t early h same = refl
  value_past u v (Seen p) t early h same = refl
  value_past u v (Loss c) t early h same = refl
  value_past u v (Raw c) t early h same =
      let one : 1 ≤ w.delay c t = later c t h early in
      laws.delays_earlier.delayed (u (w.from c)) (v (w.from c)) (w.delay c t) t
      (λ r at. same (w.from c) r (from c h) (omega (arith, at, one)))
  value_past u v (Not x) t early h same = ap not (value_past u v x t early h same)
  value_past u v (And x y) t early h same =
      ap (λ (a : Bool). a && mean w u y t) (value_past u v x t early h.0 same)
      ∙ ap (λ (a : Bool). mean w v x t && a) (value_past u v y t early h.1 same)
  value_past u v (Or x y) t early h same =
      ap (λ (a : Bool). a || mean w u y t) (value_past u v x t early h.0 same)
      ∙ ap (λ (a : Bool). mean w v x t || a) (value_past u v y t early h.1 same)
  value_past u v (Timer x p e) t early h same =
      laws.elements_past.timed (mean w u x) (mean w v x) (w.time p) (w.time e) t
      (λ r le. value_past u v x r (omega arith) h.0 (agree_earlier u v r t le same))
  value_past u v (Seal x y) t early h same =
      laws.elements_past.sealed (mean w u x) (mean w u y) (mean w v x) (mean w v y) t
      (λ r le. value_past u v x r (omega arith) h.0 (agree_earlier u v r t le same))
      (λ r le. value_past u v y r (omega arith) h.1 (agree_earlier u v r t le same))

  module _ (trees : ℕ → Tree)
      (named : (k : ℕ) → k < terminal_count line → Names line (trees k)) where
    -- the keys solve the equations of their trees
    pub keys_solve : (k t : ℕ) → k < terminal_count line → t < horizon
        → the_keys w trees k t ≡ mean w (the_keys w trees) (trees k) t
    unfolding the_keys keys_before
    keys_solve k t kn lt =
        ap (λ (b : Bool). cond b (mean w (keys_before w trees t) (trees k) t)
        (keys_before w trees t k t)) (eq-eqb t t refl)
        ∙ value_past (keys_before w trees t) (the_keys w trees) (trees k) t lt (named k kn)
        (λ j r jn before_t. keys_before-is w trees t j r before_t)

    -- and no others do
    pub keys_once : (u v : Signals)
        → ((k t : ℕ) → k < terminal_count line → t < horizon → u k t ≡ mean w u (trees k) t)
        → ((k t : ℕ) → k < terminal_count line → t < horizon → v k t ≡ mean w v (trees k) t)
        → (t : ℕ) → t ≤ horizon → AgreeBefore line u v t
    keys_once u v is_u is_v zero le k r kn lt = absurd (omega arith)
    keys_once u v is_u is_v (suc t) le k r kn lt =
        let before_t : AgreeBefore line u v t = keys_once u v is_u is_v t (omega arith) in
        ⊎_elim (λ earlier. before_t k r kn earlier)
        (λ last. let e : t ≡ r = omega arith in
        let now : u k t ≡ v k t = is_u k t kn (omega arith)
        ∙ value_past u v (trees k) t (omega arith) (named k kn) before_t
        ∙ sym (is_v k t kn (omega arith)) in
        subst (λ (s : ℕ). u k s ≡ v k s) e now)
        (cases_lt r t)

module _ (laws : HistoryLaws) (names : TreesNameTheLine) (n : ℕ) (line : Line) (script : Script)
    (choice : Choice) (d : FineDelaysFromOne n line choice) where
  abbrev world : World
  world = fine_world_of n line script choice

  from_line : (c : ℕ) → c < channel_count line → world.from c < terminal_count line
  unfolding fine_world_of
  from_line = line.pairs_once.from

  from_one : (c t : ℕ) → c < channel_count line → t < line.horizon * n → 1 ≤ world.delay c t
  unfolding fine_world_of
  from_one = d

  pub fine_exists : (h : History) × IsFineHistory n line script choice h
  fine_exists =
      let keys : Signals = the_keys world (key_tree line) in (
        record { key = keys; trip = λ k t. mean world keys (trip_tree line k) t },
        record {
          keys = keys_solve laws line (line.horizon * n) world from_line from_one (key_tree line)
              (names.keys line);
          trips = λ k t kn lt. refl;
        },
      )

  pub fine_once : (g h : History) → IsFineHistory n line script choice g
      → IsFineHistory n line script choice h → IsSameFineHistory n line g h
  fine_once g h is_g is_h =
      let keys : AgreeBefore line g.key h.key (line.horizon * n) =
      keys_once laws line (line.horizon * n) world from_line from_one (key_tree line)
      (names.keys line) g.key h.key is_g.keys is_h.keys (line.horizon * n) (omega arith) in
      record {
        keys = λ k t kn lt. keys k t kn lt;
        trips = λ k t kn lt.
            is_g.trips k t kn lt
            ∙ value_past laws line (line.horizon * n) world from_line from_one g.key h.key
            (trip_tree line k) t lt (names.trips line k kn)
            (λ j r jn before_t. keys j r jn (omega arith))
            ∙ sym (is_h.trips k t kn lt);
      }
