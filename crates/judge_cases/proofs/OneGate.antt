-- No two gates of a net stand for the same tree.
use Rattle.std.proofs.Common.{◌≡◌, ◌<◌, ◌≤◌, ℕ, zero, suc, List, Some, length, sym, ◌∙◌, ap}
use Rattle.std.proofs.Common.{subst, arith, ⊎_elim, rules}
use Rattle.std.proofs.lemmas.Bool.{cases_lt}
use Rattle.run_step.specs.GatePairLaws.{GatesAreTheirKinds}
use Rattle.run_step.specs.WalkLaws.{more_arguments}
use Rattle.model_logic.specs.declared.time.Time.{Time}
use Rattle.net_gates.specs.declared.gate.GateId.{GateId}
use Rattle.net_gates.specs.declared.gate.Gate.{Gate}
use Rattle.net_gates.specs.declared.gate.Gate.TheVariants.{Const, Seen, Loss, Raw, Not, And, Or}
use Rattle.net_gates.specs.declared.gate.Gate.TheVariants.{Timer, Seal}
use Rattle.net_gates.specs.Gates.{AreGates, HasArguments}
use Rattle.net_gates.specs.Formulas.{formula_of, kind_over}
use Rattle.model_history.specs.ListLaws.{exists_at}

same_number : (a b : GateId) → a.0 ≡ b.0 → a ≡ b
same_number a b e = search rules

both_same : (op : GateId → GateId → Gate) (a b x y : GateId) → a ≡ x → b ≡ y → op a b ≡ op x y
both_same op a b x y e f = ap (λ k. op k b) e ∙ ap (op x) f

module _ (gates : List Gate) where
  -- below n, gates that stand for the same tree are one
  abbrev OneBelow : ℕ → Type 0
  OneBelow n = (i j : ℕ) → i < n → i < length gates → j < length gates
      → formula_of gates i ≡ formula_of gates j → i ≡ j

  module _ (n : ℕ) (inside : n ≤ length gates) (one : OneBelow n) where
    same_id : (a b : GateId) → a.0 < n → b.0 < length gates
        → formula_of gates a.0 ≡ formula_of gates b.0 → a ≡ b
    same_id a b la lb e = same_number a b (one a.0 b.0 la (omega arith) lb e)

    same_kind : (g h : Gate) → HasArguments n g → HasArguments (length gates) h
        → kind_over gates g ≡ kind_over gates h → g ≡ h
    same_kind (Const v) (Const w) hg hh e = let s : v ≡ w = cc in ap Const s
    same_kind (Seen p) (Seen q) hg hh e = let s : p ≡ q = cc in ap Seen s
    same_kind (Loss c) (Loss d) hg hh e = let s : c ≡ d = cc in ap Loss s
    same_kind (Raw c) (Raw d) hg hh e = let s : c ≡ d = cc in ap Raw s
    same_kind (Not a) (Not x) hg hh e =
        let s : formula_of gates a.0 ≡ formula_of gates x.0 = cc in ap Not (same_id a x hg hh s)
    same_kind (And a b) (And x y) hg hh e =
        let s : formula_of gates a.0 ≡ formula_of gates x.0 = cc in
        let r : formula_of gates b.0 ≡ formula_of gates y.0 = cc in
        both_same And a b x y (same_id a x hg.0 hh.0 s) (same_id b y hg.1 hh.1 r)
    same_kind (Or a b) (Or x y) hg hh e =
        let s : formula_of gates a.0 ≡ formula_of gates x.0 = cc in
        let r : formula_of gates b.0 ≡ formula_of gates y.0 = cc in
        both_same Or a b x y (same_id a x hg.0 hh.0 s) (same_id b y hg.1 hh.1 r)
    same_kind (Timer a p d) (Timer x q f) hg hh e =
        let s : formula_of gates a.0 ≡ formula_of gates x.0 = cc in
        let sp : p ≡ q = cc in
        let sd : d ≡ f = cc in
        ap (λ (k : GateId). Timer k p d) (same_id a x hg hh s)
        ∙ ap (λ (k : Time). Timer x k d) sp ∙ ap (λ (k : Time). Timer x q k) sd
    same_kind (Seal a b) (Seal x y) hg hh e =
        let s : formula_of gates a.0 ≡ formula_of gates x.0 = cc in
        let r : formula_of gates b.0 ≡ formula_of gates y.0 = cc in
        both_same Seal a b x y (same_id a x hg.0 hh.0 s) (same_id b y hg.1 hh.1 r)
    same_kind g h hg hh e = absurd (cc)

  module _ (kinds : GatesAreTheirKinds) (laws : AreGates gates) where
    one_more : (n : ℕ) → n < length gates → OneBelow n → (j : ℕ) → j < length gates
        → formula_of gates n ≡ formula_of gates j → n ≡ j
    one_more n inside one j lj e =
        let (g, gn) = exists_at gates n inside in
        let (h, hj) = exists_at gates j lj in
        let le : j ≤ length gates = omega arith in
        let same : g ≡ h =
        same_kind n (omega arith) one g h (laws.earlier n g gn)
        (more_arguments j (length gates) h le (laws.earlier j h hj))
        (sym (kinds gates n g laws gn) ∙ e ∙ kinds gates j h laws hj) in
        laws.distinct n j h (gn ∙ ap Some same) hj

    one_below : (n : ℕ) → OneBelow n
    one_below zero i j lt li lj e = absurd (omega arith)
    one_below (suc n) i j lt li lj e =
        ⊎_elim
        (λ earlier. one_below n i j earlier li lj e)
        (λ last. let is : n ≡ i = omega arith in
        subst (λ (k : ℕ). k ≡ j) is (one_more n (omega arith) (one_below n) j lj
        (ap (formula_of gates) is ∙ e)))
        (cases_lt i n)

    -- gates that stand for the same tree are one
    pub one_gate : (i j : ℕ) → i < length gates → j < length gates
        → formula_of gates i ≡ formula_of gates j → i ≡ j
    one_gate i j li lj e = one_below (length gates) i j li li lj e
