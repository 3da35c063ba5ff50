-- One tick, gate by gate.
use Rattle.run_signal.specs.Signals.{SignalOf}
use Rattle.std.proofs.Common.{◌≡◌, ◌≢◌, ℕ, suc, ◌+◌, List, [], ◌∷◌, ◌++◌, length, Some, sym, ◌∙◌}
use Rattle.std.proofs.Common.{ap, subst, arith, ⊎_elim, length-set, ◌≤◌}
use Rattle.std.specs.Prelude.{slice_get, slice_set}
use Rattle.model_history.specs.Rails.{Rails}
use Rattle.model_logic.specs.PairMean.{PairWorld, PairSignals}
use Rattle.net_gates.specs.declared.gate.Gate.TheVariants.{Const, Seen, Loss, Raw, Not, And, Or}
use Rattle.net_gates.specs.declared.gate.Gate.TheVariants.{Timer, Seal}
use Rattle.net_gates.specs.{declared.gate.Gate.Gate, Gates.HasArguments}
use Rattle.run_step.specs.GatePairs.{GateSignals, kind_pair}
use Rattle.run_step.specs.{declared.cell.Cell.Cell, CellStands.HasCell, CellStands.CellStands}
use Rattle.run_step.specs.{Ticks.ValuesAgree, Ticks.HaveCells, Ticks.AreTold}
use Rattle.run_step.specs.Ticks.{CellsWalked}
use Rattle.run_step.specs.{Ticks.AllStand}
use Rattle.model_history.specs.ListLaws.{at_push, at_set, one_value}

-- one more element beside a list of gates, with what each is to have
pub one_more : {Y : Type 0} (P : Gate → Y → Type 0) (gates : List Gate) (xs : List Y) (i : ℕ)
    (gate : Gate) (x : Y) → length xs ≡ i → slice_get gates i ≡ Some gate
    → ((j : ℕ) (g : Gate) (y : Y) → slice_get gates j ≡ Some g → slice_get xs j ≡ Some y → P g y)
    → P gate x
    → (j : ℕ) (g : Gate) (y : Y) → slice_get gates j ≡ Some g
    → slice_get (xs ++ x ∷ []) j ≡ Some y → P g y
one_more P gates xs i gate x len at before now j g y ga ya =
    ⊎_elim
    (λ h. before j g y ga h)
    (λ p. let e : i ≡ j = omega (arith, p.0) in
    subst (P g) (sym p.1)
    (subst (λ (k : Gate). P k x) (one_value gates i j gate g e at ga) now))
    (at_push xs x y j ya)

pub have_more : {C V S : Type 0} (gates : List Gate) (cells : List (Cell C V S)) (i : ℕ) (gate : Gate)
    (new : Cell C V S) → slice_get gates i ≡ Some gate → HaveCells gates cells → HasCell gate new
    → HaveCells gates (slice_set cells i new)
have_more gates cells i gate new at have now = record {
  count = length-set cells i new ∙ have.count;
  each = λ j g cell gat cat.
      ⊎_elim
      (λ p. subst (HasCell g) p.1
      (subst (λ (k : Gate). HasCell k new) (one_value gates i j gate g (sym p.0) at gat) now))
      (λ p. have.each j g cell gat p.1)
      (at_set cells i new j cell cat);
}

pub agree_none : {V : Type 0} (rails : V → ℕ → Rails) (lane : ℕ) (u : GateSignals) (t : ℕ)
    (column : List V) → column ≡ [] → ValuesAgree rails lane u t column
agree_none rails lane u t [] none i x at = absurd (cc)
agree_none rails lane u t (y ∷ column) none i x at = absurd (cc)

-- one more value
pub agree_more : {V : Type 0} (rails : V → ℕ → Rails) (lane : ℕ) (u : GateSignals) (t i : ℕ)
    (x : V) (column : List V) → length column ≡ i → rails x lane ≡ u i t
    → ValuesAgree rails lane u t column → ValuesAgree rails lane u t (column ++ x ∷ [])
agree_more {V} rails lane u t i x column len value agree j y at =
    ⊎_elim
    (λ before. agree j y before)
    (λ p. ap (λ (v : V). rails v lane) p.1 ∙ value
    ∙ ap (λ (k : ℕ). u k t) (let e : i ≡ j = omega (arith, p.0, len) in e))
    (at_push column x y j at)

module _ {C S V : Type 0} (signal : SignalOf V S)
    (stands_for : C → S → S → ℕ → List Rails → Type 0) (lane : ℕ) (w : PairWorld) (u : GateSignals)
    (t : ℕ)
    (gates : List Gate) where
  abbrev Stands : ℕ → Gate → Cell C V S → Type 0
  Stands r g cell = CellStands signal stands_for lane w u r g cell

  abbrev Walked : ℕ → List (Cell C V S) → Type 0
  Walked n cells = CellsWalked signal stands_for lane w u t n gates cells

  -- one gate more
  pub cells_more : (i n : ℕ) (gate : Gate) (old new : Cell C V S) (cells : List (Cell C V S))
      → n ≡ i + 1 → slice_get gates i ≡ Some gate → slice_get cells i ≡ Some old → Walked i cells
      → (Stands t gate old → Stands (suc t) gate new) → Walked n (slice_set cells i new)
  cells_more i n gate old new cells next gat cat walked stands =
      let now : Stands t gate old = walked.left i gate old (omega arith) gat cat in
      record {
        done = λ j g cell lt ga ca.
            ⊎_elim
            (λ p. subst (Stands (suc t) g) p.1
            (subst (λ (k : Gate). Stands (suc t) k new)
            (one_value gates i j gate g (sym p.0) gat ga) (stands now)))
            (λ p. let ne : j ≢ i = p.0 in walked.done j g cell (omega arith) ga p.1)
            (at_set cells i new j cell ca);
        left = λ j g cell le ga ca.
            ⊎_elim (λ p. let e : j ≡ i = p.0 in absurd (omega arith))
            (λ p. walked.left j g cell (omega arith) ga p.1) (at_set cells i new j cell ca);
      }

  pub walked_none : (cells : List (Cell C V S))
      → AllStand signal stands_for lane w u t gates cells → Walked 0 cells
  walked_none cells all = record {
    done = λ i g cell lt. absurd (omega arith);
    left = λ i g cell le ga ca. all i g cell ga ca;
  }

-- one gate more, with its value
pub walked_more : {C S V : Type 0} (signal : SignalOf V S)
    (stands_for : C → S → S → ℕ → List Rails → Type 0) (lane : ℕ) (w : PairWorld) (keys : PairSignals)
    (u : GateSignals) (t : ℕ) (gates : List Gate) (i n : ℕ) (gate : Gate) (old new : Cell C V S)
    (x : V) (column : List V) (cells : List (Cell C V S)) → n ≡ i + 1
    → slice_get gates i ≡ Some gate → slice_get cells i ≡ Some old → length column ≡ i
    → AreTold w keys u t gates
    → ValuesAgree signal.rails lane u t column
    × CellsWalked signal stands_for lane w u t i gates cells
    → (CellStands signal stands_for lane w u t gate old
    → CellStands signal stands_for lane w u (suc t) gate new)
    → (CellStands signal stands_for lane w u t gate old
    → signal.rails x lane ≡ kind_pair w keys u gate t)
    → ValuesAgree signal.rails lane u t (column ++ x ∷ [])
    × CellsWalked signal stands_for lane w u t n gates (slice_set cells i new)
walked_more signal stands_for lane w keys u t gates i n gate old new x column cells next gat cat
    len told (agree, walked) stands answers =
    let now : CellStands signal stands_for lane w u t gate old =
    walked.left i gate old (omega arith) gat cat in (
      agree_more signal.rails lane u t i x column len (answers now ∙ sym (told i gate gat)) agree,
      cells_more signal stands_for lane w u t gates i n gate old new cells next gat cat walked
          stands,
    )

-- ---- a stretch of ticks, gate by gate

-- each argument is one of a longer list of gates too
pub more_arguments : (m n : ℕ) (g : Gate) → m ≤ n → HasArguments m g → HasArguments n g
more_arguments m n (Const v) le has = has
more_arguments m n (Seen p) le has = has
more_arguments m n (Loss c) le has = has
more_arguments m n (Raw c) le has = has
more_arguments m n (Not a) le has = omega arith
more_arguments m n (And a b) le has = let x = has.0 in let y = has.1 in (omega arith, omega arith)
more_arguments m n (Or a b) le has = let x = has.0 in let y = has.1 in (omega arith, omega arith)
more_arguments m n (Timer a p d) le has = omega arith
more_arguments m n (Seal a b) le has = let x = has.0 in let y = has.1 in (omega arith, omega arith)
