-- The rows of one gate more, and what the row of a terminal's gate is.
use Rattle.std.proofs.Common.{◌≡◌, ◌<◌, ◌+◌, ◌*◌, ◌/◌, ◌%◌, ◌==◌, ℕ, zero, suc, Bool, true, false, List}
use Rattle.std.proofs.Common.{Some, None, length, sym, ◌∙◌, ap, subst, arith, ⊎_elim, length-set}
use Rattle.std.proofs.Common.{replicate}
use Rattle.std.proofs.lemmas.Bool.{cases_lt}
use Rattle.std.proofs.lemmas.Nat.{mod-mul-add, div-mul-add}
use Rattle.std.proofs.lemmas.Option.{slice_get_within}
use Rattle.std.proofs.lemmas.List.{length-replicate}
use Rattle.std.specs.Prelude.{IsTrue, Option, slice_get, slice_set}
use Rattle.model_line.specs.{declared.line.Line.Line, Parameters.terminal_count}
use Rattle.model_logic.specs.{Elements.is_weak}
use Rattle.net_gates.specs.{NetOf.NetOf, Formulas.formula_of}
use Rattle.judge_cases.specs.Rows.{AreRows, IsRowOf, echo_timer, row_tree, row_count}
use Rattle.model_history.specs.ListLaws.{at_set}

-- ---- the two rows of a terminal

pub first_terminal : (k : ℕ) → k * 2 / 2 ≡ k
first_terminal k =
    ap (λ (m : ℕ). m / 2) (let e : k * 2 ≡ k * 2 + 0 = omega arith in e)
    ∙ div-mul-add k 2 0 (omega arith)

pub second_terminal : (k : ℕ) → (k * 2 + 1) / 2 ≡ k
second_terminal k = div-mul-add k 2 1 (omega arith)

pub first_tree : (line : Line) (k : ℕ) → row_tree line (k * 2) ≡ echo_timer line k true
first_tree line k =
    let rest : k * 2 % 2 ≡ 0 =
    ap (λ (m : ℕ). m % 2) (let e : k * 2 ≡ k * 2 + 0 = omega arith in e)
    ∙ mod-mul-add k 2 0 (omega arith) in
    ap (λ (m : ℕ). echo_timer line m (k * 2 % 2 == 0)) (first_terminal k)
    ∙ ap (λ (m : ℕ). echo_timer line k (m == 0)) rest

pub second_tree : (line : Line) (k : ℕ) → row_tree line (k * 2 + 1) ≡ echo_timer line k false
second_tree line k =
    ap (λ (m : ℕ). echo_timer line m ((k * 2 + 1) % 2 == 0)) (second_terminal k)
    ∙ ap (λ (m : ℕ). echo_timer line k (m == 0)) (mod-mul-add k 2 1 (omega arith))

all_none : (n i : ℕ) (o : Option ℕ) → slice_get (replicate n None) i ≡ Some o → o ≡ None
all_none zero i o e = absurd (cc)
all_none (suc n) zero o e = let s : None ≡ o = cc in sym s
all_none (suc n) (suc i) o e = all_none n i o e

module _ (line : Line) (net : NetOf) where
  pub rows_none : (count : ℕ) (rows : List (Option ℕ)) → count ≡ length net.gates
      → rows ≡ replicate count None → AreRows line net 0 rows
  rows_none count rows long is = record {
    count = ap length is ∙ length-replicate count None ∙ long;
    none = λ i row at lt. absurd (omega arith);
    some = λ i row at.
        let none : Some row ≡ None =
        all_none count i (Some row)
        (subst (λ (l : List (Option ℕ)). slice_get l i ≡ Some (Some row)) is at) in absurd (cc);
  }

  -- a row of a terminal that is not weak has no gate
  row_same : (n : ℕ) (rows : List (Option ℕ)) → is_weak line (n / 2) ≡ false
      → AreRows line net n rows → AreRows line net (n + 1) rows
  row_same n rows off are = record {
    count = are.count;
    none = λ i row at lt weak e.
        ⊎_elim (λ before. are.none i row at before weak e)
        (λ now. let is : n ≡ row = omega arith in
        let same : IsTrue (is_weak line (n / 2)) =
        subst (λ (m : ℕ). IsTrue (is_weak line (m / 2))) (sym is) weak in
        absurd (cc)) (cases_lt row n);
    some = λ i row at. let h = are.some i row at in (omega (arith, h.0), h.1);
  }

  pub rows_same : (k : ℕ) (rows : List (Option ℕ)) → is_weak line k ≡ false
      → AreRows line net (k * 2) rows → AreRows line net ((k + 1) * 2) rows
  rows_same k rows off are =
      let next : k * 2 + 1 + 1 ≡ (k + 1) * 2 = omega arith in
      subst (λ (n : ℕ). AreRows line net n rows) next
      (row_same (k * 2 + 1) rows (ap (is_weak line) (second_terminal k) ∙ off)
      (row_same (k * 2) rows (ap (is_weak line) (first_terminal k) ∙ off) are))

  pub rows_more : (n : ℕ) (rows : List (Option ℕ)) → AreRows line net n rows → (gate : ℕ)
      → formula_of net.gates gate ≡ row_tree line n
      → ((i : ℕ) → i < length net.gates → formula_of net.gates i ≡ formula_of net.gates gate
      → i ≡ gate) → AreRows line net (n + 1) (slice_set rows gate (Some n))
  rows_more n rows are gate is one = record {
    count = length-set rows gate (Some n) ∙ are.count;
    none = λ i row at lt weak e.
        ⊎_elim
        (λ p. let s : Some n ≡ None = p.1 in absurd (cc))
        (λ p. ⊎_elim (λ before. are.none i row p.1 before weak e)
        (λ now. let same : row ≡ n = omega arith in
        let inside : i < length net.gates =
        subst (λ (m : ℕ). i < m) are.count (slice_get_within rows i None p.1) in
        p.0 (one i inside (e ∙ ap (row_tree line) same ∙ sym is)))
        (cases_lt row n))
        (at_set rows gate (Some n) i None at);
    some = λ i row at.
        ⊎_elim
        (λ p. let same : n ≡ row = cc in (
          omega arith,
          ap (formula_of net.gates) p.0 ∙ is ∙ ap (row_tree line) same,
        ))
        (λ p. let h = are.some i row p.1 in (omega (arith, h.0), h.1))
        (at_set rows gate (Some n) i (Some row) at);
  }

-- ---- the row of a gate

-- each timer of a weak terminal has a row
pub timer_row : (line : Line) (k : ℕ) → k < terminal_count line → (throughout : Bool)
    → (row : ℕ) × ((row < row_count line) × ((row / 2 ≡ k)
    × (row_tree line row ≡ echo_timer line k throughout)))
timer_row line k lt true = (k * 2, (omega arith, (first_terminal k, first_tree line k)))
timer_row line k lt false = (k * 2 + 1, (omega arith, (second_terminal k, second_tree line k)))

module _ (line : Line) (net : NetOf) (rows : List (Option ℕ))
    (one : (i j : ℕ) → i < length net.gates → j < length net.gates
    → formula_of net.gates i ≡ formula_of net.gates j → i ≡ j)
    (are : AreRows line net (row_count line) rows) (k : ℕ) (there : k < terminal_count line)
    (weak : IsTrue (is_weak line k)) (throughout : Bool) (gate : ℕ)
    (stands : formula_of net.gates gate ≡ echo_timer line k throughout) where
  -- the gate has a row
  pub no_row : slice_get rows gate ≡ Some None → ⊥
  no_row none =
      let row = timer_row line k there throughout in
      are.none gate row.0 none row.1.0
      (subst (λ (m : ℕ). IsTrue (is_weak line m)) (sym row.1.1.0) weak)
      (stands ∙ sym row.1.1.1)

  within : (i : ℕ) (o : Option ℕ) → slice_get rows i ≡ Some o → i < length net.gates
  within i o at = subst (λ (m : ℕ). i < m) are.count (slice_get_within rows i o at)

  -- no other gate has it, and the gate has no other
  pub row_is : (row : ℕ) → slice_get rows gate ≡ Some (Some row)
      → IsRowOf net rows (echo_timer line k throughout) row
  row_is row at = record {
    stands = λ i ri. (are.some i row ri).1 ∙ sym (are.some gate row at).1 ∙ stands;
    only = λ i other ri is.
        let same : i ≡ gate =
        one i gate (within i (Some other) ri) (within gate (Some row) at) (is ∙ sym stands) in
        let here : slice_get rows gate ≡ Some (Some other) =
        subst (λ (m : ℕ). slice_get rows m ≡ Some (Some other)) same ri in
        cc;
  }
