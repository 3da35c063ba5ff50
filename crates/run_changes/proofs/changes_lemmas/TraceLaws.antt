-- One tick of a net, gate by gate, of which only some are evaluated.
use Rattle.run_signal.specs.Signals.{SignalOf}
use Rattle.std.proofs.Common.{◌≡◌, ◌≢◌, ℕ, zero, suc, ◌+◌, ◌-◌, ◌<◌, ◌≤◌, List, [], ◌∷◌, length, Some}
use Rattle.std.proofs.Common.{sym, ◌∙◌, ap, subst, arith, ⊎_elim}
use Rattle.std.proofs.lemmas.Bool.{cases_lt}
use Rattle.std.proofs.lemmas.Option.{slice_get_within}
use Rattle.std.specs.Prelude.{slice_get, slice_set, take}
use Rattle.model_history.specs.Rails.{Rails}
use Rattle.model_history.specs.Laws.{RecordedTicksSuffice}
use Rattle.run_signal.specs.Stretches.{ElementsInAStretch}
use Rattle.net_gates.specs.{declared.gate.Gate.Gate}
use Rattle.net_gates.specs.Gates.{HasArguments, AreGates}
use Rattle.run_step.specs.declared.cell.Cell.{Cell}
use Rattle.run_changes.specs.declared.changes.since.Since.{Since}
use Rattle.run_changes.specs.declared.changes.gates.Gates.{Gates}
use Rattle.run_step.specs.{Ticks.ValuesAgree, Ticks.AreTold}
use Rattle.run_step.specs.{GatePairs.GateSignals, Lanes.LanePairs, Lasts.Lasts}
use Rattle.model_history.specs.ListLaws.{exists_at, at_set, one_value}
use Rattle.run_changes.specs.changes.Lags.{AllWait, AreFreshDues, ArgsRest, GateWaits, IsTraced, Lags}
use Rattle.run_changes.specs.changes.Readers.{AreLowered, IsTold}
use Rattle.run_changes.specs.changes.Marks.{AreMarked, IsMarked}
use Rattle.run_changes.proofs.changes_lemmas.MarkLaws.{watched}
use Rattle.run_changes.proofs.changes_lemmas.LagLaws.{ArgsSame, args_same, at_least_one, lasts_none, rest_pair}
use Rattle.run_changes.proofs.changes_lemmas.LagLaws.{rest_lags, rest_lasts, rests_more, rests_none}

module _ {X : Type 0} where
  -- the element that was written
  pub set_here : (xs : List X) (i : ℕ) (y : X) (k : ℕ) (z : X) → k ≡ i
      → slice_get (slice_set xs i y) k ≡ Some z → y ≡ z
  set_here xs i y k z here at =
      ⊎_elim (λ p. p.1) (λ p. absurd (p.0 here)) (at_set xs i y k z at)

  -- another one
  pub set_other : (xs : List X) (i : ℕ) (y : X) (k : ℕ) (z : X) → k ≢ i
      → slice_get (slice_set xs i y) k ≡ Some z → slice_get xs k ≡ Some z
  set_other xs i y k z other at =
      ⊎_elim (λ p. absurd (other p.0)) (λ p. p.1) (at_set xs i y k z at)

  -- an element of the first ones
  pub at_take : (n : ℕ) (xs : List X) (k : ℕ) (z : X) → slice_get (take n xs) k ≡ Some z
      → (k < n) × (slice_get xs k ≡ Some z)
  at_take zero xs k z at = absurd (cc)
  at_take (suc n) [] k z at = absurd (cc)
  at_take (suc n) (x ∷ xs) zero z at = (omega arith, at)
  at_take (suc n) (x ∷ xs) (suc k) z at =
      let p = at_take n xs k z at in let lt : k < n = p.0 in (omega arith, p.1)

pub fresh_more : (t i n : ℕ) (dues : List ℕ) (new : ℕ) → n ≡ i + 1 → AreFreshDues t i dues
    → AreFreshDues t n (slice_set dues i new)
fresh_more t i n dues new next fresh first k due low at =
    fresh first k due (omega (arith, next, low))
    (set_other dues i new k due (λ e. omega (arith, next, low, e)) at)

pub fresh_lowered : (t n : ℕ) (old new : List ℕ) → AreLowered old new → AreFreshDues t n old
    → AreFreshDues t n new
fresh_lowered t n old new lowered fresh first k due low at =
    ⊎_elim (λ none. none) (λ same. fresh first k due low same) (lowered k due at)

pub fresh_next : (t i n : ℕ) (dues : List ℕ) → i ≤ n → AreFreshDues t i dues → AreFreshDues t n dues
fresh_next t i n dues le fresh first k due low at = fresh first k due (omega arith) at

-- for no tick
pub lowered_lasts : (p : LanePairs) (b t due : ℕ) (g : Gate) → due ≡ 0 → Lasts p b t (due - t) g
lowered_lasts p b t due g none =
    let zero : 0 ≡ due - t = omega (arith, none) in
    subst (λ (k : ℕ). Lasts p b t k g) zero (lasts_none p b t g)

module _ {C S V : Type 0} (signal : SignalOf V S)
    (stands_for : C → S → S → ℕ → List Rails → Type 0) (lane : ℕ) (p : LanePairs) (t : ℕ)
    (gates : List Gate) where
  abbrev Traced : ℕ → Gates C V S S → Type 0
  Traced n kept = IsTraced signal stands_for lane p t n gates kept

  abbrev WaitFrom : ℕ → List (Cell C V S) → List (Since V) → List ℕ → List V → Type 0
  WaitFrom n cells sinces dues column =
      (i : ℕ) (g : Gate) (cell : Cell C V S) (since : Since V) (due : ℕ) (value : V)
      → n ≤ i → slice_get gates i ≡ Some g → slice_get cells i ≡ Some cell
      → slice_get sinces i ≡ Some since → slice_get dues i ≡ Some due
      → slice_get column i ≡ Some value
      → GateWaits signal stands_for lane p t i g cell since due value

  -- gates that are made due wait too
  lowered_wait : (n : ℕ) (cells : List (Cell C V S)) (sinces : List (Since V))
      (old new : List ℕ) (column : List V) → length old ≡ length gates → AreLowered old new
      → WaitFrom n cells sinces old column → WaitFrom n cells sinces new column
  lowered_wait n cells sinces old new column long lowered waits i g cell since due value low ga ca sa
      da va =
      ⊎_elim
      (λ none.
      let inside : i < length gates = slice_get_within gates i g ga in
      let (before, ba) = exists_at old i (omega (arith, inside, long)) in
      let wait = waits i g cell since before value low ga ca sa ba va in
      record {
        lags = wait.lags;
        last = wait.last;
        lasts = lowered_lasts p (t - 1) (t - 1) due g none;
      })
      (λ same. waits i g cell since due value low ga ca sa same va)
      (lowered i due da)

  -- gates whose marks are others wait as they are
  pub traced_none : (kept new : Gates C V S S) → new.cells.items ≡ kept.cells.items
      → new.sinces.items ≡ kept.sinces.items → new.dues.items ≡ kept.dues.items
      → new.column.items ≡ kept.column.items
      → AllWait signal stands_for lane p t gates kept → Traced 0 new
  traced_none kept new same_cells same_sinces same_dues same_column wait = record {
    values = λ i x lt. absurd (omega arith);
    lags = λ i g cell since lt. absurd (omega arith);
    rests = λ i g due low ga da later. rests_none p.pairs t g;
    wait = λ i g cell since due value low ga ca sa da va.
        wait i g cell since due value ga
        (subst (λ (l : List (Cell C V S)). slice_get l i ≡ Some cell) same_cells ca)
        (subst (λ (l : List (Since V)). slice_get l i ≡ Some since) same_sinces sa)
        (subst (λ (l : List ℕ). slice_get l i ≡ Some due) same_dues da)
        (subst (λ (l : List V). slice_get l i ≡ Some value) same_column va);
  }

  -- the earlier values are those of the tick
  pub traced_agree : (i : ℕ) (kept : Gates C V S S) → Traced i kept
      → ValuesAgree signal.rails lane p.pairs t (take i kept.column.items)
  traced_agree i kept traced k x at =
      let q = at_take i kept.column.items k x at in traced.values k x q.0 q.1

  -- one gate more that is left as it is
  pub traced_rest : (stretch : ElementsInAStretch) (recorded : RecordedTicksSuffice) (i due : ℕ)
      (gate : Gate) (kept : Gates C V S S) → length kept.cells.items ≡ length gates
      → length kept.sinces.items ≡ length gates → length kept.column.items ≡ length gates
      → HasArguments i gate → 1 ≤ t → t < due
      → slice_get gates i ≡ Some gate → slice_get kept.dues.items i ≡ Some due
      → ((r : ℕ) → AreTold p.world p.keys p.pairs r gates) → Traced i kept
      → Traced (i + 1) kept × Lasts p (t - 1) t (due - t) gate
  traced_rest stretch recorded i due gate kept lc ls lv has some later ga da told traced =
      let u : GateSignals = p.pairs in
      let cells : List (Cell C V S) = kept.cells.items in
      let sinces : List (Since V) = kept.sinces.items in
      let column : List V = kept.column.items in
      let inside : i < length gates = slice_get_within gates i gate ga in
      let (cell, ca) = exists_at cells i (omega (arith, inside, lc)) in
      let (since, sa) = exists_at sinces i (omega (arith, inside, ls)) in
      let (value, va) = exists_at column i (omega (arith, inside, lv)) in
      let waits = traced.wait i gate cell since due value (omega arith) ga ca sa da va in
      let rests : ArgsRest u t i gate = traced.rests i gate due (omega arith) ga da later in
      let next : t ≡ suc (t - 1) = omega (arith, some) in
      let args : ArgsSame u t (t - 1) gate = args_same u t i gate some has rests in
      let same : u i t ≡ u i (t - 1) =
      told t i gate ga ∙ rest_pair stretch p t (t - 1) due gate next later args waits.lasts
      ∙ sym (told (t - 1) i gate ga) in
      let lags : Lags signal stands_for lane p.world u (suc t) gate cell since =
      rest_lags stretch recorded signal stands_for lane p.world u t (t - 1) gate cell since next
      args waits.lags in (
        record {
          values = λ k x lt at.
              ⊎_elim
              (λ low. traced.values k x low at)
              (λ ge. let here : k ≡ i = omega arith in
              ap (λ (v : V). signal.rails v lane) (one_value column k i x value here at va)
              ∙ waits.last some ∙ sym same ∙ ap (λ (j : ℕ). u j t) (sym here))
              (cases_lt k i);
          lags = λ k g c s lt gat cat sat.
              ⊎_elim
              (λ low. traced.lags k g c s low gat cat sat)
              (λ ge. let here : i ≡ k = omega arith in
              subst (λ (h : Gate). Lags signal stands_for lane p.world u (suc t) h c s)
              (one_value gates i k gate g here ga gat)
              (subst (λ (y : Cell C V S). Lags signal stands_for lane p.world u (suc t) gate y s)
              (one_value cells i k cell c here ca cat)
              (subst (λ (y : Since V). Lags signal stands_for lane p.world u (suc t) gate cell y)
              (one_value sinces i k since s here sa sat) lags)))
              (cases_lt k i);
          rests = λ k g d low gat dat late.
              rests_more u t i g (λ _ _. same) (traced.rests k g d (omega arith) gat dat late);
          wait = λ k g c s d v low. traced.wait k g c s d v (omega arith);
        },
        rest_lasts p t (t - 1) (due - (t - 1)) (due - t) gate next (omega (arith, some, later)) args
            waits.lasts,
      )

  -- what the gates from one to another rest on lasts until they are due
  abbrev LastBetween : ℕ → ℕ → List ℕ → Type 0
  LastBetween i n dues = (k : ℕ) (g : Gate) (due : ℕ) → i ≤ k → k < n
      → slice_get gates k ≡ Some g → slice_get dues k ≡ Some due → Lasts p (t - 1) t (due - t) g

  -- so many gates more that are left as they are
  traced_on : (stretch : ElementsInAStretch) (recorded : RecordedTicksSuffice)
      (kept : Gates C V S S) → length kept.cells.items ≡ length gates
      → length kept.sinces.items ≡ length gates → length kept.dues.items ≡ length gates
      → length kept.column.items ≡ length gates → AreGates gates
      → ((r : ℕ) → AreTold p.world p.keys p.pairs r gates) → (i : ℕ)
      → AreFreshDues t i kept.dues.items → (d : ℕ) → i + d ≤ length gates
      → ((k due : ℕ) → i ≤ k → k < i + d → slice_get kept.dues.items k ≡ Some due → t < due)
      → Traced i kept → Traced (i + d) kept × LastBetween i (i + d) kept.dues.items
  traced_on stretch recorded kept lc ls ld lv laws told i fresh zero fits late traced =
      let e : i ≡ i + 0 = omega arith in (
        subst (λ (n : ℕ). Traced n kept) e traced,
        λ k g due low lt. absurd (omega (arith, low, lt)),
      )
  traced_on stretch recorded kept lc ls ld lv laws told i fresh (suc d) fits late traced =
      let before = traced_on stretch recorded kept lc ls ld lv laws told i
      fresh d (omega (arith, fits)) (λ k due low lt. late k due low (omega (arith, lt))) traced in
      let n : ℕ = i + d in
      let dues : List ℕ = kept.dues.items in
      let inside : n < length gates = omega (arith, fits) in
      let (gate, ga) = exists_at gates n inside in
      let (due, da) = exists_at dues n (omega (arith, inside, ld)) in
      let low : i ≤ n = omega arith in
      let high : n < i + suc d = omega arith in
      let later : t < due = late n due low high da in
      let some : 1 ≤ t = at_least_one t due later (λ first. fresh first n due low da) in
      let more = traced_rest stretch recorded n due gate kept lc ls lv
      (laws.earlier n gate ga) some later ga da told before.0 in
      let e : n + 1 ≡ i + suc d = omega arith in (
        subst (λ (m : ℕ). Traced m kept) e more.0,
        λ k g x from to gat dat.
            ⊎_elim
            (λ lower. before.1 k g x from lower gat dat)
            (λ ge. let here : n ≡ k = omega (arith, ge, to) in
            subst (λ (h : Gate). Lasts p (t - 1) t (x - t) h) (one_value gates n k gate g here ga gat)
            (subst (λ (y : ℕ). Lasts p (t - 1) t (y - t) gate) (one_value dues n k due x here da dat)
            more.1))
            (cases_lt k n),
      )

  -- the gates without a mark from one to another are left as they are
  pub traced_past : (stretch : ElementsInAStretch) (recorded : RecordedTicksSuffice)
      (i n : ℕ) (kept : Gates C V S S) → AreGates gates
      → length kept.cells.items ≡ length gates → length kept.sinces.items ≡ length gates
      → length kept.dues.items ≡ length gates → length kept.column.items ≡ length gates
      → AreMarked kept.dues.items kept.marks → AreFreshDues t i kept.dues.items
      → kept.marks.next ≡ t + 1 → i ≤ n → n ≤ length gates
      → ((k : ℕ) → i ≤ k → k < n → IsMarked k kept.marks.words.items → ⊥)
      → ((r : ℕ) → AreTold p.world p.keys p.pairs r gates) → Traced i kept
      → Traced n kept × LastBetween i n kept.dues.items
  traced_past stretch recorded i n kept laws lc ls ld lv marked fresh next from to passed told
      traced =
      let e : i + (n - i) ≡ n = omega (arith, from) in
      subst (λ (m : ℕ). Traced m kept × LastBetween i m kept.dues.items) e
      (traced_on stretch recorded kept lc ls ld lv laws told i fresh (n - i)
      (omega (arith, e, to))
      (λ k due low lt at. ⊎_elim (λ m. absurd (passed k low (omega (arith, lt, e)) m))
      (λ late. omega (arith, late, next))
      (watched kept.dues.items kept.marks k due at marked))
      traced)

  -- one gate more that was evaluated
  pub traced_more : (i : ℕ) (kept new : Gates C V S S)
      (gate : Gate) (cell : Cell C V S) (since : Since V) (due : ℕ) (last value : V)
      → lane < signal.lanes
      → length (slice_set kept.dues.items i due) ≡ length gates
      → new.cells.items ≡ slice_set kept.cells.items i cell
      → new.sinces.items ≡ slice_set kept.sinces.items i since
      → new.column.items ≡ slice_set kept.column.items i value
      → AreLowered (slice_set kept.dues.items i due) new.dues.items
      → IsTold signal i gates value last new.dues.items
      → slice_get gates i ≡ Some gate → (1 ≤ t → signal.rails last lane ≡ p.pairs i (t - 1))
      → signal.rails value lane ≡ p.pairs i t
      → Lags signal stands_for lane p.world p.pairs (suc t) gate cell since
      → Traced i kept → Traced (i + 1) new
  traced_more i kept new gate cell since due last value inside long
      is_cells is_sinces is_column lowered told ga before now lags traced =
      let u : GateSignals = p.pairs in
      let cells : List (Cell C V S) = kept.cells.items in
      let sinces : List (Since V) = kept.sinces.items in
      let column : List V = kept.column.items in
      let dues : List ℕ = kept.dues.items in
      let cell_at : (k : ℕ) (c : Cell C V S) → slice_get new.cells.items k ≡ Some c
      → slice_get (slice_set cells i cell) k ≡ Some c =
      λ k c at. subst (λ (l : List (Cell C V S)). slice_get l k ≡ Some c) is_cells at in
      let since_at : (k : ℕ) (s : Since V) → slice_get new.sinces.items k ≡ Some s
      → slice_get (slice_set sinces i since) k ≡ Some s =
      λ k s at. subst (λ (l : List (Since V)). slice_get l k ≡ Some s) is_sinces at in
      let value_at : (k : ℕ) (x : V) → slice_get new.column.items k ≡ Some x
      → slice_get (slice_set column i value) k ≡ Some x =
      λ k x at. subst (λ (l : List V). slice_get l k ≡ Some x) is_column at in
      record {
        values = λ k x lt at.
            ⊎_elim
            (λ low. traced.values k x low
            (set_other column i value k x (λ e. omega arith) (value_at k x at)))
            (λ ge. let here : k ≡ i = omega arith in
            ap (λ (v : V). signal.rails v lane)
            (sym (set_here column i value k x here (value_at k x at)))
            ∙ now ∙ ap (λ (j : ℕ). u j t) (sym here))
            (cases_lt k i);
        lags = λ k g c s lt gat cat sat.
            ⊎_elim
            (λ low. traced.lags k g c s low gat
            (set_other cells i cell k c (λ e. omega arith) (cell_at k c cat))
            (set_other sinces i since k s (λ e. omega arith) (since_at k s sat)))
            (λ ge. let here : k ≡ i = omega arith in
            subst (λ (h : Gate). Lags signal stands_for lane p.world u (suc t) h c s)
            (one_value gates i k gate g (sym here) ga gat)
            (subst (λ (y : Cell C V S). Lags signal stands_for lane p.world u (suc t) gate y s)
            (set_here cells i cell k c here (cell_at k c cat))
            (subst (λ (y : Since V). Lags signal stands_for lane p.world u (suc t) gate cell y)
            (set_here sinces i since k s here (since_at k s sat)) lags)))
            (cases_lt k i);
        rests = λ k g d low gat dat late.
            ⊎_elim
            (λ none. absurd (omega (arith, late, none)))
            (λ same_due.
            rests_more u t i g
            (λ has some. ⊎_elim
            (λ awake. let none : d ≡ 0 = awake k d g gat has dat in
            absurd (omega (arith, late, none)))
            (λ same. sym now ∙ same lane inside ∙ before some) told)
            (traced.rests k g d (omega arith) gat
            (set_other dues i due k d (λ e. omega arith) same_due) late))
            (lowered k d dat);
        wait = λ k g c s d v low gat cat sat dat vat.
            lowered_wait (i + 1) (slice_set cells i cell) (slice_set sinces i since)
            (slice_set dues i due) new.dues.items (slice_set column i value) long lowered
            (λ k' g' c' s' d' v' low' gat' cat' sat' dat' vat'.
            traced.wait k' g' c' s' d' v' (omega arith) gat'
            (set_other cells i cell k' c' (λ e. omega arith) cat')
            (set_other sinces i since k' s' (λ e. omega arith) sat')
            (set_other dues i due k' d' (λ e. omega arith) dat')
            (set_other column i value k' v' (λ e. omega arith) vat'))
            k g c s d v low gat (cell_at k c cat) (since_at k s sat) dat (value_at k v vat);
      }
