-- What the bars of a row say of a tick.
use Rattle.std.proofs.Common.{◌≡◌, ◌<◌, ◌≤◌, ◌+◌, ℕ, Bool, true, false, List, refl, ap, arith}
use Rattle.std.proofs.Common.{subst}
use Rattle.std.specs.List.{Any}
use Rattle.model_history.specs.Rails.{Rails, both}
use Rattle.model_line.specs.declared.script.Script.{Script}
use Rattle.draw_run.specs.diagram.Traces.{ShownPairs}
use Rattle.run_signal.specs.{Terns.tern_rails, declared.tern.Tern.Tern}
use Rattle.run_signal.specs.declared.tern.Tern.TheVariants as tern
use Rattle.draw_run.specs.{diagram.Diagrams.IsRow, diagram.Stretches.IsStretch, diagram.Traces.trace_pair}
use Rattle.draw_run.specs.declared.diagram.{rows.Row.Row, stretch.Stretch.Stretch, trace.Trace.Trace}
use Rattle.draw_run.specs.declared.diagram.trace.Trace.TheVariants.{Seen, Lost, Logic, Key, Trip}
use Rattle.draw_run.specs.declared.layout.scale.Scale.{Scale}
use Rattle.draw_run.specs.layout.Covered.{CoversTick, CoversInFull, IsFull, ShowsTick}
use Rattle.draw_run.specs.{layout.Rows.bar, layout.Rows.bars, layout.Scale.place_of}
use Rattle.draw_run.specs.diagram.Drawn.{is_off}
use Rattle.draw_run.proofs.layout_lemmas.Bars.{is_told, seen}

-- a value that may be on is not off
may_is_on : (v : Tern) → (tern_rails v).may ≡ true → is_off v ≡ false
may_is_on tern.Zero is = absurd (let bad : false ≡ true = is in cc)
may_is_on tern.One is = refl
may_is_on tern.Unknown is = refl

must_is_on : (v : Tern) → (tern_rails v).must ≡ true → is_off v ≡ false
must_is_on tern.Zero is = absurd (let bad : false ≡ true = is in cc)
must_is_on tern.One is = refl
must_is_on tern.Unknown is = refl

on_may_be : (v : Tern) → is_off v ≡ false → (tern_rails v).may ≡ true
on_may_be tern.Zero is = absurd (let bad : true ≡ false = is in cc)
on_may_be tern.One is = refl
on_may_be tern.Unknown is = refl

-- a known value is not open
known_not_open : (b : Bool) → both b ≡ tern_rails tern.Unknown → ⊥
known_not_open true is = let bad : true ≡ false = ap (λ x. x.must) is in cc
known_not_open false is = let bad : false ≡ true = ap (λ x. x.may) is in cc

module _ (scale : Scale) (t : ℕ)
    (order : (a b : ℕ) → a ≤ b → place_of scale a ≤ place_of scale b)
    (apart : place_of scale t < place_of scale (t + 1)) where
  module _ (trace : Trace) (base : ℕ) (s : Stretch) where
    covers : s.from ≤ t → t < s.to → CoversTick scale t (bar scale trace base s)
    covers begun open_yet =
        let left = order s.from t begun in
        let right = order (t + 1) s.to (omega (arith, open_yet)) in
        let whole = order s.from s.to (omega (arith, begun, open_yet)) in
        (left, omega (arith, right, whole))

    covers_from : s.from < s.to → CoversTick scale t (bar scale trace base s) → s.from ≤ t
    covers_from some c = grind (arith, order (t + 1) s.from, apart, c.0)

    covers_to : s.from < s.to → CoversTick scale t (bar scale trace base s) → t < s.to
    covers_to some c = grind (arith, order s.to t, order s.from s.to, apart, c.1)

-- a full bar stands for a value that is on: what the script shows is known
full_is_on : (script : Script) (w : ShownPairs) (trace : Trace) (scale : Scale)
    (base : ℕ) (s : Stretch) → IsStretch (trace_pair script w trace) s → is_off s.value ≡ false
    → IsFull (bar scale trace base s) → (tern_rails s.value).must ≡ true
full_is_on script w trace scale base s is on full =
    by_value trace s.value on full (is.same s.from (omega arith) is.some)
  where
    by_value : (trace : Trace) (v : Tern) → is_off v ≡ false
        → IsFull (bar scale trace base (record { from = s.from; to = s.to; value = v }))
        → trace_pair script w trace s.from ≡ tern_rails v → (tern_rails v).must ≡ true
    by_value trace tern.Zero on full is = absurd (let bad : true ≡ false = on in cc)
    by_value trace tern.One on full is = refl
    by_value (Seen p) tern.Unknown on full is = absurd (known_not_open _ is)
    by_value (Lost c) tern.Unknown on full is = absurd (known_not_open _ is)
    by_value (Logic what gate) tern.Unknown on full is = absurd full
    by_value (Key k) tern.Unknown on full is = absurd full
    by_value (Trip k) tern.Unknown on full is = absurd full

on_is_full : (trace : Trace) (scale : Scale) (base : ℕ) (s : Stretch)
    → (tern_rails s.value).must ≡ true → IsFull (bar scale trace base s)
on_is_full trace scale base s must = by_value trace s.value must
  where
    by_value : (trace : Trace) (v : Tern) → (tern_rails v).must ≡ true
        → IsFull (bar scale trace base (record { from = s.from; to = s.to; value = v }))
    by_value trace tern.Zero must = absurd (let bad : false ≡ true = must in cc)
    by_value (Seen p) tern.One must = tt
    by_value (Lost c) tern.One must = tt
    by_value (Logic what gate) tern.One must = tt
    by_value (Key k) tern.One must = tt
    by_value (Trip k) tern.One must = tt
    by_value trace tern.Unknown must = absurd (let bad : false ≡ true = must in cc)

module _ (scale : Scale) (t : ℕ)
    (order : (a b : ℕ) → a ≤ b → place_of scale a ≤ place_of scale b)
    (apart : place_of scale t < place_of scale (t + 1))
    (script : Script) (w : ShownPairs) (row : Row) (base horizon : ℕ) (below : t < horizon)
    (are : IsRow script w horizon row) where
  abbrev trace : Trace
  trace = row.trace

  abbrev stretches : List Stretch
  stretches = row.stretches.items

  abbrev pair : ℕ → Rails
  pair = trace_pair script w trace

  abbrev IsOpen : Tern → Type 0
  IsOpen v = (tern_rails v).may ≡ true

  abbrev IsOn : Tern → Type 0
  IsOn v = (tern_rails v).must ≡ true

  covered : (pair t).may ≡ true → Any (CoversTick scale t) (bars scale trace base stretches)
  covered may = seen pair t (bar scale trace base) (CoversTick scale t) IsOpen may_is_on
      (λ s is begun open_yet tells. covers scale t order apart trace base s begun open_yet)
      (λ v is. subst (λ x. x.may ≡ true) is may) 0 horizon stretches are (omega arith) below

  covered_told : Any (CoversTick scale t) (bars scale trace base stretches) → (pair t).may ≡ true
  covered_told a =
      let told = is_told pair t (bar scale trace base) (CoversTick scale t) IsOpen
      (λ s is on c. (
        s.value,
        is.same t (covers_from scale t order apart trace base s is.some c)
            (covers_to scale t order apart trace base s is.some c),
        on_may_be s.value on,
      )) 0 horizon stretches are a in
      rw told.1 told.2

  full : (pair t).must ≡ true → Any (CoversInFull scale t) (bars scale trace base stretches)
  full must = seen pair t (bar scale trace base) (CoversInFull scale t) IsOn must_is_on
      (λ s is begun open_yet tells. (
        covers scale t order apart trace base s begun open_yet,
        on_is_full trace scale base s tells,
      ))
      (λ v is. subst (λ x. x.must ≡ true) is must) 0 horizon stretches are (omega arith) below

  full_told : Any (CoversInFull scale t) (bars scale trace base stretches) → (pair t).must ≡ true
  full_told a =
      let told = is_told pair t (bar scale trace base) (CoversInFull scale t) IsOn
      (λ s is on c. (
        s.value,
        is.same t (covers_from scale t order apart trace base s is.some c.0)
            (covers_to scale t order apart trace base s is.some c.0),
        full_is_on script w trace scale base s is on c.1,
      )) 0 horizon stretches are a in
      rw told.1 told.2

  pub shows : ShowsTick scale base row t (pair t)
  shows = record { may_be = (covered, covered_told); must_be = (full, full_told) }
