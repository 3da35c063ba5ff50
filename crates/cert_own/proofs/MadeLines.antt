-- Each line has one with another interval for a parameter.
use Rattle.std.proofs.Common.{◌≡◌, ◌<◌, ◌≤◌, ℕ, List, [], map, length, get_or, set}
use Rattle.std.proofs.Common.{refl, sym, ◌∙◌, ap, subst, arith, inl, inr}
use Rattle.std.proofs.Math.Seq.{map-set_same}
use Rattle.std.proofs.lemmas.Bool.{cases_eq}
use Rattle.std.proofs.lemmas.List.{length-map, length-set, map-set, get_or-set_same}
use Rattle.std.proofs.lemmas.List.{get_or-set_other}
use Rattle.std.specs.Prelude.{IsTrue}
use Rattle.model_line.specs.Parameters.{param_count, channel_count, delay_param, is_delay}
use Rattle.model_line.specs.Intervals.{leasts, greatests, IsInterval}
use Rattle.model_line.specs.{declared.line.Line.Line, declared.line.Param.Param}
use Rattle.model_line.specs.{WithBounds.IsWithBounds, Laws.DelaysAreParameters}

module _ (delays : DelaysAreParameters) (line : Line) (param least greatest : ℕ)
    (here : param < param_count line) (number : ¬ (IsTrue (is_delay line param)))
    (ordered : least ≤ greatest) (within : greatest ≤ 4000) where
  abbrev old : List Param
  old = line.params.items

  abbrev none : Param
  none = record { name = []; least = 0; greatest = 0 }

  abbrev own : Param
  own = record { name = (get_or old param none).name; least = least; greatest = greatest }

  abbrev items : List Param
  items = set old param own

  names : map (λ (p : Param). p.name) items ≡ map (λ (p : Param). p.name) old
  names = map-set_same (λ (p : Param). p.name) old param own none refl

  lows : leasts items ≡ set (leasts old) param least
  lows = map-set (λ (p : Param). p.least) old param own

  highs : greatests items ≡ set (greatests old) param greatest
  highs = map-set (λ (p : Param). p.greatest) old param own

  long_lows : length (leasts old) ≡ param_count line
  long_lows = simp length-map

  long_highs : length (greatests old) ≡ param_count line
  long_highs = simp length-map

  low_at : (i : ℕ) → (i ≡ param → ⊥) → get_or (leasts items) i 0 ≡ get_or (leasts old) i 0
  low_at i other =
      ap (λ (xs : List ℕ). get_or xs i 0) lows
      ∙ get_or-set_other (leasts old) param i least 0 other

  high_at : (i : ℕ) → (i ≡ param → ⊥)
      → get_or (greatests items) i 0 ≡ get_or (greatests old) i 0
  high_at i other =
      ap (λ (xs : List ℕ). get_or xs i 0) highs
      ∙ get_or-set_other (greatests old) param i greatest 0 other

  low_here : get_or (leasts items) param 0 ≡ least
  low_here =
      ap (λ (xs : List ℕ). get_or xs param 0) lows
      ∙ get_or-set_same (leasts old) param least 0 (omega (arith, here, long_lows))

  high_here : get_or (greatests items) param 0 ≡ greatest
  high_here =
      ap (λ (xs : List ℕ). get_or xs param 0) highs
      ∙ get_or-set_same (greatests old) param greatest 0 (omega (arith, here, long_highs))

  long_items : length (leasts items) ≡ length (leasts old)
  long_items = ap (λ (xs : List ℕ). length xs) lows ∙ length-set (leasts old) param least

  interval : (i : ℕ) → i < length (leasts items) → IsInterval (leasts items) (greatests items) i
  interval i lt = elim (cases_eq i param) [
    | inl same ↦
        subst (λ (n : ℕ). IsInterval (leasts items) (greatests items) n) (sym same)
        (omega (arith, low_here, high_here, ordered), omega (arith, high_here, within))
    | inr other ↦
        let is = line.ends_in_range i (omega (arith, lt, long_items)) in
        (omega (arith, low_at i other, high_at i other, is.0), omega (arith, high_at i other, is.1))
  ]

  from_one : (c : ℕ) → c < channel_count line
      → 1 ≤ get_or (leasts items) (delay_param line c) 0
  from_one c lt =
      let told = delays.told line c lt in
      omega (
        arith,
        low_at (delay_param line c)
            (λ same. number (subst (λ (i : ℕ). IsTrue (is_delay line i)) same told)),
        line.delays_from_one c lt,
      )

  made : Line
  made = record line {
    params = record line.params {
      items = items;
      ok = (line.params.ok.0 ∙ sym (length-set old param own), line.params.ok.1);
    };
    param_names = names ∙ line.param_names;
    ends_in_range = interval;
    delays_from_one = from_one;
  }

  pub with_bounds : (other : Line) × IsWithBounds line param least greatest other
  unfolding made
  with_bounds = (
    made,
    record {
      params = record { names = names; least_of = lows; greatest_of = highs };
      rest = record {
        tick_us = refl;
        horizon = refl;
        scheme = refl;
        zone1_trip = refl;
        terminals = refl;
        channels = refl;
      };
    },
  )
