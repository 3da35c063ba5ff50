-- What a signal lacks, from tick to tick.
use Rattle.std.proofs.Common.{◌≡◌, ◌≤◌, ◌<◌, ◌+◌, ◌-◌, ℕ, Bool, subst, arith, ⊎_elim}
use Rattle.std.proofs.lemmas.Bool.{cases_lt}
use Rattle.std.specs.Prelude.{Option, Some, None, min}
use Rattle.model_history.specs.TruthLaws.{not_both}
use Rattle.judge_races.specs.Lacks.{LastedTo, LastedBelow, IsLast, LastBelow, IsLack}
use Rattle.judge_races.specs.Stretches.{IsOffFrom}

pub below_next : (u : ℕ → Bool) (p t b : ℕ) → LastedTo u p t b → LastedBelow u p (t + 1) b
below_next u p t b x = record {
  from = x.from;
  early = omega (arith, x.early);
  ordered = x.ordered;
  past = omega (arith, x.past);
  on = x.on;
}

pub to_now : (u : ℕ → Bool) (p t b : ℕ) → LastedBelow u p (t + 1) b → LastedTo u p t b
to_now u p t b x = record {
  from = x.from;
  early = omega (arith, x.early);
  ordered = x.ordered;
  past = omega (arith, x.past);
  on = x.on;
}

-- what is lacked is how long ago the last tick was
pub lack_of_last : (u : ℕ → Bool) (p t b : ℕ) → IsLast u p (t + 1) b → IsLack u p t (t - b)
lack_of_last u p t b last =
    let past : b ≤ t = omega (arith, last.lasted.past) in
    let P : ℕ → Type 0 = λ n. LastedTo u p t n in
    let same : b ≡ t - (t - b) = omega (arith, past) in
    record {
      within = omega arith;
      lasted = subst P same (to_now u p t b last.lasted);
      latest = λ c later held. last.latest c (omega (arith, later, past)) (below_next u p t c held);
    }

pub none_lacks : (u : ℕ → Bool) (p t : ℕ) → ((b : ℕ) → ¬ (LastedBelow u p (t + 1) b)) → (b : ℕ)
    → ¬ (LastedTo u p t b)
none_lacks u p t none b held = none b (below_next u p t b held)

wider : (u : ℕ → Bool) (p n b : ℕ) → LastedBelow u p n b → LastedBelow u p (n + 1) b
wider u p n b x = record {
  from = x.from;
  early = omega (arith, x.early);
  ordered = x.ordered;
  past = omega (arith, x.past);
  on = x.on;
}

-- the last tick stays where no further one comes
kept : (u : ℕ → Bool) (p t : ℕ) (last : Option ℕ)
    → ((b : ℕ) → LastedBelow u p (t + 1) b → LastedBelow u p t b) → LastBelow u p t last
    → LastBelow u p (t + 1) last
kept u p t None step none = λ b held. none b (step b held)
kept u p t (Some last) step is = record {
  lasted = wider u p t last is.lasted;
  latest = λ b more held. is.latest b more (step b held);
}

-- before its pickup is over nothing lasted
pub last_early : (u : ℕ → Bool) (p t : ℕ) (last : Option ℕ) → t < p → LastBelow u p t last
    → LastBelow u p (t + 1) last
last_early u p t last early =
    kept u p t last (λ b x. absurd (let no : ⊥ = omega (arith, x.early, early) in no))

-- nor where it was off its pickup ago
pub last_off : (u : ℕ → Bool) (p t n off : ℕ) (last : Option ℕ) → p ≤ t → t < n
    → IsOffFrom u n (t - p) off → off ≤ t - p → LastBelow u p t last → LastBelow u p (t + 1) last
last_off u p t n off last early within is here =
    let at : off ≡ t - p = omega (arith, is.later, here) in
    let step : (b : ℕ) → LastedBelow u p (t + 1) b → LastedBelow u p t b =
    λ b x.
    let before : b < t - p =
    ⊎_elim (λ lt. lt)
    (λ ge. absurd (not_both (u off) (is.off (omega (arith, at, within)))
    (x.on off (omega (arith, at, x.early)) (omega (arith, at, ge)))))
    (cases_lt b (t - p)) in
    record {
      from = x.from;
      early = omega (arith, x.ordered, before);
      ordered = x.ordered;
      past = omega (arith, before);
      on = x.on;
    } in
    kept u p t last step

-- where it was on, it lasted until it went off, or until now
pub last_on : (u : ℕ → Bool) (p t n off b : ℕ) → b ≡ min t (off - 1) → p ≤ t → t < n
    → IsOffFrom u n (t - p) off → t - p < off → IsLast u p (t + 1) b
last_on u p t n off b e early within is later =
    let low : t - p ≤ b = omega (arith, e, later) in
    let high : b ≤ t = omega (arith, e) in
    let below : b < off = omega (arith, e, later) in
    let ends : (c : ℕ) → b < c → c ≤ t → off ≤ c = λ c more past. omega (arith, e, more, past) in
    record {
      lasted = record {
        from = t - p;
        early = omega (arith, early);
        ordered = low;
        past = omega (arith, high);
        on = λ r from to. is.on r from (omega (arith, to, below));
      };
      latest = λ c more held.
          let past : c ≤ t = omega (arith, held.past) in
          let gone : off ≤ c = ends c more past in
          not_both (u off) (is.off (omega (arith, gone, past, within)))
          (held.on off (omega (arith, held.early, later)) gone);
    }
