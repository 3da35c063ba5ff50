-- The first of the worst, found place by place.
use Rattle.std.proofs.Common.{◌≡◌, ℕ, ◌+◌, ◌<◌, ◌≤◌, List, length, get_or, subst, sym, arith}
use Rattle.std.proofs.Common.{⊎_elim}
use Rattle.std.specs.Prelude.{nat_le, None}
use Rattle.std.proofs.lemmas.Bool.{cases_lt, le-leb, lt-leb}
use Rattle.std.proofs.lemmas.List.{get_or_default}
use Rattle.model_line.specs.declared.script.Kind.TheVariants.{Internal}
use Rattle.std.proofs.lemmas.List.Folds.{list_all_at}
use Rattle.std.proofs.lemmas.List.Sums.{list_all-from_AllPass, position_or_len_is}
use Rattle.call_verdicts.specs.Worst.{is_worst, room, worst_place}
use Rattle.call_verdicts.specs.declared.finding.Standing.TheVariants.{Open}
use Rattle.call_verdicts.specs.declared.verdict.Verdict.{Verdict}

-- of the first i verdicts that at b is the first of the worst
pub record IsWorstOf (h : ℕ) (vs : List Verdict) (i b : ℕ) : Type 0 where
  pub within : b ≤ i
  pub strict : 0 < i → b < i
  pub least : (j : ℕ) (d : Verdict) → j < i → room h (get_or vs b d) ≤ room h (get_or vs j d)
  pub first : (j : ℕ) (d : Verdict) → j < b → room h (get_or vs b d) < room h (get_or vs j d)

pub worst_none : (h : ℕ) (vs : List Verdict) → IsWorstOf h vs 0 0
worst_none h vs = record {
  within = omega arith;
  strict = λ lt. omega arith;
  least = λ j d lt. absurd (omega (arith, lt));
  first = λ j d lt. absurd (omega (arith, lt));
}

pub worst_takes : (h : ℕ) (vs : List Verdict) (i b : ℕ)
    → ((d : Verdict) → room h (get_or vs i d) < room h (get_or vs b d))
    → IsWorstOf h vs i b → IsWorstOf h vs (i + 1) i
worst_takes h vs i b less so_far = record {
  within = omega arith;
  strict = λ lt. omega arith;
  least = λ j d lt.
      ⊎_elim (λ before. omega (arith, less d, so_far.least j d before))
      (λ (past : i ≤ j). let here : j ≡ i = omega (arith, lt, past) in rw here (omega arith))
      (cases_lt j i);
  first = λ j d lt. omega (arith, less d, so_far.least j d lt);
}

pub worst_keeps : (h : ℕ) (vs : List Verdict) (i b : ℕ)
    → ((d : Verdict) → room h (get_or vs b d) ≤ room h (get_or vs i d))
    → IsWorstOf h vs i b → IsWorstOf h vs (i + 1) b
worst_keeps h vs i b more so_far = record {
  within = omega (arith, so_far.within);
  strict = λ lt. omega (arith, so_far.within);
  least = λ j d lt.
      ⊎_elim (λ before. so_far.least j d before)
      (λ (past : i ≤ j). let here : j ≡ i = omega (arith, lt, past) in rw here (more d))
      (cases_lt j i);
  first = so_far.first;
}

-- some verdict
anything : Verdict
anything = record { kind = Internal; deadline = 0; standing = Open; first_must = None }

-- that of all is the worst place
pub worst_of_all : (h : ℕ) (vs : List Verdict) (i b : ℕ) → i ≡ length vs → IsWorstOf h vs i b
    → b ≡ worst_place h vs
worst_of_all h vs i b all of =
    let d : Verdict = anything in
    let within : b ≤ length vs = omega (arith, all, of.within) in
    let strict : 0 < length vs → b < length vs = λ some. omega (arith, all, of.strict (omega (arith, all, some))) in
    let least : (k : ℕ) (e : Verdict) → k < length vs → room h (get_or vs b e) ≤ room h (get_or vs k e) =
    λ k e lt. of.least k e (omega (arith, all, lt)) in
    sym (position_or_len_is (is_worst h vs) vs b d within
    (λ k lt.
    list_all_at (λ (other : Verdict). nat_le (room h (get_or vs k d)) (room h other)) vs b d
    (strict (omega (arith, lt, within)))
    (lt-leb (room h (get_or vs k d)) (room h (get_or vs b d)) (of.first k d lt)))
    (λ lt.
    list_all-from_AllPass (λ (other : Verdict). nat_le (room h (get_or vs b d)) (room h other)) vs
    (λ k e at.
    le-leb (room h (get_or vs b d)) (room h (get_or vs k e))
    (subst (λ (v : Verdict). room h v ≤ room h (get_or vs k e))
    (get_or_default vs b e d lt) (least k e at)))))
