-- The intervals of a line's parameters, where one is replaced.
use Rattle.std.proofs.Common.{◌≡◌, ℕ, ◌≤◌, ◌<◌, List, length, get_or, set, ap, ◌∙◌}
use Rattle.std.proofs.Common.{arith, inl, inr}
use Rattle.std.proofs.Math.Seq.{map-set_same}
use Rattle.std.proofs.lemmas.Bool.{cases_eq}
use Rattle.std.proofs.lemmas.List.{length-map, length-set, map-set, get_or-set_same}
use Rattle.std.proofs.lemmas.List.{get_or-set_other}
use Rattle.std.specs.Prelude.{IsTrue}
use Rattle.model_line.specs.Intervals.{leasts, greatests, AreIntervals, LeastDelaysFromOne}
use Rattle.model_line.specs.{declared.line.Line.Line, declared.line.Param.Param}
use Rattle.model_line.specs.{SetBounds.WithBounds, Parameters.is_delay, DelayLaws.delay_at}

-- an interval is replaced by one with its ends in order
pub intervals_set :
    (ls gs : List ℕ) (i least greatest : ℕ) → i < length ls → i < length gs →
    AreIntervals ls gs → least ≤ greatest → greatest ≤ 4000 →
    AreIntervals (set ls i least) (set gs i greatest)
intervals_set ls gs i least greatest li gi all ordered within j lt =
    elim (cases_eq j i) [
      | inl same ↦
          let l : get_or (set ls i least) j 0 ≡ least =
          ap (λ k. get_or (set ls i least) k 0) same ∙ get_or-set_same ls i least 0 li in
          let g : get_or (set gs i greatest) j 0 ≡ greatest =
          ap (λ k. get_or (set gs i greatest) k 0) same ∙ get_or-set_same gs i greatest 0 gi in
          (omega arith, omega arith)
      | inr other ↦
          let n : length (set ls i least) ≡ length ls = length-set ls i least in
          let old = all j (omega arith) in
          let l : get_or (set ls i least) j 0 ≡ get_or ls j 0 =
          get_or-set_other ls i j least 0 other in
          let g : get_or (set gs i greatest) j 0 ≡ get_or gs j 0 =
          get_or-set_other gs i j greatest 0 other in
          (omega (arith, old.0), omega (arith, old.1))
    ]

-- a number stays at least 1 where another is replaced, or this by one that is at least 1
pub from_one_set :
    (ls : List ℕ) (i least j : ℕ) → i < length ls → 1 ≤ get_or ls j 0 → (j ≡ i → 1 ≤ least) →
    1 ≤ get_or (set ls i least) j 0
from_one_set ls i least j li old here =
    elim (cases_eq j i) [
      | inl same ↦
          let l : get_or (set ls i least) j 0 ≡ least =
          ap (λ k. get_or (set ls i least) k 0) same ∙ get_or-set_same ls i least 0 li in
          omega (arith, here same)
      | inr other ↦ omega (arith, get_or-set_other ls i j least 0 other)
    ]

pub with_bounds :
    (ps : List Param) (i : ℕ) (old p : Param) → old ≡ get_or ps i old → p.name ≡ old.name →
    WithBounds ps (set ps i p) i p.least p.greatest
with_bounds ps i old p is same = record {
  names = map-set_same (λ q. q.name) ps i p old (same ∙ ap (λ q. q.name) is);
  least_of = map-set (λ q. q.least) ps i p;
  greatest_of = map-set (λ q. q.greatest) ps i p;
}

pub param_intervals_set :
    (ps : List Param) (i : ℕ) (p : Param) → i < length ps →
    AreIntervals (leasts ps) (greatests ps) → p.least ≤ p.greatest → p.greatest ≤ 4000 →
    AreIntervals (leasts (set ps i p)) (greatests (set ps i p))
param_intervals_set ps i p lt all ordered within =
    let ls : length (leasts ps) ≡ length ps = simp length-map in
    let gs : length (greatests ps) ≡ length ps = simp length-map in
    rw (map-set (λ q. q.least) ps i p, map-set (λ q. q.greatest) ps i p)
    (intervals_set (leasts ps) (greatests ps) i p.least p.greatest (omega arith) (omega arith)
    all ordered within)

pub delays_set :
    (line : Line) (i : ℕ) (p : Param) → i < length line.params.items →
    (IsTrue (is_delay line i) → 1 ≤ p.least) →
    LeastDelaysFromOne line.scheme line.terminals.items line.channels.items
    (leasts (set line.params.items i p))
delays_set line i p lt from_one c has =
    let ps : List Param = line.params.items in
    let n : length (leasts ps) ≡ length ps = simp length-map in
    rw (map-set (λ q. q.least) ps i p)
    (from_one_set (leasts ps) i p.least _ (omega arith) (line.delays_from_one c has)
    (λ same. from_one (delay_at line c i has same)))
