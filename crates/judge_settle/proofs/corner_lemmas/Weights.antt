-- How much a timing says, where one number is changed or one step left out.
use Rattle.std.proofs.Common.{◌≡◌, ◌≢◌, ◌<◌, ◌≤◌, ◌+◌, ℕ, zero, suc, length, sym, ap, ap₂, refl, subst, arith}
use Rattle.std.proofs.Common.{⊎_elim}
use Rattle.std.proofs.lemmas.Bool.{cases_lt}
use Rattle.std.proofs.lemmas.List.{get_or-set_same, get_or-set_other}
use Rattle.std.proofs.lemmas.List.Edits.{length-remove}
use Rattle.std.proofs.lemmas.Bool.Decides.{nat_tests}
use Rattle.model_line.specs.declared.line.Line.{Line}
use Rattle.model_line.specs.Parameters.{declared_middle, param_count}
use Rattle.model_timing.specs.Timing.{TimingValues}
use Rattle.judge_settle.specs.corner.Cuts.{number, least_of, with_number, without_step}
use Rattle.judge_settle.specs.corner.Rounds.{said_by, said_by_first, weight}

-- a number put to the middle says less than one that is not there; put to the least it says less
-- than one that is neither
pub less_at_nominal : (nominal least n : ℕ) → n ≢ nominal
    → said_by nominal least nominal < said_by nominal least n
less_at_nominal nominal least n apart = grind (arith, nat_tests)

pub less_at_least : (nominal least n : ℕ) → n ≢ nominal → n ≢ least
    → said_by nominal least least < said_by nominal least n
less_at_least nominal least n apart other = grind (arith, nat_tests)

module _ (line : Line) (timing : TimingValues) (p x : ℕ) (within : p < length timing.values) where
  same_number : (i : ℕ) → i ≢ p → number (with_number timing p x) i ≡ number timing i
  same_number i apart = get_or-set_other timing.values p i x 0 apart

  -- the others say what they said
  same_before : (n : ℕ) → n ≤ p
      → said_by_first line (with_number timing p x) n ≡ said_by_first line timing n
  same_before zero le = refl
  same_before (suc n) le =
      ap₂ (λ (a b : ℕ). a + said_by (declared_middle line n) (least_of line n) b)
      (same_before n (omega arith)) (same_number n (omega arith))

  pub less_with : said_by (declared_middle line p) (least_of line p) x
      < said_by (declared_middle line p) (least_of line p) (number timing p) → (n : ℕ) → p < n
      → said_by_first line (with_number timing p x) n < said_by_first line timing n
  less_with less zero lt = absurd (omega arith)
  less_with less (suc n) lt =
      ⊎_elim
      (λ (before : p < n).
      let one = less_with less n before in
      let here = ap (said_by (declared_middle line n) (least_of line n))
      (same_number n (omega arith)) in
      omega (arith, one, here))
      (λ (over : n ≤ p).
      let at : n ≡ p = omega (arith, over, lt) in
      let one = same_before n over in
      let here : number (with_number timing p x) n ≡ x =
      subst (λ (i : ℕ). number (with_number timing p x) i ≡ x) (sym at)
      (get_or-set_same timing.values p x 0 within) in
      let said : said_by (declared_middle line n) (least_of line n) (number (with_number timing p x) n)
      < said_by (declared_middle line n) (least_of line n) (number timing n) =
      subst (λ (i : ℕ). said_by (declared_middle line i) (least_of line i)
      (number (with_number timing p x) i)
      < said_by (declared_middle line i) (least_of line i) (number timing i)) (sym at)
      (subst (λ (y : ℕ). said_by (declared_middle line p) (least_of line p) y
      < said_by (declared_middle line p) (least_of line p) (number timing p))
      (sym (get_or-set_same timing.values p x 0 within)) less) in
      omega (arith, one, said))
      (cases_lt p n)

  pub weight_with : p < param_count line → said_by (declared_middle line p) (least_of line p) x
      < said_by (declared_middle line p) (least_of line p) (number timing p)
      → weight line (with_number timing p x) < weight line timing
  weight_with there less =
      let one = less_with less (param_count line) there in
      omega (arith, one)

-- the numbers say what they said, since they are the same
same_first : (line : Line) (timing : TimingValues) (j n : ℕ)
    → said_by_first line (without_step timing j) n ≡ said_by_first line timing n
same_first line timing j zero = refl
same_first line timing j (suc n) =
    ap (λ (a : ℕ). a + said_by (declared_middle line n) (least_of line n) (number timing n))
    (same_first line timing j n)

pub weight_without : (line : Line) (timing : TimingValues) (j : ℕ) → j < length timing.steps
    → weight line (without_step timing j) < weight line timing
weight_without line timing j lt =
    let one = same_first line timing j (param_count line) in
    let fewer = length-remove timing.steps j lt in
    omega (arith, one, fewer)
