-- How obligations stand after more candidates.
use Rattle.std.proofs.Common.{◌≡◌, ◌≢◌, ℕ, ◌+◌, ◌-◌, ◌<◌, ◌≤◌, refl, subst, arith, ⊎_elim}
use Rattle.std.proofs.lemmas.Bool.{cases_lt}
use Rattle.std.specs.Prelude.{IsTrue, IsFalse}
use Rattle.run_signal.specs.Bits.{bit_on}
use Rattle.model_line.specs.{declared.line.Line.Line, declared.script.Script.Script}
use Rattle.model_logic.specs.Histories.{PairHistory}
use Rattle.model_timing.specs.Candidates.{candidate, candidate_count}
use Rattle.judge_verdict.specs.declared.verdict.standing.Standing.TheVariants.{Held, Failing, Open}
use Rattle.model_timing.specs.Blocks.{candidate_in}
use Rattle.model_timing.specs.BlockLaws.{candidate_exists, candidate_at, candidate_before}
use Rattle.judge_verdict.specs.verdict.Candidates.{TellFailing}
use Rattle.judge_verdict.specs.verdict.Standings.{StandsFailing, StandsOpen, IsStanding}
use Rattle.judge_verdict.specs.{declared.verdict.standing.Standing.Standing, verdict.Verdicts.PassesAt}

module _ (line : Line) (script : Script) (k : ℕ) (w : PairHistory) where
  -- after all candidates
  pub stands_at_end : (n : ℕ) (s : Standing) → candidate_count line ≤ n
      → IsStanding line script k w n s → IsStanding line script k w (candidate_count line) s
  stands_at_end n Held all is = is
  stands_at_end n (Failing number) all is = is
  stands_at_end n Open all is = record {
    not_held = is.not_held;
    passes = λ i low there. is.passes i (omega arith) there;
  }

  -- what is not open stays as it is
  pub stands_on : (n m : ℕ) (s : Standing) → s ≢ Open → IsStanding line script k w n s
      → IsStanding line script k w m s
  stands_on n m Held settled is = is
  stands_on n m (Failing number) settled is = is
  stands_on n m Open settled is = absurd (settled refl)

  module _ (first bits : ℕ) (tell : TellFailing line script first k bits)
      (open_yet : StandsOpen line script k w first) where
    -- a candidate in a lane whose bit is off passes
    passes_in : (lane i : ℕ) → lane < 64 → first + lane ≡ i → i < candidate_count line
        → ((l : ℕ) → l ≡ lane → PassesAt line script k (candidate line (candidate_in line first l)))
        → PassesAt line script k (candidate line i)
    passes_in lane i inside is there passes =
        subst (λ (n : ℕ). PassesAt line script k (candidate line n))
        (candidate_at line first lane i is there) (passes lane refl)

    pub stands_failing : (lane : ℕ) → lane < 64 → IsTrue (bit_on bits lane)
        → ((l : ℕ) → l < 64 → l < lane → IsFalse (bit_on bits l))
        → StandsFailing line script k w (candidate_in line first lane)
    stands_failing lane small on lower = record {
      not_held = open_yet.not_held;
      first = record {
        below = candidate_exists line first lane;
        fails = tell.fails lane small on;
        earlier = λ i before.
            let there = candidate_exists line first lane in
            ⊎_elim (λ low. open_yet.passes i low (omega arith))
            (λ late.
            let ahead = candidate_before line first lane i before late in
            let less : i - first < lane = omega arith in
            passes_in (i - first) i (omega arith) (omega arith) (omega arith)
            (λ l same.
            tell.passes l (omega arith) (lower l (omega arith) (omega arith))))
            (cases_lt i first);
      };
    }

    pub stands_open : ((l : ℕ) → l < 64 → IsFalse (bit_on bits l))
        → StandsOpen line script k w (first + 64)
    stands_open none = record {
      not_held = open_yet.not_held;
      passes = λ i low there.
          ⊎_elim (λ before. open_yet.passes i before there)
          (λ late.
          let small : i - first < 64 = omega arith in
          passes_in (i - first) i small (omega arith) there
          (λ l same. tell.passes l (omega arith) (none l (omega arith))))
          (cases_lt i first);
    }
