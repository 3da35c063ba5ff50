-- The lanes of a block, and the first that gives a record.
use Rattle.std.proofs.Common.{◌≡◌, ℕ, ◌+◌, ◌-◌, ◌<◌, true, false, List}
use Rattle.std.proofs.Common.{sym, ◌∙◌, subst, arith, ⊎_elim}
use Rattle.std.proofs.lemmas.Bool.{cases_lt}
use Rattle.std.specs.Prelude.{◌↔◌, IsFalse}
use Rattle.model_line.specs.declared.line.Line.{Line}
use Rattle.model_line.specs.declared.script.Script.{Script}
use Rattle.model_logic.specs.Histories.{IsSameHistory}
use Rattle.model_timing.specs.Candidates.{candidate, candidate_count}
use Rattle.model_timing.specs.Blocks.{candidate_in}
use Rattle.model_timing.specs.BlockLaws.{candidate_exists, candidate_at, candidate_before}
use Rattle.model_timing.specs.{Timing.TimingValues, Choice.timing_choice}
use Rattle.run_signal.specs.{Bits.bit_on, declared.level.Level.Level}
use Rattle.run_signal.specs.SentKeys.{SentKeys}
use Rattle.run_changes.specs.{changes.Agreeing.IsOnlyHistory, changes.PlayedTracks.played}
use Rattle.judge_match.specs.matching.Candidates.{TellGiving}
use Rattle.judge_match.specs.{declared.matching.seen.Seen.Seen, matching.Seen.Gives, matching.Seen.seen_history}

-- ---- a lane that is as recorded gives the record

pub giving_told : {T : Type 0} (line : Line) (script : Script) (timing : TimingValues) (seen : Seen)
    (keys trips : List (SentKeys Level))
    → IsSameHistory line (played keys trips) (seen_history seen)
    → (T ↔ IsOnlyHistory line script (timing_choice line timing) (played keys trips))
    → (T ↔ Gives line script timing seen)
giving_told line script timing seen keys trips same told = (
  λ on. record {
    same = λ h is_h.
        let once = (told.0 on).same h is_h in
        record {
          keys = λ k t kn lt. once.keys k t kn lt ∙ same.keys k t kn lt;
          trips = λ k t kn lt. once.trips k t kn lt ∙ same.trips k t kn lt;
        };
  },
  λ gives. told.1 (record {
    same = λ h is_h.
        let once = gives.same h is_h in
        record {
          keys = λ k t kn lt. once.keys k t kn lt ∙ sym (same.keys k t kn lt);
          trips = λ k t kn lt. once.trips k t kn lt ∙ sym (same.trips k t kn lt);
        };
  }),
)

-- ---- the first lane

module _ (line : Line) (script : Script) (seen : Seen) (first bits : ℕ)
    (told : TellGiving line script seen first bits)
    (before : (i : ℕ) → i < first → i < candidate_count line
    → Gives line script (candidate line i) seen → ⊥) where
  -- a lane that is off is that of a candidate that does not give the record
  off_differs : (i lane : ℕ) → lane < 64 → first + lane ≡ i → i < candidate_count line
      → IsFalse (bit_on bits lane) → Gives line script (candidate line i) seen → ⊥
  off_differs i lane inside is there off gives =
      let same : candidate_in line first lane ≡ i = candidate_at line first lane i is there in
      let on : bit_on bits lane ≡ true =
      (told lane inside).1
      (subst (λ (n : ℕ). Gives line script (candidate line n) seen) (sym same) gives) in
      absurd (let e : false ≡ true = sym off ∙ on in cc)

  pub block_differs : ((l : ℕ) → l < 64 → IsFalse (bit_on bits l)) → (i : ℕ) → i < first + 64 → i < candidate_count line
      → Gives line script (candidate line i) seen → ⊥
  block_differs none i less there gives =
      ⊎_elim (λ early. before i early there gives)
      (λ late.
      off_differs i (i - first) (omega arith) (omega arith) there (none (i - first) (omega arith))
      gives)
      (cases_lt i first)

  pub lower_differ : (lane : ℕ) → lane < 64 → ((l : ℕ) → l < 64 → l < lane → IsFalse (bit_on bits l))
      → (i : ℕ) → i < candidate_in line first lane → Gives line script (candidate line i) seen → ⊥
  lower_differ lane small low i less gives =
      let exists : candidate_in line first lane < candidate_count line =
      candidate_exists line first lane in
      let there : i < candidate_count line = omega arith in
      ⊎_elim (λ early. before i early there gives)
      (λ late.
      let inside : i < first + lane = candidate_before line first lane i less late in
      off_differs i (i - first) (omega arith) (omega arith) there
      (low (i - first) (omega arith) (omega arith)) gives)
      (cases_lt i first)
