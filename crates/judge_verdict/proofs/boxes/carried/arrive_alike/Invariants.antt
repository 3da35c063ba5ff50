use Rattle.std.proofs.Common.{◌≡◌, ℕ, ◌<◌, length}
use Rattle.model_history.specs.Rails.{rails_at}
use Rattle.run_signal.specs.{Bits.bit_on, Lanes.in_lane}
use Rattle.judge_verdict.specs.boxes.Terns.{terns_rails}
use Rattle.judge_verdict.proofs.boxes_lemmas.SentLaws.{all_from, some_from}
use Rattle.judge_verdict.proofs.boxes.carried.arrive_alike.Given as goal

-- the delays so far
abbrev pub invariant-loop-c : goal.invariant-loop-c
invariant-loop-c l = record {
  must : (lane : ℕ) → lane < 64 → bit_on l.must lane
      ≡ all_from (λ r. (rails_at (in_lane terns_rails lane l.sent.keys) r).must) l.least (length l.sent.keys) l.c;
  may : (lane : ℕ) → lane < 64 → bit_on l.may lane
      ≡ some_from (λ r. (rails_at (in_lane terns_rails lane l.sent.keys) r).may) l.least (length l.sent.keys) l.c;
}
