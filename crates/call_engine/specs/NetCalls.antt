-- What contracts see of the engine over nets: its numbers.
use Rattle.std.specs.Prelude.{ℕ}
use Rattle.base_text.specs.store.Counts.{one_more}
use Rattle.call_engine.specs.Calls.{Calls}

pub record NetCalls : Type 0 where
  pub plays : ℕ
  pub certifies : ℕ
  pub checks : ℕ

-- each is its count for every line
abbrev pub calls_of : NetCalls → Calls
calls_of e = record {
  plays = λ line. e.plays;
  certifies = λ line. e.certifies;
  checks = λ line. e.checks;
}

-- after a play one more play and nothing else; so after verdicts, and after a check
abbrev pub after_play : NetCalls → NetCalls
after_play e = record e { plays = one_more e.plays }

abbrev pub after_certify : NetCalls → NetCalls
after_certify e = record e { certifies = one_more e.certifies }

abbrev pub after_check : NetCalls → NetCalls
after_check e = record e { checks = one_more e.checks }
