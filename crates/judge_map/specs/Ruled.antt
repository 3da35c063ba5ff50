-- What a rule says of its obligation.
use Rattle.std.specs.Prelude.{Bool, if◌then◌else◌}
use Rattle.judge_verdict.specs.declared.verdict.rule.Rule.{Rule}
use Rattle.judge_verdict.specs.declared.verdict.rule.Rule.TheVariants as rule
use Rattle.judge_map.specs.declared.known.Known.{Known}
use Rattle.judge_map.specs.declared.known.Known.TheVariants.{Held, FailsForSome, FailsForEvery, Open}

-- where each trip of the line is one-railed, some choice fails what is not held
abbrev pub known_by : Bool → Rule → Known
known_by one_railed rule.Held = Held
known_by one_railed rule.Broken = FailsForEvery
known_by one_railed rule.Unknown = if one_railed then FailsForSome else Open
