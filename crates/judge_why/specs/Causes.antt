-- What a fact rests on.
use Rattle.std.specs.Prelude.{ℕ, ◌-◌, Option, None, Some, nat_le, slice_get}
use Rattle.std.specs.Prelude.{if◌then◌else◌}
use Rattle.net_gates.specs.declared.gate.Gate.{Gate}
use Rattle.net_gates.specs.declared.gate.Gate.TheVariants.{Const, Seen, Loss, Raw, Not, And, Or}
use Rattle.net_gates.specs.declared.gate.Gate.TheVariants.{Timer, Seal}
use Rattle.net_gates.specs.NetOf.{key_of}
use Rattle.judge_why.specs.declared.fact.{Spot.Spot, Fact.Fact}
use Rattle.model_logic.specs.SameTree.{same_value}
use Rattle.judge_why.specs.Plays.{PlayOf}

abbrev pub spot_at : ℕ → ℕ → Option Spot
spot_at gate tick = Some (record { gate = gate; tick = tick })

-- an operand at the tick of the fact, if it has its level: that of an `and` that is on or of an `or`
-- that is off always has it; of others, the operands that decide have it
abbrev pub if_alike : PlayOf → Fact → ℕ → Option Spot
if_alike play fact gate =
    if same_value (play.level gate fact.tick) fact.level then spot_at gate fact.tick else None

-- what lasts looks at its input where it came on, and what is off at the tick of the fact
abbrev pub looked_at : Fact → ℕ
looked_at fact = if fact.level then fact.from else fact.tick

-- what arrives was sent so many ticks before, if the run had begun
abbrev pub sent_at : ℕ → ℕ → ℕ → Option Spot
sent_at key delay tick = if nat_le delay tick then spot_at key (tick - delay) else None

-- the first gate that a fact of this gate rests on, and when
abbrev pub first_by : PlayOf → Fact → Gate → Option Spot
first_by play fact (Const value) = None
first_by play fact (Seen place) = None
first_by play fact (Loss c) = None
first_by play fact (Raw c) =
    sent_at (key_of play.net (play.from c)) (play.delay c fact.tick) fact.tick
first_by play fact (Not x) = spot_at x.0 fact.tick
first_by play fact (And x y) = if_alike play fact x.0
first_by play fact (Or x y) = if_alike play fact x.0
first_by play fact (Timer x pickup dropout) = spot_at x.0 (looked_at fact)
first_by play fact (Seal set hold) = spot_at set.0 (looked_at fact)

-- and the second
abbrev pub second_by : PlayOf → Fact → Gate → Option Spot
second_by play fact (Const value) = None
second_by play fact (Seen place) = None
second_by play fact (Loss c) = None
second_by play fact (Raw c) = None
second_by play fact (Not x) = None
second_by play fact (And x y) = if_alike play fact y.0
second_by play fact (Or x y) = if_alike play fact y.0
second_by play fact (Timer x pickup dropout) = None
second_by play fact (Seal set hold) = None

abbrev pub of_gate : (Gate → Option Spot) → Option Gate → Option Spot
of_gate by None = None
of_gate by (Some gate) = by gate

abbrev pub first_cause : PlayOf → Fact → Option Spot
first_cause play fact = of_gate (first_by play fact) (slice_get play.net.gates fact.gate)

abbrev pub second_cause : PlayOf → Fact → Option Spot
second_cause play fact = of_gate (second_by play fact) (slice_get play.net.gates fact.gate)
