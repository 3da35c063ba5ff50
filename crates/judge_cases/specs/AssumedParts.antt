-- The parts that an assumption is made of.
use Rattle.std.specs.Prelude.{◌≡◌, ℕ, Bool, true, false}
use Rattle.std.proofs.Common.{refl}
use Rattle.model_settle.specs.Assumed.{Assumption, Throughout, Interrupted, span_of}
use Rattle.judge_cases.specs.AssumedAt.{assumed_at, span_at}
use Rattle.judge_cases.specs.declared.assumed.Assumed.TheInside.{Inside}

abbrev pub made_of : ℕ → ℕ → ℕ → Bool → Inside
made_of terminal from to throughout =
    record { terminal = terminal; from = from; to = to; throughout = throughout }

abbrev pub parts_of : Assumption → Inside
parts_of (Throughout span) = made_of span.terminal span.from span.to true
parts_of (Interrupted span) = made_of span.terminal span.from span.to false

-- an assumption has the span that it is made of
pub span_back : (terminal from to : ℕ) (throughout : Bool)
    → span_of (assumed_at terminal from to throughout) ≡ span_at terminal from to
span_back terminal from to true = refl
span_back terminal from to false = refl

-- an assumption gives its parts back
pub parts_back : (terminal from to : ℕ) (throughout : Bool)
    → parts_of (assumed_at terminal from to throughout) ≡ made_of terminal from to throughout
parts_back terminal from to true = refl
parts_back terminal from to false = refl
