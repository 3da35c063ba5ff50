-- The words of verdicts.
use Rattle.std.proofs.Common.{◌≡◌, ◌≢◌, ℕ, Bool, false, List}
use Rattle.std.specs.Prelude.{codes}
use Rattle.std.specs.Bool.{Decides}
use Rattle.model_line.specs.{declared.line.Line.Line, Parameters.param_count}
use Rattle.cert_claims.specs.text.Grammar.{Verdict, yes, no, undecided, HasNumbers, verdict_words}
use Rattle.cert_claims.specs.text.Grammar.{AreNumbers, no_words}

-- words that are none of the three
pub no_verdict : (line : Line) (words : List ℕ) (a b : Bool) → a ≡ false → b ≡ false
    → Decides a (words ≡ codes "yes") → Decides b (words ≡ codes "undecided")
    → ((numbers : List ℕ) → AreNumbers (param_count line) numbers
    → words ≢ no_words numbers)
    → (said : Verdict) → HasNumbers line said → words ≢ verdict_words said
no_verdict line words a b is_a is_b da db never yes has is = (let t = da.1 is in cc)
no_verdict line words a b is_a is_b da db never (no numbers) has is = never numbers has is
no_verdict line words a b is_a is_b da db never undecided has is = (let t = db.1 is in cc)
