-- What a text says of several scripts, one after another, and the first of which it is wrong.
use Rattle.std.specs.Prelude.{◌≡◌, ◌<◌, ℕ, List, Some, length, slice_get}
use Rattle.model_line.specs.declared.script.Script.{Script}
use Rattle.cert_claims.specs.text.Grammar.{Verdict}
use Rattle.cert_claims.specs.{declared.check.counts.Counts.Counts, check.Counts.AreCounts}

-- this holds of what is said of each of the first scripts, so many
abbrev pub EachBelow : {Said : Type 0} → (Script → Said → Type 0) → List Script → List Said → ℕ
    → Type 0
EachBelow {Said} holds scripts claims n =
    (i : ℕ) (script : Script) (said : Said) → i < n → slice_get scripts i ≡ Some script
    → slice_get claims i ≡ Some said → holds script said

-- The text says something of the scripts; what it says of each is good; and these are the counts of
-- all verdicts.
pub record IsAllGood {Said : Type 0} (Says : List Said → Type 0) (IsGood : Script → Said → Type 0)
    (all_verdicts : List Said → List Verdict) (scripts : List Script) (counts : Counts)
    : Type 0 where
  pub claims : List Said
  pub is : Says claims
  pub each : EachBelow IsGood scripts claims (length scripts)
  pub counted : AreCounts (all_verdicts claims) counts

-- The text says something of the scripts; what it says of each script before script i is good; and
-- this is wrong with what it says of script i.
pub record IsFirstWrong {Said Fault : Type 0} (Says : List Said → Type 0)
    (IsGood : Script → Said → Type 0) (IsWrong : Script → Said → Fault → Type 0)
    (scripts : List Script) (i : ℕ) (fault : Fault) : Type 0 where
  pub claims : List Said
  pub is : Says claims
  pub script : Script
  pub said : Said
  pub script_is : slice_get scripts i ≡ Some script
  pub said_is : slice_get claims i ≡ Some said
  pub before : EachBelow IsGood scripts claims i
  pub wrong : IsWrong script said fault
