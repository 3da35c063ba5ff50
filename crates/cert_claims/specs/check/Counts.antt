-- How many verdicts of each kind claims have.
use Rattle.std.specs.Prelude.{◌≡◌, ◌+◌, Bool, true, false, List, refl}
use Rattle.std.specs.List.{count_by, flat_map}
use Rattle.cert_claims.specs.text.Grammar.{Claims, Verdict, yes, no, undecided}
use Rattle.cert_claims.specs.declared.check.counts.Counts.{Counts}

abbrev pub is_yes : Verdict → Bool
is_yes yes = true
is_yes (no numbers) = false
is_yes undecided = false

abbrev pub is_no : Verdict → Bool
is_no yes = false
is_no (no numbers) = true
is_no undecided = false

abbrev pub is_undecided : Verdict → Bool
is_undecided yes = false
is_undecided (no numbers) = false
is_undecided undecided = true

-- these are the counts of the verdicts
pub record AreCounts (verdicts : List Verdict) (counts : Counts) : Type 0 where
  pub yes : counts.yes ≡ count_by is_yes verdicts
  pub no : counts.no ≡ count_by is_no verdicts
  pub undecided : counts.undecided ≡ count_by is_undecided verdicts

abbrev pub counts_in : List Verdict → Counts
counts_in verdicts = record {
  yes = count_by is_yes verdicts;
  no = count_by is_no verdicts;
  undecided = count_by is_undecided verdicts;
}

pub are_counts : (verdicts : List Verdict) → AreCounts verdicts (counts_in verdicts)
are_counts verdicts = record { yes = refl; no = refl; undecided = refl }

-- the verdicts of all scripts
abbrev pub all_verdicts : List Claims → List Verdict
all_verdicts claims = flat_map (λ said. said.verdicts) claims

-- counts after these verdicts more
pub record Adds (old : Counts) (verdicts : List Verdict) (new : Counts) : Type 0 where
  pub yes : new.yes ≡ old.yes + count_by is_yes verdicts
  pub no : new.no ≡ old.no + count_by is_no verdicts
  pub undecided : new.undecided ≡ old.undecided + count_by is_undecided verdicts
