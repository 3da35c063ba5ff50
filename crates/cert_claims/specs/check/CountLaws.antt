-- Laws of counts: they grow with the verdicts, and by no more than these are.
use Rattle.std.proofs.Common.{◌≡◌, ◌≤◌, ◌+◌, ◌++◌, ℕ, Bool, List, length, arith}
use Rattle.std.proofs.lemmas.List.Sums.{sum_by-append, count_by-le-length}
use Rattle.std.specs.List.{count_by}
use Rattle.cert_claims.specs.text.Grammar.{Verdict}
use Rattle.cert_claims.specs.declared.check.counts.Counts.{Counts}
use Rattle.cert_claims.specs.check.Counts.{Adds, AreCounts, is_yes, is_no, is_undecided}

count_then : (p : Verdict → Bool) (xs ys : List Verdict) (a b c : ℕ) → b ≡ a + count_by p xs
    → c ≡ b + count_by p ys → c ≡ a + count_by p (xs ++ ys)
count_then p xs ys a b c first second =
    let both : count_by p (xs ++ ys) ≡ count_by p xs + count_by p ys = sum_by-append _ xs ys in
    omega (arith, first, second, both)

-- some verdicts, and then others
pub adds_then : (a b c : Counts) (xs ys : List Verdict) → Adds a xs b → Adds b ys c
    → Adds a (xs ++ ys) c
adds_then a b c xs ys first second = record {
  yes = count_then is_yes xs ys a.yes b.yes c.yes first.yes second.yes;
  no = count_then is_no xs ys a.no b.no c.no first.no second.no;
  undecided = count_then is_undecided xs ys a.undecided b.undecided c.undecided first.undecided
      second.undecided;
}

-- counts from nothing
pub counts_then : (a b : Counts) (xs ys : List Verdict) → AreCounts xs a → Adds a ys b
    → AreCounts (xs ++ ys) b
counts_then a b xs ys are added = record {
  yes = omega (arith, count_then is_yes xs ys 0 a.yes b.yes (omega (arith, are.yes)) added.yes);
  no = omega (arith, count_then is_no xs ys 0 a.no b.no (omega (arith, are.no)) added.no);
  undecided = omega (
    arith,
    count_then is_undecided xs ys 0 a.undecided b.undecided
        (omega (arith, are.undecided)) added.undecided,
  );
}

-- no count grows by more than the verdicts are
pub adds_few : (p : Verdict → Bool) (verdicts : List Verdict) (a b n : ℕ)
    → b ≡ a + count_by p verdicts → length verdicts ≤ n → b ≤ a + n
adds_few p verdicts a b n grown few =
    let bound : count_by p verdicts ≤ length verdicts = count_by-le-length p verdicts in
    omega (arith, grown, few, bound)
