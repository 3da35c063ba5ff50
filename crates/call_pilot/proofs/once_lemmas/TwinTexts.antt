-- What a text says of scripts it says of scripts of the same values: that all is good, and what is
-- first wrong.
use Rattle.std.proofs.Common.{◌≡◌, ℕ, List, length, map, sym, ◌∙◌, ap, subst}
use Rattle.std.proofs.lemmas.List.{length-map}
use Rattle.model_line.specs.declared.script.Script.{Script}
use Rattle.file_tables.specs.script.Values.{values_of}
use Rattle.cert_claims.specs.text.Grammar.{Verdict}
use Rattle.cert_claims.specs.declared.check.counts.Counts.{Counts}
use Rattle.cert_claims.specs.check.Scripts.{EachBelow, IsAllGood, IsFirstWrong}
use Rattle.call_pilot.specs.top.TwinLaws.{twin}

pub lengths_same : (xs ys : List Script) → map values_of ys ≡ map values_of xs
    → length ys ≡ length xs
lengths_same xs ys scripts =
    sym (length-map ys values_of) ∙ ap length scripts ∙ length-map xs values_of

module _ {Said : Type 0} (Says Tells : List Said → Type 0) (A B : Script → Said → Type 0)
    (xs ys : List Script) (scripts : map values_of ys ≡ map values_of xs)
    (says : (all : List Said) → Says all → Tells all)
    (good : (s r : Script) → values_of r ≡ values_of s → (said : Said) → A s said → B r said) where
  below_on : (all : List Said) (n : ℕ) → EachBelow A xs all n → EachBelow B ys all n
  below_on all n is = λ i script said lt at told.
      let other = twin ys xs scripts i script at in
      good other.script script other.values said (is i other.script said lt other.at told)

  pub all_good_on : (verdicts : List Said → List Verdict) (counts : Counts)
      → IsAllGood Says A verdicts xs counts → IsAllGood Tells B verdicts ys counts
  all_good_on verdicts counts is = record {
    claims = is.claims;
    is = says is.claims is.is;
    each = subst (EachBelow B ys is.claims) (sym (lengths_same xs ys scripts))
        (below_on is.claims (length xs) is.each);
    counted = is.counted;
  }

  pub first_wrong_on : {Fault : Type 0} (E F : Script → Said → Fault → Type 0)
      → ((s r : Script) → values_of r ≡ values_of s → (said : Said) (fault : Fault)
      → E s said fault → F r said fault) → (i : ℕ) (fault : Fault)
      → IsFirstWrong Says A E xs i fault → IsFirstWrong Tells B F ys i fault
  first_wrong_on E F wrong i fault is =
      let other = twin xs ys (sym scripts) i is.script is.script_is in
      record {
        claims = is.claims;
        is = says is.claims is.is;
        script = other.script;
        said = is.said;
        script_is = other.at;
        said_is = is.said_is;
        before = below_on is.claims i is.before;
        wrong = wrong is.script other.script (sym other.values) is.said fault is.wrong;
      }
