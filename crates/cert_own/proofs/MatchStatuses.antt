-- What the status of `match` says of all records.
use Rattle.std.proofs.Common.{◌≡◌, ◌||◌, ℕ, zero, suc, Bool, true, false, List, [], ◌∷◌}
use Rattle.std.proofs.Common.{refl}
use Rattle.std.proofs.Common.{sym, subst}
use Rattle.std.proofs.lemmas.List.Elements.{All-head, All-tail}
use Rattle.std.specs.List.{All, AllZip, list_any}
use Rattle.model_line.specs.{declared.line.Line.Line, declared.script.Script.Script}
use Rattle.judge_match.specs.matching.Answer.{Head, IsHead, is_impossible, is_unsettled}
use Rattle.judge_match.specs.{matching.Recorded.IsRecordOf, matching.Waves.SeenValues}
use Rattle.judge_match.specs.declared.matching.seen.Match.{Match}
use Rattle.judge_match.specs.declared.matching.seen.Match.TheVariants.{Explained, Impossible, Unsettled}
use Rattle.cert_own.specs.Matched.{AllGiven, HoldsOfRecord, HoldsOfRecordAt, HoldsOfSomeRecord}
use Rattle.cert_own.specs.Matched.{IsGivenByNone, IsGivenBySome, IsOpenRecord}
use Rattle.cert_own.proofs.MatchLines.{Known, are_seen, said_by, settled_is_true}

-- neither of two
neither : (a b : Bool) → false ≡ (a || b) → (false ≡ a) × (false ≡ b)
neither true b e = absurd (cc)
neither false b e = (refl, e)

module _ (known : Known) (line : Line) (scripts : List Script) where
  -- what is settled of a record, as a fact of its values
  head_is_true : (values : SeenValues) (head : Head) → IsRecordOf line scripts values
      → (is : IsHead line scripts values head)
      → HoldsOfRecord (said_by line head.settled) line is.script values
  head_is_true values head of is =
      subst (λ (v : SeenValues). HoldsOfRecord (said_by line head.settled) line is.script v)
      is.seen_is
      (settled_is_true known line is.script is.seen head.settled
      (are_seen line scripts is.seen (subst (IsRecordOf line scripts) (sym is.seen_is) of)) is.is)

  given_of : (settled : Match) (script : Script) (values : SeenValues)
      → false ≡ is_impossible settled → false ≡ is_unsettled settled
      → HoldsOfRecord (said_by line settled) line script values
      → IsGivenBySome line script values
  given_of (Explained timing) script values p q holds = (timing.values, holds)
  given_of (Impossible k trip t level derived) script values p q holds = absurd (cc)
  given_of Unsettled script values p q holds = absurd (cc)

  none_of : (settled : Match) (script : Script) (values : SeenValues)
      → true ≡ is_impossible settled → HoldsOfRecord (said_by line settled) line script values
      → IsGivenByNone line script values
  none_of (Explained timing) script values p holds = absurd (cc)
  none_of (Impossible k trip t level derived) script values p holds = holds
  none_of Unsettled script values p holds = absurd (cc)

  open_of : (settled : Match) (script : Script) (values : SeenValues)
      → true ≡ is_unsettled settled → HoldsOfRecord (said_by line settled) line script values
      → IsOpenRecord line script values
  open_of (Explained timing) script values p holds = absurd (cc)
  open_of (Impossible k trip t level derived) script values p holds = absurd (cc)
  open_of Unsettled script values p holds = holds

  -- of one record more
  later_at : (Fact : Line → Script → SeenValues → Type 0) (r : SeenValues)
      (records : List SeenValues) (i : ℕ) (name : List ℕ)
      → HoldsOfRecordAt line scripts records i name Fact
      → HoldsOfRecordAt line scripts (r ∷ records) (suc i) name Fact
  later_at Fact r records i name holds = record {
    values = holds.values;
    stands = holds.stands;
    script = holds.script;
    script_is = holds.script_is;
    name_is = holds.name_is;
    holds = holds.holds;
  }

  here_at : (Fact : Line → Script → SeenValues → Type 0) (r : SeenValues)
      (records : List SeenValues) (head : Head) (is : IsHead line scripts r head)
      → Fact line is.script r
      → HoldsOfRecordAt line scripts (r ∷ records) zero is.script.name Fact
  here_at Fact r records head is holds = record {
    values = r;
    stands = refl;
    script = is.script;
    script_is = is.script_is;
    name_is = refl;
    holds = holds;
  }

  pub all_given : (records : List SeenValues) (heads : List Head)
      → All (IsRecordOf line scripts) records → AllZip (IsHead line scripts) records heads
      → false ≡ list_any (λ head. is_impossible head.settled) heads
      → false ≡ list_any (λ head. is_unsettled head.settled) heads
      → AllGiven line scripts records
  all_given [] heads of are p q i values at = absurd (cc)
  all_given (r ∷ records) [] of are p q i values at = absurd are
  all_given (r ∷ records) (h ∷ heads) of are p q zero values at =
      let x = neither (is_impossible h.settled)
      (list_any (λ (head : Head). is_impossible head.settled) heads) p in
      let y = neither (is_unsettled h.settled)
      (list_any (λ (head : Head). is_unsettled head.settled) heads) q in (
        are.0.script.name,
        here_at IsGivenBySome r records h are.0
            (given_of h.settled are.0.script r x.0 y.0
            (head_is_true r h (All-head (IsRecordOf line scripts) r records of) are.0)),
      )
  all_given (r ∷ records) (h ∷ heads) of are p q (suc i) values at =
      let x = neither (is_impossible h.settled)
      (list_any (λ (head : Head). is_impossible head.settled) heads) p in
      let y = neither (is_unsettled h.settled)
      (list_any (λ (head : Head). is_unsettled head.settled) heads) q in
      let later = all_given records heads (All-tail (IsRecordOf line scripts) r records of) are.1
      x.1 y.1 i values at in
      (later.0, later_at IsGivenBySome r records i later.0 later.1)

  -- where a test is passed by the head of some record
  module _ (test : Match → Bool) (Fact : Line → Script → SeenValues → Type 0)
      (follows : (settled : Match) (script : Script) (values : SeenValues) → true ≡ test settled
      → HoldsOfRecord (said_by line settled) line script values → Fact line script values) where
    some_at : (b : Bool) (r : SeenValues) (records : List SeenValues) (h : Head)
        (heads : List Head) → b ≡ test h.settled → IsRecordOf line scripts r
        → All (IsRecordOf line scripts) records → (is : IsHead line scripts r h)
        → (true ≡ list_any (λ head. test head.settled) heads
        → HoldsOfSomeRecord line scripts records Fact)
        → true ≡ (b || list_any (λ head. test head.settled) heads)
        → HoldsOfSomeRecord line scripts (r ∷ records) Fact
    some_at true r records h heads e of others is later p = (
      zero,
      is.script.name,
      here_at Fact r records h is (follows h.settled is.script r e (head_is_true r h of is)),
    )
    some_at false r records h heads e of others is later p =
        let there = later p in
        (suc there.0, there.1, later_at Fact r records there.0 there.1 there.2)

    some_record : (records : List SeenValues) (heads : List Head)
        → All (IsRecordOf line scripts) records → AllZip (IsHead line scripts) records heads
        → true ≡ list_any (λ head. test head.settled) heads
        → HoldsOfSomeRecord line scripts records Fact
    some_record [] [] of are p = absurd (cc)
    some_record [] (h ∷ heads) of are p = absurd are
    some_record (r ∷ records) [] of are p = absurd are
    some_record (r ∷ records) (h ∷ heads) of are p =
        some_at (test h.settled) r records h heads refl
        (All-head (IsRecordOf line scripts) r records of)
        (All-tail (IsRecordOf line scripts) r records of) are.0
        (some_record records heads (All-tail (IsRecordOf line scripts) r records of) are.1) p

  pub some_impossible : (records : List SeenValues) (heads : List Head)
      → All (IsRecordOf line scripts) records → AllZip (IsHead line scripts) records heads
      → true ≡ list_any (λ head. is_impossible head.settled) heads
      → HoldsOfSomeRecord line scripts records IsGivenByNone
  some_impossible = some_record is_impossible IsGivenByNone none_of

  pub some_open : (records : List SeenValues) (heads : List Head)
      → All (IsRecordOf line scripts) records → AllZip (IsHead line scripts) records heads
      → true ≡ list_any (λ head. is_unsettled head.settled) heads
      → HoldsOfSomeRecord line scripts records IsOpenRecord
  some_open = some_record is_unsettled IsOpenRecord open_of
