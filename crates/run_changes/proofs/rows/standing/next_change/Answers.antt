use Rattle.std.proofs.Common.{◌≡◌, ◌<◌, ◌≤◌, ◌+◌, ℕ, List, Some, arith, sym, ◌∙◌, ap, subst, ⊎_elim}
use Rattle.std.proofs.lemmas.Bool.{cases_lt}
use Rattle.std.proofs.lemmas.Option.{get_or_from_slice_get, slice_get-get_or, slice_get_within}
use Rattle.std.specs.Prelude.{get_or, slice_get}
use Rattle.run_changes.specs.declared.rows.standing.Pair.{Pair}
use Rattle.run_changes.proofs.rows.standing.next_change.Goals as goal

-- a number that is at most those of the first pairs and of one more
least_more : (pairs : List Pair) (i : ℕ) (d : Pair) (old one new : ℕ) → new ≤ old → new ≤ one
    → one ≤ (get_or pairs i d).key.until → one ≤ (get_or pairs i d).trip.until
    → ((k : ℕ) (p : Pair) → k < i → slice_get pairs k ≡ Some p
    → (old ≤ p.key.until) × (old ≤ p.trip.until))
    → (k : ℕ) (p : Pair) → k < i + 1 → slice_get pairs k ≡ Some p
    → (new ≤ p.key.until) × (new ≤ p.trip.until)
least_more pairs i d old one new less under key trip before k p below at =
    ⊎_elim
    (λ lt. let both = before k p lt at in (omega (arith, less, both.0), omega (arith, less, both.1)))
    (λ last.
    let e : k ≡ i = omega arith in
    let same : get_or pairs i d ≡ p =
    get_or_from_slice_get pairs i p d (ap (slice_get pairs) (sym e) ∙ at) in
    subst (λ (q : Pair). (new ≤ q.key.until) × (new ≤ q.trip.until)) same
    (omega (arith, under, key), omega (arith, under, trip)))
    (cases_lt k i)

pub loop-pair-preserved : goal.loop-pair-preserved
loop-pair-preserved c =
    let pairs = c.args.pairs.now in
    let i = c.loop-pair.pair-index in
    let next = c.min-next.result in
    record {
      later = λ t early all.
          let at = all i _ (slice_get-get_or pairs i _ c.loop-pair-test.true) in
          let here = c.stands_until.ensures.later t at.0 at.1 in
          omega (arith, c.min-next.ensures, c.loop-pair.invariant.later t early all, here);
      limited = omega (arith, c.min-next.ensures, c.loop-pair.invariant.limited);
      least = least_more pairs i _ c.loop-pair.next c.stands_until.result next
          (omega (arith, c.min-next.ensures)) (omega (arith, c.min-next.ensures))
          c.stands_until.ensures.key c.stands_until.ensures.trip c.loop-pair.invariant.least;
    }

pub returns-clause-least : goal.returns-clause-least
returns-clause-least c = λ k p at.
    let within = slice_get_within c.args.pairs.now k p at in
    c.loop-pair.invariant.least k p (omega (arith, within, c.loop-pair-test.false)) at
