use Rattle.std.proofs.Common.{◌≡◌, ◌∙◌, subst, sym, List, true, false}
use Rattle.run_signal.specs.SentKeys.{SentKeys}
use Rattle.run_signal.specs.declared.level.Level.{Level}
use Rattle.run_changes.specs.changes.PlayedTracks.{played, is_shown}
use Rattle.judge_match.specs.explain.Asked.{AreRecorded, recorded_of}
use Rattle.judge_match.specs.explain.Explains.{AreNearEach}
use Rattle.judge_match.proofs.explain_lemmas.PlayLaws.{explains_by}
use Rattle.judge_match.proofs.explain.play.explains.Goals as goal
use Rattle.judge_match.proofs.explain.play.explains.Goals.{then-branch+in_ok-are_all_near-2, else-branch}

pub returns : goal.returns
returns c =
    let q = c.args.q.now in
    let line = q.compiled.line.now in
    let rec = recorded_of q in
    let keys : List (SentKeys Level) = c.in_ok-tracks.tracks.keys.items in
    let trips : List (SentKeys Level) = c.in_ok-tracks.tracks.trips.items in
    let by = explains_by line q.script.now q.within rec (played keys trips) c.args.timing.now
    c.in_ok-tracks.ensures.history in
    let first =
    c.in_ok-are_all_near.ensures rec.key
    (subst (AreRecorded line q.within rec.key) (sym c.deref-2.ensures.value)
    c.requires.question.keys) in
    let keys_near =
    subst (λ (xs : List (SentKeys Level)). AreNearEach line q.within rec.key (is_shown xs))
    c.deref.ensures.value in
    let keys_back =
    subst (λ (xs : List (SentKeys Level)). AreNearEach line q.within rec.key (is_shown xs))
    (sym c.deref.ensures.value) in
    elim c.if-branch.branch [
      | then-branch+in_ok-are_all_near-2 w ↦
          let second =
          w.in_ok-are_all_near-2.ensures rec.trip
          (subst (AreRecorded line q.within rec.trip) (sym w.deref-then-branch-2.ensures.value)
          c.requires.question.trips) in (
            λ on. by.0 (record {
              keys = keys_near (first.0 w.if-branch.true);
              trips = subst (λ (xs : List (SentKeys Level)).
                  AreNearEach line q.within rec.trip (is_shown xs))
                  w.deref-then-branch.ensures.value (second.0 (sym w.result-is ∙ on));
            }),
            λ explained. w.result-is
                ∙ second.1 (subst (λ (xs : List (SentKeys Level)).
                AreNearEach line q.within rec.trip (is_shown xs))
                (sym w.deref-then-branch.ensures.value) (by.1 explained).trips),
          )
      | else-branch w ↦
          let off : c.in_ok-are_all_near.field-0 ≡ false = w.if-branch.false in (
            λ on. absurd (let no : false ≡ true = sym off ∙ sym w.result-is ∙ on in cc),
            λ explained.
                let yes : c.in_ok-are_all_near.field-0 ≡ true =
                first.1 (keys_back (by.1 explained).keys) in
                absurd (let no : false ≡ true = sym off ∙ yes in cc),
          )
    ]
