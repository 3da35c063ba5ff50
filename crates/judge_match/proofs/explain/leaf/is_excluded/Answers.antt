use Rattle.std.proofs.Common.{◌∙◌, subst, sym, List}
use Rattle.run_signal.specs.SentKeys.{SentKeys}
use Rattle.run_signal.specs.declared.tern.Tern.{Tern}
use Rattle.judge_match.specs.explain.Asked.{AreRecorded, IsOut, tern_pairs, recorded_of}
use Rattle.judge_match.proofs.explain_lemmas.ExcludedLaws.{by_key, by_trip}
use Rattle.judge_match.proofs.explain.leaf.is_excluded.Goals as goal
use Rattle.judge_match.proofs.explain.leaf.is_excluded.Goals.{then-is_out, else-is_out}

pub returns : goal.returns
returns c = λ on.
    let q = c.args.q.now in
    let line = q.compiled.line.now in
    let rec = recorded_of q in
    let keys : List (SentKeys Tern) = c.in_ok-tracks.tracks.keys.items in
    let trips : List (SentKeys Tern) = c.in_ok-tracks.tracks.trips.items in
    elim c.if-is_out.branch [
      | then-is_out w ↦
          by_key line q.script.now q.within rec c.args.part.now keys trips
          c.in_ok-tracks.ensures.history
          (subst (λ (xs : List (SentKeys Tern)). IsOut line q.within rec.key (tern_pairs xs))
          c.deref-2.ensures.value
          (c.is_out.ensures q.within rec.key
          (subst (AreRecorded line q.within rec.key) (sym c.deref.ensures.value)
          c.requires.question.keys) w.if-is_out.true))
      | else-is_out w ↦
          by_trip line q.script.now q.within rec c.args.part.now keys trips
          c.in_ok-tracks.ensures.history
          (subst (λ (xs : List (SentKeys Tern)). IsOut line q.within rec.trip (tern_pairs xs))
          w.deref-else-is_out-2.ensures.value
          (w.is_out-else-is_out.ensures q.within rec.trip
          (subst (AreRecorded line q.within rec.trip) (sym w.deref-else-is_out.ensures.value)
          c.requires.question.trips) (sym w.result-is ∙ on)))
    ]
