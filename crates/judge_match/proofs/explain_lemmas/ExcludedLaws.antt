-- What the interval history over a part excludes.
use Rattle.std.proofs.Common.{◌≡◌, ◌<◌, ℕ, Bool, true, false, List, Some, length, sym, subst, arith}
use Rattle.std.specs.Prelude.{slice_get, Option}
use Rattle.std.proofs.lemmas.Option.{slice_get_within}
use Rattle.model_history.specs.Rails.{Rails, Covers, rails_at}
use Rattle.model_line.specs.{declared.line.Line.Line, declared.script.Script.Script}
use Rattle.model_history.specs.Rails.{Ends}
use Rattle.model_logic.specs.Histories.{History}
use Rattle.run_signal.specs.SentKeys.{SentKeys}
use Rattle.run_signal.specs.{declared.tern.Tern.Tern, Terns.tern_rails, Lanes.in_lane}
use Rattle.run_changes.specs.{changes.Tracks.pair_of, changes.Tracks.tracks_history}
use Rattle.run_step.specs.Runs.{IsTheHistory}
use Rattle.judge_match.specs.explain.Parts.{IsExcludedByRails, part_box}
use Rattle.judge_match.specs.explain.Asked.{AreRecorded, IsOut, IsOutAt, tern_pairs}
use Rattle.judge_match.specs.declared.explain.recorded.Recorded.{Recorded}

pub out_of : (line : Line) (within : ℕ) (u : ℕ → ℕ → Bool) (all : List Recorded)
    (tracks : List (SentKeys Tern)) (k : ℕ) (r : Recorded) (s : SentKeys Tern)
    → AreRecorded line within u all → slice_get all k ≡ Some r → slice_get tracks k ≡ Some s
    → IsOutAt r.stays.items (rails_at (in_lane (λ x _. tern_rails x) 0 s.keys))
    → IsOut line within u (tern_pairs tracks)
out_of line within u all tracks k r s are at here out =
    let rec = are.each k r at in
    let inside : k < length all = slice_get_within all k r at in
    let early : out.t < length r.stays.items =
    slice_get_within r.stays.items out.t (Some out.level) out.keeps in
    record {
      k = k;
      t = out.t;
      level = out.level;
      terminal = omega (arith, inside, are.count);
      tick = omega (arith, early, rec.count);
      stays = rec.stays out.t out.level out.keeps;
      excludes = λ covers. out.excludes
          (subst (λ (o : Option (SentKeys Tern)).
          Covers (pair_of (λ x _. tern_rails x) 0 out.t o) out.level) here covers);
    }

module _ (line : Line) (script : Script) (within : ℕ) (recorded : History) (part : List Ends)
    (keys trips : List (SentKeys Tern))
    (is : IsTheHistory line script (part_box line part)
    (tracks_history (λ x _. tern_rails x) 0 keys trips)) where
  pub by_key : IsOut line within recorded.key (tern_pairs keys)
      → IsExcludedByRails line script within recorded part
  by_key out = record {
    trip = false;
    k = out.k;
    t = out.t;
    level = out.level;
    terminal = out.terminal;
    tick = out.tick;
    stays = out.stays;
    excludes = λ w is_w covers. out.excludes
        (subst (λ (x : Rails). Covers x out.level)
        (sym ((is.only w is_w).keys out.k out.t out.terminal out.tick)) covers);
  }

  pub by_trip : IsOut line within recorded.trip (tern_pairs trips)
      → IsExcludedByRails line script within recorded part
  by_trip out = record {
    trip = true;
    k = out.k;
    t = out.t;
    level = out.level;
    terminal = out.terminal;
    tick = out.tick;
    stays = out.stays;
    excludes = λ w is_w covers. out.excludes
        (subst (λ (x : Rails). Covers x out.level)
        (sym ((is.only w is_w).trips out.k out.t out.terminal out.tick)) covers);
  }
