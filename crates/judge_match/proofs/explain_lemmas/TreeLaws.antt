-- Trees of parts whose leaves are excluded.
use Rattle.std.proofs.Common.{◌≡◌, ◌<◌, ◌+◌, ◌*◌, ℕ, Bool, true, false, List, length}
use Rattle.std.proofs.Common.{refl, subst, arith, ⊎_elim, length-append}
use Rattle.model_history.specs.Rails.{Ends, Covers}
use Rattle.model_line.specs.{declared.line.Line.Line, declared.script.Script.Script}
use Rattle.model_line.specs.Parameters.{terminal_count}
use Rattle.model_logic.specs.Laws.{LineLaws}
use Rattle.model_logic.specs.Histories.{History, PairHistory, IsLineHistory}
use Rattle.model_logic.specs.Histories.{IsSameHistory, CoversHistory}
use Rattle.model_timing.specs.{Timing.TimingValues, Choice.timing_choice, Inside.IsTimingInside}
use Rattle.judge_match.specs.explain.Changes.{HaveSameChanges}
use Rattle.judge_match.specs.explain.Explains.{Explains, IsNear, NoneExplains}
use Rattle.judge_match.specs.explain.Explains.{signal_of, pairs_of}
use Rattle.judge_match.specs.explain.Parts.{PartTree, Excluded, Parted, AreExcluded}
use Rattle.judge_match.specs.explain.Parts.{IsExcludedByRails, IsExcludedByPlay, LiesIn, part_box}
use Rattle.judge_match.specs.explain.Parts.{lower_part, upper_part, declared_part, preorder, part_count}
use Rattle.judge_match.specs.explain.Asked.{IsPart}
use Rattle.judge_match.proofs.explain_lemmas.ChangeLaws.{level_kept}
use Rattle.judge_match.proofs.explain_lemmas.PartLaws.{lies_within, lies_in_one, lower_is, upper_is}
use Rattle.judge_match.proofs.explain_lemmas.PartLaws.{declared_is, declared_lies}

near_of : (line : Line) (within : ℕ) (recorded h : History) (trip : Bool) (k : ℕ)
    → IsNear line within recorded h → k < terminal_count line
    → HaveSameChanges within line.horizon (signal_of recorded trip k) (signal_of h trip k)
near_of line within recorded h false k near there = near.keys k there
near_of line within recorded h true k near there = near.trips k there

covers_of : (line : Line) (w : PairHistory) (h : History) (trip : Bool) (k t : ℕ)
    → CoversHistory line w h → k < terminal_count line → t < line.horizon
    → Covers (pairs_of w trip k t) (signal_of h trip k t)
covers_of line w h false k t covers there early = covers.keys k t there early
covers_of line w h true k t covers there early = covers.trips k t there early

module _ (laws : LineLaws) (line : Line) (script : Script) (within : ℕ) (recorded : History)
    (timing : TimingValues) (h : History)
    (is : IsLineHistory line script (timing_choice line timing) h) where
  by_rails : (part : List Ends) → IsPart line part
      → IsExcludedByRails line script within recorded part → LiesIn line part timing
      → Explains line script within recorded timing → ⊥
  by_rails part one out lies explains =
      let (w, is_w) =
      laws.interval_histories.exists line script (part_box line part) one.delays in
      let covers =
      covers_of line w h out.trip out.k out.t
      (laws.boxes.choices line script (part_box line part) (timing_choice line timing) w h one.delays
      (lies_within laws.delays line part timing lies) is_w is)
      out.terminal out.tick in
      let level : signal_of h out.trip out.k out.t ≡ out.level =
      level_kept within line.horizon (signal_of recorded out.trip out.k)
      (signal_of h out.trip out.k) out.t out.level
      (near_of line within recorded h out.trip out.k (explains.near h is) out.terminal)
      out.tick out.stays in
      out.excludes w is_w (subst (Covers (pairs_of w out.trip out.k out.t)) level covers)

  tree_explains_nothing : (part : List Ends) (tree : PartTree) → IsPart line part
      → AreExcluded line script within recorded part tree → LiesIn line part timing
      → Explains line script within recorded timing → ⊥
  tree_explains_nothing part Excluded one out lies explains = ⊎_elim
      (λ (rails : IsExcludedByRails line script within recorded part).
      by_rails part one rails lies explains)
      (λ (play : IsExcludedByPlay line script within recorded part).
      play.fails
      (subst (Explains line script within recorded) (play.only timing lies) explains))
      out
  tree_explains_nothing part (Parted param mid first second) one out lies explains = ⊎_elim
      (λ (low : LiesIn line (lower_part part param mid) timing).
      tree_explains_nothing (lower_part part param mid) first
      (lower_is laws.delays line part param mid one out.0) out.1.0 low explains)
      (λ (high : LiesIn line (upper_part part param mid) timing).
      tree_explains_nothing (upper_part part param mid) second
      (upper_is laws.delays line part param mid one out.0) out.1.1 high explains)
      (lies_in_one line part param mid one out.0 timing lies)

abbrev pub HasOneHistory : Line → Script → Type 0
HasOneHistory line script =
    (timing : TimingValues) → IsTimingInside line timing
    → (h : History) × IsLineHistory line script (timing_choice line timing) h
    × ((other : History) → IsLineHistory line script (timing_choice line timing) other
    → IsSameHistory line h other)

pub none_explains : (laws : LineLaws) (line : Line) (script : Script) (within : ℕ)
    (recorded : History) (tree : PartTree) → HasOneHistory line script
    → AreExcluded line script within recorded (declared_part line) tree
    → NoneExplains line script within recorded
none_explains laws line script within recorded tree one out timing inside explains =
    let (h, is, only) = one timing inside.inside in
    tree_explains_nothing laws line script within recorded timing h is (declared_part line) tree
    (declared_is laws.delays line) out (declared_lies line timing inside) explains

-- a tree has a part for each node but those that part, which are one less
pub nodes_counted : (tree : PartTree) → length (preorder tree) + 1 ≡ 2 * part_count tree
nodes_counted Excluded = refl
nodes_counted (Parted param mid first second) =
    omega (
      arith,
      length-append (preorder first) (preorder second),
      nodes_counted first,
      nodes_counted second,
    )
