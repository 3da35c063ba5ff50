-- The history of the worst choice is the rail of the interval history at each key of the cone, and at
-- each trip that is read over it.
use Rattle.std.proofs.Common.{◌≡◌, ℕ, zero, suc, ◌<◌, ◌≤◌, Bool, refl, sym, ◌∙◌, ap, subst, arith}
use Rattle.std.proofs.Common.{⊎_elim}
use Rattle.std.proofs.lemmas.Bool.{cases_lt}
use Rattle.std.specs.Prelude.{IsTrue}
use Rattle.model_history.specs.{Laws.HistoryLaws, Rails.Ends, Rails.single, Rails.Covers}
use Rattle.model_line.specs.{declared.line.Line.Line, declared.script.Script.Script}
use Rattle.model_line.specs.{Parameters.terminal_count, Channels.from_of}
use Rattle.model_logic.specs.declared.time.Time.TheVariants.{Zero, Param}
use Rattle.model_logic.specs.Choice.{Box, IsIn, IsWithin, LeastFromOne, world_of, pair_world_of}
use Rattle.model_logic.specs.Choice.{ends_by, time_by}
use Rattle.model_logic.specs.Histories.{History, IsLineHistory, PairHistory, IsPairHistory}
use Rattle.model_logic.specs.Logic.{key_tree, trip_tree}
use Rattle.model_logic.specs.Mean.{mean, World}
use Rattle.model_logic.specs.PairMean.{pair_mean, PairWorld}
use Rattle.model_logic.specs.{declared.time.Time.Time, Laws.LineLaws, Names.Names, Tree.Tree}
use Rattle.model_settle.specs.Sides.{Rail, value_on, End, Least, Greatest, number_at, Sides}
use Rattle.model_settle.specs.Sides.{IsTakenAt}
use Rattle.model_settle.specs.Known.{IsKnown, IsReadOver, IsReadIn, IsOneRailedIn}
use Rattle.model_settle.specs.Worst.{worst_delay, worst_choice, IsOrdered}
use Rattle.model_settle.proofs.WorstDelays.{worst_within, worst_value}
use Rattle.model_settle.proofs.TreesOnRails.{IsWorstWorld, tree_on_rail, AreRailsBefore}
use Rattle.model_settle.specs.SideLaws.{number_within}

pub choice_within : (line : Line) (box : Box) (sides : Sides) (w : PairHistory)
    → IsOrdered line box → IsWithin line (worst_choice line sides box w.key) box
unfolding worst_choice
choice_within line box sides w ordered = record {
  numbers = λ i lt. number_within (sides.end_of i) (box.ends i) (ordered.numbers i lt);
  delays = λ c t lt early.
      worst_within (sides.key (from_of line.channels.items c))
      (w.key (from_of line.channels.items c)) (box.delay c t) t (ordered.delays c t lt early);
}

zero_at : (end : End) → 0 ≡ number_at end (single 0)
zero_at Least = refl
zero_at Greatest = refl

time_at : (sides : Sides) (ends : ℕ → Ends) (x : Time) (end : End) → IsTakenAt sides x end
    → time_by (λ i. number_at (sides.end_of i) (ends i)) x ≡ number_at end (ends_by ends x)
time_at sides ends Zero end taken = zero_at end
time_at sides ends (Param i) end taken = ap (λ e. number_at e (ends i)) taken

module _ (laws : HistoryLaws) (line_laws : LineLaws) (line : Line) (script : Script) (box : Box)
    (cone : ℕ → Bool) (sides : Sides) (w : PairHistory) (h : History)
    (ordered : IsOrdered line box) (d : LeastFromOne line box)
    (one_railed : IsOneRailedIn line script box w cone sides) (is_w : IsPairHistory line script box w)
    (is_h : IsLineHistory line script (worst_choice line sides box w.key) h) where
  abbrev at_worst : World
  at_worst = world_of line script (worst_choice line sides box w.key)

  abbrev over_box : PairWorld
  over_box = pair_world_of line script box

  worst_world : IsWorstWorld line sides at_worst over_box w.key
  unfolding world_of pair_world_of worst_choice
  worst_world = record {
    seen = λ p t. refl;
    lost = λ c t. refl;
    from = λ c. refl;
    from_line = line.pairs_once.from;
    later = λ c t lt early.
        let in_box : IsIn (worst_delay (sides.key (from_of line.channels.items c))
        (w.key (from_of line.channels.items c)) (box.delay c t) t) (box.delay c t) =
        worst_within (sides.key (from_of line.channels.items c))
        (w.key (from_of line.channels.items c)) (box.delay c t) t (ordered.delays c t lt early) in
        let least : 1 ≤ (box.delay c t).least = d c t lt early in
        let above : (box.delay c t).least ≤ worst_delay (sides.key (from_of line.channels.items c))
        (w.key (from_of line.channels.items c)) (box.delay c t) t = in_box.least in
        omega arith;
    time = λ x end has taken. time_at sides box.ends x end taken;
    raw = λ c t lt early.
        worst_value laws (w.key (from_of line.channels.items c)) (box.delay c t) t
        (ordered.delays c t lt early) (sides.key (from_of line.channels.items c));
  }

  covers : (x : Tree) (t : ℕ) → t < line.horizon → Names line x
      → Covers (pair_mean over_box w.key x t) (mean at_worst h.key x t)
  covers x t lt named =
      line_laws.boxes.trees line script box (worst_choice line sides box w.key) w h d
      (choice_within line box sides w ordered) is_w is_h x t lt named

  abbrev Before : ℕ → Type 0
  Before t = AreRailsBefore laws line cone sides at_worst over_box h.key w.key worst_world covers t

  read_over : (k : ℕ) → IsTrue (cone k) → k < terminal_count line
      → IsReadOver (IsKnown line.horizon over_box w.key) over_box.from cone sides (sides.key k)
      (key_tree line k)
  unfolding pair_world_of
  read_over k in_cone kn = one_railed k kn in_cone

  keys_before : (t : ℕ) → t ≤ line.horizon → Before t
  keys_before zero le k r kn lt in_cone = absurd (omega arith)
  keys_before (suc t) le k r kn lt in_cone =
      let before : Before t = keys_before t (omega arith) in
      ⊎_elim (λ earlier. before k r kn earlier in_cone)
      (λ last. let e : t ≡ r = omega arith in
      let early : t < line.horizon = omega arith in
      let now : h.key k t ≡ value_on (sides.key k) (w.key k t) =
      is_h.keys k t kn early
      ∙ tree_on_rail laws line cone sides at_worst over_box h.key w.key worst_world covers (sides.key k)
      (key_tree line k) t early (line_laws.trees.keys line k kn) (read_over k in_cone kn)
      before
      ∙ ap (value_on (sides.key k)) (sym (is_w.keys k t kn early)) in
      subst (λ (s : ℕ). h.key k s ≡ value_on (sides.key k) (w.key k s)) e now)
      (cases_lt r t)

  pub key_is_rail : (k t : ℕ) → k < terminal_count line → t < line.horizon → IsTrue (cone k)
      → h.key k t ≡ value_on (sides.key k) (w.key k t)
  key_is_rail k t kn lt in_cone = keys_before line.horizon (omega arith) k t kn lt in_cone

  read_trip : (rail : Rail) (k : ℕ)
      → IsReadIn line script box w cone sides rail (trip_tree line k)
      → IsReadOver (IsKnown line.horizon over_box w.key) over_box.from cone sides rail
      (trip_tree line k)
  unfolding pair_world_of
  read_trip rail k read = read

  pub trip_is_rail : (rail : Rail) (k t : ℕ) → k < terminal_count line → t < line.horizon
      → IsReadIn line script box w cone sides rail (trip_tree line k)
      → h.trip k t ≡ value_on rail (w.trip k t)
  trip_is_rail rail k t kn lt read =
      is_h.trips k t kn lt
      ∙ tree_on_rail laws line cone sides at_worst over_box h.key w.key worst_world covers rail
      (trip_tree line k) t lt (line_laws.trees.trips line k kn) (read_trip rail k read)
      (λ j r jn before in_cone. keys_before line.horizon (omega arith) j r jn (omega arith) in_cone)
      ∙ ap (value_on rail) (sym (is_w.trips k t kn lt))
