-- Each history of a line is the begin of one of the line that is played on.
use Rattle.std.proofs.Common.{◌≡◌, ◌*◌, ◌<◌, ◌≤◌, ◌&&◌, ◌||◌, ℕ, Bool, not, refl, length, sym, ◌∙◌, ap, subst, arith}
use Rattle.std.proofs.Math.Nat.{mul-le-mul_right}
use Rattle.model_history.specs.Elements.{delayed, timed}
use Rattle.model_history.specs.Laws.{HistoryLaws}
use Rattle.model_line.specs.declared.line.Line.{Line}
use Rattle.model_line.specs.Parameters.{terminal_count, channel_count}
use Rattle.model_line.specs.{Channels.from_of, SetBounds.SameButParams}
use Rattle.model_logic.specs.{declared.time.Time.Time, IntervalLaws.TreesRestOnNoInterval}
use Rattle.model_logic.specs.Tree.{Tree, Const, Seen, Loss, Raw, Not, And, Or, Timer, Seal}
use Rattle.model_logic.specs.Choice.{Choice, time_by}
use Rattle.model_logic.specs.Histories.{History}
use Rattle.model_logic.specs.{Laws.TreesNameTheLine}
use Rattle.model_logic.specs.Logic.{key_tree, trip_tree}
use Rattle.model_logic.specs.Mean.{World, Signals, mean}
use Rattle.model_logic.specs.Solution.{AgreeBefore}
use Rattle.model_fine.specs.Fine.{FineDelaysFromOne, IsSameFineHistory}
use Rattle.model_fine.specs.Loose.{Shown, IsShownHistory, shown_world_of}
use Rattle.model_fine.specs.Onward.{IsPlayedOn, IsChoiceOnward}
use Rattle.model_fine.proofs.FineHistories.{the_keys, keys_solve, keys_once, value_past}
use Rattle.model_fine.proofs.TimelessTrees.{in_ticks_of, same_key, same_trip}

module _ (laws : HistoryLaws) (names : TreesNameTheLine) (logic : TreesRestOnNoInterval) (n : ℕ)
    (line long : Line) (shown : Shown) (choice late : Choice) (h : History)
    (on : IsPlayedOn line long) (onward : IsChoiceOnward n line choice late)
    (one : FineDelaysFromOne n long late) (is_h : IsShownHistory n line shown choice h) where
  abbrev old : World
  old = shown_world_of line shown choice

  abbrev new : World
  new = shown_world_of long shown late

  same : SameButParams line (in_ticks_of long line)
  same = record {
    tick_us = refl;
    horizon = refl;
    scheme = on.scheme;
    zone1_trip = on.zone1_trip;
    terminals = on.terminals;
    channels = on.channels;
  }

  end : line.horizon * n ≤ long.horizon * n
  end = mul-le-mul_right n on.horizon

  of_line : (k : ℕ) → k < terminal_count long → k < terminal_count line
  of_line k lt = subst (λ (count : ℕ). k < count) (ap length on.terminals) lt

  of_long : (k : ℕ) → k < terminal_count line → k < terminal_count long
  of_long k lt = subst (λ (count : ℕ). k < count) (sym (ap length on.terminals)) lt

  -- ---- the two worlds are the same up to the line's horizon

  from_same : (c : ℕ) → new.from c ≡ old.from c
  unfolding shown_world_of
  from_same c = ap (λ channels. from_of channels c) on.channels

  time_same : (x : Time) → new.time x ≡ old.time x
  unfolding shown_world_of
  time_same x = ap (λ (number : ℕ → ℕ). time_by number x) onward.numbers

  value_same : (u : Signals) (x : Tree) (t : ℕ) → t < line.horizon * n → mean new u x t ≡ mean old u x t
  unfolding mean shown_world_of
  value_same u (Const b) t early = refl
  value_same u (Seen p) t early = refl
  value_same u (Loss c) t early = refl
  value_same u (Raw c) t early =
      ap (λ (q : ℕ). delayed (u q) (late.delay c t) t) (from_same c)
      ∙ ap (λ (d : ℕ). delayed (u (old.from c)) d t) (onward.delays c t early)
  value_same u (Not x) t early = ap not (value_same u x t early)
  value_same u (And x y) t early =
      ap (λ (a : Bool). a && mean new u y t) (value_same u x t early)
      ∙ ap (λ (a : Bool). mean old u x t && a) (value_same u y t early)
  value_same u (Or x y) t early =
      ap (λ (a : Bool). a || mean new u y t) (value_same u x t early)
      ∙ ap (λ (a : Bool). mean old u x t || a) (value_same u y t early)
  value_same u (Timer x p e) t early =
      laws.elements_past.timed (mean new u x) (mean old u x) (new.time p) (new.time e) t
      (λ r le. value_same u x r (omega arith))
      ∙ ap (λ (m : ℕ). timed (mean old u x) m (new.time e) t) (time_same p)
      ∙ ap (λ (m : ℕ). timed (mean old u x) (old.time p) m t) (time_same e)
  value_same u (Seal x y) t early =
      laws.elements_past.sealed (mean new u x) (mean new u y) (mean old u x) (mean old u y) t
      (λ r le. value_same u x r (omega arith)) (λ r le. value_same u y r (omega arith))

  -- ---- the history of the line that is played on

  from_line : (c : ℕ) → c < channel_count long → new.from c < terminal_count long
  unfolding shown_world_of
  from_line = long.pairs_once.from

  later : (c t : ℕ) → c < channel_count long → t < long.horizon * n → 1 ≤ new.delay c t
  unfolding shown_world_of
  later = one

  later_there : (c t : ℕ) → c < channel_count long → t < line.horizon * n → 1 ≤ new.delay c t
  later_there c t lt early = later c t lt (omega (arith, early, end))

  abbrev keys : Signals
  keys = the_keys new (key_tree long)

  abbrev whole : History
  whole = record { key = keys; trip = λ k t. mean new keys (trip_tree long k) t }

  solves : (k t : ℕ) → k < terminal_count long → t < long.horizon * n
      → keys k t ≡ mean new keys (key_tree long k) t
  solves = keys_solve laws long (long.horizon * n) new from_line later (key_tree long) (names.keys long)

  -- the line's history solves the same equations up to its horizon
  own_key : (k t : ℕ) → k < terminal_count long → t < line.horizon * n
      → h.key k t ≡ mean new h.key (key_tree long k) t
  own_key k t lt early =
      is_h.keys k t (of_line k lt) early
      ∙ sym (value_same h.key (key_tree line k) t early)
      ∙ ap (λ (x : Tree). mean new h.key x t) (sym (same_key logic line long same k))

  agree : (t : ℕ) → t ≤ line.horizon * n → AgreeBefore long keys h.key t
  agree =
      keys_once laws long (line.horizon * n) new from_line later_there (key_tree long)
      (names.keys long) keys h.key (λ k t lt early. solves k t lt (omega (arith, early, end))) own_key

  key_there : (k t : ℕ) → k < terminal_count line → t < line.horizon * n → keys k t ≡ h.key k t
  key_there k t lt early = agree (line.horizon * n) (omega arith) k t (of_long k lt) early

  trip_there : (k t : ℕ) → k < terminal_count line → t < line.horizon * n
      → whole.trip k t ≡ h.trip k t
  trip_there k t lt early =
      value_past laws long (line.horizon * n) new from_line later_there keys h.key (trip_tree long k) t
      early (names.trips long k (of_long k lt)) (agree t (omega arith))
      ∙ ap (λ (x : Tree). mean new h.key x t) (same_trip logic line long same k)
      ∙ value_same h.key (trip_tree line k) t early
      ∙ sym (is_h.trips k t lt early)

  pub goes_on : (g : History) × IsShownHistory n long shown late g × IsSameFineHistory n line g h
  goes_on = (
    whole,
    record { keys = solves; trips = λ k t lt early. refl },
    record { keys = key_there; trips = trip_there },
  )
