-- What the races of a conjunction say of the time to spare.
use Rattle.std.proofs.Common.{◌≡◌, ◌≤◌, ◌<◌, ℕ, zero, suc, Bool, false, true, List, [], ◌∷◌, ◌++◌, length}
use Rattle.std.proofs.Common.{inl, refl, ◌∙◌, ap, arith, ⊎_elim}
use Rattle.std.proofs.lemmas.Bool.{cases_lt}
use Rattle.std.proofs.lemmas.Option.{slice_get-get_or}
use Rattle.std.specs.Prelude.{Option, Some, None, get_or, max, option_map, if◌then◌else◌}
use Rattle.model_line.specs.{declared.line.Line.Line, declared.script.Script.Script}
use Rattle.model_line.specs.Parameters.{terminal_count, declared_ends}
use Rattle.model_logic.specs.Choice.{Choice, IsInside, declared_box, ends_by, time_by, world_of}
use Rattle.model_logic.specs.Histories.{History, IsLineHistory, PairHistory, IsPairHistory}
use Rattle.model_logic.specs.Laws.{AWiderBoxCovers, EachLineHasAChoiceInside, TreesNameTheLine}
use Rattle.model_logic.specs.Laws.{EachBoxHasOneIntervalHistory}
use Rattle.model_logic.specs.Tree.{Tree, Const, Seen, Loss, Raw, Not, And, Or, Timer, Seal}
use Rattle.model_logic.specs.declared.time.Time.{Time}
use Rattle.model_logic.specs.declared.time.Time.TheVariants.{Zero, Param}
use Rattle.model_logic.specs.{Logic.set_tree, Logic.trip_tree, Mean.mean, Names.Names, Names.HasTime}
use Rattle.judge_races.specs.Operands.{alternatives, input_of, is_raw, operands, pickup_of}
use Rattle.judge_races.specs.Lacks.{Lacks, Reaches}
use Rattle.judge_races.specs.Races.{Column, lack_in, lack_of, lacks_at, most, IsLookedAt}
use Rattle.judge_races.specs.Lasting.{AreRacesOver, holds_at, least_pickup, may_be}
use Rattle.judge_races.specs.Spare.{MayReach, Reach, SomeRaceWithin, IsOver}
use Rattle.judge_races.specs.declared.races.Race.{Race}
use Rattle.judge_races.specs.declared.stretch.Stretch.{Stretch}

-- what would be on if it lasted g ticks longer lacks no more
reach_lacks : (u : ℕ → Bool) (p g t : ℕ) (lack : Option ℕ) → Lacks u p t lack → Reaches u p g t
    → (d : ℕ) × (lack ≡ Some d) × (d ≤ g)
reach_lacks u p g t None none r = absurd (none r.to r.lasted)
reach_lacks u p g t (Some d) is r = (
  d,
  refl,
  ⊎_elim (λ lt. absurd (is.latest r.to (omega (arith, lt, r.near)) r.lasted)) (λ ge. ge)
      (cases_lt g d),
)

-- nor do all of them
most_within : (columns : List Column) (t g : ℕ)
    → ((i : ℕ) → i < length columns → (d : ℕ) × (lack_in t (get_or columns i []) ≡ Some d) × (d ≤ g))
    → (m : ℕ) × (lack_of columns t ≡ Some m) × (m ≤ g)
most_within [] t g each = (0, refl, omega arith)
most_within (c ∷ columns) t g each =
    let head = each 0 (omega arith) in
    let rest = most_within columns t g (λ i lt. each (suc i) (omega (arith, lt))) in (
      max head.0 rest.0,
      ap (λ x. most (x ∷ lacks_at columns t)) head.1 ∙ ap (option_map (max head.0)) rest.1,
      omega (arith, head.2, rest.2),
    )

-- what the races of scripts say by the may rails
pub least_rails : (line : Line) (scripts : List Script) (trips : List (Option Stretch))
    (trees : List Tree) (n p : ℕ) (races : List Race) (script : Script) (w : PairHistory) (g t : ℕ)
    → AreRacesOver line scripts trips trees n races → IsOver scripts trips n p script
    → IsPairHistory line script (declared_box line) w → t < line.horizon
    → MayReach line script w trees g t → SomeRaceWithin races g
least_rails line scripts trips trees n p races script w g t over is is_w within reach =
    let columns : List Column = over.columns p in
    let are = over.tell p script is.within is.there is.held in
    let lacks : (i : ℕ) → i < length columns
    → (d : ℕ) × (lack_in t (get_or columns i []) ≡ Some d) × (d ≤ g) =
    λ i lt.
    let column : Column = get_or columns i [] in
    let one = are.each i column (slice_get-get_or columns i [] lt) w is_w in
    let lack = one.each t (get_or column t None)
    (slice_get-get_or column t None (omega (arith, within, one.count))) in
    reach_lacks _ _ g t (get_or column t None) lack (reach i (omega (arith, lt, are.count))) in
    let m = most_within columns t g lacks in
    let looked : IsLookedAt (holds_at trips) line.horizon n 0 p t =
    record { counted = is.held; before = inl (is.within, within) } in
    let has = over.are.all p t m.0 looked m.1 in
    let bad = (over.are.each has.at has.is.race has.is.there).worst p t m.0 looked m.1 has.is.same in
    record {
      at = has.at;
      race = has.is.race;
      there = has.is.there;
      small = ⊎_elim (λ lt. omega (arith, lt, m.2)) (λ h. omega (arith, h.0, m.2)) bad;
    }

-- each tree of the list names only what the line has
AllNamed : Line → List Tree → Type 0
AllNamed line trees = (i : ℕ) → Names line (get_or trees i (Const false))

named_one : (line : Line) (x : Tree) → Names line x → AllNamed line (x ∷ [])
unfolding AllNamed Names
named_one line x names zero = names
named_one line x names (suc i) = tt

named_both : (line : Line) (xs ys : List Tree) → AllNamed line xs → AllNamed line ys
    → AllNamed line (xs ++ ys)
unfolding AllNamed
named_both line [] ys first second i = second i
named_both line (x ∷ xs) ys first second zero = first 0
named_both line (x ∷ xs) ys first second (suc i) =
    named_both line xs ys (λ j. first (suc j)) second i

named_if : (line : Line) (b : Bool) (xs ys : List Tree) → AllNamed line xs → AllNamed line ys
    → AllNamed line (if b then xs else ys)
named_if line true xs ys first second = first
named_if line false xs ys first second = second

named_alternatives : (line : Line) (x : Tree) → Names line x → AllNamed line (alternatives x)
unfolding Names
named_alternatives line (Const v) n = named_one line (Const v) n
named_alternatives line (Seen p) n = named_one line (Seen p) n
named_alternatives line (Loss c) n = named_one line (Loss c) n
named_alternatives line (Raw c) n = named_one line (Raw c) n
named_alternatives line (Not x) n = named_one line (Not x) n
named_alternatives line (And x y) n = named_one line (And x y) n
named_alternatives line (Or x y) n =
    named_both line (alternatives x) (alternatives y) (named_alternatives line x n.0)
    (named_alternatives line y n.1)
named_alternatives line (Timer x p d) n = named_one line (Timer x p d) n
named_alternatives line (Seal x y) n = named_one line (Seal x y) n

named_operands : (line : Line) (x : Tree) → Names line x → AllNamed line (operands x)
unfolding Names
named_operands line (Const v) n = named_one line (Const v) n
named_operands line (Seen p) n = named_one line (Seen p) n
named_operands line (Loss c) n = named_one line (Loss c) n
named_operands line (Raw c) n = named_one line (Raw c) n
named_operands line (Not x) n = named_one line (Not x) n
named_operands line (And x y) n =
    named_if line (is_raw x) (And x y ∷ []) (operands x ++ operands y) (named_one line (And x y) n)
    (named_both line (operands x) (operands y) (named_operands line x n.0)
    (named_operands line y n.1))
named_operands line (Or x y) n = named_one line (Or x y) n
named_operands line (Timer x p d) n = named_one line (Timer x p d) n
named_operands line (Seal x y) n = named_one line (Seal x y) n

named_input : (line : Line) (x : Tree) → Names line x → Names line (input_of x)
unfolding Names
named_input line (Const v) n = n
named_input line (Seen p) n = n
named_input line (Loss c) n = n
named_input line (Raw c) n = n
named_input line (Not x) n = n
named_input line (And x y) n = n
named_input line (Or x y) n = n
named_input line (Timer x p Zero) n = n.0
named_input line (Timer x p (Param i)) n = n
named_input line (Seal x y) n = n

has_pickup : (line : Line) (x : Tree) → Names line x → HasTime line (pickup_of x)
unfolding Names
has_pickup line (Const v) n = tt
has_pickup line (Seen p) n = tt
has_pickup line (Loss c) n = tt
has_pickup line (Raw c) n = tt
has_pickup line (Not x) n = tt
has_pickup line (And x y) n = tt
has_pickup line (Or x y) n = tt
has_pickup line (Timer x p Zero) n = n.1.0
has_pickup line (Timer x p (Param i)) n = tt
has_pickup line (Seal x y) n = tt

least_time : (line : Line) (choice : Choice) (time : Time) → IsInside line choice → HasTime line time
    → (ends_by (declared_ends line) time).least ≤ time_by choice.number time
unfolding declared_box
least_time line choice Zero inside has = omega arith
least_time line choice (Param i) inside has = (inside.numbers i has).least

named_set : TreesNameTheLine → (line : Line) (k : ℕ) → k < terminal_count line
    → Names line (set_tree line k)
unfolding trip_tree Names
named_set trees line k within = (trees.trips line k within).0

-- what an operand reaches in the history of a choice its may rail reaches
reach_covered : AWiderBoxCovers → EachLineHasAChoiceInside → (line : Line) (script : Script)
    (choice : Choice) (h : History) (w : PairHistory) (x : Tree) (g t : ℕ) → IsInside line choice
    → IsLineHistory line script choice h → IsPairHistory line script (declared_box line) w
    → t < line.horizon → Names line x
    → Reaches (mean (world_of line script choice) h.key (input_of x))
    (time_by choice.number (pickup_of x)) g t
    → Reaches (may_be line script w (input_of x)) (least_pickup line x) g t
reach_covered covers choices line script choice h w x g t inside is_h is_w within names r = record {
  to = r.to;
  near = r.near;
  lasted = record {
    from = r.lasted.from;
    early = omega (arith, r.lasted.early, least_time line choice (pickup_of x) inside (has_pickup line x names));
    ordered = r.lasted.ordered;
    past = r.lasted.past;
    on = λ s low high.
        (covers.trees line script (declared_box line) choice w h (choices.declared line) inside is_w
        is_h (input_of x) s (omega (arith, high, r.lasted.past, within)) (named_input line x names)).may
        (r.lasted.on s low high);
  };
}

pub least_choices : AWiderBoxCovers → EachLineHasAChoiceInside → TreesNameTheLine
    → EachBoxHasOneIntervalHistory → (line : Line) (scripts : List Script)
    (trips : List (Option Stretch)) (k i n p : ℕ) (races : List Race) (script : Script)
    (choice : Choice) (h : History) (g t : ℕ) → k < terminal_count line
    → AreRacesOver line scripts trips (operands (get_or (alternatives (set_tree line k)) i (Const false)))
    n races
    → IsOver scripts trips n p script → IsInside line choice → IsLineHistory line script choice h
    → t < line.horizon
    → Reach line script choice h (operands (get_or (alternatives (set_tree line k)) i (Const false))) g t
    → SomeRaceWithin races g
unfolding AllNamed
least_choices covers choices trees_named boxes line scripts trips k i n p races script choice h g t terminal over is inside is_h within reach =
    let trees : List Tree = operands (get_or (alternatives (set_tree line k)) i (Const false)) in
    let one = boxes.exists line script (declared_box line) (choices.declared line) in
    let names = named_operands line (get_or (alternatives (set_tree line k)) i (Const false))
    (named_alternatives line (set_tree line k) (named_set trees_named line k terminal) i) in
    least_rails line scripts trips trees n p races script one.0 g t over is one.1 within
    (λ j lt. reach_covered covers choices line script choice h one.0 (get_or trees j (Const false)) g t
    inside is_h one.1 within (names j) (reach j lt))
