-- The first border of a fault is its start, and stands still.
use Rattle.std.proofs.Common.{◌≡◌, ◌+◌, ◌*◌, ◌++◌, ℕ, zero, suc, Bool, true, false, List, [], ◌∷◌, refl, ap, arith, ◌∙◌}
use Rattle.std.specs.Prelude.{get_or, length, nat_eq, replicate, if◌then◌else◌}
use Rattle.model_borders.specs.Borders.{stands, sum_below}
use Rattle.model_borders.specs.declared.script.{Border.Border}
use Rattle.file_study.specs.declared.study.stage.Shown.{Shown}
use Rattle.file_study.specs.study.Faults.{StageValues}
use Rattle.file_borders.specs.declared.drawn.At.{At}
use Rattle.file_borders.specs.Drawn.{AreBorders, Drawing, behind, drawn_from, joined, with_all, with_shown, with_stage}

-- a list begins with this border
abbrev pub Starts : At → List At → Type 0
Starts first [] = ⊥
Starts first (at ∷ ats) = at ≡ first

starts_more : (first : At) (ats more : List At) → Starts first ats → Starts first (ats ++ more)
starts_more first [] more is = absurd is
starts_more first (at ∷ ats) more is = is

starts_if : (first : At) (here : Bool) (one other : Drawing) → Starts first one.borders → Starts first other.borders
    → Starts first (if here then one else other).borders
starts_if first true one other is so = is
starts_if first false one other is so = so

starts_shown : (first at : At) (from to : ℕ) (shown : Shown) (d : Drawing) → Starts first d.borders
    → Starts first (with_shown at from to shown d).borders
starts_shown first at from to shown d is =
    starts_if first (nat_eq shown.after 0)
    (record {
      borders = d.borders;
      spans = joined (record { what = shown.what; from = from; to = to }) d.spans;
    })
    (record {
      borders = d.borders ++ record { ticks = at.ticks + shown.after; lengths = at.lengths } ∷ [];
      spans = joined (record { what = shown.what; from = length d.borders; to = to }) d.spans;
    })
    is (starts_more first d.borders (record { ticks = at.ticks + shown.after; lengths = at.lengths } ∷ []) is)

starts_all : (first at : At) (from to : ℕ) (shows : List Shown) (d : Drawing) → Starts first d.borders
    → Starts first (with_all at from to shows d).borders
starts_all first at from to [] d is = is
starts_all first at from to (shown ∷ more) d is =
    starts_all first at from to more (with_shown at from to shown d) (starts_shown first at from to shown d is)

starts_stage : (first at : At) (from : ℕ) (s : StageValues) (d : Drawing) → Starts first d.borders
    → Starts first (with_stage at from s d).borders
starts_stage first at from s d is =
    starts_all first at from (length d.borders) s.shows
    (record { borders = d.borders ++ behind at s ∷ []; spans = d.spans })
    (starts_more first d.borders (behind at s ∷ []) is)

pub starts_drawn : (first at : At) (from : ℕ) (ss : List StageValues) (d : Drawing) → Starts first d.borders
    → Starts first (drawn_from at from ss d).borders
starts_drawn first at from [] d is = is
starts_drawn first at from (s ∷ ss) d is =
    starts_drawn first (behind at s) (length d.borders) ss (with_stage at from s d) (starts_stage first at from s d is)

none : (x : ℕ → ℕ) (m : ℕ) → sum_below (λ i. get_or [] i 0 * x i) m ≡ 0
none x zero = refl
none x (suc m) =
    let last : get_or [] m 0 * x m ≡ 0 = no_times (x m) in omega (arith, none x m, last)
  where
    no_times : (k : ℕ) → 0 * k ≡ 0
    no_times k = omega arith

-- it stands there in whatever ticks are cut into
pub first_stands : (n m : ℕ) (x : ℕ → ℕ) (first : At) (ats : List At) (borders : List Border)
    → first.lengths ≡ 0 → Starts first ats → AreBorders ats borders
    → stands n borders m x 0 ≡ first.ticks * n
unfolding stands
first_stands n m x first [] borders alone is are = absurd is
first_stands n m x first (at ∷ ats) [] alone is are = absurd are
first_stands n m x first (at ∷ ats) (border ∷ borders) alone is are =
    let times : border.times.items ≡ [] =
    are.0.times ∙ ap (λ (a : At). replicate a.lengths 1) is ∙ ap (λ (k : ℕ). replicate k 1) alone in
    let fixed : border.fixed ≡ first.ticks = are.0.fixed ∙ ap (λ (a : At). a.ticks) is in
    ap (λ (l : List ℕ). border.fixed * n + sum_below (λ i. get_or l i 0 * x i) m) times
    ∙ ap (λ (k : ℕ). border.fixed * n + k) (none x m)
    ∙ add_none (border.fixed * n)
    ∙ ap (λ (k : ℕ). k * n) fixed
  where
    add_none : (k : ℕ) → k + 0 ≡ k
    add_none k = omega arith
