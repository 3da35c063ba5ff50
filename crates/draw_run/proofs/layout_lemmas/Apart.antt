-- Rows one below the other.
use Rattle.std.proofs.Common.{◌≡◌, ◌<◌, ◌≤◌, ◌+◌, ◌-◌, ◌*◌, ◌^◌, ◌++◌, ℕ, suc, List, [], ◌∷◌}
use Rattle.std.proofs.Common.{length, IsTrue, ap, arith, refl, if◌then◌else◌, Bool, true, false}
use Rattle.std.proofs.Common.{min}
use Rattle.std.specs.List.{All, AllPairs, flat_map}
use Rattle.std.proofs.lemmas.List.Elements.{All-cons, All-nil}
use Rattle.std.proofs.lemmas.List.Kept.{AllPairs-cons}
use Rattle.model_line.specs.declared.line.Line.{Line}
use Rattle.draw_run.specs.declared.diagram.{diagram.Diagram.Diagram, rows.Row.Row, trace.Trace.Trace}
use Rattle.draw_run.specs.declared.diagram.trace.Trace.TheVariants.{Seen, Lost, Logic, Key, Trip}
use Rattle.draw_run.specs.declared.layout.scale.Scale.{Scale}
use Rattle.draw_run.specs.layout.Drawings.{base_below, begins_terminal, end_below, height_above}
use Rattle.draw_run.specs.layout.Drawings.{height_below, room_above, row_drawn, rows_drawn}
use Rattle.draw_run.specs.{layout.Placed.IsBelow, layout.Placed.placed, layout.Rows.row_height}

-- the rows stand on their bases
pub on_bases : (line : Line) (scale : Scale) (diagram : Diagram) (y : ℕ) (rows : List Row)
    → rows_drawn line scale diagram y rows
    ≡ flat_map (λ (on : ℕ × Row). row_drawn line scale diagram on.0 on.1) (placed y rows)
on_bases line scale diagram y [] = refl
on_bases line scale diagram y (r ∷ rest) =
    ap (λ more. row_drawn line scale diagram (base_below y r) r ++ more)
    (on_bases line scale diagram (end_below y r) rest)

below_few : (trace : Trace) → height_below trace ≤ 180
below_few (Seen place) = omega arith
below_few (Lost c) = omega arith
below_few (Logic what gate) = omega arith
below_few (Key k) = omega arith
below_few (Trip k) = omega arith

room_few : (trace : Trace) → room_above trace ≤ 250
room_few (Seen place) = omega arith
room_few (Lost c) = omega arith
room_few (Logic what gate) = omega arith
room_few (Key k) = omega arith
room_few (Trip k) = omega arith

room_for_row : (trace : Trace) → row_height trace < room_above trace
room_for_row (Seen place) = omega arith
room_for_row (Lost c) = omega arith
room_for_row (Logic what gate) = omega arith
room_for_row (Key k) = omega arith
room_for_row (Trip k) = omega arith

above_by : (begins drawn : Bool) (room : ℕ) → room ≤ 250
    → (if begins then 270 else 0) + (if drawn then room else 0) ≤ 520
above_by true true room le = omega arith
above_by true false room le = omega arith
above_by false true room le = omega arith
above_by false false room le = omega arith

above_few : (r : Row) → height_above r ≤ 520
above_few r =
    above_by (begins_terminal r.trace) r.is_drawn (room_above r.trace) (room_few r.trace)

room_by : (begins drawn : Bool) (height room : ℕ) → height < room → IsTrue drawn
    → height < (if begins then 270 else 0) + (if drawn then room else 0)
room_by true true height room less is = omega arith
room_by false true height room less is = omega arith
room_by begins false height room less is = absurd (let bad : false ≡ true = is in cc)

room : (r : Row) → IsTrue r.is_drawn → row_height r.trace < height_above r
room r is = room_by (begins_terminal r.trace) r.is_drawn (row_height r.trace)
    (room_above r.trace) (room_for_row r.trace) is

few_more : (y n : ℕ) (r : Row) → y + 700 * suc n < 2 ^ 32
    → (base_below y r ≡ y + height_above r)
    × (end_below y r ≡ y + height_above r + height_below r.trace)
    × (y + height_above r + height_below r.trace + 700 * n < 2 ^ 32)
few_more y n r few = by_heights y n (height_above r) (height_below r.trace) (above_few r)
    (below_few r.trace) few
  where
    by_heights : (y n above below : ℕ) → above ≤ 520 → below ≤ 180 → y + 700 * suc n < 2 ^ 32
        → (min (y + above) (2 ^ 32 - 1) ≡ y + above)
        × (min (min (y + above) (2 ^ 32 - 1) + below) (2 ^ 32 - 1) ≡ y + above + below)
        × (y + above + below + 700 * n < 2 ^ 32)
    by_heights y n above below a b few = (omega arith, omega arith, omega arith)

all_below : (a : ℕ × Row) (y : ℕ) (rows : List Row) → a.0 ≤ y → y + 700 * length rows < 2 ^ 32
    → All (IsBelow a) (placed y rows)
all_below a y [] le few = All-nil (IsBelow a)
all_below a y (r ∷ rest) le few =
    let m = few_more y (length rest) r few in
    All-cons (IsBelow a) (base_below y r, r) (placed (end_below y r) rest)
    (λ is. below_here (room r is) m.0)
    (all_below a (end_below y r) rest (begins m.1) (left m.1 m.2))
  where
    below_here : row_height r.trace < height_above r → base_below y r ≡ y + height_above r
        → a.0 < base_below y r - row_height r.trace
    below_here has here = rw here (omega (arith, has, le))

    begins : end_below y r ≡ y + height_above r + height_below r.trace → a.0 ≤ end_below y r
    begins next = rw next (omega (arith, le))

    left : end_below y r ≡ y + height_above r + height_below r.trace
        → y + height_above r + height_below r.trace + 700 * length rest < 2 ^ 32
        → end_below y r + 700 * length rest < 2 ^ 32
    left next more = rw next more

left_of : (end sum n : ℕ) → end ≡ sum → sum + 700 * n < 2 ^ 32 → end + 700 * n < 2 ^ 32
left_of end sum n is few = rw is few

base_first : (base end y above below : ℕ) → base ≡ y + above → end ≡ y + above + below
    → base ≤ end
base_first base end y above below is ends = omega (arith, is, ends)

-- and lie apart
pub apart : (y : ℕ) (rows : List Row) → y + 700 * length rows < 2 ^ 32
    → AllPairs IsBelow (placed y rows)
apart y [] few = λ i j d before within. absurd (omega (arith, within))
apart y (r ∷ rest) few =
    let m = few_more y (length rest) r few in
    let left = left_of (end_below y r) (y + height_above r + height_below r.trace) (length rest)
    m.1 m.2 in
    AllPairs-cons IsBelow (base_below y r, r) (placed (end_below y r) rest)
    (all_below (base_below y r, r) (end_below y r) rest
    (base_first (base_below y r) (end_below y r) y (height_above r) (height_below r.trace) m.0 m.1)
    left)
    (apart (end_below y r) rest left)
