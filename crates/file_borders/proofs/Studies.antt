-- One fault more of a study.
use Rattle.std.proofs.Common.{◌≡◌, ◌≤◌, ◌<◌, ◌+◌, ◌*◌, ◌++◌, ◌&&◌, ◌||◌, ℕ, zero, suc, Bool, true, false, List, [], ◌∷◌, Option, Some, None, length, refl, sym, ap, subst, arith, ◌∙◌}
use Rattle.std.proofs.Math.Nat.{add-mul, mul-le-mul_right}
use Rattle.std.specs.Prelude.{get_or, map, nat_eq, nat_le, option_map, take, if◌then◌else◌}
use Rattle.std.specs.List.{All, list_all, list_any}
use Rattle.std.proofs.lemmas.List.{map-append, take-map, take_more}
use Rattle.std.proofs.lemmas.Option.{slice_get-map, slice_get_read}
use Rattle.base_memory.specs.Gives.{OfFault}
use Rattle.base_memory.specs.declared.stopped.Stopped.{Stopped}
use Rattle.base_memory.specs.declared.stopped.Stopped.TheVariants as stopped
use Rattle.model_history.specs.Rails.{Ends, single}
use Rattle.run_signal.specs.Spans.{ends_of}
use Rattle.model_line.specs.declared.line.Line.{Line}
use Rattle.file_study.specs.declared.study.stage.SweptFault.{SweptFault}
use Rattle.file_study.specs.study.Faults.{FaultValues, StageValues, fault_values}
use Rattle.file_study.specs.sweeps.Refusals.{greatest, horizon_of}
use Rattle.file_borders.specs.declared.fault.BordersFault.{BordersFault}
use Rattle.file_borders.specs.declared.fault.BordersFault.TheVariants as borders
use Rattle.file_borders.specs.declared.loose.LooseFault.{LooseFault}
use Rattle.file_borders.specs.declared.study.StudyBordersFault.{StudyBordersFault}
use Rattle.file_borders.specs.Drawn.{borders_of, first_of, part_of}
use Rattle.file_borders.specs.Loose.{IsLooseOf, comes_in_time, has_one_time, is_unswept, refusal_of}
use Rattle.file_borders.specs.Studies.{AreLooseOf, IsAnswerable, IsRefusedAt, IsRefusedIn, IsWell}
use Rattle.file_borders.specs.Studies.{has_interval, played_ticks, study_refusal, unless_long, with_intervals}
use Rattle.file_borders.proofs.Spans.{both_of}
use Rattle.file_borders.proofs.Steps.{first_below, longest, most}

with_more : (fs : List FaultValues) (f : FaultValues) (has : Bool) → has_interval f ≡ has
    → with_intervals (fs ++ f ∷ []) ≡ with_intervals fs ++ (if has then f ∷ [] else [])
with_more [] f true is = ap (λ (b : Bool). if b then f ∷ [] else []) is
with_more [] f false is = ap (λ (b : Bool). if b then f ∷ [] else []) is
with_more (g ∷ fs) f has is = split (has_interval g) (with_more fs f has is)
  where
    split : (own : Bool) → with_intervals (fs ++ f ∷ []) ≡ with_intervals fs ++ (if has then f ∷ [] else [])
        → (if own then g ∷ with_intervals (fs ++ f ∷ []) else with_intervals (fs ++ f ∷ []))
        ≡ (if own then g ∷ with_intervals fs else with_intervals fs) ++ (if has then f ∷ [] else [])
    split true rest = ap (λ (l : List FaultValues). g ∷ l) rest
    split false rest = rest

one_pushed : (fs : List FaultValues) (f : FaultValues) (old : List LooseFault) (loose : LooseFault)
    → AreLooseOf fs old → IsLooseOf f loose → AreLooseOf (fs ++ f ∷ []) (old ++ loose ∷ [])
one_pushed [] f [] loose are is = (is, tt)
one_pushed [] f (l ∷ old) loose are is = absurd are
one_pushed (g ∷ fs) f [] loose are is = absurd are
one_pushed (g ∷ fs) f (l ∷ old) loose are is = (are.0, one_pushed fs f old loose are.1 is)

append_none : (l : List FaultValues) → l ++ [] ≡ l
append_none [] = refl
append_none (f ∷ l) = ap (λ (m : List FaultValues). f ∷ m) (append_none l)

pub are_more : (fs : List FaultValues) (f : FaultValues) (old : List LooseFault) (loose : LooseFault)
    → AreLooseOf (with_intervals fs) old → has_interval f ≡ true → IsLooseOf f loose
    → AreLooseOf (with_intervals (fs ++ f ∷ [])) (old ++ loose ∷ [])
are_more fs f old loose are has is =
    subst (λ (l : List FaultValues). AreLooseOf l (old ++ loose ∷ [])) (sym (with_more fs f true has))
    (one_pushed (with_intervals fs) f old loose are is)

pub are_same : (fs : List FaultValues) (f : FaultValues) (old : List LooseFault)
    → AreLooseOf (with_intervals fs) old → has_interval f ≡ false → AreLooseOf (with_intervals (fs ++ f ∷ [])) old
are_same fs f old are has =
    subst (λ (l : List FaultValues). AreLooseOf l old)
    (sym (with_more fs f false has ∙ append_none (with_intervals fs))) are

pub are_none : (fs : List FaultValues) (all : List LooseFault) → AreLooseOf fs all → length all ≡ 0 → fs ≡ []
are_none [] all are none = refl
are_none (f ∷ fs) [] are none = absurd are
are_none (f ∷ fs) (l ∷ all) are none = absurd (omega (arith, none))

-- one element more of a loop
pub one_more : (l : List SweptFault) (i : ℕ) (f : SweptFault) → i < length l → f ≡ get_or l i f
    → (P : List FaultValues → Type 0) → P (map fault_values (take i l) ++ fault_values f ∷ [])
    → P (map fault_values (take (i + 1) l))
one_more l i f lt is P so =
    let taken : map fault_values (take (i + 1) l)
    ≡ map fault_values (take i l) ++ fault_values (get_or l i f) ∷ [] =
    ap (λ (m : List SweptFault). map fault_values m) (take_more l i f lt)
    ∙ map-append fault_values (take i l) (get_or l i f ∷ []) in
    subst P (ap (λ (g : SweptFault). map fault_values (take i l) ++ fault_values g ∷ []) is ∙ sym taken) so

pub refused_in : (line : Line) (l : List SweptFault) (i : ℕ) (f : SweptFault) (why : StudyBordersFault)
    → i < length l → f ≡ get_or l i f → All (IsWell line) (map fault_values (take i l))
    → (has_interval (fault_values f) ≡ true) × IsRefusedAt line i (fault_values f) why
    → IsRefusedIn line (map fault_values l) why
refused_in line l i f why lt is well refused = record {
  i = i;
  f = fault_values f;
  there = slice_get-map fault_values l i ∙ ap (λ (o : Option SweptFault). option_map fault_values o) (slice_get_read l (length l) i f refl lt is);
  interval = refused.0;
  refused = refused.1;
  before = subst (λ (m : List FaultValues). All (IsWell line) m) (sym (take-map fault_values i l)) well;
}

pub refused_at : (line : Line) (l : List SweptFault) (i : ℕ) (f : SweptFault) (why : Stopped StudyBordersFault)
    → i < length l → f ≡ get_or l i f → All (IsWell line) (map fault_values (take i l))
    → OfFault (λ told. (has_interval (fault_values f) ≡ true) × IsRefusedAt line i (fault_values f) told) why
    → OfFault (IsRefusedIn line (map fault_values l)) why
refused_at line l i f (stopped.Fault told) lt is well refused = refused_in line l i f told lt is well refused
refused_at line l i f stopped.Memory lt is well refused = tt

-- ---- a fault that can be answered

-- what passes the first, and the third, of five tests
tests : (a b c d e : Bool) (one two three four five : BordersFault)
    → (if a then if b then if c then if d then if e then None else Some five
    else Some four else Some three else Some two else Some one) ≡ None
    → (a ≡ true) × (c ≡ true)
tests true true true d e one two three four five is = (refl, refl)
tests true true false d e one two three four five is = absurd (grind (arith, is))
tests true false c d e one two three four five is = absurd (grind (arith, is))
tests false b c d e one two three four five is = absurd (grind (arith, is))

le_of : (a b : ℕ) → nat_le a b ≡ true → a ≤ b
le_of a b is = grind (arith, is)

some_if : (own any : Bool) (e : Ends) (l : List Ends) → (own || any) ≡ true → (any ≡ true → 1 ≤ length l)
    → 1 ≤ length (if own then e ∷ l else l)
some_if true any e l is rest = omega arith
some_if false any e l is rest = rest is

some_part : (ss : List StageValues) → list_any (λ s. s.between) ss ≡ true → 1 ≤ length (part_of ss)
some_part [] is = absurd (grind (arith, is))
some_part (s ∷ ss) is =
    some_if s.between (list_any (λ t. t.between) ss) (ends_of (first_of s) (get_or s.lasts 1 0)) (part_of ss) is
    (some_part ss)

if_of : (own a b : Bool) → (if own then a else b) ≡ true → own ≡ true → a ≡ true
if_of true a b is so = is
if_of false a b is so = absurd (grind (arith, so))

ends_ordered : (s : StageValues) → has_one_time s ≡ true → s.between ≡ true → first_of s ≤ get_or s.lasts 1 0
ends_ordered s is so =
    let all = if_of s.between
    (nat_eq (length s.lasts) 2 && (nat_le (first_of s) (get_or s.lasts 1 0) && nat_le (get_or s.lasts 1 0) 4000))
    (nat_eq (length s.lasts) 1) is so in
    let two = both_of (nat_eq (length s.lasts) 2)
    (nat_le (first_of s) (get_or s.lasts 1 0) && nat_le (get_or s.lasts 1 0) 4000) all in
    let three = both_of (nat_le (first_of s) (get_or s.lasts 1 0)) (nat_le (get_or s.lasts 1 0) 4000) two.1 in
    le_of (first_of s) (get_or s.lasts 1 0) three.0

abbrev AreOrdered : List Ends → Type 0
AreOrdered l = (i : ℕ) → i < length l → (get_or l i (single 0)).least ≤ (get_or l i (single 0)).greatest

ordered_if : (own : Bool) (e : Ends) (l : List Ends) → (own ≡ true → e.least ≤ e.greatest) → AreOrdered l
    → AreOrdered (if own then e ∷ l else l)
ordered_if true e l one rest zero lt = one refl
ordered_if true e l one rest (suc i) lt = rest i (omega (arith, lt))
ordered_if false e l one rest i lt = rest i lt

ordered_part : (ss : List StageValues) → list_all has_one_time ss ≡ true → AreOrdered (part_of ss)
ordered_part [] is = λ i lt. absurd (omega (arith, lt))
ordered_part (s ∷ ss) is =
    let two = both_of (has_one_time s) (list_all has_one_time ss) is in
    ordered_if s.between (ends_of (first_of s) (get_or s.lasts 1 0)) (part_of ss) (ends_ordered s two.0)
    (ordered_part ss two.1)

below : (a b h n : ℕ) → 1 ≤ n → a + b + 1 ≤ h → a * n + b * n < h * n
below a b h n some le =
    let whole : (a + b + 1) * n ≤ h * n = mul-le-mul_right n le in
    let parts : (a + b + 1) * n ≡ (a + b) * n + 1 * n = add-mul (a + b) 1 n in
    let two : (a + b) * n ≡ a * n + b * n = add-mul a b n in
    let one : 1 * n ≡ n = omega arith in
    omega (arith, whole, parts, two, one, some)

pub answerable_is : (line : Line) (f : FaultValues) (loose : LooseFault) → has_interval f ≡ true
    → refusal_of line f ≡ None → IsLooseOf f loose → played_ticks line loose.part.items ≤ 4000
    → IsAnswerable line loose
answerable_is line f loose has well is room =
    let passed = tests (is_unswept f) (nat_le (length (part_of f.stages)) 3) (nat_le (horizon_of f) line.horizon)
    (list_all comes_in_time f.stages) (nat_le (borders_of f.stages) 99)
    borders.Swept borders.TooManyTimes (borders.Horizon (horizon_of f) line.tick_us) borders.ComesLate
    borders.TooManyBorders well in
    let one = both_of (nat_eq (length f.start) 1)
    (nat_eq (length f.trip_within) 1 && list_all has_one_time f.stages) passed.0 in
    let two = both_of (nat_eq (length f.trip_within) 1) (list_all has_one_time f.stages) one.1 in
    let ends = le_of (horizon_of f) line.horizon passed.1 in
    let both = most (greatest f.start + longest f.stages) (greatest f.start + greatest f.trip_within + 1)
    line.horizon ends in
    let begin = first_below f.start in
    let last = first_below f.trip_within in
    let low : get_or f.start 0 0 + loose.within + 1 ≤ line.horizon = omega (arith, both.1, begin, last, is.within_is) in
    record {
      some = subst (λ (p : List Ends). 1 ≤ length p) (sym is.part) (some_part f.stages has);
      few = is.few;
      borders = is.borders;
      within = is.within;
      ordered = subst (λ (p : List Ends). AreOrdered p) (sym is.part) (ordered_part f.stages two.1);
      before = λ n x some.
          subst (λ (k : ℕ). k + loose.within * n < line.horizon * n) (sym (is.starts n x))
          (below (get_or f.start 0 0) loose.within line.horizon n some low);
      room = room;
    }

-- ---- what is wrong with it

true_of : (a b : ℕ) → a ≤ b → nat_le a b ≡ true
true_of a b le = grind (arith, le)

false_of : (a b : ℕ) → b < a → nat_le a b ≡ false
false_of a b lt = grind (arith, lt)

abbrev long_of : Line → FaultValues → Option BordersFault
long_of line f = Some (borders.PlayedLong (played_ticks line (part_of f.stages)) line.tick_us)

pub well_is : (line : Line) (f : FaultValues) → refusal_of line f ≡ None
    → played_ticks line (part_of f.stages) ≤ 4000 → study_refusal line f ≡ None
well_is line f well room =
    ap (λ (why : Option BordersFault). unless_long line (played_ticks line (part_of f.stages)) why) well
    ∙ ap (λ (b : Bool). if b then None else long_of line f)
    (true_of (played_ticks line (part_of f.stages)) 4000 room)

pub long_is : (line : Line) (f : FaultValues) → refusal_of line f ≡ None
    → 4000 < played_ticks line (part_of f.stages)
    → study_refusal line f ≡ Some (borders.PlayedLong (played_ticks line (part_of f.stages)) line.tick_us)
long_is line f well long =
    ap (λ (why : Option BordersFault). unless_long line (played_ticks line (part_of f.stages)) why) well
    ∙ ap (λ (b : Bool). if b then None else long_of line f)
    (false_of (played_ticks line (part_of f.stages)) 4000 long)

pub fault_is : (line : Line) (f : FaultValues) (why : BordersFault) → refusal_of line f ≡ Some why
    → study_refusal line f ≡ Some why
fault_is line f why is =
    ap (λ (own : Option BordersFault). unless_long line (played_ticks line (part_of f.stages)) own) is
