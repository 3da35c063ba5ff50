-- Runs in a list, by their ends, and the values that they have.
use Rattle.std.proofs.Common.{◌≡◌, ◌≢◌, ℕ, zero, suc, ◌+◌, ◌-◌, ◌<◌, ◌≤◌, List, [], ◌∷◌, ◌++◌}
use Rattle.std.proofs.Common.{length, replicate, take, drop, get_or, refl, sym, ◌∙◌, ap, arith}
use Rattle.std.proofs.Common.{append_assoc, length-append, set, subst, ⊎_elim, leb, leb-true, true}
use Rattle.std.proofs.Common.{false}
use Rattle.std.proofs.lemmas.Bool.{cases_lt, leb-false}
use Rattle.std.proofs.lemmas.List.{take-append-drop, drop_more, length-replicate, get_or_default}
use Rattle.std.proofs.lemmas.List.{append-nil, replicate-append-replicate, take_more, drop_all}
use Rattle.std.proofs.lemmas.List.{set_at, length-take-le}
use Rattle.std.proofs.lemmas.List.Concat.{flat_map-append}
use Rattle.std.proofs.lemmas.List.Sorted.{IsPartitionedBy-leb}
use Rattle.std.specs.Prelude.{slice_get, Some}
use Rattle.std.specs.List.Sorted.{IsPartitionedBy, IsPartitionPoint}
use Rattle.run_signal.specs.{declared.tern.Tern.Tern, declared.tern.Tern.TheVariants.Zero}
use Rattle.run_waves.specs.declared.waves.runs.Stretch.{Stretch}
use Rattle.run_waves.specs.{declared.waves.runs.Run.Run, waves.Waves.run_of, waves.Waves.ticks_of, waves.Waves.levels_of}
use Rattle.run_waves.specs.{waves.Waves.runs_from, waves.Waves.AreApart, waves.Waves.HasThroughout, waves.Waves.IsRunAt}

pub levels_round : (front : List Run) (run : Run) (rest : List Run)
    → levels_of (front ++ run ∷ rest) ≡ levels_of front ++ (ticks_of run ++ levels_of rest)
levels_round front run rest = flat_map-append ticks_of front (run ∷ rest)

pub length-levels : (run : Run) (runs : List Run)
    → length (levels_of (run ∷ runs)) ≡ run.ticks + length (levels_of runs)
length-levels run runs =
    omega (
      arith,
      length-append (ticks_of run) (levels_of runs),
      length-replicate run.ticks run.level,
    )

pub some_ticks : (front : List Run) (run : Run) (rest : List Run) → AreApart (front ++ run ∷ rest)
    → 1 ≤ run.ticks
some_ticks [] run [] apart = apart
some_ticks [] run (next ∷ rest) apart = apart.0
some_ticks (f ∷ []) run rest apart = some_ticks [] run rest apart.2
some_ticks (f ∷ g ∷ front) run rest apart = some_ticks (g ∷ front) run rest apart.2

later_apart : (run : Run) (runs : List Run) → AreApart (run ∷ runs) → AreApart runs
later_apart run [] apart = tt
later_apart run (next ∷ runs) apart = apart.2

-- ---- runs by their ends

-- where they end, if the first begins at that tick
abbrev pub end_from : ℕ → List Stretch → ℕ
end_from from [] = from
end_from from (stretch ∷ stretches) = end_from stretch.end stretches

-- a stretch as a run
abbrev pub run_to : ℕ → Stretch → Run
run_to from stretch = run_of stretch.level (stretch.end - from)

pub runs_from-push : (from : ℕ) (stretches : List Stretch) (next : Stretch)
    → runs_from from (stretches ++ next ∷ [])
    ≡ runs_from from stretches ++ run_to (end_from from stretches) next ∷ []
runs_from-push from [] next = refl
runs_from-push from (x ∷ stretches) next =
    ap (λ (runs : List Run). run_to from x ∷ runs) (runs_from-push x.end stretches next)

pub length-runs_from : (from : ℕ) (stretches : List Stretch)
    → length (runs_from from stretches) ≡ length stretches
length-runs_from from [] = refl
length-runs_from from (x ∷ stretches) =
    (let rest = length-runs_from x.end stretches in omega arith)

pub ends_with_the_levels : (from : ℕ) (stretches : List Stretch)
    → AreApart (runs_from from stretches)
    → from + length (levels_of (runs_from from stretches)) ≡ end_from from stretches
ends_with_the_levels from [] apart = omega arith
ends_with_the_levels from (x ∷ stretches) apart =
    let rest = ends_with_the_levels x.end stretches
    (later_apart (run_to from x) (runs_from x.end stretches) apart) in
    let first : 1 ≤ x.end - from =
    some_ticks [] (run_to from x) (runs_from x.end stretches) apart in
    omega (arith, length-levels (run_to from x) (runs_from x.end stretches))

-- each ends after the tick at which the first begins
after_from : (from : ℕ) (stretches : List Stretch) (j : ℕ) (d : Stretch)
    → AreApart (runs_from from stretches) → j < length stretches
    → from < (get_or stretches j d).end
after_from from [] j d apart inside = absurd (omega arith)
after_from from (x ∷ stretches) zero d apart inside =
    let first : 1 ≤ x.end - from =
    some_ticks [] (run_to from x) (runs_from x.end stretches) apart in
    omega arith
after_from from (x ∷ stretches) (suc j) d apart inside =
    let first : 1 ≤ x.end - from =
    some_ticks [] (run_to from x) (runs_from x.end stretches) apart in
    let later = after_from x.end stretches j d
    (later_apart (run_to from x) (runs_from x.end stretches) apart) (omega arith) in
    omega arith

pub ends_rise : (from : ℕ) (stretches : List Stretch) → AreApart (runs_from from stretches)
    → (i j : ℕ) (d : Stretch) → i ≤ j → j < length stretches
    → (get_or stretches i d).end ≤ (get_or stretches j d).end
ends_rise from [] apart i j d order inside = absurd (omega arith)
ends_rise from (x ∷ stretches) apart zero zero d order inside = omega arith
ends_rise from (x ∷ stretches) apart zero (suc j) d order inside =
    let later = after_from x.end stretches j d
    (later_apart (run_to from x) (runs_from x.end stretches) apart) (omega arith) in
    omega arith
ends_rise from (x ∷ stretches) apart (suc i) zero d order inside = absurd (omega arith)
ends_rise from (x ∷ stretches) apart (suc i) (suc j) d order inside =
    ends_rise x.end stretches (later_apart (run_to from x) (runs_from x.end stretches) apart) i j d
    (omega arith) (omega arith)

-- the last of them ends where all do
pub last_end : (from : ℕ) (stretches : List Stretch) (d : Stretch) → 0 < length stretches
    → (get_or stretches (length stretches - 1) d).end ≡ end_from from stretches
last_end from [] d some = absurd (omega arith)
last_end from (x ∷ []) d some = refl
last_end from (x ∷ y ∷ stretches) d some =
    let e : length (x ∷ y ∷ stretches) - 1 ≡ suc (length (y ∷ stretches) - 1) = omega arith in
    ap (λ (i : ℕ). (get_or (x ∷ y ∷ stretches) i d).end) e
    ∙ last_end x.end (y ∷ stretches) d (omega arith)

-- ---- the run at a tick

-- the value at a tick of a run
pub in_run : (front rest : List Tern) (level : Tern) (n k : ℕ) → length front ≤ k
    → k < length front + n → slice_get (front ++ (replicate n level ++ rest)) k ≡ Some level
in_run [] rest level zero k low high = absurd (omega arith)
in_run [] rest level (suc n) zero low high = refl
in_run [] rest level (suc n) (suc k) low high = in_run [] rest level n k (omega arith) (omega arith)
in_run (x ∷ front) rest level n zero low high = absurd (omega arith)
in_run (x ∷ front) rest level n (suc k) low high =
    in_run front rest level n k (omega arith) (omega arith)

past_run : (rest : List Tern) (level : Tern) (n k : ℕ) → n ≤ k
    → slice_get (replicate n level ++ rest) k ≡ slice_get rest (k - n)
past_run rest level zero k low = (let e : k ≡ k - 0 = omega arith in ap (slice_get rest) e)
past_run rest level (suc n) zero low = absurd (omega arith)
past_run rest level (suc n) (suc k) low =
    past_run rest level n k (omega arith)
    ∙ (let e : k - n ≡ suc k - suc n = omega arith in ap (slice_get rest) e)

-- the first that ends after a tick has its value from the tick on
reached_from : (from : ℕ) (stretches : List Stretch) (i t : ℕ) (d : Stretch)
    → AreApart (runs_from from stretches) → i < length stretches → from ≤ t
    → ((j : ℕ) → j < i → (get_or stretches j d).end ≤ t)
    → (k : ℕ) → t ≤ k → k < (get_or stretches i d).end
    → slice_get (levels_of (runs_from from stretches)) (k - from)
    ≡ Some (get_or stretches i d).level
reached_from from [] i t d apart inside past before k low high = absurd (omega arith)
reached_from from (x ∷ stretches) zero t d apart inside past before k low high =
    in_run [] (levels_of (runs_from x.end stretches)) x.level (x.end - from) (k - from)
    (omega arith) (omega arith)
reached_from from (x ∷ stretches) (suc i) t d apart inside past before k low high =
    let gone : x.end ≤ t = before 0 (omega arith) in
    let first : 1 ≤ x.end - from =
    some_ticks [] (run_to from x) (runs_from x.end stretches) apart in
    let rest : List Tern = levels_of (runs_from x.end stretches) in
    let e : (k - from) - (x.end - from) ≡ k - x.end = omega arith in
    past_run rest x.level (x.end - from) (k - from) (omega arith)
    ∙ ap (slice_get rest) e
    ∙ reached_from x.end stretches i t d
    (later_apart (run_to from x) (runs_from x.end stretches) apart) (omega arith) gone
    (λ j lt. before (suc j) (omega arith)) k low high

pub reached : (stretches : List Stretch) (i t : ℕ) (d : Stretch)
    → AreApart (runs_from 0 stretches) → i < length stretches
    → ((j : ℕ) → j < i → (get_or stretches j d).end ≤ t)
    → HasThroughout (levels_of (runs_from 0 stretches)) (get_or stretches i d).level t
    (get_or stretches i d).end
reached stretches i t d apart inside before k low high =
    let e : k ≡ k - 0 = omega arith in
    ap (slice_get (levels_of (runs_from 0 stretches))) e
    ∙ reached_from 0 stretches i t d apart inside (omega arith) before k low high

pub ends_inside : (stretches : List Stretch) (i : ℕ) (d : Stretch)
    → AreApart (runs_from 0 stretches) → i < length stretches
    → (get_or stretches i d).end ≤ length (levels_of (runs_from 0 stretches))
ends_inside stretches i d apart inside =
    let rise = ends_rise 0 stretches apart i (length stretches - 1) d (omega arith) (omega arith) in
    omega (
      arith,
      rise,
      last_end 0 stretches d (omega arith),
      ends_with_the_levels 0 stretches apart,
    )

-- where all that end by a tick are passed, some are left, if the wave goes on
pub some_left : (stretches : List Stretch) (i t : ℕ) (d : Stretch)
    → AreApart (runs_from 0 stretches) → t < length (levels_of (runs_from 0 stretches))
    → i ≤ length stretches → ((j : ℕ) → j < i → (get_or stretches j d).end ≤ t)
    → i < length stretches
some_left [] i t d apart inside few before = absurd (omega arith)
some_left (x ∷ stretches) i t d apart inside few before =
    let all : List Stretch = x ∷ stretches in
    ⊎_elim
    (λ fewer. fewer)
    (λ whole. let last = before (length all - 1) (omega arith) in
    absurd (omega (
      arith,
      last,
      last_end 0 all d (omega arith),
      ends_with_the_levels 0 all apart,
    )))
    (cases_lt i (length all))

-- the runs end in order, as a search by halves asks
pub parted : (stretches : List Stretch) (t : ℕ) → AreApart (runs_from 0 stretches)
    → IsPartitionedBy (λ (s : Stretch). leb s.end t) stretches
parted stretches t apart =
    IsPartitionedBy-leb (λ (s : Stretch). s.end) stretches t
    (λ i j d order inside. ends_rise 0 stretches apart i j d order inside)

-- all that end by tick t stand before place i
abbrev pub PartsAt : List Stretch → ℕ → ℕ → Type 0
PartsAt stretches t i =
    IsPartitionPoint (λ (s : Stretch). leb s.end t ≡ true) (λ (s : Stretch). leb s.end t ≡ false)
    stretches i

-- what a search by halves finds is the run at the tick
pub run_by_halves : (stretches : List Stretch) (t i : ℕ) → AreApart (runs_from 0 stretches)
    → t < length (levels_of (runs_from 0 stretches)) → i ≤ length stretches
    → PartsAt stretches t i → IsRunAt stretches t i
run_by_halves stretches t i apart goes_on few point =
    let before : (d : Stretch) (j : ℕ) → j < i → (get_or stretches j d).end ≤ t =
    λ d j lt. leb-true _ _ (point.0 j d (omega arith) lt) in
    let none : Stretch = record { level = Zero; end = 0 } in
    let there : i < length stretches =
    some_left stretches i t none apart goes_on few (before none) in
    record {
      there = there;
      later = λ d. leb-false _ _ (point.1 i d (omega arith) there);
      past = before;
    }

-- a run is the one at a tick before it ends where the run before it does not end after the tick
pub run_next : (stretches : List Stretch) (t i : ℕ) (d : Stretch) → AreApart (runs_from 0 stretches)
    → i < length stretches → 1 ≤ i → t < (get_or stretches i d).end
    → (get_or stretches (i - 1) d).end ≤ t → IsRunAt stretches t i
run_next stretches t i d apart there some later past = record {
  there = there;
  later = λ e. rw (get_or_default stretches i e d there) later;
  past = λ e j lt.
      let rise = ends_rise 0 stretches apart j (i - 1) d (omega arith) (omega arith) in
      rw (get_or_default stretches j e d (omega arith)) (omega arith);
}

-- the run at a tick, in the wave of these runs
module _ (stretches : List Stretch) (wave : List Tern)
    (apart : AreApart (runs_from 0 stretches))
    (view : levels_of (runs_from 0 stretches) ≡ wave) where
  pub run_inside : (t i : ℕ) (d : Stretch) → IsRunAt stretches t i
      → (get_or stretches i d).end ≤ length wave
  run_inside t i d run =
      omega (arith, ap length view, ends_inside stretches i d apart run.there)

  pub run_level : (t i : ℕ) (d : Stretch) → IsRunAt stretches t i
      → HasThroughout wave (get_or stretches i d).level t (get_or stretches i d).end
  run_level t i d run =
      subst (λ (w : List Tern). HasThroughout w (get_or stretches i d).level t
      (get_or stretches i d).end) view
      (reached stretches i t d apart run.there (run.past d))

-- ---- one run more

-- the last run grows
grown_apart : (front : List Run) (level : Tern) (n m : ℕ)
    → AreApart (front ++ run_of level n ∷ []) → AreApart (front ++ run_of level (n + m) ∷ [])
grown_apart [] level n m apart = omega arith
grown_apart (f ∷ []) level n m apart = (apart.0, apart.1, omega (arith, apart.2))
grown_apart (f ∷ g ∷ front) level n m apart =
    (apart.0, apart.1, grown_apart (g ∷ front) level n m apart.2)

-- a run after a run with another value
next_apart : (front : List Run) (last run : Run) → AreApart (front ++ last ∷ [])
    → last.level ≢ run.level → 1 ≤ run.ticks → AreApart ((front ++ last ∷ []) ++ run ∷ [])
next_apart [] last run apart differs some = (apart, differs, some)
next_apart (f ∷ []) last run apart differs some =
    (apart.0, apart.1, (apart.2, differs, some))
next_apart (f ∷ g ∷ front) last run apart differs some =
    (apart.0, apart.1, next_apart (g ∷ front) last run apart.2 differs some)

-- the list up to its last
up_to_last : {A : Type 0} (xs : List A) (count : ℕ) (last d : A) → count ≡ length xs → 0 < count
    → last ≡ get_or xs (count - 1) d → xs ≡ take (count - 1) xs ++ last ∷ []
up_to_last {A} xs count last d all some is =
    sym (take-append-drop (count - 1) xs)
    ∙ ap (λ (rest : List A). take (count - 1) xs ++ rest)
    (drop_more xs (count - 1) d (omega arith)
    ∙ ap (λ (x : A). x ∷ drop (count - 1 + 1) xs) (sym is)
    ∙ ap (λ (rest : List A). last ∷ rest) (drop_all (count - 1 + 1) xs (omega arith)))

-- what appending so many ticks with this value is to leave
pub record Appends (old new : List Run) (level : Tern) (n : ℕ) : Type 0 where
  pub apart : AreApart new
  pub levels : levels_of new ≡ levels_of old ++ replicate n level

-- the last run, with this value, grows
grown_levels : (front : List Run) (level : Tern) (n m : ℕ)
    → levels_of (front ++ run_of level (n + m) ∷ [])
    ≡ levels_of (front ++ run_of level n ∷ []) ++ replicate m level
grown_levels front level n m =
    let before : List Tern = levels_of front in
    let first : List Tern = replicate n level in
    let more : List Tern = replicate m level in
    levels_round front (run_of level (n + m)) []
    ∙ ap (λ (w : List Tern). before ++ w)
    (append-nil (replicate (n + m) level) ∙ sym (replicate-append-replicate n m level))
    ∙ sym (append_assoc before first more)
    ∙ ap (λ (w : List Tern). (before ++ w) ++ more) (sym (append-nil first))
    ∙ ap (λ (w : List Tern). w ++ more) (sym (levels_round front (run_of level n) []))

pub new_levels : (runs : List Run) (run : Run)
    → levels_of (runs ++ run ∷ []) ≡ levels_of runs ++ ticks_of run
new_levels runs run =
    levels_round runs run []
    ∙ ap (λ (w : List Tern). levels_of runs ++ w) (append-nil (ticks_of run))

-- how many ticks the runs have
abbrev pub ticks_in : List Stretch → ℕ
ticks_in stretches = length (levels_of (runs_from 0 stretches))

pub last_grows : (stretches : List Stretch) (count : ℕ) (last d : Stretch) (level : Tern) (end : ℕ)
    → AreApart (runs_from 0 stretches) → count ≡ length stretches → 0 < count
    → last ≡ get_or stretches (count - 1) d → last.level ≡ level → ticks_in stretches < end
    → Appends (runs_from 0 stretches)
    (runs_from 0 (set stretches (count - 1) (record { level = last.level; end = end })))
    level (end - ticks_in stretches)
last_grows stretches count last d level end apart all some is same later =
    let front : List Stretch = take (count - 1) stretches in
    let from : ℕ = end_from 0 front in
    let grown : Stretch = record { level = last.level; end = end } in
    let whole : stretches ≡ front ++ last ∷ [] = up_to_last stretches count last d all some is in
    let old : runs_from 0 stretches ≡ runs_from 0 front ++ run_to from last ∷ [] =
    ap (runs_from 0) whole ∙ runs_from-push 0 front last in
    let new : runs_from 0 (set stretches (count - 1) grown)
    ≡ runs_from 0 front ++ run_to from grown ∷ [] =
    ap (λ (r : List Stretch). runs_from 0 (set r (count - 1) grown)) whole
    ∙ ap (runs_from 0)
    (set_at front last [] grown (count - 1) (length-take-le (count - 1) stretches (omega arith)))
    ∙ runs_from-push 0 front grown in
    let n : ℕ = last.end - from in
    let m : ℕ = end - ticks_in stretches in
    let P : List Run → Type 0 = λ r. AreApart r in
    let first : 1 ≤ n = some_ticks (runs_from 0 front) (run_to from last) [] (subst P old apart) in
    let ends : last.end ≡ ticks_in stretches =
    ap (λ (s : Stretch). s.end) is
    ∙ (let e : count - 1 ≡ length stretches - 1 = omega arith in
    ap (λ (i : ℕ). (get_or stretches i d).end) e)
    ∙ last_end 0 stretches d (omega arith)
    ∙ sym (ends_with_the_levels 0 stretches apart)
    ∙ (let e : 0 + ticks_in stretches ≡ ticks_in stretches = omega arith in e) in
    let sum : n + m ≡ end - from = omega arith in
    let grew : run_of last.level (n + m) ≡ run_to from grown = ap (run_of last.level) sum in
    let whole_new : runs_from 0 front ++ run_of last.level (n + m) ∷ []
    ≡ runs_from 0 (set stretches (count - 1) grown) =
    ap (λ (r : Run). runs_from 0 front ++ r ∷ []) grew ∙ sym new in
    record {
      apart = subst P whole_new
          (grown_apart (runs_from 0 front) last.level n m (subst P old apart));
      levels = ap levels_of (sym whole_new)
          ∙ grown_levels (runs_from 0 front) last.level n m
          ∙ ap (λ (w : List Tern). w ++ replicate m last.level) (sym (ap levels_of old))
          ∙ ap (λ (v : Tern). levels_of (runs_from 0 stretches) ++ replicate m v) same;
    }

-- a run is appended
appended : (stretches : List Stretch) (level : Tern) (end : ℕ)
    → AreApart (runs_from 0 stretches)
    → runs_from 0 (stretches ++ record { level = level; end = end } ∷ [])
    ≡ runs_from 0 stretches ++ run_of level (end - ticks_in stretches) ∷ []
appended stretches level end apart =
    runs_from-push 0 stretches (record { level = level; end = end })
    ∙ (let e : end - end_from 0 stretches ≡ end - ticks_in stretches =
    omega (arith, ends_with_the_levels 0 stretches apart) in
    ap (λ (n : ℕ). runs_from 0 stretches ++ run_of level n ∷ []) e)

pub first_stretch : (stretches : List Stretch) (level : Tern) (end : ℕ) → length stretches ≡ 0
    → ticks_in stretches < end
    → Appends (runs_from 0 stretches)
    (runs_from 0 (stretches ++ record { level = level; end = end } ∷ []))
    level (end - ticks_in stretches)
first_stretch [] level end none later = record {
  apart = omega arith;
  levels = new_levels [] (run_of level (end - 0));
}
first_stretch (x ∷ stretches) level end none later = absurd (omega arith)

pub next_stretch : (stretches : List Stretch) (count : ℕ) (last d : Stretch) (level : Tern)
    (end : ℕ) → AreApart (runs_from 0 stretches) → count ≡ length stretches → 0 < count
    → last ≡ get_or stretches (count - 1) d → last.level ≢ level → ticks_in stretches < end
    → Appends (runs_from 0 stretches)
    (runs_from 0 (stretches ++ record { level = level; end = end } ∷ []))
    level (end - ticks_in stretches)
next_stretch stretches count last d level end apart all some is differs later =
    let front : List Stretch = take (count - 1) stretches in
    let from : ℕ = end_from 0 front in
    let whole : stretches ≡ front ++ last ∷ [] = up_to_last stretches count last d all some is in
    let old : runs_from 0 stretches ≡ runs_from 0 front ++ run_to from last ∷ [] =
    ap (runs_from 0) whole ∙ runs_from-push 0 front last in
    let run : Run = run_of level (end - ticks_in stretches) in
    let new = appended stretches level end apart in
    let P : List Run → Type 0 = λ r. AreApart r in
    let Q : List Run → Type 0 = λ r. AreApart (r ++ run ∷ []) in
    record {
      apart = subst P (sym new)
          (subst Q (sym old)
          (next_apart (runs_from 0 front) (run_to from last) run (subst P old apart) differs
          (omega arith)));
      levels = ap levels_of new ∙ new_levels (runs_from 0 stretches) run;
    }

-- the runs of the first i + 1 stretches
pub one_run_more : (stretches : List Stretch) (i : ℕ) (d : Stretch) → i < length stretches
    → runs_from 0 (take (i + 1) stretches)
    ≡ runs_from 0 (take i stretches)
    ++ run_to (end_from 0 (take i stretches)) (get_or stretches i d) ∷ []
one_run_more stretches i d inside =
    ap (runs_from 0) (take_more stretches i d inside)
    ∙ runs_from-push 0 (take i stretches) (get_or stretches i d)

pub end_from-push : (from : ℕ) (stretches : List Stretch) (next : Stretch)
    → end_from from (stretches ++ next ∷ []) ≡ next.end
end_from-push from [] next = refl
end_from-push from (x ∷ stretches) next = end_from-push x.end stretches next

-- the first i end before the next does
pub ends_before : (from : ℕ) (stretches : List Stretch) (i : ℕ) (d : Stretch)
    → AreApart (runs_from from stretches) → i < length stretches
    → end_from from (take i stretches) ≤ (get_or stretches i d).end
ends_before from [] i d apart inside = absurd (omega arith)
ends_before from (x ∷ stretches) zero d apart inside =
    (let after = after_from from (x ∷ stretches) 0 d apart (omega arith) in omega arith)
ends_before from (x ∷ stretches) (suc i) d apart inside =
    ends_before x.end stretches i d
    (later_apart (run_to from x) (runs_from x.end stretches) apart) (omega arith)
