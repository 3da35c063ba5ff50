-- The intervals of a line's parameters, by their places.
use Rattle.std.proofs.Common.{◌≡◌, ◌+◌, ◌<◌, ◌≤◌, ◌++◌, ℕ, zero, suc, List, [], ◌∷◌, length, take}
use Rattle.std.proofs.Common.{◌&&◌, ◌==◌, Bool, true, false, None, subst}
use Rattle.std.proofs.Common.{get_or, Option, Some, refl, sym, ap, ◌∙◌, arith, length-append}
use Rattle.std.proofs.lemmas.List.{take_more, length-map}
use Rattle.std.proofs.lemmas.Bool.{and_parts, eqb-true}
use Rattle.std.specs.Prelude.{option_map, unwrap_or}
use Rattle.model_line.specs.Settings.{owned_by, terminal_settings, settings_of_terminals}
use Rattle.model_line.specs.Settings.{setting_place}
use Rattle.model_line.specs.Intervals.{leasts, greatests}
use Rattle.model_line.specs.{declared.line.Line.Line, declared.bounds.Bounds.Bounds}
use Rattle.model_line.specs.{declared.line.Param.Param, declared.line.Scheme.Scheme}
use Rattle.model_line.specs.{declared.line.Terminal.Terminal, declared.line.Owner.Owner}
use Rattle.model_line.specs.{declared.line.Setting.Setting, Parameters.param_number}
use Rattle.model_line.specs.declared.line.Owner.TheVariants as owner
use Rattle.file_line.specs.{Lines.intervals_of, Canonical.interval_of, Canonical.setting_interval}
use Rattle.file_line.proofs.TimeLaws.{IsTime}

-- all intervals of a line
abbrev pub intervals : Line → List Bounds
intervals line = intervals_of line.params.items

in_list :
    (ps : List Param) (i : ℕ) (d : Bounds) → i < length ps
    → get_or (intervals_of ps) i d
    ≡ record { least = get_or (leasts ps) i 0; greatest = get_or (greatests ps) i 0 }
in_list [] i d lt = absurd (omega arith)
in_list (p ∷ ps) zero d lt = refl
in_list (p ∷ ps) (suc i) d lt = in_list ps i d (omega arith)

pub length-intervals : (line : Line) → length (intervals line) ≡ length line.params.items
length-intervals line =
    let f : Param → Bounds = λ p. record { least = p.least; greatest = p.greatest } in
    length-map line.params.items f

-- the next interval
pub take_next :
    (line : Line) (i : ℕ) → i < length line.params.items
    → take i (intervals line) ++ interval_of line i ∷ [] ≡ take (i + 1) (intervals line)
take_next line i lt =
    let d : Bounds = record { least = 0; greatest = 0 } in
    let within : i < length (intervals line) = rw (length-intervals line) lt in
    let at : get_or (intervals line) i d ≡ interval_of line i = in_list line.params.items i d lt in
    sym (rw at at (take_more (intervals line) i d within))

-- each is an interval of times
pub times_at_place : (line : Line) (i : ℕ) → i < length line.params.items
    → IsTime 0 (interval_of line i)
times_at_place line i lt =
    let within : i < length (leasts line.params.items) =
    rw (length-map line.params.items (λ (p : Param). p.least)) lt in
    let range = line.ends_in_range i within in
    record { ordered = range.0; within = range.1; enough = omega arith }

-- the interval of a setting whose number is known
pub interval_at :
    (line : Line) (o : Owner) (x : Setting) (n i : ℕ) (place : Option ℕ)
    → param_number line o x ≡ option_map (λ j. n + j) place → place ≡ Some i
    → setting_interval line o x ≡ interval_of line (n + i)
interval_at line o x n i place number is =
    let whole : param_number line o x ≡ Some (n + i) =
    number ∙ ap (λ (p : Option ℕ). option_map (λ j. n + j) p) is in
    ap (λ (p : Option ℕ). interval_of line (unwrap_or p 0)) whole

-- these settings of an owner stand at the places from j on
abbrev pub ArePlaced : Line → Owner → ℕ → List Setting → Type 0
ArePlaced line o j [] = Unit {0}
ArePlaced line o j (x ∷ xs) =
    (setting_interval line o x ≡ interval_of line j) × ArePlaced line o (j + 1) xs

-- so do the first of them, and the others behind these
pub placed_parts :
    (line : Line) (o : Owner) (j : ℕ) (xs ys : List Setting) → ArePlaced line o j (xs ++ ys)
    → ArePlaced line o j xs × ArePlaced line o (j + length xs) ys
placed_parts line o j [] ys placed =
    let same : j ≡ j + 0 = omega arith in
    (tt, subst (λ i. ArePlaced line o i ys) same placed)
placed_parts line o j (x ∷ xs) ys placed =
    let same : j + 1 + length xs ≡ j + length (x ∷ xs) = omega arith in
    let rest = placed_parts line o (j + 1) xs ys placed.1 in
    ((placed.0, rest.0), subst (λ i. ArePlaced line o i ys) same rest.1)

-- each of these stands in the list where it is counted, from i on
abbrev is_place : ℕ → Option ℕ → Bool
is_place i None = false
is_place i (Some j) = j == i

abbrev pub in_place : List Setting → ℕ → List Setting → Bool
in_place all i [] = true
in_place all i (x ∷ xs) = is_place i (setting_place all x) && in_place all (i + 1) xs

the_place : (i : ℕ) (place : Option ℕ) → is_place i place ≡ true → place ≡ Some i
the_place i None test = absurd (cc)
the_place i (Some j) test = ap Some (eqb-true j i test)

-- so they are placed as they are numbered
pub placed_from :
    (line : Line) (o : Owner) (n : ℕ) (all : List Setting)
    → ((x : Setting) → param_number line o x ≡ option_map (λ i. n + i) (setting_place all x))
    → (i : ℕ) (xs : List Setting) → in_place all i xs ≡ true → ArePlaced line o (n + i) xs
placed_from line o n all number i [] test = tt
placed_from line o n all number i (x ∷ xs) test =
    let parts = and_parts (is_place i (setting_place all x)) (in_place all (i + 1) xs) test in
    let next : n + (i + 1) ≡ n + i + 1 = omega arith in (
      interval_at line o x n i (setting_place all x) (number x)
          (the_place i (setting_place all x) parts.0),
      subst (λ j. ArePlaced line o j xs) next
          (placed_from line o n all number (i + 1) xs parts.1),
    )

-- some terminals have no more settings than all
pub settings_within :
    (s : Scheme) (j k : ℕ) (ts : List Terminal)
    → length (settings_of_terminals s j (take k ts)) ≤ length (settings_of_terminals s j ts)
settings_within s j zero ts = omega arith
settings_within s j (suc k) [] = omega arith
settings_within s j (suc k) (t ∷ ts) =
    omega (
      arith,
      settings_within s (j + 1) k ts,
      length-append (owned_by (owner.Terminal j) (terminal_settings s t))
          (settings_of_terminals s (j + 1) (take k ts)),
      length-append (owned_by (owner.Terminal j) (terminal_settings s t))
          (settings_of_terminals s (j + 1) ts),
    )
