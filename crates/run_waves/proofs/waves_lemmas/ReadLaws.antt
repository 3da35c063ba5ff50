-- What is read of a text is what is written of it.
use Rattle.std.proofs.Common.{◌≡◌, ◌≢◌, ◌^◌, ℕ, ◌+◌, ◌-◌, ◌<◌, ◌≤◌, Bool, true, false, List, []}
use Rattle.std.proofs.Common.{◌∷◌, ◌++◌, length, take, drop, get_or, Some, None, cond, not, refl}
use Rattle.std.proofs.Common.{sym, ◌∙◌, ap, arith, append_assoc, subst, ne_eqb, eq-eqb, inl, inr}
use Rattle.std.proofs.Common.{decimal, fold, leb-true, eqb}
use Rattle.std.proofs.lemmas.Bool.{le-leb, cases_eq, and_parts}
use Rattle.std.proofs.lemmas.Fmt.{decimal-digits_value}
use Rattle.std.proofs.lemmas.List.{take-append-drop, drop_more, drop_all, append-nil}
use Rattle.std.proofs.lemmas.List.Sums.{prefix_len_stops}
use Rattle.std.proofs.lemmas.Option.{none-some, same_Some, cond_some}
use Rattle.std.proofs.lemmas.Str.Parse.{IsDigitsTest, FoldsDigits, numerals_by_fold}
use Rattle.std.specs.Prelude.{nat_le, Option}
use Rattle.std.specs.List.{list_all, position_or_len}
use Rattle.base_text.specs.store.Number.{is_digit, with_digit, digits_value, decimal_value, number_of}
use Rattle.base_text.specs.store.DigitLaws.{digit_is}
use Rattle.run_signal.specs.declared.tern.Tern.{Tern}
use Rattle.run_signal.specs.declared.tern.Tern.TheVariants.{Zero, One, Unknown}
use Rattle.run_waves.specs.waves.Waves.{run_of, levels_of, AreApart, ticks_of, AreRunsOf}
use Rattle.base_text.specs.lines.Lines.{is_space}
use Rattle.run_waves.specs.waves.Text.{gap, item_text, items_text, level_letter, level_in}
use Rattle.run_waves.specs.waves.Text.{run_with, run_in, runs_of, runs_text}
use Rattle.run_waves.specs.declared.waves.runs.Run.{Run}
use Rattle.run_waves.proofs.waves_lemmas.RunLaws.{new_levels}
use Rattle.run_waves.proofs.waves_lemmas.LongestRuns.{runs_of-levels_of}
use Rattle.run_waves.proofs.waves_lemmas.TextLaws.{ReadsOn, items_more}

-- ---- a number that is read is written by the same digits

are_digits_by : IsDigitsTest (λ ds. list_all is_digit ds ≡ true)
are_digits_by = record {
  empty = refl;
  parts = λ c cs all. (let both = and_parts (is_digit c) (list_all is_digit cs) all in
      (digit_is c both.0, both.1));
  more = λ c cs range all.
      rw (le-leb 48 c range.0, le-leb c 57 range.1, all) refl;
}

reads_digits : FoldsDigits (λ n ds. fold with_digit n ds)
reads_digits = record {
  empty = λ n. refl;
  more = λ n c cs range. refl;
}

digits_back : (ds : List ℕ) (n : ℕ) → 0 < length ds → (get_or ds 0 0 ≡ 48 → length ds ≡ 1)
    → digits_value ds ≡ Some n → ds ≡ decimal n
digits_back ds n some alone read =
    let told = cond_some _ (decimal_value ds) n read in
    let both = and_parts (list_all is_digit ds) (nat_le (decimal_value ds) (2 ^ 32 - 1)) told.0 in
    let small = leb-true (decimal_value ds) (2 ^ 32 - 1) both.1 in
    sym (decimal-digits_value
    (numerals_by_fold (λ (l : List ℕ). list_all is_digit l ≡ true) are_digits_by
    (λ k l. fold with_digit k l) reads_digits)
    ds both.0 some alone (omega arith))
    ∙ ap decimal told.1

number_back : (ds : List ℕ) (n : ℕ) → number_of ds ≡ Some n → ds ≡ decimal n
number_back [] n read = absurd (none-some n read)
number_back (c ∷ []) n read = digits_back (c ∷ []) n (omega arith) (λ _. refl) read
number_back (c ∷ d ∷ ds) n read =
    let by : Bool → Option ℕ = λ t. cond t None (digits_value (c ∷ d ∷ ds)) in
    elim (cases_eq c 48) [
      | inl zero ↦ absurd (none-some n (sym (ap by (eq-eqb c 48 zero)) ∙ read))
      | inr other ↦ digits_back (c ∷ d ∷ ds) n (omega arith) (λ zero. absurd (other zero))
          (sym (ap by (ne_eqb c 48 other)) ∙ read)
    ]

-- ---- and so is an item

letter_back : (letter : ℕ) (level : Tern) → level_in letter ≡ Some level
    → letter ≡ level_letter level
letter_back letter level read =
    let third : Bool → Option Tern = λ t. cond t (Some Unknown) None in
    let second : Bool → Option Tern = λ t. cond t (Some One) (third (eqb letter 63)) in
    let first : Bool → Option Tern = λ t. cond t (Some Zero) (second (eqb letter 49)) in
    elim (cases_eq letter 48) [
      | inl zero ↦ zero
          ∙ ap level_letter (same_Some Zero level (sym (ap first (eq-eqb letter 48 zero)) ∙ read))
      | inr more ↦ (let later : second (eqb letter 49) ≡ Some level =
          sym (ap first (ne_eqb letter 48 more)) ∙ read in
          elim (cases_eq letter 49) [
            | inl one ↦ one
                ∙ ap level_letter (same_Some One level (sym (ap second (eq-eqb letter 49 one)) ∙ later))
            | inr most ↦ (let last : third (eqb letter 63) ≡ Some level =
                sym (ap second (ne_eqb letter 49 most)) ∙ later in
                let told = cond_some (eqb letter 63) Unknown level last in
                elim (cases_eq letter 63) [
                  | inl mark ↦ mark ∙ ap level_letter told.1
                  | inr none ↦ absurd (let no = ne_eqb letter 63 none in cc (no, told.0))
                ])
          ])
    ]

parts_back : (level : Option Tern) (ticks : Option ℕ) (run : Run)
    → run_with level ticks ≡ Some run → (level ≡ Some run.level) × (ticks ≡ Some run.ticks)
parts_back None ticks run read = absurd (none-some run read)
parts_back (Some level) None run read = absurd (none-some run read)
parts_back (Some level) (Some ticks) run read =
    let same = same_Some (run_of level ticks) run read in
    (ap (λ (r : Run). Some r.level) same, ap (λ (r : Run). Some r.ticks) same)

item_back : (item : List ℕ) (run : Run) → run_in item ≡ Some run → item ≡ item_text run
item_back [] run read = absurd (none-some run read)
item_back (letter ∷ []) run read = absurd (none-some run read)
item_back (letter ∷ colon ∷ digits) run read =
    let by : Bool → Option Run =
    λ t. cond t (run_with (level_in letter) (number_of digits)) None in
    elim (cases_eq colon 58) [
      | inl is ↦ (let parts = parts_back (level_in letter) (number_of digits) run
          (sym (ap by (eq-eqb colon 58 is)) ∙ read) in
          ap (λ (l : ℕ). l ∷ colon ∷ digits) (letter_back letter run.level parts.0)
          ∙ ap (λ (b : ℕ). level_letter run.level ∷ b ∷ digits) is
          ∙ ap (λ (ds : List ℕ). level_letter run.level ∷ 58 ∷ ds)
          (number_back digits run.ticks parts.1))
      | inr other ↦ absurd (none-some run (sym (ap by (ne_eqb colon 58 other)) ∙ read))
    ]

-- ---- the value of the last run

abbrev pub last_level : List Run → Option Tern
last_level [] = None
last_level (run ∷ []) = Some run.level
last_level (run ∷ next ∷ runs) = last_level (next ∷ runs)

last_pushed : (runs : List Run) (run : Run) → last_level (runs ++ run ∷ []) ≡ Some run.level
last_pushed [] run = refl
last_pushed (a ∷ []) run = refl
last_pushed (a ∷ b ∷ runs) run = last_pushed (b ∷ runs) run

pushed_apart : (runs : List Run) (run : Run) → AreApart runs → 1 ≤ run.ticks
    → (last_level runs ≡ Some run.level → ⊥) → AreApart (runs ++ run ∷ [])
pushed_apart [] run apart some other = some
pushed_apart (a ∷ []) run apart some other = (apart, (λ e. other (ap (λ (v : Tern). Some v) e)), some)
pushed_apart (a ∷ b ∷ runs) run apart some other =
    (apart.0, apart.1, pushed_apart (b ∷ runs) run apart.2 some other)

next_differs : (front : List Run) (run : Run) (rest : List Run) → AreApart (front ++ run ∷ rest)
    → last_level front ≡ Some run.level → ⊥
next_differs [] run rest apart same = none-some _ same
next_differs (a ∷ []) run rest apart same = apart.1 (same_Some _ _ same)
next_differs (a ∷ b ∷ front) run rest apart same =
    next_differs (b ∷ front) run rest apart.2 same

front_apart : (front rest : List Run) → AreApart (front ++ rest) → AreApart front
front_apart [] rest apart = tt
front_apart (a ∷ []) [] apart = apart
front_apart (a ∷ []) (b ∷ rest) apart = apart.0
front_apart (a ∷ b ∷ front) rest apart =
    (apart.0, apart.1, front_apart (b ∷ front) rest apart.2)

-- ---- the runs that are read so far

-- the text is theirs, and then the rest
pub record HasRead (text : List ℕ) (wave : List Tern) (last : Option Tern) (rest : List ℕ)
    : Type 0 where
  pub runs : List Run
  pub apart : AreApart runs
  pub levels : wave ≡ levels_of runs
  pub last_is : last ≡ last_level runs
  pub split : text ≡ items_text runs ++ (gap (length runs) ++ rest)

pub has_read_none : (text : List ℕ) → HasRead text [] None text
has_read_none text = record {
  runs = [];
  apart = tt;
  levels = refl;
  last_is = refl;
  split = refl;
}

-- a wave of which the text is has no run there that goes on with the last value
pub no_run_joins : (runs : List Run) (horizon : ℕ) (text : List ℕ) (wave : List Tern)
    (last : Option Tern) (rest : List ℕ) → AreRunsOf runs horizon
    → (r : ReadsOn runs horizon wave rest) → HasRead text wave last rest
    → last ≡ Some r.next.level → ⊥
no_run_joins runs horizon text wave last rest are r h same =
    let P : List Run → Type 0 = λ l. AreApart l in
    let apart : AreApart (r.done ++ r.next ∷ r.later) = subst P r.all are.apart in
    let done : r.done ≡ h.runs =
    sym (runs_of-levels_of r.done (front_apart r.done (r.next ∷ r.later) apart))
    ∙ ap runs_of (sym r.read ∙ h.levels)
    ∙ runs_of-levels_of h.runs h.apart in
    next_differs r.done r.next r.later apart (ap last_level done ∙ sym h.last_is ∙ same)

-- a byte that does not fail to be a space is one
space_is : (byte : ℕ) → not (is_space byte) ≡ false → byte ≡ 32
space_is byte stops =
    elim (cases_eq byte 32) [
      | inl is ↦ is
      | inr other ↦ absurd (let no : true ≡ false =
          sym (ap not (ne_eqb byte 32 other)) ∙ stops in cc)
    ]

gap_after : (runs : List Run) (run : Run) → 32 ∷ [] ≡ gap (length (runs ++ run ∷ []))
gap_after [] run = refl
gap_after (a ∷ runs) run = refl

module _ (text : List ℕ) (wave : List Tern) (last : Option Tern) (rest : List ℕ) (end : ℕ)
    (run : Run) (h : HasRead text wave last rest) (found : Some run ≡ run_in (take end rest))
    (some : 1 ≤ run.ticks) (other : last ≡ Some run.level → ⊥) where
  all_apart : AreApart (h.runs ++ run ∷ [])
  all_apart = pushed_apart h.runs run h.apart some (λ same. other (h.last_is ∙ same))

  all_levels : levels_of (h.runs ++ run ∷ []) ≡ wave ++ ticks_of run
  all_levels = new_levels h.runs run ∙ ap (λ (w : List Tern). w ++ ticks_of run) (sym h.levels)

  split_on : text ≡ items_text (h.runs ++ run ∷ []) ++ drop end rest
  split_on =
      let before : List ℕ = items_text h.runs in
      let between : List ℕ = gap (length h.runs) in
      let item : take end rest ≡ item_text run = item_back (take end rest) run (sym found) in
      h.split
      ∙ ap (λ (r : List ℕ). before ++ (between ++ r))
      (sym (take-append-drop end rest)
      ∙ ap (λ (i : List ℕ). i ++ drop end rest) item)
      ∙ ap (λ (r : List ℕ). before ++ r) (sym (append_assoc between (item_text run) (drop end rest)))
      ∙ sym (append_assoc before (between ++ item_text run) (drop end rest))
      ∙ ap (λ (t : List ℕ). t ++ drop end rest) (sym (items_more h.runs run))

  -- where the text ends with the item, it is the text of the wave
  pub whole_is_read : end ≡ length rest → runs_text (wave ++ ticks_of run) ≡ text
  whole_is_read whole =
      let none : drop end rest ≡ [] = ap (λ n. drop n rest) whole ∙ drop_all (length rest) rest (omega arith) in
      ap runs_text (sym all_levels)
      ∙ ap items_text (runs_of-levels_of (h.runs ++ run ∷ []) all_apart)
      ∙ sym (split_on
      ∙ ap (λ (r : List ℕ). items_text (h.runs ++ run ∷ []) ++ r) none
      ∙ append-nil (items_text (h.runs ++ run ∷ [])))

  -- else it goes on after a space
  space_next : end ≡ position_or_len is_space rest → end ≤ length rest → end ≢ length rest
      → drop end rest ≡ 32 ∷ drop (end + 1) rest
  space_next place inside goes_on =
      let stops = prefix_len_stops (λ b. not (is_space b)) rest 0 (omega arith) in
      drop_more rest end 0 (omega arith)
      ∙ ap (λ (b : ℕ). b ∷ drop (end + 1) rest) (space_is (get_or rest end 0)
      (ap (λ n. not (is_space (get_or rest n 0))) place ∙ stops))

  pub more_is_read : end ≡ position_or_len is_space rest → end ≤ length rest
      → end ≢ length rest
      → HasRead text (wave ++ ticks_of run) (Some run.level) (drop (end + 1) rest)
  more_is_read place inside goes_on = record {
    runs = h.runs ++ run ∷ [];
    apart = all_apart;
    levels = sym all_levels;
    last_is = sym (last_pushed h.runs run);
    split = split_on
        ∙ ap (λ (r : List ℕ). items_text (h.runs ++ run ∷ []) ++ r)
        (space_next place inside goes_on ∙ ap (λ (g : List ℕ). g ++ drop (end + 1) rest) (gap_after h.runs run));
  }
