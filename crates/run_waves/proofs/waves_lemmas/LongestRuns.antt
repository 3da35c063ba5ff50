-- The runs of a wave are the longest runs of equal values in it.
use Rattle.std.proofs.Common.{◌≡◌, ◌≢◌, ℕ, zero, suc, ◌-◌, ◌≤◌, List, [], ◌∷◌, ◌++◌, replicate}
use Rattle.std.proofs.Common.{cond, length, refl, sym, ◌∙◌, ap, arith, eq-eqb, ne_eqb, inl, inr}
use Rattle.std.proofs.lemmas.Bool.{cases_eq}
use Rattle.run_signal.specs.declared.tern.Tern.{Tern}
use Rattle.run_signal.specs.declared.tern.Tern.TheVariants.{Zero, One, Unknown}
use Rattle.run_waves.specs.declared.waves.runs.Run.{Run}
use Rattle.run_waves.specs.waves.Waves.{run_of, levels_of, AreApart, AreRunsOf}
use Rattle.run_waves.specs.waves.Text.{level_letter, begin_with, runs_of, items_text, runs_text}

-- a letter stands for one value
letter_tells : (v w : Tern) → level_letter v ≡ level_letter w → v ≡ w
letter_tells Zero Zero same = refl
letter_tells One One same = refl
letter_tells Unknown Unknown same = refl
letter_tells Zero One same = absurd (omega arith)
letter_tells Zero Unknown same = absurd (omega arith)
letter_tells One Zero same = absurd (omega arith)
letter_tells One Unknown same = absurd (omega arith)
letter_tells Unknown Zero same = absurd (omega arith)
letter_tells Unknown One same = absurd (omega arith)

-- the runs begin with another value, if at all
abbrev BeginOtherwise : Tern → List Run → Type 0
BeginOtherwise level [] = Unit {0}
BeginOtherwise level (run ∷ runs) = level ≢ run.level

begins : (level : Tern) (runs : List Run) → BeginOtherwise level runs
    → begin_with level runs ≡ run_of level 1 ∷ runs
begins level [] other = refl
begins level (run ∷ runs) other =
    ap (λ same. cond same (run_of level (suc run.ticks) ∷ runs) (run_of level 1 ∷ run ∷ runs))
    (ne_eqb (level_letter level) (level_letter run.level)
    (λ same. other (letter_tells level run.level same)))

goes_on : (level : Tern) (n : ℕ) (runs : List Run)
    → begin_with level (run_of level n ∷ runs) ≡ run_of level (suc n) ∷ runs
goes_on level n runs =
    ap (λ same. cond same (run_of level (suc n) ∷ runs) (run_of level 1 ∷ run_of level n ∷ runs))
    (eq-eqb (level_letter level) (level_letter level) refl)

one_run_more : (level : Tern) (n : ℕ) (levels : List Tern) (runs : List Run)
    → runs_of levels ≡ runs → BeginOtherwise level runs
    → runs_of (replicate (suc n) level ++ levels) ≡ run_of level (suc n) ∷ runs
one_run_more level zero levels runs is other =
    ap (begin_with level) is ∙ begins level runs other
one_run_more level (suc n) levels runs is other =
    ap (begin_with level) (one_run_more level n levels runs is other) ∙ goes_on level (suc n) runs

first_run_more : (run : Run) (levels : List Tern) (runs : List Run) → 1 ≤ run.ticks
    → runs_of levels ≡ runs → BeginOtherwise run.level runs
    → runs_of (replicate run.ticks run.level ++ levels) ≡ run ∷ runs
first_run_more run levels runs some is other =
    let more : run.ticks ≡ suc (run.ticks - 1) = omega arith in
    ap (λ (n : ℕ). runs_of (replicate n run.level ++ levels)) more
    ∙ one_run_more run.level (run.ticks - 1) levels runs is other
    ∙ ap (λ (n : ℕ). run_of run.level n ∷ runs) (sym more)

-- runs that are apart are the runs of their values
pub runs_of-levels_of : (runs : List Run) → AreApart runs → runs_of (levels_of runs) ≡ runs
runs_of-levels_of [] apart = refl
runs_of-levels_of (run ∷ []) apart = first_run_more run [] [] apart refl tt
runs_of-levels_of (run ∷ next ∷ runs) apart =
    first_run_more run (levels_of (next ∷ runs)) (next ∷ runs) apart.0
    (runs_of-levels_of (next ∷ runs) apart.2) apart.1

-- their items are the wave's text
pub items_are_text : (runs : List Run) (wave : List Tern) (n : ℕ) → AreRunsOf runs n
    → levels_of runs ≡ wave → items_text runs ≡ runs_text wave
items_are_text runs wave n are is =
    ap items_text (sym (runs_of-levels_of runs are.apart)) ∙ ap runs_text is

-- ---- the runs of any wave

begin_apart : (level : Tern) (runs : List Run) → AreApart runs → AreApart (begin_with level runs)
begin_apart level [] apart = omega arith
begin_apart level (run ∷ []) apart =
    elim (cases_eq (level_letter level) (level_letter run.level)) [
      | inl same ↦ rw (eq-eqb _ _ same) (omega arith)
      | inr other ↦ rw (ne_eqb _ _ other) (omega arith, (λ e. other (ap level_letter e)), apart)
    ]
begin_apart level (run ∷ next ∷ runs) apart =
    elim (cases_eq (level_letter level) (level_letter run.level)) [
      | inl same ↦ rw (eq-eqb _ _ same)
          (omega arith, (λ e. apart.1 (sym (letter_tells _ _ same) ∙ e)), apart.2)
      | inr other ↦ rw (ne_eqb _ _ other)
          (omega arith, (λ e. other (ap level_letter e)), apart)
    ]

begin_levels : (level : Tern) (runs : List Run)
    → levels_of (begin_with level runs) ≡ level ∷ levels_of runs
begin_levels level [] = refl
begin_levels level (run ∷ runs) =
    elim (cases_eq (level_letter level) (level_letter run.level)) [
      | inl same ↦ rw (eq-eqb _ _ same)
          (ap (λ (v : Tern). level ∷ (replicate run.ticks v ++ levels_of runs))
          (letter_tells level run.level same))
      | inr other ↦ rw (ne_eqb _ _ other) refl
    ]

pub runs_apart : (wave : List Tern) → AreApart (runs_of wave)
runs_apart [] = tt
runs_apart (level ∷ wave) = begin_apart level (runs_of wave) (runs_apart wave)

pub levels_of-runs_of : (wave : List Tern) → levels_of (runs_of wave) ≡ wave
levels_of-runs_of [] = refl
levels_of-runs_of (level ∷ wave) =
    begin_levels level (runs_of wave)
    ∙ ap (λ (w : List Tern). level ∷ w) (levels_of-runs_of wave)

pub are_runs : (wave : List Tern) (n : ℕ) → length wave ≡ n → n ≤ 4000
    → AreRunsOf (runs_of wave) n
are_runs wave n long short = record {
  apart = runs_apart wave;
  long = sym long ∙ ap length (sym (levels_of-runs_of wave));
  short = short;
}
