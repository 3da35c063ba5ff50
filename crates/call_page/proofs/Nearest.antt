-- Which script of a part does worst at any terminal, the terminals taken one after another.
use Rattle.std.proofs.Common.{◌≡◌, ℕ, ◌+◌, ◌<◌, ◌≤◌, List, ⊎_elim, sym, subst, arith}
use Rattle.std.proofs.lemmas.Bool.{cases_lt}
use Rattle.model_line.specs.{declared.line.Line.Line, declared.script.Script.Script}
use Rattle.model_line.specs.Parameters.{terminal_count}
use Rattle.call_tables.specs.declared.row.Row.{Row}
use Rattle.call_facts.specs.declared.firsts.Firsts.{Firsts}
use Rattle.call_page.specs.{Faults.IsLeastSoFar, Faults.IsShown, Verdicts.IsWorst}
use Rattle.call_page.specs.Verdicts.{distance_at}

module _ (line : Line) (scripts : List Script) (rows : List Row) (firsts : List Firsts)
    (start count : ℕ) where
  -- none is nearer at one terminal more, if none is at it
  none_at_more : (n least : ℕ)
      → ((j k : ℕ) → j < count → k < n → least ≤ distance_at line scripts rows firsts (start + j) k)
      → ((j : ℕ) → j < count → least ≤ distance_at line scripts rows firsts (start + j) n)
      → (j k : ℕ) → j < count → k < n + 1
      → least ≤ distance_at line scripts rows firsts (start + j) k
  none_at_more n least before here j k lt below =
      ⊎_elim (λ (among : k < n). before j k lt among)
      (λ (past : n ≤ k).
      let is : k ≡ n = omega (arith, below, past) in
      subst (λ (m : ℕ). least ≤ distance_at line scripts rows firsts (start + j) m) (sym is)
      (here j lt))
      (cases_lt k n)

  -- the one that does worst at the first terminal
  pub nearest_first : (shown least : ℕ) → IsWorst line scripts rows firsts start count 0 shown
      → least ≡ distance_at line scripts rows firsts (start + shown) 0
      → IsLeastSoFar line scripts rows firsts start count 1 shown least
  nearest_first shown least worst is = record {
    among = worst.among;
    terminal = 0;
    there = omega arith;
    is = is;
    none_less = none_at_more 0 least (λ j k lt below. absurd (omega arith))
        (λ j lt.
        subst (λ (d : ℕ). d ≤ distance_at line scripts rows firsts (start + j) 0) (sym is)
        (worst.least j lt));
  }

  -- the one that does worst at the next terminal, where it is nearer
  pub nearer : (n shown least place there : ℕ)
      → IsWorst line scripts rows firsts start count n place
      → there ≡ distance_at line scripts rows firsts (start + place) n → there < least
      → IsLeastSoFar line scripts rows firsts start count n shown least
      → IsLeastSoFar line scripts rows firsts start count (n + 1) place there
  nearer n shown least place there worst is less so_far = record {
    among = worst.among;
    terminal = n;
    there = omega arith;
    is = is;
    none_less = none_at_more n there
        (λ j k lt below. omega (arith, so_far.none_less j k lt below))
        (λ j lt.
        subst (λ (d : ℕ). d ≤ distance_at line scripts rows firsts (start + j) n) (sym is)
        (worst.least j lt));
  }

  -- the one so far, where it is not
  pub no_nearer : (n shown least place there : ℕ)
      → IsWorst line scripts rows firsts start count n place
      → there ≡ distance_at line scripts rows firsts (start + place) n → least ≤ there
      → IsLeastSoFar line scripts rows firsts start count n shown least
      → IsLeastSoFar line scripts rows firsts start count (n + 1) shown least
  no_nearer n shown least place there worst is most so_far = record {
    among = so_far.among;
    terminal = so_far.terminal;
    there = omega (arith, so_far.there);
    is = so_far.is;
    none_less = none_at_more n least so_far.none_less
        (λ j lt. omega (arith, is, worst.least j lt));
  }

  -- after the last terminal
  pub nearest_of_all : (n shown least : ℕ) → n ≡ terminal_count line
      → IsLeastSoFar line scripts rows firsts start count n shown least
      → IsShown line scripts rows firsts start count shown
  nearest_of_all n shown least all so_far = record {
    among = so_far.among;
    terminal = so_far.terminal;
    there = omega (arith, so_far.there, all);
    least = λ j k lt below.
        subst (λ (d : ℕ). d ≤ distance_at line scripts rows firsts (start + j) k) so_far.is
        (so_far.none_less j k lt (omega (arith, below, all)));
  }
