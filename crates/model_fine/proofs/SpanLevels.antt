-- What is assumed of spans gives each tree the level that it has.
use Rattle.std.proofs.Common.{◌≡◌, ◌+◌, ◌*◌, ◌/◌, ◌<◌, ◌≤◌, ℕ, Bool, true, false, refl, ◌∙◌, ap}
use Rattle.std.proofs.Common.{subst, arith, ltb-true, leb-true, List, [], ◌∷◌}
use Rattle.std.proofs.lemmas.Bool.{and_parts, both_ways, false_from_ne_true}
use Rattle.std.proofs.lemmas.List.Elements.{All-head, All-tail}
use Rattle.std.specs.Prelude.{◌&&◌, cond, nat_le, nat_lt, Option, Some, None}
use Rattle.model_history.specs.{Laws.HistoryLaws, Elements.timed, Elements.IsTimed}
use Rattle.model_line.specs.{declared.line.Line.Line, declared.script.Script.Script}
use Rattle.model_line.specs.declared.line.Setting.TheVariants.{EchoPulse}
use Rattle.model_logic.specs.Choice.{Choice, Box, IsIn, time_by, ends_by}
use Rattle.model_logic.specs.{Histories.History, Laws.TreesNameTheLine, Mean.mean, Names.HasTime}
use Rattle.model_logic.specs.{Permissive.terminal_setting, SameTree.same_tree, Tree.Tree}
use Rattle.model_logic.specs.SameTreeLaws.{tree-same}
use Rattle.model_logic.specs.declared.time.Time.{Time}
use Rattle.model_logic.specs.declared.time.Time.TheVariants.{Zero, Param}
use Rattle.model_settle.specs.Assumed.{Span, HasSpan, Assumption, Throughout, Interrupted, span_of}
use Rattle.model_settle.specs.Assumed.{HaveSpans, wanted, pulse_over, least_pulse, is_among}
use Rattle.model_settle.specs.Assumed.{level_by, first_of, assumed_level}
use Rattle.model_fine.specs.{Cut.cut_ends, Fine.IsFineWithin, Fine.fine_world_of}
use Rattle.model_fine.specs.Spans.{wants, IsInterrupted, Agrees, AgreesWithAll}
use Rattle.model_fine.proofs.Floors.{begins, ends, times, sum}
use Rattle.model_fine.proofs.PulseNamed.{pulse_has_time}

-- a level that is told where a test holds
tested : (P : Bool → Type 0) (test told level : Bool) → cond test (Some told) None ≡ Some level
    → (test ≡ true → P told) → P level
tested P true told level e here = let same : told ≡ level = cc in subst P same (here refl)
tested P false told level e here = absurd (cc)

-- or by those before
first_or : (P : Bool → Type 0) (one rest : Option Bool) (level : Bool)
    → first_of one rest ≡ Some level → (one ≡ Some level → P level)
    → (rest ≡ Some level → P level) → P level
first_or P (Some now) rest level e here before = here e
first_or P None rest level e here before = before e

pub time_in : (n : ℕ) (line : Line) (choice : Choice) (box : Box) → IsFineWithin n line choice box
    → (x : Time) → HasTime line x → IsIn (time_by choice.number x) (cut_ends n (ends_by box.ends x))
time_in n line choice box within Zero has =
    record { least = omega arith; greatest = omega arith }
time_in n line choice box within (Param i) has = within.numbers i has

module _ (laws : HistoryLaws) (names : TreesNameTheLine) (n : ℕ) (some : 1 ≤ n) (line : Line)
    (script : Script) (box : Box) (choice : Choice) (h : History)
    (within : IsFineWithin n line choice box) where
  abbrev value : Tree → ℕ → Bool
  value = mean (fine_world_of n line script choice) h.key

  -- the fine ticks of a tick before another come before the other begins
  before_tick : (t q : ℕ) → t / n < q → t < q * n
  before_tick t q lt =
      let e : t < t / n * n + n = ends n some t in
      let m : (t / n + 1) * n ≤ q * n = times n some (t / n + 1) q (omega arith) in
      omega (arith, e, m)

  from_tick : (t q : ℕ) → q ≤ t / n → q * n ≤ t
  from_tick t q le =
      let b : t / n * n ≤ t = begins n some t in
      let m : q * n ≤ t / n * n = times n some q (t / n) le in
      omega (arith, b, m)

  -- where an echo was not wanted at some instant of a span, no pulse is over behind it, for as long as
  -- a pulse lasts from the begin of the span
  not_over : (span : Span) → HasSpan line span → IsInterrupted n line script choice h span
      → (t : ℕ) → span.to ≤ t / n → t / n < span.from + least_pulse line box span.terminal
      → value (pulse_over line span.terminal) t ≡ false
  unfolding mean fine_world_of
  not_over span has cut t low high =
      let pulse : Time = terminal_setting line span.terminal EchoPulse in
      let least : ℕ = least_pulse line box span.terminal in
      let lasts : ℕ = time_by choice.number pulse in
      let lies : IsIn lasts (cut_ends n (ends_by box.ends pulse)) =
      time_in n line choice box within pulse
      (pulse_has_time line span.terminal has.weak names has.exists) in
      let long : least * n ≤ lasts = lies.least in
      let scaled : span.from * n + least * n ≡ (span.from + least) * n =
      sum n some span.from least (span.from + least) refl in
      let early : t < (span.from + least) * n = before_tick t (span.from + least) high in
      let behind : span.to * n ≤ t = from_tick t span.to low in
      let a_from : span.from * n ≤ cut.at = cut.from in
      let a_to : cut.at < span.to * n = cut.to in
      let on_all : ℕ → Bool = wants n line script choice h span in
      false_from_ne_true (timed on_all lasts 0 t) (λ on.
      let fact : IsTimed on_all lasts 0 t = (laws.elements.timed on_all lasts 0 t).0 on in
      let past : fact.s ≤ t = fact.past in
      let at_t : t ≤ fact.s + 0 = fact.lasts in
      both_ways (on_all cut.at) cut.off
      (fact.holds.on cut.at (omega (arith, past, a_from, long, scaled, early))
      (omega (arith, at_t, a_to, behind))))

  follows_one : (a : Assumption) → HasSpan line (span_of a) → Agrees n line script choice h a
      → (x : Tree) (t : ℕ) (level : Bool) → level_by line box a x (t / n) ≡ Some level
      → value x t ≡ level
  follows_one (Throughout span) has agrees x t level e =
      tested (λ (b : Bool). value x t ≡ b)
      (same_tree x (wanted line span.terminal) && is_among span.from span.to (t / n)) true level e
      (λ test.
      let parts = and_parts (same_tree x (wanted line span.terminal))
      (is_among span.from span.to (t / n)) test in
      let among = and_parts (nat_le span.from (t / n)) (nat_lt (t / n) span.to) parts.1 in
      ap (λ (y : Tree). value y t) (tree-same x (wanted line span.terminal) parts.0)
      ∙ agrees t (from_tick t span.from (leb-true span.from (t / n) among.0))
      (before_tick t span.to (ltb-true (t / n) span.to among.1)))
  follows_one (Interrupted span) has agrees x t level e =
      let until : ℕ = span.from + least_pulse line box span.terminal in
      tested (λ (b : Bool). value x t ≡ b)
      (same_tree x (pulse_over line span.terminal) && is_among span.to until (t / n)) false level e
      (λ test.
      let parts = and_parts (same_tree x (pulse_over line span.terminal))
      (is_among span.to until (t / n)) test in
      let among = and_parts (nat_le span.to (t / n)) (nat_lt (t / n) until) parts.1 in
      ap (λ (y : Tree). value y t) (tree-same x (pulse_over line span.terminal) parts.0)
      ∙ not_over span has agrees t (leb-true span.to (t / n) among.0)
      (ltb-true (t / n) until among.1))

  pub levels_of : (assumed : List Assumption) → HaveSpans line assumed
      → AgreesWithAll n line script choice h assumed → (x : Tree) (t : ℕ) (level : Bool)
      → assumed_level line box assumed x (t / n) ≡ Some level → value x t ≡ level
  levels_of [] have agree x t level e = absurd (cc)
  levels_of (a ∷ before) have agree x t level e =
      first_or (λ (b : Bool). value x t ≡ b) (level_by line box a x (t / n))
      (assumed_level line box before x (t / n)) level e
      (follows_one a (All-head (λ b. HasSpan line (span_of b)) a before have)
      (All-head (Agrees n line script choice h) a before agree) x t level)
      (levels_of before (All-tail (λ b. HasSpan line (span_of b)) a before have)
      (All-tail (Agrees n line script choice h) a before agree) x t level)
