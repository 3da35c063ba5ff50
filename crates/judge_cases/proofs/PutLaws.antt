-- What masks put in a lane, with a level more.
use Rattle.std.proofs.Common.{◌≡◌, ◌<◌, ◌≤◌, ◌+◌, ◌*◌, ◌/◌, ◌%◌, ◌&&◌, ℕ, Bool, true, false}
use Rattle.std.proofs.Common.{List, [], ◌∷◌, Some, None, refl, sym, ◌∙◌, ap, subst, arith, ⊎_elim}
use Rattle.std.proofs.lemmas.Nat.{mod-mul-add, div-mul-add}
use Rattle.std.proofs.lemmas.Bool.{and_from}
use Rattle.std.proofs.lemmas.Bool.Decides.{nat_tests}
use Rattle.std.proofs.lemmas.List.Elements.{recursion_from_All}
use Rattle.std.specs.Prelude.{Option, IsTrue, cond, slice_get, slice_set}
use Rattle.std.specs.List.{AllByRecursion}
use Rattle.model_line.specs.{declared.line.Line.Line, Parameters.terminal_count}
use Rattle.model_logic.specs.Choice.{Box}
use Rattle.model_logic.specs.{Elements.is_weak, Tree.Tree}
use Rattle.model_logic.specs.SameTree.{same_tree}
use Rattle.model_settle.specs.Assumed.{Assumption, Throughout, Interrupted, HasSpan, HaveSpans}
use Rattle.model_settle.specs.Assumed.{span_of, wanted, pulse_over, least_pulse, level_by, first_of}
use Rattle.model_settle.specs.Assumed.{is_among, assumed_level}
use Rattle.model_settle.specs.{CaseLaws.SameTreesAreEqual}
use Rattle.net_gates.specs.{NetOf.NetOf, Formulas.formula_of}
use Rattle.run_ticks.specs.cases.Masks.{IsMask, PutsLevel, IsTimer, AreOfTimers}
use Rattle.run_ticks.specs.declared.cases.mask.Mask.{Mask}
use Rattle.model_history.specs.Rails.{Rails}
use Rattle.judge_verdict.specs.declared.boxes.terns.Terns64.{Terns64}
use Rattle.judge_verdict.specs.boxes.Terns.{terns_rails}
use Rattle.judge_cases.specs.Rows.{AreRows, IsRowOf, echo_timer, row_count}
use Rattle.judge_cases.specs.Puts.{LevelOf, with_level, PutIn}
use Rattle.judge_cases.proofs.WeakKey.{wanted_timer}
use Rattle.judge_cases.proofs.RowLaws.{timer_row}
use Rattle.model_history.specs.ListLaws.{at_set}

-- ---- the ticks of a span

among_none : (from s : ℕ) → is_among from from s ≡ false
among_none from s = grind (arith, nat_tests)

among_more : (from t s : ℕ) → (s ≡ t → ⊥) → is_among from t s ≡ is_among from (t + 1) s
among_more from t s ne = grind (arith, nat_tests)

-- a span that ends before it begins has no tick, and ends there as well
pub among_under : (from until t : ℕ) → until < from → is_among from from t ≡ is_among from until t
among_under from until t lt = grind (arith, nat_tests)

-- a span that ends past the run has each tick of the run behind its begin
pub among_run : (from until horizon t : ℕ) → horizon ≤ until → t < horizon
    → is_among from horizon t ≡ is_among from until t
among_run from until horizon t le lt = grind (arith, nat_tests)

among_there : (from t s : ℕ) → from ≤ t → s ≡ t → is_among from (t + 1) s ≡ true
among_there from t s le e = grind (arith, nat_tests)

none_and : (a b : Bool) → b ≡ false → (a && b) ≡ false
none_and true b e = e
none_and false b e = refl

-- ---- places

-- a place tells tick and row
place_tick : (t s r q n : ℕ) → r < n → q < n → t * n + r ≡ s * n + q → t ≡ s
place_tick t s r q n lr lq e =
    sym (div-mul-add t n r lr) ∙ ap (λ (p : ℕ). p / n) e ∙ div-mul-add s n q lq

place_row : (t s r q n : ℕ) → r < n → q < n → t * n + r ≡ s * n + q → r ≡ q
place_row t s r q n lr lq e =
    sym (mod-mul-add t n r lr) ∙ ap (λ (p : ℕ). p % n) e ∙ mod-mul-add s n q lq

puts_same : (level : Option Bool) (a b c d : Rails) → a ≡ c → b ≡ d → PutsLevel level a b
    → PutsLevel level c d
puts_same level a b c d e f put =
    subst (λ (x : Rails). PutsLevel level c x) f
    (subst (λ (x : Rails). PutsLevel level x b) e put)

-- levels that are the same at the ticks of the run are put alike
pub put_same : (line : Line) (net : NetOf) (rows : List (Option ℕ)) (masks : List (Mask Terns64))
    (lane : ℕ) (level other : LevelOf)
    → ((x : Tree) (t : ℕ) → t < line.horizon → level x t ≡ other x t)
    → PutIn line net rows masks lane level → PutIn line net rows masks lane other
put_same line net rows masks lane level other same put i row t mask early ri at =
    subst (λ (o : Option Bool). IsMask terns_rails lane o mask) (same (formula_of net.gates i) t early)
    (put i row t mask early ri at)

-- where a span ends past the run it may as well end with the run
pub put_until : (line : Line) (net : NetOf) (rows : List (Option ℕ)) (masks : List (Mask Terns64))
    (lane : ℕ) (level : LevelOf) (x : Tree) (from end until : ℕ) (v : Bool)
    → ((t : ℕ) → t < line.horizon → is_among from end t ≡ is_among from until t)
    → PutIn line net rows masks lane (with_level level x from end v)
    → PutIn line net rows masks lane (with_level level x from until v)
put_until line net rows masks lane level x from end until v among =
    put_same line net rows masks lane (with_level level x from end v)
    (with_level level x from until v)
    (λ y t early. ap (λ (b : Bool). first_of (cond (same_tree y x && b) (Some v) None) (level y t))
    (among t early))

module _ (line : Line) (net : NetOf) (rows : List (Option ℕ))
    (within : (i row : ℕ) → slice_get rows i ≡ Some (Some row) → row < row_count line) where
  -- in another lane nothing changes
  pub put_other : (k place : ℕ) (level : LevelOf) (masks : List (Mask Terns64))
      (old new : Mask Terns64) → slice_get masks place ≡ Some old
      → terns_rails new.off k ≡ terns_rails old.off k → terns_rails new.on k ≡ terns_rails old.on k
      → PutIn line net rows masks k level → PutIn line net rows (slice_set masks place new) k level
  put_other k place level masks old new here off on puts i r t mask early ri at =
      let o : Option Bool = level (formula_of net.gates i) t in
      ⊎_elim
      (λ p. let was : slice_get masks (t * row_count line + r) ≡ Some old =
      subst (λ (m : ℕ). slice_get masks m ≡ Some old) (sym p.0) here in
      subst (λ (m : Mask Terns64). IsMask terns_rails k o m) p.1
      (puts_same o (terns_rails old.off k) (terns_rails old.on k) (terns_rails new.off k)
      (terns_rails new.on k) (sym off) (sym on) (puts i r t old early ri was)))
      (λ p. puts i r t mask early ri p.1)
      (at_set masks place new (t * row_count line + r) mask at)

  module _ (same : SameTreesAreEqual) (x : Tree) (row : ℕ) (is : IsRowOf net rows x row)
      (there : row < row_count line) (level : LevelOf) (from : ℕ) (v : Bool) where
    -- the levels, with this one up to a tick
    abbrev up_to : ℕ → LevelOf
    up_to t = with_level level x from t v

    up_to_by : (t s : ℕ) (y : Tree) (b : Bool) → (same_tree y x && is_among from t s) ≡ b
        → up_to t y s ≡ first_of (cond b (Some v) None) (level y s)
    up_to_by t s y b e = ap (λ (c : Bool). first_of (cond c (Some v) None) (level y s)) e

    pub put_none : (masks : List (Mask Terns64)) (lane : ℕ) → PutIn line net rows masks lane level
        → PutIn line net rows masks lane (up_to from)
    put_none masks lane =
        put_same line net rows masks lane level (up_to from) (λ y s early.
        let off : (same_tree y x && is_among from from s) ≡ false =
        none_and (same_tree y x) (is_among from from s) (among_none from s) in
        sym (up_to_by from s y false off))

    -- one tick more
    module _ (lane t : ℕ) (le : from ≤ t) (masks : List (Mask Terns64)) (new : Mask Terns64)
        (put : IsMask terns_rails lane (Some v) new)
        (puts : PutIn line net rows masks lane (up_to t)) where
      here : (i r s : ℕ) (mask : Mask Terns64) → slice_get rows i ≡ Some (Some r)
          → s * row_count line + r ≡ t * row_count line + row → new ≡ mask
          → IsMask terns_rails lane (up_to (t + 1) (formula_of net.gates i) s) mask
      here i r s mask ri e now =
          let tick : s ≡ t = place_tick s t r row (row_count line) (within i r ri) there e in
          let rank : r ≡ row = place_row s t r row (row_count line) (within i r ri) there e in
          let tree : formula_of net.gates i ≡ x =
          is.stands i (subst (λ (m : ℕ). slice_get rows i ≡ Some (Some m)) rank ri) in
          let on : (same_tree (formula_of net.gates i) x && is_among from (t + 1) s) ≡ true =
          and_from (same_tree (formula_of net.gates i) x) (is_among from (t + 1) s)
          ((same (formula_of net.gates i) x).1 tree) (among_there from t s le tick) in
          subst (λ (o : Option Bool). IsMask terns_rails lane o mask)
          (sym (up_to_by (t + 1) s (formula_of net.gates i) true on))
          (subst (λ (m : Mask Terns64). IsMask terns_rails lane (Some v) m) now put)

      -- elsewhere the level is as it was
      as_was : (i r s : ℕ) (b : Bool) → slice_get rows i ≡ Some (Some r)
          → (s * row_count line + r ≡ t * row_count line + row → ⊥)
          → same_tree (formula_of net.gates i) x ≡ b
          → (same_tree (formula_of net.gates i) x && is_among from t s)
          ≡ (same_tree (formula_of net.gates i) x && is_among from (t + 1) s)
      as_was i r s false ri ne e =
          ap (λ (c : Bool). c && is_among from t s) e
          ∙ sym (ap (λ (c : Bool). c && is_among from (t + 1) s) e)
      as_was i r s true ri ne e =
          let rank : r ≡ row = is.only i r ri ((same (formula_of net.gates i) x).0 e) in
          ap (λ (c : Bool). same_tree (formula_of net.gates i) x && c)
          (among_more from t s (λ tick.
          ne (ap (λ (m : ℕ). m * row_count line + r) tick
          ∙ ap (λ (m : ℕ). t * row_count line + m) rank)))

      elsewhere : (i r s : ℕ) (mask : Mask Terns64) → s < line.horizon
          → slice_get rows i ≡ Some (Some r)
          → (s * row_count line + r ≡ t * row_count line + row → ⊥)
          → slice_get masks (s * row_count line + r) ≡ Some mask
          → IsMask terns_rails lane (up_to (t + 1) (formula_of net.gates i) s) mask
      elsewhere i r s mask early ri ne at =
          subst (λ (o : Option Bool). IsMask terns_rails lane o mask)
          (ap (λ (c : Bool). first_of (cond c (Some v) None) (level (formula_of net.gates i) s))
          (as_was i r s (same_tree (formula_of net.gates i) x) ri ne refl))
          (puts i r s mask early ri at)

      pub put_tick : PutIn line net rows (slice_set masks (t * row_count line + row) new) lane
          (up_to (t + 1))
      put_tick i r s mask early ri at =
          ⊎_elim
          (λ p. here i r s mask ri p.0 p.1)
          (λ p. elsewhere i r s mask early ri p.0 p.1)
          (at_set masks (t * row_count line + row) new (s * row_count line + r) mask at)

-- ---- what views assume

module _ (line : Line) (box : Box) (same : SameTreesAreEqual) where
  -- the tree is none of a weak terminal's timers
  abbrev pub IsApart : Tree → Type 0
  IsApart x =
      (k : ℕ) → k < terminal_count line → IsTrue (is_weak line k) → (throughout : Bool)
      → x ≡ echo_timer line k throughout → ⊥

  none_by : (x y : Tree) (b among v : Bool) → same_tree x y ≡ b → (x ≡ y → ⊥)
      → cond (same_tree x y && among) (Some v) None ≡ None
  none_by x y false among v e ne = ap (λ (c : Bool). cond (c && among) (Some v) None) e
  none_by x y true among v e ne = absurd (ne ((same x y).0 e))

  level_none : (x : Tree) → IsApart x → (a : Assumption) → HasSpan line (span_of a) → (t : ℕ)
      → level_by line box a x t ≡ None
  level_none x apart (Throughout span) has t =
      none_by x (wanted line span.terminal) (same_tree x (wanted line span.terminal))
      (is_among span.from span.to t) true refl (apart span.terminal has.exists has.weak true)
  level_none x apart (Interrupted span) has t =
      none_by x (pulse_over line span.terminal) (same_tree x (pulse_over line span.terminal))
      (is_among span.to (span.from + least_pulse line box span.terminal) t) false refl
      (apart span.terminal has.exists has.weak false)

  none_all : (x : Tree) → IsApart x → (assumed : List Assumption)
      → AllByRecursion (λ (a : Assumption). HasSpan line (span_of a)) assumed → (t : ℕ)
      → assumed_level line box assumed x t ≡ None
  none_all x apart [] all t = refl
  none_all x apart (a ∷ before) all t =
      ap (λ (o : Option Bool). first_of o (assumed_level line box before x t))
      (level_none x apart a all.0 t)
      ∙ none_all x apart before all.1 t

  -- of a gate with no row no level follows
  pub none_put : (net : NetOf) (rows : List (Option ℕ)) → AreRows line net (row_count line) rows
      → (i t : ℕ) → slice_get rows i ≡ Some None → (assumed : List Assumption)
      → HaveSpans line assumed
      → assumed_level line box assumed (formula_of net.gates i) t ≡ None
  none_put net rows are i t none assumed all =
      none_all (formula_of net.gates i)
      (λ k there weak throughout e.
      let row = timer_row line k there throughout in
      are.none i row.0 none row.1.0
      (subst (λ (m : ℕ). IsTrue (is_weak line m)) (sym row.1.1.0) weak)
      (e ∙ sym row.1.1.1))
      assumed (recursion_from_All (λ (a : Assumption). HasSpan line (span_of a)) assumed all) t

  -- levels follow of timed elements alone
  timer_by : (x y : Tree) (b among v now : Bool) → same_tree x y ≡ b → IsTimer y
      → cond (b && among) (Some v) None ≡ Some now → IsTimer x
  timer_by x y false among v now e timer is = absurd (cc)
  timer_by x y true among v now e timer is = subst IsTimer (sym ((same x y).0 e)) timer

  one_timer : (a : Assumption) → HasSpan line (span_of a) → (x : Tree) (t : ℕ) (v : Bool)
      → level_by line box a x t ≡ Some v → IsTimer x
  one_timer (Throughout span) has x t v is =
      timer_by x (wanted line span.terminal) (same_tree x (wanted line span.terminal))
      (is_among span.from span.to t) true v refl
      (subst IsTimer (sym (wanted_timer line span.terminal has.weak)) tt) is
  one_timer (Interrupted span) has x t v is =
      timer_by x (pulse_over line span.terminal) (same_tree x (pulse_over line span.terminal))
      (is_among span.to (span.from + least_pulse line box span.terminal) t) false v refl tt is

  first_timer : (one rest : Option Bool) (v : Bool) (x : Tree) → first_of one rest ≡ Some v
      → ((w : Bool) → one ≡ Some w → IsTimer x) → (rest ≡ Some v → IsTimer x) → IsTimer x
  first_timer (Some w) rest v x e now before = now w refl
  first_timer None rest v x e now before = before e

  timers_by : (assumed : List Assumption)
      → AllByRecursion (λ (a : Assumption). HasSpan line (span_of a)) assumed
      → AreOfTimers (assumed_level line box assumed)
  timers_by [] all x t v e = absurd (cc)
  timers_by (a ∷ before) all x t v e =
      first_timer (level_by line box a x t) (assumed_level line box before x t) v x e
      (one_timer a all.0 x t) (timers_by before all.1 x t v)

  pub assumed_timers : (assumed : List Assumption) → HaveSpans line assumed
      → AreOfTimers (assumed_level line box assumed)
  assumed_timers assumed all =
      timers_by assumed
      (recursion_from_All (λ (a : Assumption). HasSpan line (span_of a)) assumed all)
