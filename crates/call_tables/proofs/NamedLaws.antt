-- The timings of a script that fail: each under a name of its own, that of its terminal.
use Rattle.std.proofs.Common.{◌≡◌, ◌≢◌, ◌<◌, ◌≤◌, ◌+◌, ℕ, List, [], ◌∷◌, ◌++◌, zero, suc, Some, length}
use Rattle.std.proofs.Common.{map, get_or, refl, sym, ◌∙◌, ap, subst, arith, length-append}
use Rattle.std.proofs.lemmas.List.{length-map, get_or-map}
use Rattle.std.proofs.lemmas.List.Elements.{All-nil, All-cons, All-append}
use Rattle.std.proofs.lemmas.List.Folds.{list_all-map}
use Rattle.std.proofs.lemmas.List.Sums.{AllPass-from_list_all}
use Rattle.std.specs.Prelude.{slice_get, IsTrue}
use Rattle.std.specs.List.{All, flat_map}
use Rattle.model_line.specs.{declared.line.Line.Line, declared.script.Script.Script}
use Rattle.model_line.specs.{Parameters.terminal_count, PlainNames.is_plain_name}
use Rattle.model_line.specs.NamesByNumber.{terminal_name}
use Rattle.model_timing.specs.NamedValues.{NamedValues}
use Rattle.file_tables.specs.timing.Printed.{MayStand, AreOfOneFile}
use Rattle.judge_settle.specs.settle.Answers.{IsAnswer}
use Rattle.judge_settle.specs.declared.settle.answer.Answer.{Answer}
use Rattle.judge_settle.specs.declared.settle.answer.Answer.TheVariants.{Held, Fails, Open}
use Rattle.call_tables.specs.declared.row.Row.{Row}
use Rattle.call_tables.specs.{Rows.AreRows, Written.rows_of, Written.failing_timings}
use Rattle.call_tables.specs.Written.{failing_named, failing_of, FailsWhereNamed}
use Rattle.call_tables.proofs.RowLaws.{row_at, rows_long}
use Rattle.call_tables.proofs.WrittenLaws.{one_there}

-- ---- what holds of each

all_pieces : {X A : Type 0} (f : X → List A) (P : A → Type 0) (xs : List X)
    → ((k : ℕ) (x : X) → slice_get xs k ≡ Some x → All P (f x)) → All P (flat_map f xs)
all_pieces f P [] each = All-nil P
all_pieces f P (x ∷ xs) each =
    All-append P (f x) (flat_map f xs) (each 0 x refl)
    (all_pieces f P xs (λ k y at. each (suc k) y at))

plain_name : (line : Line) (k : ℕ) → k < terminal_count line
    → IsTrue (is_plain_name (terminal_name line k))
plain_name line k there =
    let names : List (List ℕ) = map (λ t. t.name) line.terminals.items in
    AllPass-from_list_all is_plain_name names
    (list_all-map is_plain_name (λ t. t.name) line.terminals.items ∙ line.plain_names) k []
    (omega (arith, there, length-map line.terminals.items (λ t. t.name)))

may_stand : (line : Line) (script : Script) (k : ℕ) (answer : Answer) → k < terminal_count line
    → IsAnswer line script k answer
    → All (MayStand line) (failing_named (terminal_name line k) answer)
may_stand line script k (Held nodes) there is = All-nil (MayStand line)
may_stand line script k (Fails timing every) there is =
    All-cons (MayStand line) (record { name = terminal_name line k; timing = timing }) []
    (record {
      plain_name = plain_name line k there;
      inside = is.failing.inside;
      ascending = is.failing.ascending;
    })
    (All-nil (MayStand line))
may_stand line script k (Open nodes) there is = All-nil (MayStand line)

fails_there : (line : Line) (script : Script) (k : ℕ) (answer : Answer)
    → IsAnswer line script k answer
    → All (FailsWhereNamed line script) (failing_named (terminal_name line k) answer)
fails_there line script k (Held nodes) is = All-nil (FailsWhereNamed line script)
fails_there line script k (Fails timing every) is =
    All-cons (FailsWhereNamed line script)
    (record { name = terminal_name line k; timing = timing }) []
    (record { terminal = k; named = refl; fails = is.failing })
    (All-nil (FailsWhereNamed line script))
fails_there line script k (Open nodes) is = All-nil (FailsWhereNamed line script)

-- ---- names

-- the timings are named by terminals from o on, in their order
record AreNamed (line : Line) (o end : ℕ) (timings : List NamedValues) : Type 0 where
  pub ids : List ℕ
  pub names : map (λ t. t.name) timings ≡ map (terminal_name line) ids
  pub ascending : (j k : ℕ) → j < k → k < length ids → get_or ids j 0 < get_or ids k 0
  pub low : (k : ℕ) → k < length ids → o ≤ get_or ids k 0
  pub high : (k : ℕ) → k < length ids → get_or ids k 0 < end

later : (line : Line) (o end : ℕ) (timings : List NamedValues)
    → AreNamed line (o + 1) end timings → AreNamed line o end timings
later line o end timings are = record {
  ids = are.ids;
  names = are.names;
  ascending = are.ascending;
  low = λ k lt. omega (arith, are.low k lt);
  high = are.high;
}

-- with terminal o in front
module _ (o end : ℕ) (ids : List ℕ)
    (ascending : (j k : ℕ) → j < k → k < length ids → get_or ids j 0 < get_or ids k 0)
    (low : (k : ℕ) → k < length ids → o + 1 ≤ get_or ids k 0)
    (high : (k : ℕ) → k < length ids → get_or ids k 0 < end) where
  ascend_more : (j k : ℕ) → j < k → k < length (o ∷ ids)
      → get_or (o ∷ ids) j 0 < get_or (o ∷ ids) k 0
  ascend_more j zero less below = absurd (omega arith)
  ascend_more zero (suc k) less below = omega (arith, low k (omega arith))
  ascend_more (suc j) (suc k) less below = ascending j k (omega arith) (omega arith)

  low_more : (k : ℕ) → k < length (o ∷ ids) → o ≤ get_or (o ∷ ids) k 0
  low_more zero below = omega arith
  low_more (suc k) below = omega (arith, low k (omega arith))

  high_more : o < end → (k : ℕ) → k < length (o ∷ ids) → get_or (o ∷ ids) k 0 < end
  high_more early zero below = early
  high_more early (suc k) below = high k (omega arith)

with_own : (line : Line) (o end : ℕ) (own : NamedValues) (timings : List NamedValues)
    → own.name ≡ terminal_name line o → o < end → AreNamed line (o + 1) end timings
    → AreNamed line o end (own ∷ timings)
with_own line o end own timings named early are = record {
  ids = o ∷ are.ids;
  names = ap (λ (n : List ℕ). n ∷ map (λ t. t.name) timings) named
      ∙ ap (λ (ns : List (List ℕ)). terminal_name line o ∷ ns) are.names;
  ascending = ascend_more o end are.ids are.ascending are.low are.high;
  low = low_more o end are.ids are.ascending are.low are.high;
  high = high_more o end are.ids are.ascending are.low are.high early;
}

-- with that of a row in front, if it fails
with_row : (line : Line) (o end : ℕ) (name : List ℕ) (answer : Answer)
    (timings : List NamedValues) → name ≡ terminal_name line o → o < end
    → AreNamed line (o + 1) end timings
    → AreNamed line o end (failing_named name answer ++ timings)
with_row line o end name (Held nodes) timings named early are = later line o end timings are
with_row line o end name (Fails timing every) timings named early are =
    with_own line o end (record { name = name; timing = timing }) timings named early are
with_row line o end name (Open nodes) timings named early are = later line o end timings are

-- those of rows of terminals from o on
all_named : (line : Line) (o end : ℕ) (rows : List Row) → o + length rows ≡ end
    → ((k : ℕ) (row : Row) → slice_get rows k ≡ Some row → row.terminal ≡ o + k)
    → AreNamed line o end (flat_map (failing_of line) rows)
all_named line o end [] long each = record {
  ids = [];
  names = refl;
  ascending = λ j k less below. absurd (omega arith);
  low = λ k below. absurd (omega arith);
  high = λ k below. absurd (omega arith);
}
all_named line o end (row ∷ rows) long each =
    let own : row.terminal ≡ o = omega (arith, each 0 row refl) in
    with_row line o end (terminal_name line row.terminal) row.settled.answer
    (flat_map (failing_of line) rows) (ap (terminal_name line) own) (omega arith)
    (all_named line (o + 1) end rows (omega arith)
    (λ k r at. omega (arith, each (suc k) r at)))

-- two names of these are not the same
names_differ : (line : Line) (timings : List NamedValues)
    → AreNamed line 0 (terminal_count line) timings → (j k : ℕ) → j < k → k < length timings
    → get_or (map (λ t. t.name) timings) j [] ≢ get_or (map (λ t. t.name) timings) k []
names_differ line timings are j k less below same =
    let names : List (List ℕ) = map (λ t. t.name) timings in
    let long : length timings ≡ length are.ids =
    sym (length-map timings (λ t. t.name)) ∙ ap length are.names
    ∙ length-map are.ids (terminal_name line) in
    let within : k < length are.ids = omega (arith, long) in
    let at_j : get_or names j [] ≡ terminal_name line (get_or are.ids j 0) =
    ap (λ (ns : List (List ℕ)). get_or ns j []) are.names
    ∙ get_or-map (terminal_name line) are.ids j 0 [] (omega arith) in
    let at_k : get_or names k [] ≡ terminal_name line (get_or are.ids k 0) =
    ap (λ (ns : List (List ℕ)). get_or ns k []) are.names
    ∙ get_or-map (terminal_name line) are.ids k 0 [] within in
    line.names_once (get_or are.ids j 0) (get_or are.ids k 0) (are.ascending j k less within)
    (are.high k within) (sym at_j ∙ same ∙ at_k)

-- ---- one file

few_more : (name : List ℕ) (answer : Answer) → length (failing_named name answer) ≤ 1
few_more name (Held nodes) = omega arith
few_more name (Fails timing every) = omega arith
few_more name (Open nodes) = omega arith

few_timings : (line : Line) (rows : List Row)
    → length (flat_map (failing_of line) rows) ≤ length rows
few_timings line [] = omega arith
few_timings line (row ∷ rows) =
    omega (
      arith,
      few_timings line rows,
      few_more (terminal_name line row.terminal) row.settled.answer,
      length-append (failing_of line row) (flat_map (failing_of line) rows),
    )

some_there : (timings : List NamedValues) → timings ≢ [] → 1 ≤ length timings
some_there [] some = absurd (some refl)
some_there (t ∷ timings) some = omega arith

module _ (line : Line) (scripts : List Script) (rows : List Row) (s : ℕ)
    (are : AreRows line scripts rows) where
  module _ (early : s < length scripts) where
    pub all_stand : All (MayStand line) (failing_timings line rows s)
    all_stand =
        all_pieces (failing_of line) (MayStand line) (rows_of line rows s)
        (λ k row at.
        let is = row_at line scripts rows s are early k row at in
        subst (λ (i : ℕ). All (MayStand line)
        (failing_named (terminal_name line i) row.settled.answer)) (sym is.terminal)
        (may_stand line is.script k row.settled.answer is.below is.answer))

    pub one_file : failing_timings line rows s ≢ []
        → AreOfOneFile (failing_timings line rows s)
    one_file some =
        let own : List Row = rows_of line rows s in
        let long : length own ≡ terminal_count line = rows_long line scripts rows s are early in
        record {
          some = some_there (failing_timings line rows s) some;
          few = omega (arith, few_timings line own, long, line.two_or_three.1);
          once = names_differ line (failing_timings line rows s)
              (all_named line 0 (terminal_count line) own (omega (arith, long))
              (λ k row at.
              let is = row_at line scripts rows s are early k row at in
              omega (arith, is.terminal)));
        }

    pub all_fail : (script : Script) → slice_get scripts s ≡ Some script
        → All (FailsWhereNamed line script) (failing_timings line rows s)
    all_fail script at =
        all_pieces (failing_of line) (FailsWhereNamed line script) (rows_of line rows s)
        (λ k row here.
        let is = row_at line scripts rows s are early k row here in
        let one : is.script ≡ script = one_there scripts s is.script script is.at at in
        subst (λ (i : ℕ). All (FailsWhereNamed line script)
        (failing_named (terminal_name line i) row.settled.answer)) (sym is.terminal)
        (fails_there line script k row.settled.answer
        (subst (λ (x : Script). IsAnswer line x k row.settled.answer) one is.answer)))
