-- That what passes the checks fits the line.
use Rattle.std.proofs.Common.{◌≡◌, ◌&&◌, ◌==◌, ℕ, ◌<◌, true, List, []}
use Rattle.std.proofs.Common.{◌∷◌, ◌++◌, length, Option, Some, None, refl, sym, ap, subst, arith}
use Rattle.std.proofs.Common.{◌∙◌}
use Rattle.std.proofs.lemmas.List.Folds.{list_all-append}
use Rattle.std.specs.Prelude.{nat_lt, nat_le, option_map, IsTrue}
use Rattle.std.specs.List.{list_all}
use Rattle.std.proofs.lemmas.Map.Entries.{option_filter}
use Rattle.std.specs.Str.{bytes_eq}
use Rattle.base_text.specs.store.Number.{number_of}
use Rattle.model_line.specs.declared.script.Kind.TheVariants.{Internal, External}
use Rattle.model_line.specs.Fits.{exists_in, span_fits, deadline_fits}
use Rattle.model_line.specs.{declared.line.Line.Line, declared.script.SeenSpan.SeenSpan}
use Rattle.model_line.specs.{declared.script.Kind.Kind, declared.script.What.What}
use Rattle.model_line.specs.declared.script.What.TheVariants as what
use Rattle.model_names.specs.NumbersByName.{terminal_named, channel_named, has_name}
use Rattle.file_tables.specs.declared.script.item.Item.{Item}
use Rattle.file_tables.specs.declared.script.item.Item.TheVariants.{Head, Seen, Lost}
use Rattle.file_tables.specs.script.Checks.{deadline_of, span_between, what_at}
use Rattle.base_memory.specs.CheckLaws.{filtered, tested}
use Rattle.base_records.specs.{Fields.is_empty, ListLaws.position_within}

pub head_deadline_fits : (line : Line) (kind : Kind) (from to : List ℕ) (d : ℕ)
    → deadline_of line kind from to ≡ Some d → IsTrue (deadline_fits line.horizon kind d)
head_deadline_fits line Internal from to d e =
    let below : Option ℕ = option_filter (λ t. nat_lt t line.horizon) (number_of from) in
    (filtered (λ t. nat_lt t line.horizon) (number_of from) d (tested (is_empty to) below d e).1).1
head_deadline_fits line External from to d e =
    let p = tested (is_empty from && is_empty to) (Some 0) d e in
    let same : 0 ≡ d = (let f = p.1 in cc) in
    subst (λ (x : ℕ). (x == 0) ≡ true) same refl

-- a number that was found, under a constructor
pub record Mapped {A B : Type 0} (f : A → B) (o : Option A) (y : B) : Type 0 where
  pub value : A
  pub found : o ≡ Some value
  pub is : y ≡ f value

mapped : {A B : Type 0} (f : A → B) (o : Option A) (y : B) → option_map f o ≡ Some y
    → Mapped f o y
mapped f None y e = absurd (cc)
mapped f (Some x) y e = record { value = x; found = refl; is = (let g = e in cc) }

lt_test : (a b : ℕ) → a < b → nat_lt a b ≡ true
lt_test a b lt = grind arith

what_exists : (line : Line) (item : Item) (place : List ℕ) (w : What)
    → what_at line item place ≡ Some w → exists_in line w ≡ true
what_exists line (Head kind) place w e = absurd (cc)
what_exists line (Seen element) place w e =
    let f : ℕ → What = λ k. what.Element (record { element = element; terminal = k }) in
    let m = mapped f (terminal_named line place) w e in
    let below = position_within (λ t. bytes_eq t.name place) line.terminals.items m.value m.found in
    subst (λ (x : What). exists_in line x ≡ true) (sym m.is)
    (lt_test m.value (length line.terminals.items) (omega arith))
what_exists line Lost place w e =
    let m = mapped (λ c. what.Loss c) (channel_named line place) w e in
    let below = position_within (has_name line.terminals.items place) line.channels.items m.value
    m.found in
    subst (λ (x : What). exists_in line x ≡ true) (sym m.is)
    (lt_test m.value (length line.channels.items) (omega arith))

span_within : (line : Line) (w : What) (from to : Option ℕ) (span : SeenSpan)
    → exists_in line w ≡ true → span_between line.horizon w from to ≡ Some span
    → span_fits line span ≡ true
span_within line w None to span there e = absurd (cc)
span_within line w (Some from) None span there e = absurd (cc)
span_within line w (Some from) (Some to) span there e =
    let new : SeenSpan = record { what = w; from = from; to = to } in
    let p = tested (nat_lt from to && nat_le to line.horizon) (Some new) span e in
    let same : new ≡ span = (let f = p.1 in cc) in
    subst (λ (x : SeenSpan). span_fits line x ≡ true) same
    (ap (λ b. b && (nat_lt from to && nat_le to line.horizon)) there ∙ p.0)

pub row_span_fits : (line : Line) (item : Item) (place : List ℕ) (w : What) (from to : Option ℕ)
    (span : SeenSpan) → what_at line item place ≡ Some w
    → span_between line.horizon w from to ≡ Some span → span_fits line span ≡ true
row_span_fits line item place w from to span found ticks =
    span_within line w from to span (what_exists line item place w found) ticks

pub one_span_more : (line : Line) (spans : List SeenSpan) (span : SeenSpan)
    → IsTrue (list_all (span_fits line) spans) → span_fits line span ≡ true
    → IsTrue (list_all (span_fits line) (spans ++ span ∷ []))
one_span_more line spans span all here =
    list_all-append (span_fits line) spans (span ∷ [])
    ∙ ap (λ b. b && (span_fits line span && true)) all ∙ ap (λ b. b && true) here
