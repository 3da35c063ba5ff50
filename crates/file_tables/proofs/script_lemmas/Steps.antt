-- What a record that passes makes of the scripts before it.
use Rattle.std.proofs.Common.{◌≡◌, ◌&&◌, ℕ, Bool, true, false, List, length, Option, Some, Result}
use Rattle.std.proofs.Common.{Ok, refl, sym, ap, ◌∙◌, ok_or}
use Rattle.std.proofs.lemmas.Bool.{and_parts}
use Rattle.std.proofs.lemmas.Map.Entries.{option_filter}
use Rattle.std.specs.Prelude.{nat_lt, not}
use Rattle.std.specs.Str.{bytes_eq}
use Rattle.model_line.specs.{PlainNames.is_plain_name, declared.line.Line.Line}
use Rattle.model_line.specs.{declared.script.Kind.Kind, declared.script.What.What}
use Rattle.model_line.specs.declared.script.SeenSpan.{SeenSpan}
use Rattle.base_text.specs.store.Number.{number_of}
use Rattle.file_tables.specs.declared.script.fault.ScriptFault.{ScriptFault}
use Rattle.file_tables.specs.declared.script.fault.ScriptFault.TheVariants as fault
use Rattle.file_tables.specs.script.Values.{ScriptValues, with_head, with_row}
use Rattle.file_tables.specs.script.Checks.{item_of, has_good_name, is_head, is_taken, what_at}
use Rattle.file_tables.specs.script.Checks.{deadline_of, span_between}
use Rattle.file_tables.specs.script.Scripts.{after_head, after_row, after_item, after_record}
use Rattle.file_tables.specs.{declared.script.item.Item.Item, script.Row.Row, script.Row.row_in}
use Rattle.base_memory.specs.Gives.{◌>>=◌, passes_or}
use Rattle.base_records.specs.Fields.{is_empty}
use Rattle.base_records.specs.{SoFar.SoFar, SoFar.all_of}
use Rattle.base_memory.specs.CheckLaws.{filtered, found, passed, same_ok, test_held}

-- a head that passed
pub record HeadPassed (line : Line) (s : SoFar ScriptValues) (row : Row) (kind : Kind)
    (t : SoFar ScriptValues) : Type 0 where
  pub deadline : ℕ
  pub room : nat_lt (length (all_of s)) 64 ≡ true
  pub ticks : deadline_of line kind row.from row.to ≡ Some deadline
  pub after : t ≡ with_head s row.name kind deadline

pub head_passed : (line : Line) (s : SoFar ScriptValues) (n : ℕ) (row : Row) (kind : Kind)
    (t : SoFar ScriptValues) → after_head line s n row kind ≡ Ok t → HeadPassed line s row kind t
unfolding after_head
head_passed line s n row kind t e =
    let few : Bool = nat_lt (length (all_of s)) 64 in
    let room : Result (Unit {0}) ScriptFault = passes_or few fault.TooMany in
    let place : Result (Unit {0}) ScriptFault = passes_or (is_empty row.place) (fault.BadPlace n) in
    let ticks : Result ℕ ScriptFault =
    ok_or (deadline_of line kind row.from row.to) (fault.Ticks n) in
    let last : ℕ → Result (SoFar ScriptValues) ScriptFault =
    λ deadline. Ok (with_head s row.name kind deadline) in
    let a = passed room (λ unit. place >>= λ no_place. ticks >>= last) t e in
    let b = passed place (λ no_place. ticks >>= last) t a.rest in
    let c = passed ticks last t b.rest in
    record {
      deadline = c.value;
      room = test_held few fault.TooMany a.value a.was;
      ticks = found (deadline_of line kind row.from row.to) (fault.Ticks n) c.value c.was;
      after = sym (same_ok (with_head s row.name kind c.value) t c.rest);
    }

-- any other row that passed
pub record RowPassed (line : Line) (s : SoFar ScriptValues) (row : Row) (item : Item)
    (t : SoFar ScriptValues) : Type 0 where
  pub latest : ScriptValues
  pub place : What
  pub span : SeenSpan
  pub stands : s.latest ≡ Some latest
  pub room : nat_lt (length latest.spans) 200 ≡ true
  pub found : what_at line item row.place ≡ Some place
  pub ticks : span_between line.horizon place (number_of row.from) (number_of row.to) ≡ Some span
  pub after : t ≡ with_row s latest span

pub row_passed : (line : Line) (s : SoFar ScriptValues) (n : ℕ) (row : Row) (item : Item)
    (t : SoFar ScriptValues) → after_row line s n row item ≡ Ok t → RowPassed line s row item t
unfolding after_row
row_passed line s n row item t e =
    let own : ScriptValues → Bool = λ v. bytes_eq v.name row.name in
    let few : ScriptValues → Bool = λ v. nat_lt (length v.spans) 200 in
    let place : Result What ScriptFault = ok_or (what_at line item row.place) (fault.BadPlace n) in
    let between : What → Option SeenSpan = λ w.
    span_between line.horizon w (number_of row.from) (number_of row.to) in
    let span : What → Result SeenSpan ScriptFault = λ w. ok_or (between w) (fault.Ticks n) in
    let last : ScriptValues → SeenSpan → Result (SoFar ScriptValues) ScriptFault =
    λ latest x. Ok (with_row s latest x) in
    let behind : ScriptValues → Result (SoFar ScriptValues) ScriptFault =
    λ latest. place >>= λ w. span w >>= last latest in
    let a = passed (ok_or (option_filter own s.latest) (fault.Order n))
    (λ latest. passes_or (few latest) fault.TooMany >>= λ room. behind latest) t e in
    let b = passed (passes_or (few a.value) fault.TooMany) (λ room. behind a.value) t a.rest in
    let c = passed place (λ w. span w >>= last a.value) t b.rest in
    let d = passed (span c.value) (last a.value) t c.rest in
    let latest = found (option_filter own s.latest) (fault.Order n) a.value a.was in
    record {
      latest = a.value;
      place = c.value;
      span = d.value;
      stands = (filtered own s.latest a.value latest).0;
      room = test_held (few a.value) fault.TooMany b.value b.was;
      found = found (what_at line item row.place) (fault.BadPlace n) c.value c.was;
      ticks = found (between c.value) (fault.Ticks n) d.value d.was;
      after = sym (same_ok (with_row s a.value d.value) t d.rest);
    }

-- a record that passed is a head or a row
pub record RecordPassed (line : Line) (s : SoFar ScriptValues) (n : ℕ) (t : SoFar ScriptValues) : Type 0 where
  pub row : Row
  pub item : Item
  pub plain : is_plain_name row.name ≡ true
  pub new : is_head (Some item) ≡ true → is_taken s row.name ≡ false
  pub after : after_item line s n row item ≡ Ok t

not_taken : (h t : Bool) → not (h && t) ≡ true → h ≡ true → t ≡ false
not_taken true true e head = absurd (cc)
not_taken true false e head = refl
not_taken false t e head = absurd (cc)

pub record_passed : (line : Line) (s : SoFar ScriptValues) (n : ℕ) (fields : List (List ℕ))
    (t : SoFar ScriptValues) → after_record line s n fields ≡ Ok t → RecordPassed line s n t
unfolding after_record
record_passed line s n fields t e =
    let name : Row → Result (Unit {0}) ScriptFault = λ row.
    passes_or (has_good_name s row) (fault.BadName n) in
    let item : Row → Result Item ScriptFault = λ row. ok_or (item_of row.item) (fault.Item n) in
    let a = passed (ok_or (row_in fields) (fault.Fields n))
    (λ row. name row >>= λ good. item row >>= after_item line s n row) t e in
    let b = passed (name a.value) (λ good. item a.value >>= after_item line s n a.value) t a.rest in
    let c = passed (item a.value) (after_item line s n a.value) t b.rest in
    let taken : Bool = is_taken s a.value.name in
    let p = and_parts (is_plain_name a.value.name) (not (is_head (item_of a.value.item) && taken))
    (test_held (has_good_name s a.value) (fault.BadName n) b.value b.was) in
    let is = found (item_of a.value.item) (fault.Item n) c.value c.was in
    record {
      row = a.value;
      item = c.value;
      plain = p.0;
      new = λ head. not_taken (is_head (item_of a.value.item)) taken p.1 (ap is_head is ∙ head);
      after = c.rest;
    }
