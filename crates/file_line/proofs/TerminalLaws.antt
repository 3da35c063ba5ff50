-- What the terminals that are read keep.
use Rattle.std.proofs.Common.{◌≡◌, ◌+◌, ◌<◌, ◌||◌, ◌++◌, ℕ, true, false, not, List, [], ◌∷◌}
use Rattle.std.proofs.Common.{length, Option, Some, None, Ok, refl, subst, arith, codes}
use Rattle.std.proofs.Common.{length-append}
use Rattle.std.specs.Prelude.{IsTrue, is_some}
use Rattle.std.specs.Str.{bytes_eq}
use Rattle.std.specs.List.{list_any}
use Rattle.std.proofs.lemmas.Bool.{not-false}
use Rattle.toml.specs.Data.{Data, Members, get_member}
use Rattle.model_line.specs.declared.line.Scheme.TheVariants.{Pott, Putt, Dcb, Dcub, Dtt}
use Rattle.model_line.specs.Settings.{guard_settings, weak_settings, scheme_settings}
use Rattle.model_line.specs.Settings.{terminal_settings, zone1_settings, zone2_settings}
use Rattle.model_line.specs.Settings.{reverse_settings, undervoltage_settings}
use Rattle.model_line.specs.Terminals.{has_flags, has_no_flag}
use Rattle.model_line.specs.PlainNames.{is_plain_name}
use Rattle.model_line.specs.{declared.line.Scheme.Scheme, declared.line.Setting.Setting}
use Rattle.model_line.specs.{declared.bounds.Bounds.Bounds, declared.line.Terminal.Terminal}
use Rattle.file_line.specs.TerminalTables.{terminal_keys, name_at, no_times, element_times}
use Rattle.file_line.specs.TerminalTables.{elements_times, permissive_times, scheme_times}
use Rattle.file_line.specs.TerminalTables.{terminal_named, terminal_at}
use Rattle.file_document.specs.Keys.{table_in}
use Rattle.file_line.specs.Places.{Places, only_keys, key_text}
use Rattle.file_line.specs.Lines.{LineValues}
use Rattle.file_line.specs.Times.{group_key}
use Rattle.base_memory.specs.CheckLaws.{passed, refusal_passed, same_ok}
use Rattle.file_line.proofs.TimeLaws.{IsTime, AreTimes, Grew, grew_more, grew_as}
use Rattle.file_line.proofs.TimeLaws.{required_ok, optional_ok}

no_times_are : AreTimes no_times
no_times_are =
    let none : IsTime 0 (record { least = 0; greatest = 0 }) =
    record { ordered = omega arith; within = omega arith; enough = omega arith } in
    (none, (none, tt))

-- the four elements have eight intervals
elements_ok :
    (places : Places) (unit : ℕ) (ms : Members) (done more : List Bounds) → 0 < unit
    → elements_times places unit ms done ≡ Ok more → Grew 8 done more
unfolding elements_times
elements_ok places unit ms done more some e =
    let record { value = z1; was = z1_is; rest = e1 } =
    passed (element_times places zone1_settings unit ms done) _ more e in
    let record { value = z2; was = z2_is; rest = e2 } =
    passed (element_times places zone2_settings unit ms z1) _ more e1 in
    let record { value = rv; was = rv_is; rest = e3 } =
    passed (element_times places reverse_settings unit ms z2) _ more e2 in
    grew_more 6 2 done rv more
    (grew_more 4 2 done z2 rv
    (grew_more 2 2 done z1 z2 (one zone1_settings refl done z1 z1_is)
    (one zone2_settings refl z1 z2 z2_is)) (one reverse_settings refl z2 rv rv_is))
    (one undervoltage_settings refl rv more e3)
  where
    one :
        (xs : List Setting) → length xs ≡ 2 → (old new : List Bounds)
        → element_times places xs unit ms old ≡ Ok new → Grew 2 old new
    one xs two old new is =
        optional_ok 2 no_times places xs unit ms old new some no_times_are (λ _. refl) (λ _. two) is

guard_count :
    (o : Option Data) → ((o ≡ None → 0 ≡ length (guard_settings (is_some o)))
    × (IsTrue (is_some o) → 2 ≡ length (guard_settings (is_some o))))
guard_count None = (λ _. refl, λ h. absurd (cc))
guard_count (Some d) = (λ h. absurd (cc), λ _. refl)

weak_count :
    (o : Option Data) → ((o ≡ None → 0 ≡ length (weak_settings (is_some o)))
    × (IsTrue (is_some o) → 3 ≡ length (weak_settings (is_some o))))
weak_count None = (λ _. refl, λ h. absurd (cc))
weak_count (Some d) = (λ h. absurd (cc), λ _. refl)

permissive_ok :
    (places : Places) (unit : ℕ) (ms : Members) (done more : List Bounds) → 0 < unit
    → permissive_times places unit ms done ≡ Ok more
    → Grew (length (guard_settings (is_some (get_member (group_key (guard_settings true)) ms)))
    + length (weak_settings (is_some (get_member (group_key (weak_settings true)) ms)))) done more
unfolding permissive_times
permissive_ok places unit ms done more some e =
    let reversal : Option Data = get_member (group_key (guard_settings true)) ms in
    let echo : Option Data = get_member (group_key (weak_settings true)) ms in
    let record { value = mid; was = mid_is; rest = e1 } = passed _ _ more e in
    let g = guard_count reversal in
    let w = weak_count echo in
    grew_more (length (guard_settings (is_some reversal))) (length (weak_settings (is_some echo)))
    done mid more
    (optional_ok (length (guard_settings (is_some reversal))) [] places (guard_settings true)
    unit ms done mid some tt g.0 g.1 mid_is)
    (optional_ok (length (weak_settings (is_some echo))) [] places (weak_settings true) unit ms
    mid more some tt w.0 w.1 e1)

-- how many settings a terminal has besides those of its elements
abbrev pub own_count : Scheme → Terminal → ℕ
own_count s t =
    length (guard_settings t.guard) + length (weak_settings t.weak) + length (scheme_settings s)

scheme_ok :
    (s : Scheme) (places : Places) (unit : ℕ) (ms : Members) (name : List ℕ) (done more : List Bounds)
    → 0 < unit → scheme_times s places unit ms done ≡ Ok more
    → Grew (own_count s (terminal_named s ms name)) done more
scheme_ok Pott places unit ms name done more some e =
    grew_as _ _ done more (omega arith) (permissive_ok places unit ms done more some e)
scheme_ok Dcub places unit ms name done more some e =
    grew_as _ _ done more (omega arith) (permissive_ok places unit ms done more some e)
scheme_ok Putt places unit ms name done more some e =
    required_ok places (scheme_settings Putt) unit ms done more some e
scheme_ok Dcb places unit ms name done more some e =
    required_ok places (scheme_settings Dcb) unit ms done more some e
scheme_ok Dtt places unit ms name done more some e =
    required_ok places (scheme_settings Dtt) unit ms done more some e

pub own_settings_count :
    (s : Scheme) (t : Terminal) → 8 + own_count s t ≡ length (terminal_settings s t)
own_settings_count s t =
    omega (
      arith,
      length-append (guard_settings t.guard) (weak_settings t.weak ++ (scheme_settings s ++ [])),
      length-append (weak_settings t.weak) (scheme_settings s ++ []),
      length-append (scheme_settings s) [],
    )

-- what one more terminal is
pub record IsOneMoreTerminal (line more : LineValues) : Type 0 where
  pub terminal : Terminal
  pub intervals : List Bounds
  pub plain : is_plain_name terminal.name ≡ true
  pub new : list_any (λ t. bytes_eq t.name terminal.name) line.terminals ≡ false
  pub flags : has_flags line.scheme || has_no_flag terminal ≡ true
  pub grew : Grew (length (terminal_settings line.scheme terminal)) line.intervals intervals
  pub is :
      record line { terminals = line.terminals ++ terminal ∷ []; intervals = intervals } ≡ more

name_ok :
    (places : Places) (before : List Terminal) (ms : Members) (name : List ℕ)
    → name_at places before ms ≡ Ok name
    → (is_plain_name name ≡ true) × (list_any (λ t. bytes_eq t.name name) before ≡ false)
unfolding name_at
name_ok places before ms name e =
    let record { value = text; was = text_is; rest = e1 } =
    passed (key_text places (codes "name") ms) _ name e in
    let (plain, e2) = refusal_passed (not (is_plain_name text)) _ _ name e1 in
    let (new, e3) = refusal_passed (list_any (λ t. bytes_eq t.name text) before) (Ok text) _ name e2 in
    let same : text ≡ name = same_ok text name e3 in
    subst
    (λ n. (is_plain_name n ≡ true) × (list_any (λ t. bytes_eq t.name n) before ≡ false)) same
    (not-false (is_plain_name text) plain, new)

named_flags :
    (s : Scheme) (ms : Members) (name : List ℕ)
    → has_flags s || has_no_flag (terminal_named s ms name) ≡ true
named_flags Pott ms name = refl
named_flags Putt ms name = refl
named_flags Dcb ms name = refl
named_flags Dcub ms name = refl
named_flags Dtt ms name = refl

pub terminal_at-ok :
    (unit : ℕ) (places : Places) (d : Data) (line more : LineValues) → 0 < unit
    → terminal_at unit places d line ≡ Ok more → IsOneMoreTerminal line more
unfolding terminal_at
terminal_at-ok unit places d line more some e =
    let record { value = ms; was = ms_is; rest = e1 } = passed (table_in places.table d) _ more e in
    let record { value = known; was = known_is; rest = e2 } =
    passed (only_keys places (terminal_keys line.scheme) ms) _ more e1 in
    let record { value = name; was = name_is; rest = e3 } =
    passed (name_at places line.terminals ms) _ more e2 in
    let record { value = elements; was = elements_are; rest = e4 } =
    passed (elements_times places unit ms line.intervals) _ more e3 in
    let record { value = whole; was = whole_is; rest = e5 } =
    passed (scheme_times line.scheme places unit ms elements) _ more e4 in
    let t : Terminal = terminal_named line.scheme ms name in
    let named = name_ok places line.terminals ms name name_is in
    record {
      terminal = t;
      intervals = whole;
      plain = named.0;
      new = named.1;
      flags = named_flags line.scheme ms name;
      grew =
          grew_as _ _ line.intervals whole (own_settings_count line.scheme t)
          (grew_more 8 (own_count line.scheme t) line.intervals elements whole
          (elements_ok places unit ms line.intervals elements some elements_are)
          (scheme_ok line.scheme places unit ms name elements whole some whole_is));
      is = same_ok _ more e5;
    }
