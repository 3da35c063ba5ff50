-- Items in a row: written one by one, and read back.
use Rattle.std.proofs.Common.{◌≡◌, ◌≢◌, ◌^◌, ℕ, ◌+◌, ◌<◌, ◌≤◌, Bool, true, List, []}
use Rattle.std.proofs.Common.{◌∷◌, ◌++◌, length, take, drop, get_or, Some, None, cond, not, refl}
use Rattle.std.proofs.Common.{sym, ◌∙◌, ap, arith, append_assoc, length-append, subst, ne_eqb, inl}
use Rattle.std.proofs.Common.{inr, decimal}
use Rattle.std.proofs.lemmas.List.{length-take-le, append-nil, take_at, drop_at, drop-drop}
use Rattle.std.proofs.lemmas.List.{length-replicate}
use Rattle.std.proofs.lemmas.Bool.Decides.{leb_tells}
use Rattle.std.proofs.lemmas.Option.{none-some, same_Some}
use Rattle.std.specs.Prelude.{nat_le}
use Rattle.std.specs.List.{list_all, prefix_len, position_or_len}
use Rattle.std.proofs.lemmas.Bool.{and_parts}
use Rattle.base_text.specs.store.Number.{is_digit, number_of}
use Rattle.base_text.specs.store.DecimalLaws.{are_digits, number_of-decimal}
use Rattle.run_signal.specs.declared.tern.Tern.{Tern}
use Rattle.run_signal.specs.declared.tern.Tern.TheVariants.{Zero, One, Unknown}
use Rattle.run_waves.specs.waves.Waves.{levels_of, runs_from, AreApart, ticks_of, AreRunsOf}
use Rattle.base_text.specs.lines.Lines.{is_space}
use Rattle.run_waves.specs.waves.Text.{gap, item_text, items_text, level_letter, level_in}
use Rattle.run_waves.specs.waves.Text.{run_with, run_in}
use Rattle.run_waves.specs.{declared.waves.runs.Run.Run, declared.waves.runs.Stretch.Stretch}
use Rattle.run_waves.proofs.waves_lemmas.RunLaws.{levels_round, new_levels, length-levels, some_ticks, run_to}
use Rattle.run_waves.proofs.waves_lemmas.RunLaws.{end_from, one_run_more, length-runs_from}

-- one item more
pub items_more : (runs : List Run) (run : Run)
    → items_text (runs ++ run ∷ []) ≡ items_text runs ++ (gap (length runs) ++ item_text run)
items_more [] run = refl
items_more (first ∷ []) run = refl
items_more (first ∷ next ∷ runs) run =
    let rest : List ℕ = items_text (next ∷ runs) in
    let more : List ℕ = gap (length (next ∷ runs)) ++ item_text run in
    ap (λ (text : List ℕ). item_text first ++ (32 ∷ text)) (items_more (next ∷ runs) run)
    ∙ sym (append_assoc (item_text first) (32 ∷ rest) more)

pub one_item_more : (stretches : List Stretch) (i : ℕ) (d : Stretch) → i < length stretches
    → items_text (runs_from 0 (take (i + 1) stretches))
    ≡ items_text (runs_from 0 (take i stretches))
    ++ (gap i ++ item_text (run_to (end_from 0 (take i stretches)) (get_or stretches i d)))
one_item_more stretches i d inside =
    let item : List ℕ =
    item_text (run_to (end_from 0 (take i stretches)) (get_or stretches i d)) in
    ap items_text (one_run_more stretches i d inside)
    ∙ items_more (runs_from 0 (take i stretches))
    (run_to (end_from 0 (take i stretches)) (get_or stretches i d))
    ∙ ap (λ (k : ℕ). items_text (runs_from 0 (take i stretches)) ++ (gap k ++ item))
    (length-runs_from 0 (take i stretches) ∙ length-take-le i stretches (omega arith))

-- ---- the end of an item

abbrev is_other : ℕ → Bool
is_other byte = not (is_space byte)

-- no byte is a space
abbrev AllOthers : List ℕ → Type 0
AllOthers [] = Unit {0}
AllOthers (byte ∷ bytes) = (is_other byte ≡ true) × AllOthers bytes

digit_is_other : (byte : ℕ) → is_digit byte ≡ true → is_other byte ≡ true
digit_is_other byte digit =
    let least = and_parts (nat_le 48 byte) (nat_le byte 57) digit in
    elim (leb_tells 48 byte) [
      | inl fits ↦ ap not (ne_eqb byte 32 (λ e. (let f = fits.1 in omega arith)))
      | inr small ↦ cc (small.0, least.0)
    ]

digits_are_others : (digits : List ℕ) → list_all is_digit digits ≡ true → AllOthers digits
digits_are_others [] all = tt
digits_are_others (digit ∷ digits) all =
    let first = and_parts (is_digit digit) (list_all is_digit digits) all in
    (digit_is_other digit first.0, digits_are_others digits first.1)

letter_is_other : (level : Tern) → is_other (level_letter level) ≡ true
letter_is_other Zero = refl
letter_is_other One = refl
letter_is_other Unknown = refl

item_is_others : (run : Run) → run.ticks < 2 ^ 32 → AllOthers (item_text run)
item_is_others run small = (
  letter_is_other run.level,
  (refl, digits_are_others _ (are_digits run.ticks (omega arith)).digits),
)

past_others : (bytes rest : List ℕ) → AllOthers bytes
    → prefix_len is_other (bytes ++ rest) ≡ length bytes + prefix_len is_other rest
past_others [] rest all = omega arith
past_others (byte ∷ bytes) rest all =
    ap (λ other. cond other (1 + prefix_len is_other (bytes ++ rest)) 0) all.0
    ∙ (let more = past_others bytes rest all.1 in omega arith)

-- the text after the first item
abbrev tail_text : List Run → List ℕ
tail_text [] = []
tail_text (run ∷ runs) = 32 ∷ items_text (run ∷ runs)

items_cons : (run : Run) (runs : List Run)
    → items_text (run ∷ runs) ≡ item_text run ++ tail_text runs
items_cons run [] = sym (append-nil (item_text run))
items_cons run (next ∷ runs) = refl

tail_ends : (runs : List Run) → prefix_len is_other (tail_text runs) ≡ 0
tail_ends [] = refl
tail_ends (run ∷ runs) = refl

tail_dropped : (runs : List Run) → drop 1 (tail_text runs) ≡ items_text runs
tail_dropped [] = refl
tail_dropped (run ∷ runs) = refl

item_ends : (run : Run) (runs : List Run) → run.ticks < 2 ^ 32
    → position_or_len is_space (items_text (run ∷ runs)) ≡ length (item_text run)
item_ends run runs small =
    ap (prefix_len is_other) (items_cons run runs)
    ∙ past_others (item_text run) (tail_text runs) (item_is_others run small)
    ∙ (let none = tail_ends runs in omega arith)

item_taken : (run : Run) (runs : List Run)
    → take (length (item_text run)) (items_text (run ∷ runs)) ≡ item_text run
item_taken run runs =
    ap (take (length (item_text run))) (items_cons run runs)
    ∙ take_at (item_text run) (tail_text runs) (length (item_text run)) refl

item_dropped : (run : Run) (runs : List Run)
    → drop (length (item_text run) + 1) (items_text (run ∷ runs)) ≡ items_text runs
item_dropped run runs =
    ap (drop (length (item_text run) + 1)) (items_cons run runs)
    ∙ sym (drop-drop 1 (length (item_text run)) (item_text run ++ tail_text runs))
    ∙ ap (drop 1) (drop_at (item_text run) (tail_text runs) (length (item_text run)) refl)
    ∙ tail_dropped runs

-- ---- an item is read back

level_read : (level : Tern) → level_in (level_letter level) ≡ Some level
level_read Zero = refl
level_read One = refl
level_read Unknown = refl

item_read : (run : Run) → run.ticks < 2 ^ 32 → run_in (item_text run) ≡ Some run
item_read run small =
    ap (λ level. run_with level (number_of (decimal run.ticks))) (level_read run.level)
    ∙ ap (run_with (Some run.level)) (number_of-decimal run.ticks small)

-- ---- two lists of runs with one text

pub items_tell : (runs others : List Run) → length (levels_of runs) ≤ 4000
    → length (levels_of others) ≤ 4000 → items_text runs ≡ items_text others → runs ≡ others
items_tell [] [] short brief same = refl
items_tell [] (other ∷ others) short brief same =
    absurd (omega (arith, ap length (same ∙ items_cons other others)))
items_tell (run ∷ runs) [] short brief same =
    absurd (omega (arith, ap length (sym same ∙ items_cons run runs)))
items_tell (run ∷ runs) (other ∷ others) short brief same =
    let l = length-levels run runs in
    let m = length-levels other others in
    let small : run.ticks < 2 ^ 32 = omega arith in
    let little : other.ticks < 2 ^ 32 = omega arith in
    let end : length (item_text run) ≡ length (item_text other) =
    sym (item_ends run runs small) ∙ ap (position_or_len is_space) same
    ∙ item_ends other others little in
    let item : item_text run ≡ item_text other =
    sym (item_taken run runs) ∙ ap (take (length (item_text run))) same
    ∙ ap (λ n. take n (items_text (other ∷ others))) end ∙ item_taken other others in
    let first : run ≡ other =
    same_Some run other (sym (item_read run small) ∙ ap run_in item ∙ item_read other little) in
    let rest : items_text runs ≡ items_text others =
    sym (item_dropped run runs) ∙ ap (drop (length (item_text run) + 1)) same
    ∙ ap (λ n. drop (n + 1) (items_text (other ∷ others))) end ∙ item_dropped other others in
    let later : runs ≡ others = items_tell runs others (omega arith) (omega arith) rest in
    cc

-- ---- reading item by item

-- the runs read so far, and the text of the rest, which begins with one more
pub record ReadsOn (runs : List Run) (horizon : ℕ) (wave : List Tern) (rest : List ℕ) : Type 0 where
  pub done : List Run
  pub next : Run
  pub later : List Run
  pub all : runs ≡ done ++ next ∷ later
  pub read : wave ≡ levels_of done
  pub text : rest ≡ items_text (next ∷ later)
  pub some : 1 ≤ next.ticks
  pub room : length wave + next.ticks ≤ horizon

reads : (runs : List Run) (horizon : ℕ) (done : List Run) (next : Run) (later : List Run)
    (wave : List Tern) (rest : List ℕ) → AreRunsOf runs horizon → runs ≡ done ++ next ∷ later
    → wave ≡ levels_of done → rest ≡ items_text (next ∷ later) → ReadsOn runs horizon wave rest
reads runs horizon done next later wave rest are all read text = record {
  done = done;
  next = next;
  later = later;
  all = all;
  read = read;
  text = text;
  some = some_ticks done next later
      (let P : List Run → Type 0 = λ r. AreApart r in subst P all are.apart);
  room = (let whole : levels_of runs ≡ levels_of done ++ (ticks_of next ++ levels_of later) =
      ap levels_of all ∙ levels_round done next later in
      omega (
        arith,
        ap length whole,
        are.long,
        ap length read,
        length-append (levels_of done) (ticks_of next ++ levels_of later),
        length-append (ticks_of next) (levels_of later),
        length-replicate next.ticks next.level,
      ));
}

pub reads_first : (runs : List Run) (horizon : ℕ) (text : List ℕ) → 1 ≤ horizon
    → AreRunsOf runs horizon → items_text runs ≡ text → ReadsOn runs horizon [] text
reads_first [] horizon text some are is = absurd (omega (arith, are.long))
reads_first (next ∷ later) horizon text some are is =
    reads (next ∷ later) horizon [] next later [] text are refl refl (sym is)

item_here : (runs : List Run) (horizon : ℕ) (wave : List Tern) (rest : List ℕ) (end : ℕ)
    → horizon ≤ 4000 → end ≡ position_or_len is_space rest → (r : ReadsOn runs horizon wave rest)
    → end ≡ length (item_text r.next)
item_here runs horizon wave rest end limited ends r =
    let small : r.next.ticks < 2 ^ 32 = (let room = r.room in omega arith) in
    ends ∙ ap (position_or_len is_space) r.text ∙ item_ends r.next r.later small

-- the item is the next run
pub reads_item : (runs : List Run) (horizon : ℕ) (wave : List Tern) (rest : List ℕ) (end : ℕ)
    → horizon ≤ 4000 → end ≡ position_or_len is_space rest → (r : ReadsOn runs horizon wave rest)
    → run_in (take end rest) ≡ Some r.next
reads_item runs horizon wave rest end limited ends r =
    let small : r.next.ticks < 2 ^ 32 = (let room = r.room in omega arith) in
    ap (λ n. run_in (take n rest)) (item_here runs horizon wave rest end limited ends r)
    ∙ ap (λ (t : List ℕ). run_in (take (length (item_text r.next)) t)) r.text
    ∙ ap run_in (item_taken r.next r.later)
    ∙ item_read r.next small

pub reads_run : (runs : List Run) (horizon : ℕ) (wave : List Tern) (rest : List ℕ) (end : ℕ)
    → horizon ≤ 4000 → end ≡ position_or_len is_space rest → (r : ReadsOn runs horizon wave rest)
    → (run : Run) → Some run ≡ run_in (take end rest) → run ≡ r.next
reads_run runs horizon wave rest end limited ends r run found =
    same_Some run r.next (found ∙ reads_item runs horizon wave rest end limited ends r)

pub reads_none : (runs : List Run) (horizon : ℕ) (wave : List Tern) (rest : List ℕ) (end : ℕ)
    → horizon ≤ 4000 → end ≡ position_or_len is_space rest → (r : ReadsOn runs horizon wave rest)
    → None ≡ run_in (take end rest) → ⊥
reads_none runs horizon wave rest end limited ends r found =
    none-some r.next (found ∙ reads_item runs horizon wave rest end limited ends r)

-- where the text ends with it, it is the last run
last_alone : (next : Run) (later : List Run) (rest : List ℕ) → rest ≡ items_text (next ∷ later)
    → length (item_text next) ≡ length rest → later ≡ []
last_alone next [] rest text whole = refl
last_alone next (run ∷ later) rest text whole =
    absurd (omega (
      arith,
      ap length text,
      length-append (item_text next) (32 ∷ items_text (run ∷ later)),
    ))

pub reads_last : (runs : List Run) (horizon : ℕ) (wave : List Tern) (rest : List ℕ) (end : ℕ)
    → horizon ≤ 4000 → end ≡ position_or_len is_space rest → (r : ReadsOn runs horizon wave rest)
    → end ≡ length rest → levels_of runs ≡ wave ++ ticks_of r.next
reads_last runs horizon wave rest end limited ends r whole =
    let none : r.later ≡ [] =
    last_alone r.next r.later rest r.text
    (sym (item_here runs horizon wave rest end limited ends r) ∙ whole) in
    ap levels_of r.all
    ∙ ap (λ (later : List Run). levels_of (r.done ++ r.next ∷ later)) none
    ∙ new_levels r.done r.next
    ∙ ap (λ (w : List Tern). w ++ ticks_of r.next) (sym r.read)

-- where it goes on, the next run follows
run_follows : (runs : List Run) (horizon : ℕ) (done : List Run) (next : Run) (later : List Run)
    (wave : List Tern) (rest : List ℕ) (end : ℕ) → AreRunsOf runs horizon
    → runs ≡ done ++ next ∷ later → wave ≡ levels_of done → rest ≡ items_text (next ∷ later)
    → end ≡ length (item_text next) → end ≢ length rest
    → ReadsOn runs horizon (wave ++ ticks_of next) (drop (end + 1) rest)
run_follows runs horizon done next [] wave rest end are all read text here goes_on =
    absurd (goes_on (here ∙ ap length (sym text)))
run_follows runs horizon done next (run ∷ later) wave rest end are all read text here goes_on =
    reads runs horizon (done ++ next ∷ []) run later (wave ++ ticks_of next) (drop (end + 1) rest)
    are
    (all ∙ sym (append_assoc done (next ∷ []) (run ∷ later)))
    (ap (λ (w : List Tern). w ++ ticks_of next) read ∙ sym (new_levels done next))
    (ap (drop (end + 1)) text
    ∙ ap (λ n. drop (n + 1) (items_text (next ∷ run ∷ later))) here
    ∙ item_dropped next (run ∷ later))

pub reads_more : (runs : List Run) (horizon : ℕ) (wave : List Tern) (rest : List ℕ) (end : ℕ)
    → horizon ≤ 4000 → AreRunsOf runs horizon → end ≡ position_or_len is_space rest
    → (r : ReadsOn runs horizon wave rest) → end ≢ length rest
    → ReadsOn runs horizon (wave ++ ticks_of r.next) (drop (end + 1) rest)
reads_more runs horizon wave rest end limited are ends r goes_on =
    run_follows runs horizon r.done r.next r.later wave rest end are r.all r.read r.text
    (item_here runs horizon wave rest end limited ends r) goes_on
