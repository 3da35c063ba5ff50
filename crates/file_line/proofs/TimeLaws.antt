-- The intervals that are read: in order, at most 4,000 ticks, one for each key.
use Rattle.std.proofs.Common.{◌≡◌, ◌+◌, ◌-◌, ◌*◌, ◌/◌, ◌<◌, ◌≤◌, ◌&&◌, ◌++◌, ℕ, ℤ, pos, negsuc}
use Rattle.std.proofs.Common.{List, [], ◌∷◌, length, Option, Some, None, Ok, refl, sym, ap, subst}
use Rattle.std.proofs.Common.{◌∙◌, arith, append_assoc, length-append, nat_le, div-mul-le_self}
use Rattle.std.proofs.lemmas.Bool.{and_parts, leb-true}
use Rattle.std.proofs.lemmas.List.{append-nil}
use Rattle.std.proofs.lemmas.Nat.{le-div}
use Rattle.std.proofs.Math.Nat.{div-lt_iff_lt-mul}
use Rattle.std.specs.Prelude.{IsTrue, is_some, map}
use Rattle.toml.specs.Data.{Data, string, integer, float, boolean, datetime, array, table, Members}
use Rattle.toml.specs.Data.{Items, no_items, item, as_integer, get_member}
use Rattle.model_line.specs.Settings.{table_key, time_key}
use Rattle.model_line.specs.{declared.bounds.Bounds.Bounds, declared.line.Setting.Setting}
use Rattle.file_line.specs.Times.{in_ticks, interval_in, two_ends, ends_in, time_in, time_at, time_there}
use Rattle.file_line.specs.Times.{times_at, times_in, group_key, required_times, times_or}
use Rattle.file_line.specs.Times.{optional_times}
use Rattle.file_document.specs.{Keys.all_known, Keys.required, Keys.table_in}
use Rattle.file_line.specs.Places.{Places, in_table, key_value}
use Rattle.base_memory.specs.CheckLaws.{passed, test_passed, same_ok}

-- an interval of times, the least of which is not below `fewest`
pub record IsTime (fewest : ℕ) (b : Bounds) : Type 0 where
  pub ordered : b.least ≤ b.greatest
  pub within : b.greatest ≤ 4000
  pub enough : fewest ≤ b.least

-- each is one
abbrev pub AreTimes : List Bounds → Type 0
AreTimes [] = Unit {0}
AreTimes (b ∷ bs) = IsTime 0 b × AreTimes bs

pub AreTimes-append : (xs ys : List Bounds) → AreTimes xs → AreTimes ys → AreTimes (xs ++ ys)
AreTimes-append [] ys h k = k
AreTimes-append (x ∷ xs) ys h k = (h.0, AreTimes-append xs ys h.1 k)

-- the list grew by n intervals
pub record Grew (n : ℕ) (old new : List Bounds) : Type 0 where
  pub added : List Bounds
  pub is : old ++ added ≡ new
  pub times : AreTimes added
  pub count : length added ≡ n

pub grew_none : (old : List Bounds) → Grew 0 old old
grew_none old = record { added = []; is = append-nil old; times = tt; count = refl }

pub grew_more :
    (m n : ℕ) (old mid new : List Bounds) → Grew m old mid → Grew n mid new → Grew (m + n) old new
grew_more m n old mid new g h =
    record {
      added = g.added ++ h.added;
      is = sym (append_assoc old g.added h.added) ∙ rw g.is h.is;
      times = AreTimes-append g.added h.added g.times h.times;
      count = omega (arith, length-append g.added h.added, g.count, h.count);
    }

pub grew_one :
    (old : List Bounds) (b : Bounds) → IsTime 0 b → Grew 1 old (old ++ b ∷ [])
grew_one old b t = record { added = b ∷ []; is = refl; times = (t, tt); count = refl }

pub grew_as : (m n : ℕ) (old new : List Bounds) → m ≡ n → Grew m old new → Grew n old new
grew_as m n old new e g = subst (λ k. Grew k old new) e g

pub grew_count :
    (n : ℕ) (old new : List Bounds) → Grew n old new → length new ≡ length old + n
grew_count n old new g = omega (arith, length-append old g.added, g.count, ap length g.is)

pub any_fewest : (fewest : ℕ) (b : Bounds) → IsTime fewest b → IsTime 0 b
any_fewest fewest b t = record { ordered = t.ordered; within = t.within; enough = omega arith }

ticks_ok :
    (unit fewest a b : ℕ) → 0 < unit → a ≤ b → b ≤ 4000 * unit → fewest ≤ a / unit
    → IsTime fewest (in_ticks unit a b)
ticks_ok unit fewest a b some ordered within enough =
    record {
      ordered =
          le-div (a / unit) (b + (unit - 1)) unit some
          (omega (arith, div-mul-le_self a unit));
      within =
          (let below : b + (unit - 1) < 4001 * unit = omega arith in
          let lt : (b + (unit - 1)) / unit < 4001 =
          (div-lt_iff_lt-mul {k = unit} {x = b + (unit - 1)} {y = 4001} some).1 below in
          omega arith);
      enough = enough;
    }

interval_ok :
    (path : List ℕ) (unit fewest : ℕ) (a b : ℤ) (t : Bounds) → 0 < unit
    → interval_in path unit fewest a b ≡ Ok t → IsTime fewest t
interval_ok path unit fewest (pos a) (pos b) t some e =
    let (tests, made) = test_passed
    (nat_le a b && (nat_le b (4000 * unit) && nat_le fewest (a / unit)))
    (in_ticks unit a b) _ t e in
    let (ordered, more) = and_parts (nat_le a b) _ tests in
    let (within, enough) = and_parts (nat_le b (4000 * unit)) _ more in
    subst (λ x. IsTime fewest x) made
    (ticks_ok unit fewest a b some (leb-true a b ordered) (leb-true b (4000 * unit) within)
    (leb-true fewest (a / unit) enough))
interval_ok path unit fewest (pos a) (negsuc b) t some e = absurd (cc)
interval_ok path unit fewest (negsuc a) b t some e = absurd (cc)

two_ends_ok :
    (path : List ℕ) (unit fewest : ℕ) (a b : Option ℤ) (t : Bounds) → 0 < unit
    → two_ends path unit fewest a b ≡ Ok t → IsTime fewest t
two_ends_ok path unit fewest (Some a) (Some b) t some e =
    interval_ok path unit fewest a b t some e
two_ends_ok path unit fewest (Some a) None t some e = absurd (cc)
two_ends_ok path unit fewest None b t some e = absurd (cc)

ends_ok :
    (path : List ℕ) (unit fewest : ℕ) (ds : Items) (t : Bounds) → 0 < unit
    → ends_in path unit fewest ds ≡ Ok t → IsTime fewest t
ends_ok path unit fewest no_items t some e = absurd (cc)
ends_ok path unit fewest (item a no_items) t some e = absurd (cc)
ends_ok path unit fewest (item a (item b no_items)) t some e =
    two_ends_ok path unit fewest (as_integer a) (as_integer b) t some e
ends_ok path unit fewest (item a (item b (item c ds))) t some e = absurd (cc)

time_in_ok :
    (path : List ℕ) (unit fewest : ℕ) (d : Data) (t : Bounds) → 0 < unit
    → time_in path unit fewest d ≡ Ok t → IsTime fewest t
time_in_ok path unit fewest (integer n) t some e = interval_ok path unit fewest n n t some e
time_in_ok path unit fewest (array ds) t some e = ends_ok path unit fewest ds t some e
time_in_ok path unit fewest (string s) t some e = absurd (cc)
time_in_ok path unit fewest (float x) t some e = absurd (cc)
time_in_ok path unit fewest (boolean b) t some e = absurd (cc)
time_in_ok path unit fewest (datetime x) t some e = absurd (cc)
time_in_ok path unit fewest (table ms) t some e = absurd (cc)

-- a time that is read
pub time_ok :
    (places : Places) (key : List ℕ) (unit fewest : ℕ) (ms : Members) (t : Bounds) → 0 < unit
    → time_at places key unit fewest ms ≡ Ok t → IsTime fewest t
unfolding time_there
time_ok places key unit fewest ms t some e =
    let record { value = d; was = d_is; rest = made } = passed (required (places.key key) (get_member key ms)) _ t e in
    time_in_ok (places.key key) unit fewest d t some made

-- times that are read
times_ok :
    (places : Places) (xs : List Setting) (unit : ℕ) (ms : Members) (done more : List Bounds)
    → 0 < unit → times_at places xs unit ms done ≡ Ok more → Grew (length xs) done more
unfolding times_at
times_ok places [] unit ms done more some e =
    subst (λ x. Grew 0 done x) (same_ok done more e) (grew_none done)
times_ok places (x ∷ xs) unit ms done more some e =
    let record { value = t; was = t_is; rest = rest } =
    passed (time_at places (time_key x) unit 0 ms) _ more e in
    let one = grew_one done t (time_ok places (time_key x) unit 0 ms t some t_is) in
    grew_as (1 + length xs) (length (x ∷ xs)) done more (omega arith)
    (grew_more 1 (length xs) done (done ++ t ∷ []) more one
    (times_ok places xs unit ms (done ++ t ∷ []) more some rest))

times_in_ok :
    (path : List ℕ) (xs : List Setting) (unit : ℕ) (d : Data) (done more : List Bounds)
    → 0 < unit → times_in path xs unit d done ≡ Ok more → Grew (length xs) done more
unfolding times_in
times_in_ok path xs unit d done more some e =
    let record { value = ms; was = ms_is; rest = e1 } = passed (table_in path d) _ more e in
    let record { value = known; was = known_is; rest = e2 } =
    passed (all_known path (map time_key xs) ms) _ more e1 in
    times_ok (in_table path) xs unit ms done more some e2

-- those of a required table
pub required_ok :
    (places : Places) (xs : List Setting) (unit : ℕ) (ms : Members) (done more : List Bounds)
    → 0 < unit → required_times places xs unit ms done ≡ Ok more → Grew (length xs) done more
unfolding required_times
required_ok places [] unit ms done more some e =
    subst (λ x. Grew 0 done x) (same_ok done more e) (grew_none done)
required_ok places (x ∷ xs) unit ms done more some e =
    let record { value = d; was = d_is; rest = made } =
    passed (key_value places (table_key x) ms) _ more e in
    times_in_ok (places.key (table_key x)) (x ∷ xs) unit d done more some made

times_or_ok :
    (n : ℕ) (absent : List Bounds) (path : List ℕ) (xs : List Setting) (unit : ℕ)
    (o : Option Data) (done more : List Bounds) → 0 < unit → AreTimes absent
    → (o ≡ None → length absent ≡ n) → (IsTrue (is_some o) → length xs ≡ n)
    → times_or absent path xs unit o done ≡ Ok more → Grew n done more
times_or_ok n absent path xs unit None done more some times none there e =
    record { added = absent; is = same_ok _ more e; times = times; count = none refl }
times_or_ok n absent path xs unit (Some d) done more some times none there e =
    grew_as (length xs) n done more (there refl) (times_in_ok path xs unit d done more some e)

-- those of a table that may be absent
pub optional_ok :
    (n : ℕ) (absent : List Bounds) (places : Places) (xs : List Setting) (unit : ℕ) (ms : Members)
    (done more : List Bounds) → 0 < unit → AreTimes absent
    → (get_member (group_key xs) ms ≡ None → length absent ≡ n)
    → (IsTrue (is_some (get_member (group_key xs) ms)) → length xs ≡ n)
    → optional_times absent places xs unit ms done ≡ Ok more → Grew n done more
unfolding optional_times
optional_ok n absent places xs unit ms done more some times none there e =
    times_or_ok n absent (places.key (group_key xs)) xs unit (get_member (group_key xs) ms) done
    more some times none there e
