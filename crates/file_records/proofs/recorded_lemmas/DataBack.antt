-- The lines of the data say the samples that are meant.
use Rattle.std.proofs.Common.{◌≡◌, ◌≤◌, ◌<◌, ◌+◌, ◌-◌, ◌*◌, ◌/◌, ◌^◌, ◌++◌, ◌∙◌, ℕ, zero, suc, Bool, true, false}
use Rattle.std.proofs.Common.{List, [], ◌∷◌, length, get_or, map, drop, Some, None, Ok, refl, ap}
use Rattle.std.proofs.Common.{sym, arith}
use Rattle.std.proofs.Math.Nat.{suc-mul}
use Rattle.std.proofs.lemmas.Bool.{eq-eqb, le-leb, lt-ltb}
use Rattle.std.proofs.lemmas.List.FromFn.{get_or-map-range_with_len, length-map-range_with_len}
use Rattle.std.proofs.lemmas.List.FromFn.{map-range_with_len_more}
use Rattle.std.proofs.lemmas.Option.{slice_get-get_or}
use Rattle.std.specs.List.{range_with_len, slice_get}
use Rattle.std.specs.Prelude.{decimal, nat_lt, ◌==◌, if◌then◌else◌}
use Rattle.base_memory.specs.Gives.{◌>>=◌}
use Rattle.run_changes.specs.rows.PlayRows.{level_word}
use Rattle.file_comtrade.specs.Data.{SampleValues, follows, is_done, last_in, not_before, raw_at}
use Rattle.file_comtrade.specs.Data.{sample_after, samples_in, shape_of}
use Rattle.base_records.specs.Fields.{level_named}
use Rattle.file_comtrade.specs.RawSample.{Said, level_after, numbers_in, raw_in_line}
use Rattle.file_comtrade.specs.Steps.{steps}
use Rattle.file_comtrade.specs.Text.{fields_of}
use Rattle.file_comtrade.specs.Times.{below_2_64}
use Rattle.file_comtrade.specs.declared.config.Form.TheVariants.{Ascii}
use Rattle.file_comtrade.specs.declared.shape.Shape.{Shape}
use Rattle.file_records.proofs.recorded_lemmas.ConfigBack.{values_meant}
use Rattle.file_records.proofs.recorded_lemmas.Numbers.{natural_back, stamp_back}

-- ---- one line

level_back : (b : Bool) → level_named (level_word b) ≡ Some b
level_back true = refl
level_back false = refl

word_at : (levels : List Bool) (c : ℕ) → c < length levels
    → slice_get (map level_word levels) c ≡ Some (level_word (get_or levels c false))
word_at [] c within = absurd (omega arith)
word_at (b ∷ bs) zero within = refl
word_at (b ∷ bs) (suc c) within = word_at bs c (omega arith)

abbrev pub text_shape : ℕ → Shape
text_shape digital = record { analog = 0; digital = digital; form = Ascii }

one_level : (digital c k : ℕ) (n stamp : List ℕ) (levels : List Bool) → c < length levels
    → level_after (text_shape digital) (c ∷ []) (n ∷ stamp ∷ map level_word levels) k [] 0
    ≡ Ok (get_or levels c false ∷ [])
unfolding level_after
one_level digital c k n stamp levels within =
    let there : slice_get (n ∷ stamp ∷ map level_word levels) (2 + 0 + c)
    ≡ Some (level_word (get_or levels c false)) =
    (let two : 2 + 0 + c ≡ suc (suc c) = omega arith in
    ap (slice_get (n ∷ stamp ∷ map level_word levels)) two ∙ word_at levels c within) in
    rw (there, level_back (get_or levels c false)) refl

words_long : (levels : List Bool) → length (map level_word levels) ≡ length levels
words_long [] = refl
words_long (b ∷ bs) = ap suc (words_long bs)

pub raw_back : (c k n stamp : ℕ) (line : List ℕ) (levels : List Bool)
    → fields_of line ≡ decimal n ∷ decimal stamp ∷ map level_word levels → c < length levels
    → n < 2 ^ 32 → stamp < 2 ^ 64
    → raw_in_line (text_shape (length levels)) (c ∷ []) k line
    ≡ Ok (record { number = n; stamp = Some stamp; levels = get_or levels c false ∷ [] })
unfolding raw_in_line numbers_in
raw_back c k n stamp line levels fields within small low =
    let words : List (List ℕ) = map level_word levels in
    let long = words_long levels in
    let many : (length (decimal n ∷ decimal stamp ∷ words) == 2 + 0 + length levels) ≡ true =
    eq-eqb (length (decimal n ∷ decimal stamp ∷ words)) (2 + 0 + length levels) (omega arith) in
    rw (
      fields,
      many,
      natural_back n small,
      stamp_back stamp low,
      one_level (length levels) c k (decimal n) (decimal stamp) levels within,
    ) refl

-- ---- samples

-- the sample of a tick
abbrev pub sample_of : ℕ → (ℕ → Bool) → ℕ → SampleValues
sample_of us level t = record { number = t + 1; time = t * us * 1000; levels = level t ∷ [] }

abbrev pub so_far : ℕ → (ℕ → Bool) → ℕ → List SampleValues
so_far us level k = map (sample_of us level) (range_with_len 0 k)

last_back : (us : ℕ) (level : ℕ → Bool) (j : ℕ)
    → last_in (so_far us level (suc j)) ≡ Some (sample_of us level j)
last_back us level j =
    let f = sample_of us level in
    let xs : List SampleValues = so_far us level (suc j) in
    let long : length xs ≡ suc j = length-map-range_with_len f 0 (suc j) in
    let at : length xs - 1 ≡ j = omega arith in
    ap (slice_get xs) at
    ∙ slice_get-get_or xs j (f 0) (omega arith)
    ∙ ap (λ (s : SampleValues). Some s)
    (get_or-map-range_with_len f 0 (suc j) j j (f 0) (omega arith) (omega arith))

follows_back : (us : ℕ) (level : ℕ → Bool) (k : ℕ) → follows (last_in (so_far us level k)) (k + 1) ≡ true
unfolding follows
follows_back us level zero = refl
follows_back us level (suc j) =
    rw (last_back us level j) (eq-eqb (suc j + 1) (j + 1 + 1) (omega arith))

not_before_back : (us : ℕ) (level : ℕ → Bool) (k : ℕ)
    → not_before (last_in (so_far us level k)) (k * us * 1000) ≡ true
unfolding not_before
not_before_back us level zero = refl
not_before_back us level (suc j) =
    let more : suc j * us ≡ j * us + us = suc-mul j us in
    rw (last_back us level j) (le-leb (j * us * 1000) (suc j * us * 1000) (omega arith))

-- a stamp in microseconds is so many nanoseconds
time_back : (stamp : ℕ) → stamp * 1000 < 2 ^ 64
    → below_2_64 (stamp * 1000000000 / 1000000) ≡ Some (stamp * 1000)
time_back stamp low =
    let same : stamp * 1000000000 / 1000000 ≡ stamp * 1000 = omega arith in
    let fits : nat_lt (stamp * 1000) 18446744073709551616 ≡ true =
    lt-ltb (stamp * 1000) 18446744073709551616 (omega arith) in
    ap below_2_64 same ∙ ap (λ (t : Bool). if t then Some (stamp * 1000) else None) fits

one_sample : (ids : List (List ℕ)) (last us c k : ℕ) (level : ℕ → Bool) (lines : List (List ℕ))
    (bytes : List ℕ) → k * us * 1000 < 2 ^ 64
    → raw_at (shape_of (values_meant ids last)) (c ∷ []) lines bytes k
    ≡ Ok (record { number = k + 1; stamp = Some (k * us); levels = level k ∷ [] })
    → sample_after (values_meant ids last) (c ∷ []) lines bytes (so_far us level k) k
    ≡ Ok (so_far us level k ++ sample_of us level k ∷ [])
unfolding sample_after
one_sample ids last us c k level lines bytes low raw =
    rw (raw, follows_back us level k, time_back (k * us) low, not_before_back us level k) refl

pub samples_steps : (ids : List (List ℕ)) (last us c : ℕ) (level : ℕ → Bool) (lines : List (List ℕ))
    (bytes : List ℕ)
    → ((k : ℕ) → k < last → raw_at (shape_of (values_meant ids last)) (c ∷ []) lines bytes k
    ≡ Ok (record { number = k + 1; stamp = Some (k * us); levels = level k ∷ [] }))
    → ((k : ℕ) → k < last → k * us * 1000 < 2 ^ 64) → (k : ℕ) → k ≤ last
    → steps (sample_after (values_meant ids last) (c ∷ []) lines bytes) [] k ≡ Ok (so_far us level k)
samples_steps ids last us c level lines bytes raw low zero upto = refl
samples_steps ids last us c level lines bytes raw low (suc k) upto =
    let next : k + 1 ≡ suc k = omega arith in
    let more = map-range_with_len_more (sample_of us level) 0 k k (omega arith) in
    ap (λ (r : Said (List SampleValues)).
    r >>= λ s. sample_after (values_meant ids last) (c ∷ []) lines bytes s k)
    (samples_steps ids last us c level lines bytes raw low k (omega arith))
    ∙ one_sample ids last us c k level lines bytes (low k (omega arith)) (raw k (omega arith))
    ∙ ap (λ (l : List SampleValues). Ok l) (sym more)
    ∙ ap (λ (j : ℕ). Ok (so_far us level j)) next

-- behind the samples nothing stands but an empty line
pub samples_back : (ids : List (List ℕ)) (last us c : ℕ) (level : ℕ → Bool) (lines : List (List ℕ))
    (bytes : List ℕ)
    → steps (sample_after (values_meant ids last) (c ∷ []) lines bytes) [] last ≡ Ok (so_far us level last)
    → drop last lines ≡ [] ∷ []
    → samples_in (values_meant ids last) (c ∷ []) lines bytes ≡ Ok (so_far us level last)
unfolding samples_in is_done
samples_back ids last us c level lines bytes all rest = rw (all, rest) refl
