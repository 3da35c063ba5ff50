-- Rows of fields as lines of text: they are read back.
use Rattle.std.proofs.Common.{◌≡◌, ◌≢◌, ◌≤◌, ◌<◌, ◌+◌, ◌-◌, ◌++◌, ◌∙◌, ℕ, zero, suc, Bool, true, false}
use Rattle.std.proofs.Common.{List, [], ◌∷◌, length, get_or, take, drop, map, Some, refl, ap, sym}
use Rattle.std.proofs.Common.{arith, cond, inl, inr, ne_eqb, append_assoc, length-append}
use Rattle.std.proofs.lemmas.Bool.{and_parts, and_from, and_right, eqb-true, leb-true, lt-leb}
use Rattle.std.proofs.lemmas.Bool.{ltb-true, or_cases, or_from, or_left}
use Rattle.std.proofs.lemmas.List.{get_or_append_left, get_or_at, take_all, take_at}
use Rattle.std.proofs.lemmas.List.Elements.{All-append, All-cons, All-nil, All-get_or}
use Rattle.std.proofs.lemmas.List.Splits.{slice_split_at, slice_split_none}
use Rattle.std.proofs.lemmas.List.Sums.{position_or_len_is, suffix_len_is}
use Rattle.std.specs.Char.{is_ascii_whitespace}
use Rattle.std.specs.List.{All, AllByRecursion, before_first, list_all, prefix_len}
use Rattle.std.specs.List.{slice_get, suffix_len}
use Rattle.std.specs.Prelude.{◌==◌, ◌||◌, nat_le, nat_lt}
use Rattle.base_text.specs.store.Number.{is_digit}
use Rattle.file_comtrade.specs.Text.{fields_of, lines_of, trimmed, trimmed_end, unmarked}

-- ---- fields

-- a byte that parts nothing: a blank, or one above the comma
abbrev pub is_field_byte : ℕ → Bool
is_field_byte b = nat_lt 44 b || (b == 32)

-- neither a comma nor a line end stands in a field, and no blank at its ends
pub record IsField (f : List ℕ) : Type 0 where
  pub bytes : list_all is_field_byte f ≡ true
  pub first : nat_lt 44 (get_or f 0 45) ≡ true
  pub last : nat_lt 44 (get_or f (length f - 1) 45) ≡ true

pub all_at : (p : ℕ → Bool) (xs : List ℕ) (i d : ℕ) → list_all p xs ≡ true → p d ≡ true
    → p (get_or xs i d) ≡ true
all_at p [] i d all here = here
all_at p (x ∷ xs) zero d all here = (and_parts (p x) (list_all p xs) all).0
all_at p (x ∷ xs) (suc i) d all here =
    all_at p xs i d (and_parts (p x) (list_all p xs) all).1 here

pub all_weaker : (p q : ℕ → Bool) → ((b : ℕ) → p b ≡ true → q b ≡ true) → (xs : List ℕ)
    → list_all p xs ≡ true → list_all q xs ≡ true
all_weaker p q more [] all = refl
all_weaker p q more (x ∷ xs) all =
    let parts = and_parts (p x) (list_all p xs) all in
    and_from (q x) (list_all q xs) (more x parts.0) (all_weaker p q more xs parts.1)

-- bytes above the comma
pub solid : (f : List ℕ) → list_all (λ b. nat_lt 44 b) f ≡ true → IsField f
solid f all = record {
  bytes = all_weaker (λ b. nat_lt 44 b) is_field_byte (λ b h. or_left (nat_lt 44 b) (b == 32) h) f all;
  first = all_at (λ b. nat_lt 44 b) f 0 45 all refl;
  last = all_at (λ b. nat_lt 44 b) f (length f - 1) 45 all refl;
}

all_false : (p q : ℕ → Bool) → ((b : ℕ) → p b ≡ true → q b ≡ false) → (xs : List ℕ)
    → list_all p xs ≡ true → All (λ b. q b ≡ false) xs
all_false p q none [] all = All-nil (λ b. q b ≡ false)
all_false p q none (x ∷ xs) all =
    let parts = and_parts (p x) (list_all p xs) all in
    All-cons (λ b. q b ≡ false) x xs (none x parts.0) (all_false p q none xs parts.1)

-- a byte up to the comma, but no blank, is none of a field
field_not : (m : ℕ) → m ≤ 44 → m ≢ 32 → (b : ℕ) → is_field_byte b ≡ true → (b == m) ≡ false
field_not m below other b is = elim (or_cases (nat_lt 44 b) (b == 32) is) [
  | inl above ↦ (let more : 44 < b = ltb-true 44 b above in ne_eqb b m (λ e. omega arith))
  | inr blank ↦ (let same : b ≡ 32 = eqb-true b 32 blank in ne_eqb b m (λ e. other (sym e ∙ same)))
]

not_blank : (b : ℕ) → nat_lt 44 b ≡ true → is_ascii_whitespace b ≡ false
not_blank b above =
    let more : 44 < b = ltb-true 44 b above in
    or_from _ _ (or_from _ _ (and_right _ _ (lt-leb b 10 (omega arith))) (and_right _ _ (lt-leb b 13 (omega arith))))
    (and_right _ _ (lt-leb b 32 (omega arith)))

-- ---- trimming

trimmed_to : (g f : List ℕ) (n : ℕ) → prefix_len is_ascii_whitespace g ≡ 0
    → suffix_len is_ascii_whitespace g ≡ length g - n → n ≤ length g → take n g ≡ f → trimmed g ≡ f
trimmed_to g f n none some within front =
    let left : length g - (length g - n) ≡ n = omega arith in
    ap (λ (k : ℕ). trimmed_end (drop k g)) none
    ∙ ap (λ (k : ℕ). take (length g - k) g) some
    ∙ ap (λ (k : ℕ). take k g) left
    ∙ front

no_blank_first : (f : List ℕ) (b : ℕ) (more : List ℕ) → f ≡ b ∷ more → nat_lt 44 b ≡ true
    → prefix_len is_ascii_whitespace f ≡ 0
no_blank_first f b more is above =
    ap (prefix_len is_ascii_whitespace) is
    ∙ ap (λ (t : Bool). cond t (1 + prefix_len is_ascii_whitespace more) 0) (not_blank b above)

trimmed_field : (f : List ℕ) → IsField f → trimmed f ≡ f
trimmed_field [] is = refl
trimmed_field (b ∷ bs) is =
    let f : List ℕ = b ∷ bs in
    trimmed_to f f (length f) (no_blank_first f b bs refl is.first)
    (suffix_len_is is_ascii_whitespace f (length f) 45 (omega arith) (λ k after before. absurd (omega arith))
    (λ some. not_blank (get_or f (length f - 1) 45) is.last))
    (omega arith) (take_all (length f) f (omega arith))

-- before a carriage return
trimmed_last : (f : List ℕ) → IsField f → trimmed (f ++ 13 ∷ []) ≡ f
trimmed_last [] is = refl
trimmed_last (b ∷ bs) is =
    let f : List ℕ = b ∷ bs in
    let g : List ℕ = f ++ 13 ∷ [] in
    let n : ℕ = length f in
    let long : length g ≡ n + 1 = length-append f (13 ∷ []) in
    trimmed_to g f n (no_blank_first g b (bs ++ 13 ∷ []) refl is.first)
    (suffix_len_is is_ascii_whitespace g n 45 (omega arith)
    (λ k after before.
    let here : k ≡ n = omega arith in
    ap (λ (i : ℕ). is_ascii_whitespace (get_or g i 45)) here
    ∙ ap is_ascii_whitespace (get_or_at f 13 [] 45 n refl))
    (λ some. ap is_ascii_whitespace (get_or_append_left f (13 ∷ []) 45 (n - 1) (omega arith))
    ∙ not_blank (get_or f (n - 1) 45) is.last))
    (omega arith) (take_at f (13 ∷ []) n refl)

-- ---- rows

-- fields behind commas, and a carriage return
abbrev pub behind : List (List ℕ) → List ℕ
behind [] = 13 ∷ []
behind (f ∷ fs) = 44 ∷ (f ++ behind fs)

-- a line, but for its line feed
abbrev pub row : List (List ℕ) → List ℕ
row [] = []
row (f ∷ fs) = f ++ behind fs

abbrev pub IsRow : List (List ℕ) → Type 0
IsRow [] = ⊥
IsRow (f ∷ fs) = IsField f × AllByRecursion IsField fs

-- what is said of each byte of the fields, and of a comma and a carriage return, is true of the line
behind_all : (q : ℕ → Bool) → ((b : ℕ) → is_field_byte b ≡ true → q b ≡ false) → q 44 ≡ false
    → q 13 ≡ false → (fs : List (List ℕ)) → AllByRecursion IsField fs
    → All (λ b. q b ≡ false) (behind fs)
behind_all q none comma return [] all =
    All-cons (λ b. q b ≡ false) 13 [] return (All-nil (λ b. q b ≡ false))
behind_all q none comma return (f ∷ fs) all =
    All-cons (λ b. q b ≡ false) 44 (f ++ behind fs) comma
    (All-append (λ b. q b ≡ false) f (behind fs) (all_false is_field_byte q none f all.0.bytes)
    (behind_all q none comma return fs all.1))

row_all : (q : ℕ → Bool) → ((b : ℕ) → is_field_byte b ≡ true → q b ≡ false) → q 44 ≡ false
    → q 13 ≡ false → (r : List (List ℕ)) → IsRow r → All (λ b. q b ≡ false) (row r)
row_all q none comma return [] is = absurd is
row_all q none comma return (f ∷ fs) is =
    All-append (λ b. q b ≡ false) f (behind fs) (all_false is_field_byte q none f is.0.bytes)
    (behind_all q none comma return fs is.1)

-- the fields of a line are those that were written
fields_of_row : (f : List ℕ) (fs : List (List ℕ)) → IsField f → AllByRecursion IsField fs
    → fields_of (f ++ behind fs) ≡ f ∷ fs
fields_of_row f [] is all =
    let none = All-append (λ b. (b == 44) ≡ false) f (13 ∷ [])
    (all_false is_field_byte (λ b. b == 44) (field_not 44 (omega arith) (λ e. absurd (omega arith))) f is.bytes)
    (All-cons (λ b. (b == 44) ≡ false) 13 [] refl (All-nil (λ b. (b == 44) ≡ false))) in
    ap (map trimmed) (slice_split_none (λ b. b == 44) (f ++ 13 ∷ []) none)
    ∙ ap (λ (t : List ℕ). t ∷ []) (trimmed_last f is)
fields_of_row f (g ∷ gs) is all =
    let none = all_false is_field_byte (λ b. b == 44)
    (field_not 44 (omega arith) (λ e. absurd (omega arith))) f is.bytes in
    ap (map trimmed) (slice_split_at (λ b. b == 44) f 44 (g ++ behind gs) none refl)
    ∙ ap (λ (t : List ℕ). t ∷ fields_of (g ++ behind gs)) (trimmed_field f is)
    ∙ ap (λ (t : List (List ℕ)). f ∷ t) (fields_of_row g gs all.0 all.1)

pub row_back : (r : List (List ℕ)) → IsRow r → fields_of (row r) ≡ r
row_back [] is = absurd is
row_back (f ∷ fs) is = fields_of_row f fs is.0 is.1

-- ---- lines

-- the text of rows
abbrev pub rows_text : List (List (List ℕ)) → List ℕ
rows_text [] = []
rows_text (r ∷ rs) = row r ++ 10 ∷ rows_text rs

abbrev pub AreRows : List (List (List ℕ)) → Type 0
AreRows rs = AllByRecursion IsRow rs

pub lines_back : (rs : List (List (List ℕ))) → AreRows rs
    → lines_of (rows_text rs) ≡ map row rs ++ [] ∷ []
lines_back [] all = refl
lines_back (r ∷ rs) all =
    slice_split_at (λ b. b == 10) (row r) 10 (rows_text rs)
    (row_all (λ b. b == 10) (field_not 10 (omega arith) (λ e. absurd (omega arith))) refl refl r all.0) refl
    ∙ ap (λ (ls : List (List ℕ)). row r ∷ ls) (lines_back rs all.1)

-- no end-of-file byte stands in them
rows_all : (rs : List (List (List ℕ))) → AreRows rs → All (λ b. (b == 26) ≡ false) (rows_text rs)
rows_all [] all = All-nil (λ b. (b == 26) ≡ false)
rows_all (r ∷ rs) all =
    All-append (λ b. (b == 26) ≡ false) (row r) (10 ∷ rows_text rs)
    (row_all (λ b. b == 26) (field_not 26 (omega arith) (λ e. absurd (omega arith))) refl refl r all.0)
    (All-cons (λ b. (b == 26) ≡ false) 10 (rows_text rs) refl (rows_all rs all.1))

pub no_end : (rs : List (List (List ℕ))) → AreRows rs
    → before_first (λ b. b == 26) (rows_text rs) ≡ rows_text rs
no_end rs all =
    let text : List ℕ = rows_text rs in
    let none = rows_all rs all in
    ap (λ (k : ℕ). take k text)
    (position_or_len_is (λ b. b == 26) text (length text) 0 (omega arith)
    (λ k below. All-get_or (λ b. (b == 26) ≡ false) text k 0 below none)
    (λ within. absurd (omega arith)))
    ∙ take_all (length text) text (omega arith)

-- ---- no byte order mark

no_mark : (b : ℕ) (bs : List ℕ) → (b == 239) ≡ false → unmarked (b ∷ bs) ≡ b ∷ bs
no_mark b [] e = refl
no_mark b (c ∷ []) e = refl
no_mark b (c ∷ d ∷ ds) e = rw e refl

not_mark : (d : ℕ) → is_digit d ≡ true → (d == 239) ≡ false
not_mark d digit =
    let parts = and_parts (nat_le 48 d) (nat_le d 57) digit in
    let high : d ≤ 57 = leb-true d 57 parts.1 in
    ne_eqb d 239 (λ e. omega arith)

no_mark_row : (f : List ℕ) (fs : List (List ℕ)) (rest : List ℕ) → 0 < length f
    → list_all is_digit f ≡ true → unmarked (row (f ∷ fs) ++ rest) ≡ row (f ∷ fs) ++ rest
no_mark_row [] fs rest some digits = absurd (omega arith)
no_mark_row (d ∷ ds) fs rest some digits =
    no_mark d ((ds ++ behind fs) ++ rest)
    (not_mark d (and_parts (is_digit d) (list_all is_digit ds) digits).0)

-- of rows of which the first begins with a number
pub no_mark_first : (rs : List (List (List ℕ))) (f : List ℕ) (fs : List (List ℕ)) → 0 < length rs
    → get_or rs 0 [] ≡ f ∷ fs → 0 < length f → list_all is_digit f ≡ true
    → unmarked (rows_text rs) ≡ rows_text rs
no_mark_first [] f fs some is long digits = absurd (omega arith)
no_mark_first (r ∷ rs) f fs some is long digits =
    ap (λ (x : List (List ℕ)). unmarked (row x ++ 10 ∷ rows_text rs)) is
    ∙ no_mark_row f fs (10 ∷ rows_text rs) long digits
    ∙ ap (λ (x : List (List ℕ)). row x ++ 10 ∷ rows_text rs) (sym is)

-- ---- the line at a place

line_there : (rs : List (List (List ℕ))) (more : List (List ℕ)) (k : ℕ) → k < length rs
    → slice_get (map row rs ++ more) k ≡ Some (row (get_or rs k []))
line_there [] more k below = absurd (omega arith)
line_there (r ∷ rs) more zero below = refl
line_there (r ∷ rs) more (suc k) below = line_there rs more k (omega arith)

pub line_back : (rs : List (List (List ℕ))) (k : ℕ) → AreRows rs → k < length rs
    → slice_get (lines_of (rows_text rs)) k ≡ Some (row (get_or rs k []))
line_back rs k all below =
    ap (λ (ls : List (List ℕ)). slice_get ls k) (lines_back rs all)
    ∙ line_there rs ([] ∷ []) k below

pub is_row : (rs : List (List (List ℕ))) (k : ℕ) → AreRows rs → k < length rs
    → IsRow (get_or rs k [])
is_row [] k all below = absurd (omega arith)
is_row (r ∷ rs) zero all below = all.0
is_row (r ∷ rs) (suc k) all below = is_row rs k all.1 (omega arith)

-- ---- rows one after another

pub rows_append : (rs ss : List (List (List ℕ))) → rows_text (rs ++ ss) ≡ rows_text rs ++ rows_text ss
rows_append [] ss = refl
rows_append (r ∷ rs) ss =
    ap (λ (t : List ℕ). row r ++ 10 ∷ t) (rows_append rs ss)
    ∙ sym (append_assoc (row r) (10 ∷ rows_text rs) (rows_text ss))

pub are_rows_append : (rs ss : List (List (List ℕ))) → AreRows rs → AreRows ss → AreRows (rs ++ ss)
are_rows_append [] ss first second = second
are_rows_append (r ∷ rs) ss first second = (first.0, are_rows_append rs ss first.1 second)
