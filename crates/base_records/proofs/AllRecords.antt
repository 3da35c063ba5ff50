-- The records of a text: each read leaves fewer bytes, and a state between two records.
use Rattle.std.proofs.Common.{◌≡◌, ℕ, zero, suc, ◌+◌, ◌<◌, ◌≤◌, ◌==◌, ◌&&◌, Bool, true, false, cond}
use Rattle.std.proofs.Common.{List, [], ◌∷◌, ◌++◌, length, Option, None, Some, refl, ap, subst}
use Rattle.std.proofs.Common.{arith}
use Rattle.std.proofs.lemmas.Option.{same_Some}
use Rattle.csv.specs.Machine.{Read, next_record, step, in_field, start_field, start_record}
use Rattle.csv.specs.Machine.{after_end, ends_at_end, ends_with, is_byte, is_end, fields_after}
use Rattle.csv.specs.Machine.{field_after}
use Rattle.csv.specs.Reading.{records_from, records, records_next, default_config, strip_bom}
use Rattle.csv.specs.Reading.{is_bom}
use Rattle.csv.specs.{declared.parser.Config.Config, declared.parser.Terminator.Terminator}
use Rattle.base_records.specs.Records.{records_of}
use Rattle.csv.specs.declared.parser.Terminator.TheVariants as term
use Rattle.csv.specs.declared.parser.State.{State}
use Rattle.csv.specs.declared.parser.State.TheVariants as st
use Rattle.csv.specs.declared.parser.Action.{Action}
use Rattle.csv.specs.declared.parser.Action.TheVariants as act

-- what ends a record leaves a state between two records
abbrev EndsWell : State × Action → Type 0
EndsWell x = is_end x.1 ≡ true → ends_at_end x.0 ≡ false

either : (b : Bool) (x y : State × Action) → EndsWell x → EndsWell y → EndsWell (cond b x y)
either true x y p q = p
either false x y p q = q

goes_on : (s : State) (a : Action) → is_end a ≡ false → EndsWell (s, a)
goes_on s a e = λ h. cc

after_ends : (t : Terminator) (c : ℕ) → ends_at_end (after_end t c) ≡ false
after_ends term.CRLF c = elim (c == 13) as (λ b. ends_at_end (cond b st.AfterCr st.StartRecord)
    ≡ false) [ true ↦ refl | false ↦ refl ]
after_ends (term.Any t) c = refl

-- a byte that ends no record, or what follows
plain_or : (b : Bool) (s : State) (a : Action) (x : State × Action) → is_end a ≡ false → EndsWell x
    → EndsWell (cond b (s, a) x)
plain_or b s a x e q = either b (s, a) x (goes_on s a e) q

abbrev end_or_copy : Config → ℕ → State × Action
end_or_copy cfg c = cond (ends_with cfg.terminator c) (after_end cfg.terminator c, act.EndRecord)
    (st.InField, act.Copy)

in_field_ends : (cfg : Config) (c : ℕ) → EndsWell (in_field cfg c)
in_field_ends cfg c = plain_or (c == cfg.delimiter) st.StartField act.EndField
    (end_or_copy cfg c) refl
    (either (ends_with cfg.terminator c) (after_end cfg.terminator c, act.EndRecord)
    (st.InField, act.Copy) (λ _. after_ends cfg.terminator c)
    (goes_on st.InField act.Copy refl))

start_field_ends : (cfg : Config) (c : ℕ) → EndsWell (start_field cfg c)
start_field_ends cfg c = plain_or (cfg.quoting && (c == cfg.quote)) st.InQuoted act.Skip
    (in_field cfg c) refl (in_field_ends cfg c)

start_record_ends : (cfg : Config) (c : ℕ) → EndsWell (start_record cfg c)
start_record_ends cfg c = plain_or (ends_with cfg.terminator c) st.StartRecord act.Skip
    (cond (is_byte cfg.comment c) (st.InComment, act.Skip) (start_field cfg c)) refl
    (plain_or (is_byte cfg.comment c) st.InComment act.Skip (start_field cfg c) refl
    (start_field_ends cfg c))

step_ends : (cfg : Config) (s : State) (c : ℕ) → EndsWell (step cfg s c)
step_ends cfg st.StartRecord c = start_record_ends cfg c
step_ends cfg st.StartField c = start_field_ends cfg c
step_ends cfg st.InField c = in_field_ends cfg c
step_ends cfg st.InQuoted c = plain_or (cfg.quoting && (c == cfg.quote)) st.AfterQuote act.Skip
    (cond (cfg.quoting && is_byte cfg.escape c) (st.InEscape, act.Skip) (st.InQuoted, act.Copy))
    refl
    (plain_or (cfg.quoting && is_byte cfg.escape c) st.InEscape act.Skip
    (st.InQuoted, act.Copy) refl (goes_on st.InQuoted act.Copy refl))
step_ends cfg st.InEscape c = goes_on st.InQuoted act.Copy refl
step_ends cfg st.AfterQuote c = plain_or (cfg.quoting && cfg.double_quote && (c == cfg.quote))
    st.InQuoted act.Copy (in_field cfg c) refl (in_field_ends cfg c)
step_ends cfg st.InComment c = plain_or (c == 10) st.StartRecord act.Skip
    (st.InComment, act.Skip) refl (goes_on st.InComment act.Skip refl)
step_ends cfg st.AfterCr c = plain_or (c == 10) st.StartRecord act.Skip (start_record cfg c) refl
    (start_record_ends cfg c)

-- a record that was read leaves a state between two records, and fewer bytes where it began in one
pub record After (s : State) (xs : List ℕ) (p : Read) : Type 0 where
  pub between : ends_at_end p.1 ≡ false
  pub no_more : length p.2 ≤ length xs
  pub fewer : ends_at_end s ≡ false → length p.2 < length xs

left_at_end : (s : State) (b : Bool) (fields : List (List ℕ)) (p : Read) → ends_at_end s ≡ b
    → cond b (Some (fields, st.StartRecord, [])) None ≡ Some p → After s [] p
left_at_end s true fields p is e =
    let q : (fields, st.StartRecord, []) ≡ p = same_Some _ _ e in
    subst (λ (p : Read). After s [] p) q (record
    { between = refl; no_more = omega arith; fewer = λ none. cc })
left_at_end s false fields p is e = cc

left_later : (s : State) (b : Bool) (c : ℕ) (rest : List ℕ) (here : Read) (more : Option Read)
    (p : Read)
    → (b ≡ true → After s (c ∷ rest) here) → ((q : Read) → more ≡ Some q → length q.2 ≤ length rest
    × (ends_at_end q.1 ≡ false))
    → cond b (Some here) more ≡ Some p → After s (c ∷ rest) p
left_later s true c rest here more p now later e = subst (λ (p : Read). After s (c ∷ rest) p)
    (same_Some here p e) (now refl)
left_later s false c rest here more p now later e =
    let l = later p e in
    record { between = l.1; no_more = omega arith; fewer = λ none. omega arith }

-- what a read of a record leaves
pub after_read : (cfg : Config) (s : State) (fields : List (List ℕ)) (field xs : List ℕ) (p : Read)
    → next_record cfg s fields field xs ≡ Some p → After s xs p
unfolding next_record
after_read cfg s fields field [] p e = left_at_end s (ends_at_end s) (fields ++ (field ∷ [])) p refl e
after_read cfg s fields field (c ∷ rest) p e =
    left_later s (is_end (step cfg s c).1) c rest
    (fields_after (step cfg s c).1 fields field, (step cfg s c).0, rest)
    (next_record cfg (step cfg s c).0 (fields_after (step cfg s c).1 fields field)
    (field_after (step cfg s c).1 c field) rest) p
    (λ ends. record {
      between = step_ends cfg s c ends;
      no_more = omega arith;
      fewer = λ none.
          omega arith;
    })
    (λ q h. let l = after_read cfg (step cfg s c).0 (fields_after (step cfg s c).1 fields field)
    (field_after (step cfg s c).1 c field) rest q h in (l.no_more, l.between)) e

same_next : (f g : State → List ℕ → List (List (List ℕ))) (o : Option Read)
    → ((p : Read) → o ≡ Some p → f p.1 p.2 ≡ g p.1 p.2) → records_next f o ≡ records_next g o
same_next f g None same = refl
same_next f g (Some p) same = ap (λ z. p.0 ∷ z) (same p refl)

-- more turns than bytes find the same records
pub same_records : (cfg : Config) (n m : ℕ) (s : State) (xs : List ℕ) → ends_at_end s ≡ false
    → length xs < n → length xs < m → records_from cfg n s xs ≡ records_from cfg m s xs
unfolding records_from
same_records cfg zero m s xs between a b = absurd (omega arith)
same_records cfg (suc n) zero s xs between a b = absurd (omega arith)
same_records cfg (suc n) (suc m) s xs between a b =
    same_next (records_from cfg n) (records_from cfg m) (next_record cfg s [] [] xs)
    (λ p is. let left = after_read cfg s [] [] xs p is in let fewer = left.fewer between in
    same_records cfg n m p.1 p.2 left.between (omega arith) (omega arith))

-- the first record, and then those that are left
pub first_record : (cfg : Config) (n : ℕ) (s : State) (xs : List ℕ) (p : Read)
    → ends_at_end s ≡ false → length xs < n → next_record cfg s [] [] xs ≡ Some p
    → records_from cfg n s xs ≡ p.0 ∷ records_from cfg (length p.2 + 1) p.1 p.2
unfolding records_from
first_record cfg zero s xs p between room is = absurd (omega arith)
first_record cfg (suc n) s xs p between room is =
    let left = after_read cfg s [] [] xs p is in
    let fewer = left.fewer between in
    rw is (ap (λ z. p.0 ∷ z) (same_records cfg n (length p.2 + 1) p.1 p.2 left.between (omega arith)
    (omega arith)))

-- no record is left
pub no_record : (cfg : Config) (n : ℕ) (s : State) (xs : List ℕ)
    → next_record cfg s [] [] xs ≡ None → records_from cfg n s xs ≡ []
unfolding records_from
no_record cfg zero s xs none = refl
no_record cfg (suc n) s xs none = rw none refl

length_next : (more : State → List ℕ → List (List (List ℕ))) (o : Option Read) (n : ℕ)
    → ((s : State) (xs : List ℕ) → length (more s xs) ≤ n) → length (records_next more o) ≤ suc n
length_next more None n h = omega arith
length_next more (Some p) n h = let l = h p.1 p.2 in omega arith

-- no more records than turns
length-records_from : (cfg : Config) (n : ℕ) (s : State) (xs : List ℕ)
    → length (records_from cfg n s xs) ≤ n
unfolding records_from
length-records_from cfg zero s xs = omega arith
length-records_from cfg (suc n) s xs = length_next (records_from cfg n)
    (next_record cfg s [] [] xs) n (length-records_from cfg n)

-- a text has at most one record more than bytes
length-records : (cfg : Config) (xs : List ℕ) → length (records cfg xs) ≤ length xs + 1
length-records cfg xs = length-records_from cfg (length xs + 1) st.StartRecord xs

choice_le : (b : Bool) (xs ys : List ℕ) → length xs ≤ length ys → length (cond b xs ys) ≤ length ys
choice_le true xs ys le = le
choice_le false xs ys le = omega arith

-- taking a byte order mark off leaves no more bytes
length-strip_bom : (xs : List ℕ) → length (strip_bom xs) ≤ length xs
unfolding strip_bom
length-strip_bom [] = omega arith
length-strip_bom (a ∷ []) = omega arith
length-strip_bom (a ∷ b ∷ []) = omega arith
length-strip_bom (a ∷ b ∷ c ∷ rest) =
    choice_le (is_bom a b c) rest (a ∷ b ∷ c ∷ rest) (omega arith)

-- so do these bytes
pub few_records : (bytes : List ℕ) → length (records_of bytes) ≤ length bytes + 1
unfolding records_of
few_records bytes =
    let records = length-records default_config (strip_bom bytes) in
    let stripped = length-strip_bom bytes in
    omega arith
